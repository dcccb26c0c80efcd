use Rattle.std.proofs.Common.{not, sym, subst, arith}
use Rattle.node_table.specs.Entries.{without}
use Rattle.node_table.specs.Table.{TableView, Fits}
use Rattle.blob_disk.specs.Stock.{Stores}
use Rattle.blob_disk.proofs.Committing.{commit_moments, commit_stores, left_bytes, length-without, fits_of, both_ok}
use Rattle.blob_disk.proofs.landing.remove_entries.Goals as goal

pub commit-requires-clause-node : goal.commit-requires-clause-node
commit-requires-clause-node g c = omega (arith, length-without c.args.roots.now c.args.table.now.entries, c.entries-stock.ensures.sound.room)

pub returns-clause-each_moment : goal.returns-clause-each_moment
returns-clause-each_moment g c = λ contents stores.
    let past = g.D.Disk.past in
    let t : TableView = c.args.table.now in
    commit_moments t (without c.args.roots.now t.entries) (not t.second) contents (past c.args.disk.now) (past c.commit.new.disk) c.commit.ensures.only stores (left_bytes t contents c.args.roots.now (past c.args.disk.now) stores) (c.commit.ensures.each_moment (fits_of (past c.args.disk.now) t contents stores))

pub returns-clause-stores : goal.returns-clause-stores
returns-clause-stores g c =
    let past = g.D.Disk.past in
    let t : TableView = c.args.table.now in
    both_ok c.commit.result c.commit.ensures.done c.commit.ensures.fits (λ done fits. λ contents stores.
    subst (λ (v : TableView). Stores (past c.commit.new.disk) v contents) (sym done)
    (commit_stores t (without c.args.roots.now t.entries) (not t.second) contents (past c.args.disk.now) (past c.commit.new.disk) c.commit.ensures.only (left_bytes t contents c.args.roots.now (past c.args.disk.now) stores) (subst (Fits (past c.commit.new.disk)) done fits)))
