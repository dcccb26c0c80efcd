use Rattle.std.proofs.Common.{◌≡◌, ◌⊎◌, ℕ, ◌/◌, true, inl, inr, sym, subst, ap, ◌∙◌, arith}
use Rattle.disk_model.specs.Images.{WritesOnly}
use Rattle.disk_model.proofs.Regions.{writes_then, writes_wider}
use Rattle.image_layout.specs.Geometry.{data_start}
use Rattle.node_table.specs.Entries.{MayCome}
use Rattle.node_table.specs.Table.{TableView, Fits, IsCommitPage}
use Rattle.blob_pages.specs.Pages.{page_count}
use Rattle.blob_pages.specs.Written.{IsOn, AreSettled}
use Rattle.blob_disk.specs.Stock.{Stores}
use Rattle.blob_disk.proofs.Placing.{only_as}
use Rattle.blob_disk.proofs.Committing.{come_behind, length-with_added, settled_as, fits_of, both_ok, any_ok, mapped_err, own_flag, commit_before_data, at_mid, stores_mid, at_new, stores_new}
use Rattle.blob_disk.proofs.FewWrites.{few_writes}
use Rattle.blob_disk.proofs.landing.land_entry.Goals as goal

pub returns-in_err-settle_blob-clause-each_moment : goal.returns-in_err-settle_blob-clause-each_moment
returns-in_err-settle_blob-clause-each_moment g c = λ blob contents size page root is before stores.
    let past = g.D.Disk.past in
    let t : TableView = c.args.table.now in
    let start_is : c.data_start-start.result ≡ data_start t.geometry = c.data_start-start.ensures ∙ ap data_start c.geometry.ensures.geometry in
    let pages : WritesOnly (past c.args.disk.now) (past c.settle_blob.new.disk) (IsOn (data_start t.geometry) c.args.entry.pages) =
    only_as (past c.args.disk.now) (past c.settle_blob.new.disk) c.data_start-start.result (data_start t.geometry) c.as_slice.result.now c.args.entry.pages start_is c.as_slice.ensures.list c.settle_blob.ensures.only in
    let behind = come_behind t.geometry t.entries c.args.entry c.requires.added in
    at_mid t c.args.entry c.geometry.ensures.limits behind blob contents size root is (past c.args.disk.now) (past c.settle_blob.new.disk) (past c.settle_blob.new.disk) stores pages

pub returns-in_err-settle_blob-clause-only : goal.returns-in_err-settle_blob-clause-only
returns-in_err-settle_blob-clause-only g c =
    let past = g.D.Disk.past in
    let t : TableView = c.args.table.now in
    let start_is : c.data_start-start.result ≡ data_start t.geometry = c.data_start-start.ensures ∙ ap data_start c.geometry.ensures.geometry in
    let pages : WritesOnly (past c.args.disk.now) (past c.settle_blob.new.disk) (IsOn (data_start t.geometry) c.args.entry.pages) =
    only_as (past c.args.disk.now) (past c.settle_blob.new.disk) c.data_start-start.result (data_start t.geometry) c.as_slice.result.now c.args.entry.pages start_is c.as_slice.ensures.list c.settle_blob.ensures.only in
    writes_wider (IsOn (data_start t.geometry) c.args.entry.pages) (λ n. IsOn (data_start t.geometry) c.args.entry.pages n ⊎ IsCommitPage t n) (past c.args.disk.now) (past c.settle_blob.new.disk) (λ n on. inl on) pages

pub commit-requires-clause-added : goal.commit-requires-clause-added
commit-requires-clause-added g c = λ entry e.
    let same : c.args.entry ≡ entry = cc e in
    subst (MayCome c.args.table.now.geometry c.args.table.now.entries) same c.requires.added

pub commit-requires-clause-node : goal.commit-requires-clause-node
commit-requires-clause-node g c = omega (arith, length-with_added c.args.entry c.args.table.now.entries, c.requires.node)

pub returns-clause-each_moment : goal.returns-clause-each_moment
returns-clause-each_moment g c = λ blob contents size page root is before stores.
    let past = g.D.Disk.past in
    let t : TableView = c.args.table.now in
    let start_is : c.data_start-start.result ≡ data_start t.geometry = c.data_start-start.ensures ∙ ap data_start c.geometry.ensures.geometry in
    let pages : WritesOnly (past c.args.disk.now) (past c.settle_blob.new.disk) (IsOn (data_start t.geometry) c.args.entry.pages) =
    only_as (past c.args.disk.now) (past c.settle_blob.new.disk) c.data_start-start.result (data_start t.geometry) c.as_slice.result.now c.args.entry.pages start_is c.as_slice.ensures.list c.settle_blob.ensures.only in
    let behind = come_behind t.geometry t.entries c.args.entry c.requires.added in
    let settled : AreSettled (past c.settle_blob.new.disk) (data_start t.geometry) c.args.entry.pages blob (page_count c.args.entry.len) =
    settled_as (past c.args.disk.now) (past c.settle_blob.new.disk) c.data_start-start.result (data_start t.geometry) c.as_slice.result.now c.args.entry.pages blob (c.args.entry.len / 4096) (page_count c.args.entry.len) start_is c.as_slice.ensures.list (c.in_ok-settle_blob.ensures.settled blob size page) before in
    let mid = past c.settle_blob.new.disk in
    let there = stores_mid t c.args.entry c.geometry.ensures.limits behind blob contents size root is (past c.args.disk.now) mid (past c.commit.new.disk) stores pages in
    at_new t c.args.entry c.geometry.ensures.limits behind blob contents size root is (past c.args.disk.now) mid (past c.commit.new.disk) stores pages settled c.commit.ensures.only (c.commit.ensures.each_moment (fits_of mid t contents there))

pub returns-clause-stores : goal.returns-clause-stores
returns-clause-stores g c =
    both_ok c.commit.result c.commit.ensures.done c.commit.ensures.fits (λ done fits. λ blob contents size page root is before stores.
    let past = g.D.Disk.past in
    let t : TableView = c.args.table.now in
    let start_is : c.data_start-start.result ≡ data_start t.geometry = c.data_start-start.ensures ∙ ap data_start c.geometry.ensures.geometry in
    let pages : WritesOnly (past c.args.disk.now) (past c.settle_blob.new.disk) (IsOn (data_start t.geometry) c.args.entry.pages) =
    only_as (past c.args.disk.now) (past c.settle_blob.new.disk) c.data_start-start.result (data_start t.geometry) c.as_slice.result.now c.args.entry.pages start_is c.as_slice.ensures.list c.settle_blob.ensures.only in
    let behind = come_behind t.geometry t.entries c.args.entry c.requires.added in
    let settled : AreSettled (past c.settle_blob.new.disk) (data_start t.geometry) c.args.entry.pages blob (page_count c.args.entry.len) =
    settled_as (past c.args.disk.now) (past c.settle_blob.new.disk) c.data_start-start.result (data_start t.geometry) c.as_slice.result.now c.args.entry.pages blob (c.args.entry.len / 4096) (page_count c.args.entry.len) start_is c.as_slice.ensures.list (c.in_ok-settle_blob.ensures.settled blob size page) before in
    let mid = past c.settle_blob.new.disk in
    subst (λ (v : TableView). Stores (past c.commit.new.disk) v contents) (sym done)
    (stores_new t c.args.entry c.geometry.ensures.limits behind blob contents size root is (past c.args.disk.now) mid (past c.commit.new.disk) stores pages settled c.commit.ensures.only (subst (Fits (past c.commit.new.disk)) done fits)))

pub returns-clause-only : goal.returns-clause-only
returns-clause-only g c =
    let past = g.D.Disk.past in
    let t : TableView = c.args.table.now in
    let start_is : c.data_start-start.result ≡ data_start t.geometry = c.data_start-start.ensures ∙ ap data_start c.geometry.ensures.geometry in
    let pages : WritesOnly (past c.args.disk.now) (past c.settle_blob.new.disk) (IsOn (data_start t.geometry) c.args.entry.pages) =
    only_as (past c.args.disk.now) (past c.settle_blob.new.disk) c.data_start-start.result (data_start t.geometry) c.as_slice.result.now c.args.entry.pages start_is c.as_slice.ensures.list c.settle_blob.ensures.only in
    let wide : ℕ → Type 0 = λ n. IsOn (data_start t.geometry) c.args.entry.pages n ⊎ IsCommitPage t n in
    writes_then wide (past c.args.disk.now) (past c.settle_blob.new.disk) (past c.commit.new.disk)
    (writes_wider (IsOn (data_start t.geometry) c.args.entry.pages) wide (past c.args.disk.now) (past c.settle_blob.new.disk) (λ n on. inl on) pages)
    (writes_wider (IsCommitPage t) wide (past c.settle_blob.new.disk) (past c.commit.new.disk) (λ n commit. inr commit) c.commit.ensures.only)

pub returns-clause-failed : goal.returns-clause-failed
returns-clause-failed g c =
    mapped_err c.commit.result (λ is. own_flag c.args.table.now c.commit.new.table true is) c.commit.ensures.failed

pub returns-clause-few : goal.returns-clause-few
returns-clause-few g c =
    let past = g.D.Disk.past in
    let t : TableView = c.args.table.now in
    any_ok c.commit.result (few_writes (data_start t.geometry) c.data_start-start.result c.as_slice.result.now c.args.entry.len c.args.page.now (IsCommitPage t) (past c.args.disk.now) (past c.settle_blob.new.disk) (past c.commit.new.disk) (commit_before_data t) c.in_ok-settle_blob.ensures.acts c.commit.ensures.only)
