use Rattle.std.proofs.Common.{ℕ, ◌*◌, false, [], ◌∷◌, refl, ap, subst, inl, inr, arith}
use Rattle.disk_model.specs.declared.act.DiskAct.TheVariants.{Wrote, Synced}
use Rattle.disk_model.proofs.Regions.{writes_write, writes_sync}
use Rattle.image_layout.specs.declared.geometry.TheConstants.{SELECTOR_PAGE}
use Rattle.image_layout.specs.Geometry.{table_pages, table_start}
use Rattle.node_table.specs.Table.{IsTablePage, WritesRow}
use Rattle.node_table.proofs.EmptyTable.{zeros_only, empty_settled}
use Rattle.node_table.proofs.Acts.{row_then}
use Rattle.node_table.proofs.copy.write_empty.Goals as goal

pub returns-in_err-write_zeros-clause-only : goal.returns-in_err-write_zeros-clause-only
returns-in_err-write_zeros-clause-only g c =
    let past = g.D.Disk.past in
    zeros_only c.args.geometry.now c.table_start.result (2 * c.table_pages.result) (past c.args.disk.now) (past c.write_zeros.new.disk) c.table_start.ensures (ap (λ (n : ℕ). 2 * n) c.table_pages.ensures) c.write_zeros.ensures.only

pub returns-in_err-write-clause-only : goal.returns-in_err-write-clause-only
returns-in_err-write-clause-only g c =
    let past = g.D.Disk.past in
    writes_write (IsTablePage c.args.geometry.now) SELECTOR_PAGE c.selector_page.result (past c.args.disk.now) (past c.write_zeros.new.disk) (past c.write.new.self) (inl refl) (inr c.in_err-write.ensures.failed)
    (zeros_only c.args.geometry.now c.table_start.result (2 * c.table_pages.result) (past c.args.disk.now) (past c.write_zeros.new.disk) c.table_start.ensures (ap (λ (n : ℕ). 2 * n) c.table_pages.ensures) c.write_zeros.ensures.only)

pub returns-in_err-sync-clause-only : goal.returns-in_err-sync-clause-only
returns-in_err-sync-clause-only g c =
    let past = g.D.Disk.past in
    writes_sync (IsTablePage c.args.geometry.now) (past c.args.disk.now) (past c.write.new.self) (past c.sync.new.self) (inr c.in_err-sync.ensures.failed)
    (writes_write (IsTablePage c.args.geometry.now) SELECTOR_PAGE c.selector_page.result (past c.args.disk.now) (past c.write_zeros.new.disk) (past c.write.new.self) (inl refl) (inl c.in_ok-write.ensures.wrote)
    (zeros_only c.args.geometry.now c.table_start.result (2 * c.table_pages.result) (past c.args.disk.now) (past c.write_zeros.new.disk) c.table_start.ensures (ap (λ (n : ℕ). 2 * n) c.table_pages.ensures) c.write_zeros.ensures.only))

pub returns-clause-only : goal.returns-clause-only
returns-clause-only g c =
    let past = g.D.Disk.past in
    writes_sync (IsTablePage c.args.geometry.now) (past c.args.disk.now) (past c.write.new.self) (past c.sync.new.self) (inl c.in_ok-sync.ensures.synced)
    (writes_write (IsTablePage c.args.geometry.now) SELECTOR_PAGE c.selector_page.result (past c.args.disk.now) (past c.write_zeros.new.disk) (past c.write.new.self) (inl refl) (inl c.in_ok-write.ensures.wrote)
    (zeros_only c.args.geometry.now c.table_start.result (2 * c.table_pages.result) (past c.args.disk.now) (past c.write_zeros.new.disk) c.table_start.ensures (ap (λ (n : ℕ). 2 * n) c.table_pages.ensures) c.write_zeros.ensures.only))

pub returns-clause-empty : goal.returns-clause-empty
returns-clause-empty g c =
    let disk = g.D.Disk in
    let past = disk.past in
    empty_settled c.args.geometry.now c.selector_page.result c.table_start.result (disk.pages c.args.disk.now) (past c.write_zeros.new.disk) (past c.write.new.self) (past c.sync.new.self) c.selector_page.ensures c.table_start.ensures
    (omega (arith, c.table_start.ensures, c.requires.room, c.requires.limits.blobs_least, c.requires.limits.data_least)) (rw (c.write.ensures.pages_stay, c.write_zeros.ensures.pages_stay) at c.write.ensures.told)
    (c.in_ok-write_zeros.ensures.written 0 (omega (arith, c.table_pages.ensures, c.requires.limits.blobs_least))) c.in_ok-write.ensures.wrote c.in_ok-sync.ensures.synced

pub returns-clause-acts : goal.returns-clause-acts
returns-clause-acts g c =
    let past = g.D.Disk.past in
    let geometry = c.args.geometry.now in
    let first = table_start geometry false in
    let count = 2 * table_pages geometry in
    let selector = c.selector_page.result in
    let zeros = subst (λ (n : ℕ). WritesRow n count [] (past c.args.disk.now) (past c.write_zeros.new.disk)) c.table_start.ensures
    (subst (λ (n : ℕ). WritesRow c.table_start.result (2 * n) [] (past c.args.disk.now) (past c.write_zeros.new.disk)) c.table_pages.ensures c.in_ok-write_zeros.ensures.acts) in (
      selector,
      row_then first count (Wrote SELECTOR_PAGE selector ∷ []) Synced (past c.args.disk.now) (past c.write.new.self) (past c.sync.new.self)
          (row_then first count [] (Wrote SELECTOR_PAGE selector) (past c.args.disk.now) (past c.write_zeros.new.disk) (past c.write.new.self) zeros c.in_ok-write.ensures.wrote)
          c.in_ok-sync.ensures.synced,
    )
