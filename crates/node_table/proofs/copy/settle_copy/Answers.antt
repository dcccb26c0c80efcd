-- The pages that were written so far, and the copy at the end.
use Rattle.std.proofs.Common.{ℕ, ◌+◌, ◌/◌, [], ◌∷◌, refl, ap, subst, inl, inr, arith}
use Rattle.disk_model.specs.declared.act.DiskAct.TheVariants.{Synced}
use Rattle.disk_model.specs.Images.{IsInRow}
use Rattle.disk_model.proofs.Regions.{writes_then, writes_sync}
use Rattle.image_layout.specs.Geometry.{IsIn, table_pages, table_region}
use Rattle.node_table.specs.Table.{WritesRow}
use Rattle.node_table.specs.Steps.{WrittenAs, HasRows, HasLinks}
use Rattle.node_table.proofs.PagesAs.{as_outside}
use Rattle.node_table.proofs.SwitchSteps.{rows_only, links_only, copy_settled}
use Rattle.node_table.proofs.TableReads.{copy_within}
use Rattle.node_table.proofs.Acts.{row_then, row_join}
use Rattle.node_table.proofs.copy.settle_copy.Goals as goal

pub returns-in_err-write_rows-clause-only : goal.returns-in_err-write_rows-clause-only
returns-in_err-write_rows-clause-only g c =
    let past = g.D.Disk.past in
    rows_only c.args.geometry.now c.args.second c.table_start-first.result (c.args.geometry.now.blobs / 64) (past c.args.disk.now) (past c.write_rows.new.disk) c.table_start-first.ensures refl c.write_rows.ensures.only

pub returns-in_err-write_links-clause-only : goal.returns-in_err-write_links-clause-only
returns-in_err-write_links-clause-only g c =
    let past = g.D.Disk.past in
    let geometry = c.args.geometry.now in
    let second = c.args.second in
    writes_then (IsIn (table_region geometry second)) (past c.args.disk.now) (past c.write_rows.new.disk) (past c.write_links.new.disk)
    (rows_only geometry second c.table_start-first.result (geometry.blobs / 64) (past c.args.disk.now) (past c.write_rows.new.disk) c.table_start-first.ensures refl c.write_rows.ensures.only)
    (links_only geometry second (c.table_start-first.result + geometry.blobs / 64) (geometry.data_pages / 1024) (past c.write_rows.new.disk) (past c.write_links.new.disk) (ap (λ (n : ℕ). n + geometry.blobs / 64) c.table_start-first.ensures) refl c.write_links.ensures.only)

pub returns-in_err-sync-clause-only : goal.returns-in_err-sync-clause-only
returns-in_err-sync-clause-only g c =
    let past = g.D.Disk.past in
    let geometry = c.args.geometry.now in
    let second = c.args.second in
    writes_sync (IsIn (table_region geometry second)) (past c.args.disk.now) (past c.write_links.new.disk) (past c.sync.new.self) (inr c.in_err-sync.ensures.failed)
    (writes_then (IsIn (table_region geometry second)) (past c.args.disk.now) (past c.write_rows.new.disk) (past c.write_links.new.disk)
    (rows_only geometry second c.table_start-first.result (geometry.blobs / 64) (past c.args.disk.now) (past c.write_rows.new.disk) c.table_start-first.ensures refl c.write_rows.ensures.only)
    (links_only geometry second (c.table_start-first.result + geometry.blobs / 64) (geometry.data_pages / 1024) (past c.write_rows.new.disk) (past c.write_links.new.disk) (ap (λ (n : ℕ). n + geometry.blobs / 64) c.table_start-first.ensures) refl c.write_links.ensures.only))

pub returns-clause-only : goal.returns-clause-only
returns-clause-only g c =
    let past = g.D.Disk.past in
    let geometry = c.args.geometry.now in
    let second = c.args.second in
    writes_sync (IsIn (table_region geometry second)) (past c.args.disk.now) (past c.write_links.new.disk) (past c.sync.new.self) (inl c.in_ok-sync.ensures.synced)
    (writes_then (IsIn (table_region geometry second)) (past c.args.disk.now) (past c.write_rows.new.disk) (past c.write_links.new.disk)
    (rows_only geometry second c.table_start-first.result (geometry.blobs / 64) (past c.args.disk.now) (past c.write_rows.new.disk) c.table_start-first.ensures refl c.write_rows.ensures.only)
    (links_only geometry second (c.table_start-first.result + geometry.blobs / 64) (geometry.data_pages / 1024) (past c.write_rows.new.disk) (past c.write_links.new.disk) (ap (λ (n : ℕ). n + geometry.blobs / 64) c.table_start-first.ensures) refl c.write_links.ensures.only))

pub returns-clause-settled : goal.returns-clause-settled
returns-clause-settled g c =
    let disk = g.D.Disk in
    let past = disk.past in
    let geometry = c.args.geometry.now in
    let second = c.args.second in
    let first = c.table_start-first.result in
    let is = c.table_start-first.ensures in
    let links = c.in_ok-write_links.ensures.written in
    copy_settled geometry second c.args.rows.now c.args.links.now c.requires.limits (disk.pages c.args.disk.now) (past c.write_links.new.disk) (past c.sync.new.self)
    (omega (arith, c.requires.room, copy_within geometry second)) (rw (c.write_links.ensures.pages_stay, c.write_rows.ensures.pages_stay) at c.write_links.ensures.told)
    (λ j lt. subst (λ (n : ℕ). WrittenAs (past c.write_links.new.disk) (n + j) (HasRows c.args.rows.now j)) is
    (as_outside (IsInRow (first + geometry.blobs / 64) (geometry.data_pages / 1024)) (first + j) (HasRows c.args.rows.now j) (past c.write_rows.new.disk) (past c.write_links.new.disk)
    (λ within. omega (arith, within.from, lt)) (c.in_ok-write_rows.ensures.written j lt) c.write_links.ensures.only))
    (λ j lt. subst (λ (n : ℕ). WrittenAs (past c.write_links.new.disk) (n + geometry.blobs / 64 + j) (HasLinks c.args.links.now j)) is (links j lt))
    c.in_ok-sync.ensures.synced

pub returns-clause-acts : goal.returns-clause-acts
returns-clause-acts g c =
    let past = g.D.Disk.past in
    let geometry = c.args.geometry.now in
    let first = c.table_start-first.result in
    let count = geometry.blobs / 64 in
    subst (λ (n : ℕ). WritesRow n (table_pages geometry) (Synced ∷ []) (past c.args.disk.now) (past c.sync.new.self)) c.table_start-first.ensures
    (row_then first (table_pages geometry) [] Synced (past c.args.disk.now) (past c.write_links.new.disk) (past c.sync.new.self)
    (row_join first count (first + count) (geometry.data_pages / 1024) (past c.args.disk.now) (past c.write_rows.new.disk) (past c.write_links.new.disk) refl c.in_ok-write_rows.ensures.acts c.in_ok-write_links.ensures.acts)
    c.in_ok-sync.ensures.synced)
