-- One line for each exit.
use Rattle.std.proofs.Common.{[], ◌∷◌, refl, inl, inr, arith}
use Rattle.disk_model.specs.declared.act.DiskAct.TheVariants.{Wrote, Synced}
use Rattle.disk_model.proofs.Regions.{writes_wider, writes_write, writes_sync}
use Rattle.image_layout.specs.declared.geometry.TheConstants.{SELECTOR_PAGE}
use Rattle.image_layout.specs.Geometry.{IsIn, table_pages, table_start, table_region}
use Rattle.node_table.specs.Steps.{IsSwitchPage}
use Rattle.node_table.proofs.SwitchSteps.{at1, at2, at3, done}
use Rattle.node_table.proofs.Acts.{row_then}
use Rattle.node_table.proofs.copy.switch.Goals as goal

pub returns-in_err-settle_copy-clause-each_moment : goal.returns-in_err-settle_copy-clause-each_moment
returns-in_err-settle_copy-clause-each_moment g c = λ before after counts laid.
    let past = g.D.Disk.past in
    at1 c.args.geometry.now c.args.second c.args.rows.now c.args.links.now c.requires.limits before after (past c.args.disk.now) (past c.settle_copy.new.disk) (past c.settle_copy.new.disk) (past c.settle_copy.new.disk) counts c.settle_copy.ensures.only

pub returns-in_err-write-clause-each_moment : goal.returns-in_err-write-clause-each_moment
returns-in_err-write-clause-each_moment g c = λ before after counts laid.
    let past = g.D.Disk.past in
    at2 c.args.geometry.now c.args.second c.args.rows.now c.args.links.now c.requires.limits before after (past c.args.disk.now) (past c.settle_copy.new.disk) (past c.write.new.self) (past c.write.new.self) counts c.settle_copy.ensures.only
    c.selector_page.result c.selector_page.ensures laid c.in_ok-settle_copy.ensures.settled (inr c.in_err-write.ensures.failed)

pub returns-in_err-sync-clause-each_moment : goal.returns-in_err-sync-clause-each_moment
returns-in_err-sync-clause-each_moment g c = λ before after counts laid.
    let past = g.D.Disk.past in
    at3 c.args.geometry.now c.args.second c.args.rows.now c.args.links.now c.requires.limits before after (past c.args.disk.now) (past c.settle_copy.new.disk) (past c.write.new.self) (past c.sync.new.self) counts c.settle_copy.ensures.only
    c.selector_page.result c.selector_page.ensures laid c.in_ok-settle_copy.ensures.settled (inl c.in_ok-write.ensures.wrote) (inr c.in_err-sync.ensures.failed)

pub returns-clause-each_moment : goal.returns-clause-each_moment
returns-clause-each_moment g c = λ before after counts laid.
    let past = g.D.Disk.past in
    at3 c.args.geometry.now c.args.second c.args.rows.now c.args.links.now c.requires.limits before after (past c.args.disk.now) (past c.settle_copy.new.disk) (past c.write.new.self) (past c.sync.new.self) counts c.settle_copy.ensures.only
    c.selector_page.result c.selector_page.ensures laid c.in_ok-settle_copy.ensures.settled (inl c.in_ok-write.ensures.wrote) (inl c.in_ok-sync.ensures.synced)

pub returns-clause-done : goal.returns-clause-done
returns-clause-done g c = λ after laid.
    let disk = g.D.Disk in
    let past = disk.past in
    done c.args.geometry.now c.args.second c.args.rows.now c.args.links.now c.requires.limits c.selector_page.result c.selector_page.ensures after laid (disk.pages c.args.disk.now) (past c.settle_copy.new.disk) (past c.write.new.self) (past c.sync.new.self)
    (omega (arith, c.requires.room)) (rw (c.write.ensures.pages_stay, c.settle_copy.ensures.pages_stay) at c.write.ensures.told) c.in_ok-settle_copy.ensures.settled c.in_ok-write.ensures.wrote c.in_ok-sync.ensures.synced

pub returns-in_err-settle_copy-clause-only : goal.returns-in_err-settle_copy-clause-only
returns-in_err-settle_copy-clause-only g c =
    let past = g.D.Disk.past in
    writes_wider (IsIn (table_region c.args.geometry.now c.args.second)) (IsSwitchPage c.args.geometry.now c.args.second) (past c.args.disk.now) (past c.settle_copy.new.disk) (λ n within. inr within) c.settle_copy.ensures.only

pub returns-in_err-write-clause-only : goal.returns-in_err-write-clause-only
returns-in_err-write-clause-only g c =
    let past = g.D.Disk.past in
    let Region = IsSwitchPage c.args.geometry.now c.args.second in
    writes_write Region SELECTOR_PAGE c.selector_page.result (past c.args.disk.now) (past c.settle_copy.new.disk) (past c.write.new.self) (inl refl) (inr c.in_err-write.ensures.failed)
    (writes_wider (IsIn (table_region c.args.geometry.now c.args.second)) Region (past c.args.disk.now) (past c.settle_copy.new.disk) (λ n within. inr within) c.settle_copy.ensures.only)

pub returns-in_err-sync-clause-only : goal.returns-in_err-sync-clause-only
returns-in_err-sync-clause-only g c =
    let past = g.D.Disk.past in
    let Region = IsSwitchPage c.args.geometry.now c.args.second in
    writes_sync Region (past c.args.disk.now) (past c.write.new.self) (past c.sync.new.self) (inr c.in_err-sync.ensures.failed)
    (writes_write Region SELECTOR_PAGE c.selector_page.result (past c.args.disk.now) (past c.settle_copy.new.disk) (past c.write.new.self) (inl refl) (inl c.in_ok-write.ensures.wrote)
    (writes_wider (IsIn (table_region c.args.geometry.now c.args.second)) Region (past c.args.disk.now) (past c.settle_copy.new.disk) (λ n within. inr within) c.settle_copy.ensures.only))

pub returns-clause-only : goal.returns-clause-only
returns-clause-only g c =
    let past = g.D.Disk.past in
    let Region = IsSwitchPage c.args.geometry.now c.args.second in
    writes_sync Region (past c.args.disk.now) (past c.write.new.self) (past c.sync.new.self) (inl c.in_ok-sync.ensures.synced)
    (writes_write Region SELECTOR_PAGE c.selector_page.result (past c.args.disk.now) (past c.settle_copy.new.disk) (past c.write.new.self) (inl refl) (inl c.in_ok-write.ensures.wrote)
    (writes_wider (IsIn (table_region c.args.geometry.now c.args.second)) Region (past c.args.disk.now) (past c.settle_copy.new.disk) (λ n within. inr within) c.settle_copy.ensures.only))

pub returns-clause-acts : goal.returns-clause-acts
returns-clause-acts g c =
    let past = g.D.Disk.past in
    let geometry = c.args.geometry.now in
    let first = table_start geometry c.args.second in
    let selector = c.selector_page.result in (
      selector,
      row_then first (table_pages geometry) (Synced ∷ Wrote SELECTOR_PAGE selector ∷ []) Synced (past c.args.disk.now) (past c.write.new.self) (past c.sync.new.self)
          (row_then first (table_pages geometry) (Synced ∷ []) (Wrote SELECTOR_PAGE selector) (past c.args.disk.now) (past c.settle_copy.new.disk) (past c.write.new.self) c.in_ok-settle_copy.ensures.acts c.in_ok-write.ensures.wrote)
          c.in_ok-sync.ensures.synced,
    )
