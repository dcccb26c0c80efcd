use Rattle.std.proofs.Common.{List, Option, All, sym, subst, ◌∙◌}
use Rattle.std.proofs.lemmas.Result.{err_from_is_err_and}
use Rattle.disk_model.specs.Past.{Past}
use Rattle.disk_model.specs.Images.{SomeImage}
use Rattle.node_table.specs.declared.entry.Entry.{Entry}
use Rattle.node_table.specs.Table.{HasTable}
use Rattle.blob_disk.specs.Stock.{IsGood, Stores, HasCause}
use Rattle.blob_disk.proofs.Attaching.{one_stock, stock_of, never_damaged, table_never, loaded_some}
use Rattle.blob_disk.proofs.blobs.Blobs.attach.Goals as goal

pub returns-in_err-table-clause-undamaged : goal.returns-in_err-table-clause-undamaged
returns-in_err-table-clause-undamaged g c = λ contents one.
    let p = err_from_is_err_and c.from_residual.result c.from_residual.ensures.1 in
    rw (p.1, p.2) (table_never (g.D.Disk.past c.args.disk.now) c.args.geometry.now contents one c.in_err-table.field-0.0 c.in_err-table.ensures.damaged)

pub returns-in_err-check_all-clause-undamaged : goal.returns-in_err-check_all-clause-undamaged
returns-in_err-check_all-clause-undamaged g c = λ contents one.
    let told = g.D.Disk.past c.args.disk.now in
    let t = c.in_ok-table.table in
    let step = c.in_ok-table.ensures in
    let some = loaded_some told (g.D.Disk.past c.load.new.disk) c.args.geometry.now t c.entries.result.now step.past_stays c.entries.ensures.list step.geometry step.table in
    let p = err_from_is_err_and c.from_residual-in_err-check_all.result c.from_residual-in_err-check_all.ensures.1 in
    rw (p.1, p.2) (never_damaged told c.args.geometry.now contents one c.in_err-check_all.field-0.0
    (subst (λ (told : Option Past). HasCause told c.args.geometry.now c.in_err-check_all.field-0.0) step.past_stays (c.in_err-check_all.ensures.damaged t.second some)))

pub returns-in_err-check_all-clause-damaged : goal.returns-in_err-check_all-clause-damaged
returns-in_err-check_all-clause-damaged g c =
    let told = g.D.Disk.past c.args.disk.now in
    let t = c.in_ok-table.table in
    let g0 = c.args.geometry.now in
    let step = c.in_ok-table.ensures in
    let some = loaded_some told (g.D.Disk.past c.load.new.disk) g0 t c.entries.result.now step.past_stays c.entries.ensures.list step.geometry step.table in
    let p = err_from_is_err_and c.from_residual-in_err-check_all.result c.from_residual-in_err-check_all.ensures.1 in
    rw (p.1, p.2) (subst (λ (told : Option Past). HasCause told g0 c.in_err-check_all.field-0.0) step.past_stays (c.in_err-check_all.ensures.damaged t.second some))

pub returns-clause-stock : goal.returns-clause-stock
returns-clause-stock g c =
    let told = g.D.Disk.past c.args.disk.now in
    let t = c.in_ok-table.table in
    let g0 = c.args.geometry.now in
    let step = c.in_ok-table.ensures in
    let some = loaded_some told (g.D.Disk.past c.load.new.disk) g0 t c.entries.result.now step.past_stays c.entries.ensures.list step.geometry step.table in
    let good = subst (λ (told : Option Past). SomeImage told (λ image. HasTable g0 t.second t.entries image × All (IsGood g0 image) t.entries)) step.past_stays
    (subst (λ (l : List Entry). SomeImage (g.D.Disk.past c.load.new.disk) (λ image. HasTable g0 t.second l image × All (IsGood g0 image) l)) c.entries.ensures.list (c.in_ok-check_all.ensures.good t.second some)) in
    stock_of told g0 t step.geometry step.sound good

pub returns-clause-stores : goal.returns-clause-stores
returns-clause-stores g c = λ contents one.
    let told = g.D.Disk.past c.args.disk.now in
    let t = c.in_ok-table.table in
    let step = c.in_ok-table.ensures in
    subst (λ (told : Option Past). Stores told t contents) (sym (c.check_all.ensures.past_stays ∙ step.past_stays))
    (one_stock told c.args.geometry.now t contents step.geometry step.unbroken step.table one)
