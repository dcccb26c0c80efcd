use Rattle.std.proofs.Common.{◌<◌, refl, inl, inr, arith, ◌∙◌, ap, Option}
use Rattle.disk_model.specs.declared.act.DiskAct.TheVariants.{Wrote, Synced}
use Rattle.disk_model.specs.Past.{Past, with_act}
use Rattle.image_layout.specs.declared.geometry.TheConstants.{RECORD_PAGE}
use Rattle.slot_disk.proofs.WriteSteps.{record_settled, record_moment, two_acts}
use Rattle.slot_disk.proofs.write.settle_record.Goals as goal

pub returns-in_err-write-clause-each_moment : goal.returns-in_err-write-clause-each_moment
returns-in_err-write-clause-each_moment g c = λ before each.
    let past = g.D.Disk.past in
    record_moment before c.args.value.now c.write_record.result (past c.args.disk.now) (past c.write.new.self) (past c.write.new.self) c.write_record.ensures.reads (inr c.in_err-write.ensures.failed) (inr refl) each

pub returns-in_err-sync-clause-each_moment : goal.returns-in_err-sync-clause-each_moment
returns-in_err-sync-clause-each_moment g c = λ before each.
    let past = g.D.Disk.past in
    record_moment before c.args.value.now c.write_record.result (past c.args.disk.now) (past c.write.new.self) (past c.sync.new.self) c.write_record.ensures.reads (inl c.in_ok-write.ensures.wrote) (inr c.in_err-sync.ensures.failed) each

pub returns-clause-done : goal.returns-clause-done
returns-clause-done g c =
    let past = g.D.Disk.past in
    let room : RECORD_PAGE < g.D.Disk.pages c.write.new.self = omega (arith, c.requires, c.write.ensures.pages_stay) in
    record_settled c.args.value.now c.write_record.result (g.D.Disk.pages c.write.new.self) (past c.args.disk.now) (past c.write.new.self) (past c.sync.new.self) room c.write.ensures.told c.write_record.ensures.reads c.in_ok-write.ensures.wrote c.in_ok-sync.ensures.synced

pub returns-clause-each_moment : goal.returns-clause-each_moment
returns-clause-each_moment g c = λ before each.
    let past = g.D.Disk.past in
    record_moment before c.args.value.now c.write_record.result (past c.args.disk.now) (past c.write.new.self) (past c.sync.new.self) c.write_record.ensures.reads (inl c.in_ok-write.ensures.wrote) (inl c.in_ok-sync.ensures.synced) each

pub returns-clause-order : goal.returns-clause-order
returns-clause-order g c = (c.write_record.result, c.write_record.ensures.reads, c.in_ok-sync.ensures.synced ∙ ap (λ (told : Option Past). with_act told Synced) c.in_ok-write.ensures.wrote ∙ two_acts (g.D.Disk.past c.args.disk.now) (Wrote RECORD_PAGE c.write_record.result) Synced)
