use Rattle.std.proofs.Common.{Option, true, ◌∙◌, subst}
use Rattle.std.proofs.lemmas.Result.{err_from_is_err_and}
use Rattle.abr_record.specs.declared.Slot.TheVariants.{A, B, R}
use Rattle.disk_model.specs.Past.{Past}
use Rattle.disk_model.specs.Images.{SomeImage}
use Rattle.slot_disk.specs.Steps.{FoundIf, HasCauseAt}
use Rattle.slot_disk.proofs.LoadSteps.{all_loaded, cause_r, cause_a, cause_b}
use Rattle.slot_disk.proofs.load.load_parts.Goals as goal

pub returns-in_err-recovery-clause-damaged : goal.returns-in_err-recovery-clause-damaged
returns-in_err-recovery-clause-damaged g c =
    let told = g.D.Disk.past c.args.disk.now in
    let geometry = c.args.geometry.now in
    let p = err_from_is_err_and c.from_residual.result c.from_residual.ensures.1 in
    let cause = subst (λ (t : Option Past). HasCauseAt t geometry R true c.in_err-recovery.field-0.0) c.read_record.ensures.past_stays c.in_err-recovery.ensures.damaged in
    rw (p.1, p.2) (cause_r geometry told c.in_err-recovery.field-0.0 cause)

pub returns-in_err-a-clause-damaged : goal.returns-in_err-a-clause-damaged
returns-in_err-a-clause-damaged g c =
    let told = g.D.Disk.past c.args.disk.now in
    let geometry = c.args.geometry.now in
    let p = err_from_is_err_and c.from_residual-in_err-a.result c.from_residual-in_err-a.ensures.1 in
    let same_r = c.read_record.ensures.past_stays in
    let same_a = c.load_slot.ensures.past_stays ∙ same_r in
    let r = subst (λ (t : Option Past). SomeImage t (FoundIf true geometry R c.in_ok-recovery.recovery)) same_r c.in_ok-recovery.ensures.found in
    let cause = subst (λ (t : Option Past). HasCauseAt t geometry A c.bootable.result c.in_err-a.field-0.0) same_a c.in_err-a.ensures.damaged in
    rw (p.1, p.2) (cause_a geometry c.in-Ok.boot c.in_ok-recovery.recovery (g.D.Disk.pages c.args.disk.now) told c.pages-count.ensures.told c.in-Ok.ensures.read r c.bootable.result c.in_err-a.field-0.0 c.bootable.ensures cause)

pub returns-in_err-b-clause-damaged : goal.returns-in_err-b-clause-damaged
returns-in_err-b-clause-damaged g c =
    let told = g.D.Disk.past c.args.disk.now in
    let geometry = c.args.geometry.now in
    let p = err_from_is_err_and c.from_residual-in_err-b.result c.from_residual-in_err-b.ensures.1 in
    let same_r = c.read_record.ensures.past_stays in
    let same_a = c.load_slot.ensures.past_stays ∙ same_r in
    let same_b = c.load_slot-2.ensures.past_stays ∙ same_a in
    let r = subst (λ (t : Option Past). SomeImage t (FoundIf true geometry R c.in_ok-recovery.recovery)) same_r c.in_ok-recovery.ensures.found in
    let a = subst (λ (t : Option Past). SomeImage t (FoundIf c.bootable.result geometry A c.in_ok-a.a)) same_a c.in_ok-a.ensures.found in
    let cause = subst (λ (t : Option Past). HasCauseAt t geometry B c.bootable-2.result c.in_err-b.field-0.0) same_b c.in_err-b.ensures.damaged in
    rw (p.1, p.2) (cause_b geometry c.in-Ok.boot c.in_ok-recovery.recovery (g.D.Disk.pages c.args.disk.now) told c.pages-count.ensures.told c.in-Ok.ensures.read r c.in_ok-a.a c.bootable.result c.bootable-2.result c.in_err-b.field-0.0 c.bootable.ensures c.bootable-2.ensures a cause)

pub returns-clause-slots : goal.returns-clause-slots
returns-clause-slots g c =
    let told = g.D.Disk.past c.args.disk.now in
    let geometry = c.args.geometry.now in
    let same_r = c.read_record.ensures.past_stays in
    let same_a = c.load_slot.ensures.past_stays ∙ same_r in
    let same_b = c.load_slot-2.ensures.past_stays ∙ same_a in
    let r = subst (λ (t : Option Past). SomeImage t (FoundIf true geometry R c.in_ok-recovery.recovery)) same_r c.in_ok-recovery.ensures.found in
    let a = subst (λ (t : Option Past). SomeImage t (FoundIf c.bootable.result geometry A c.in_ok-a.a)) same_a c.in_ok-a.ensures.found in
    let b = subst (λ (t : Option Past). SomeImage t (FoundIf c.bootable-2.result geometry B c.in_ok-b.b)) same_b c.in_ok-b.ensures.found in
    all_loaded geometry (record { boot = c.in-Ok.boot; a = c.in_ok-a.a; b = c.in_ok-b.b; recovery = c.in_ok-recovery.recovery }) c.bootable.result c.bootable-2.result (g.D.Disk.pages c.args.disk.now) told c.pages-count.ensures.told c.bootable.ensures c.bootable-2.ensures c.in-Ok.ensures.read a b r
