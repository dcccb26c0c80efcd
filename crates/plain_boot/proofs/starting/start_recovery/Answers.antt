use Rattle.std.proofs.Common.{List, sym, ap, ap₂, subst, ◌∙◌}
use Rattle.abr_record.specs.declared.Slot.TheVariants.{R}
use Rattle.abr_record.specs.Boot.{boot_slot}
use Rattle.store_model.specs.declared.events.LookedAt.{LookedAt}
use Rattle.store_model.specs.State.{State, opened}
use Rattle.plain_state.specs.Booting.{booted_with}
use Rattle.plain_boot.specs.Starting.{HasBooted}
use Rattle.plain_boot.proofs.Booted.{boots_recovery}
use Rattle.plain_boot.proofs.starting.start_recovery.Goals as goal

pub returns : goal.returns
returns c contents g d e =
    subst (λ (s : State). HasBooted s R c.make.result c.booted.result) (sym e)
    (subst (λ (seen : List LookedAt). HasBooted (opened g d) R seen c.booted.result) (sym (c.make.ensures.list ∙ c.new-3.ensures.items))
    (boots_recovery g d c.booted.result (ap (λ (s : State). boot_slot s.abr) (sym e) ∙ c.requires.recovery)
    (c.booted.ensures ∙ ap (λ (s : State). booted_with s c.make-base.result c.make-cached.result) e
    ∙ ap₂ (booted_with (opened g d)) (c.make-base.ensures.list ∙ c.new.ensures.items) (c.make-cached.ensures.list ∙ c.new-2.ensures.items))))
