use Rattle.std.proofs.Common.{◌≡◌, subst}
use Rattle.std.proofs.lemmas.Result.{IfOk-weaker}
use Rattle.image_layout.specs.declared.geometry.Geometry.{Geometry}
use Rattle.store_model.specs.State.{State, Standing, opened}
use Rattle.plain_boot.specs.declared.starting.BootEnd.{BootEnd}
use Rattle.plain_boot.specs.Starting.{Starts}
use Rattle.plain_boot.proofs.starting.start.Goals as goal

pub returns-then-eq : goal.returns-then-eq
returns-then-eq c =
    subst (λ (s : State). Starts c.args.contents.now s c.start_recovery.result) c.opened-state.ensures
    (c.start_recovery.ensures c.args.contents.now c.args.geometry c.args.standing c.opened-state.ensures)

pub returns-in-Some : goal.returns-in-Some
returns-in-Some c =
    IfOk-weaker c.start_system.result (λ (end : BootEnd). (g : Geometry) (d : Standing) → c.opened-state.result ≡ opened g d → Starts c.args.contents.now c.opened-state.result end)
    (λ (end : BootEnd). Starts c.args.contents.now (opened c.args.geometry c.args.standing) end)
    (λ end starts. subst (λ (s : State). Starts c.args.contents.now s end) c.opened-state.ensures (starts c.args.geometry c.args.standing c.opened-state.ensures)) c.start_system.ensures
