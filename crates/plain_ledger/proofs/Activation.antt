-- What the judgement of a sealed system leaves.
use Rattle.std.proofs.Common.{◌≡◌, ◌≤◌, ◌+◌, ℕ, true, false, List, length, Option, Some, None, refl, sym, ap, subst, arith, ◌∙◌}
use Rattle.std.specs.Prelude.{IfSome}
use Rattle.std.proofs.lemmas.Bool.{true≢false}
use Rattle.abr_record.specs.declared.Record.{Record}
use Rattle.abr_record.specs.declared.Slot.{Slot}
use Rattle.image_layout.specs.declared.Sys.{Sys}
use Rattle.abr_record.specs.declared.Slot.TheVariants as slots
use Rattle.store_model.specs.declared.ends.ActivateEnd.{ActivateEnd}
use Rattle.store_model.specs.declared.ends.ActivateEnd.TheVariants as activations
use Rattle.store_model.specs.declared.events.Act.TheVariants as acts
use Rattle.store_model.specs.declared.events.Event.{Event}
use Rattle.store_model.specs.declared.events.LookedAt.{LookedAt}
use Rattle.store_model.specs.State.{State, Stage, Phase, IsStageOf, is_recovery, is_successful}
use Rattle.store_model.specs.State.Phase.{Filling, Sealed, Done}
use Rattle.store_model.specs.Settling.{IsSeen}
use Rattle.store_model.specs.Sound.{IsInPhase}
use Rattle.store_model.proofs.Sound.{stage_after}
use Rattle.store_model.specs.History.{Origin, after}
use Rattle.store_model.specs.Acts.Activate.{IsDueActivate, activated_at, activated_in, next_activate}
use Rattle.store_model.proofs.Frames.{keeps_next}
use Rattle.plain_state.specs.Holdings.{ends_due, stage_ends}
use Rattle.plain_state.specs.Learning.{IsSettled}
use Rattle.plain_ledger.specs.Ledgers.{LedgerOf, IsLedger, Noted, Pushes}
use Rattle.plain_ledger.proofs.Ledgers.{Came, came, here, seen_as}

-- ---- as many ends are due as before

ends_in : (s : State) (lane : ℕ) (seen : List LookedAt) (slot : Slot) (stage : Stage) (phase : Phase) → s.stage ≡ Some stage → ends_due (activated_in s lane seen slot phase) ≡ ends_due s
ends_in s lane seen slot stage Filling is = refl
ends_in s lane seen slots.A stage (Sealed sys) is = ap (λ (o : Option Stage). length s.claims + length s.arriving + length s.dirs + stage_ends o) (sym is)
ends_in s lane seen slots.B stage (Sealed sys) is = ap (λ (o : Option Stage). length s.claims + length s.arriving + length s.dirs + stage_ends o) (sym is)
ends_in s lane seen slots.R stage (Sealed sys) is = ap (λ (o : Option Stage). length s.claims + length s.arriving + length s.dirs + stage_ends o) (sym is)
ends_in s lane seen slot stage Done is = refl

ends_at : (s : State) (lane : ℕ) (seen : List LookedAt) (slot : Slot) (o : Option Stage) → s.stage ≡ o → ends_due (activated_at s lane seen slot o) ≡ ends_due s
ends_at s lane seen slot None is = refl
ends_at s lane seen slot (Some stage) is = ends_in s lane seen slot stage stage.phase is

same_ends : (s : State) (lane : ℕ) (seen : List LookedAt) (reply : ActivateEnd) → ends_due (next_activate s lane seen reply) ≡ ends_due s
same_ends s lane seen (activations.Active slot) = ends_at s lane seen slot s.stage refl
same_ends s lane seen reply = refl

pub activated : {o : Origin} {h : List Event} {spare : ℕ} {s s2 : State} {n1 n2 : Noted} {old : LedgerOf} {lane : ℕ} {reply : ActivateEnd} {seen : List LookedAt}
    → seen_as o h s ≡ old → IsLedger o h spare s → n1.events ≡ h → ends_due s + 1 ≤ n1.spare → Pushes lane (acts.Activate reply seen) n1 n2
    → IsDueActivate s lane seen reply → IsSeen seen s.stock → IsSettled seen (next_activate s lane seen reply) s2
    → Came o n2 s2 old lane (acts.Activate reply seen)
activated {o} {h} {spare} {s} {s2} {n1} {n2} {old} {lane} {reply} {seen} view l same room pushed due is_seen settled =
    let k = keeps_next s (length h + 1) lane (acts.Activate reply seen) in
    came view l same pushed (record {
      later = refl;
      due = due;
      seen = subst (IsSeen seen) (sym (k.stock refl)) is_seen;
      settled = settled;
      booted = k.booted refl;
      broken = k.broken refl;
      enough = omega (arith, pushed.spare, room, same_ends s lane seen reply);
    })

-- ---- A or B runs

success_runs : (abr : Record) (slot : Slot) → is_successful abr slot ≡ true → is_recovery slot ≡ false
success_runs abr slots.A e = refl
success_runs abr slots.B e = refl
success_runs abr slots.R e = absurd (true≢false (sym e))

-- where a lane has sealed a system, recovery doesn't run
pub runs : {o : Origin} {h : List Event} {spare : ℕ} {s : State} {old : LedgerOf} {lane : ℕ} {sys : Sys}
    → seen_as o h s ≡ old → IsLedger o h spare s → IsStageOf old.state lane (Sealed sys) → is_recovery s.running ≡ false
runs {o} {h} {spare} {s} {old} {lane} {sys} view l was =
    let is : IsStageOf s lane (Sealed sys) = here (λ (t : State). IsStageOf t lane (Sealed sys)) view was in
    let a : State = after o h in
    let there : a.stage ≡ Some (record { lane = lane; phase = Sealed sys }) = sym (ap (λ (t : State). t.stage) l.mirrors.rest) ∙ is in
    let under_way : IsInPhase a (Sealed sys) =
    subst (λ (st : Option Stage). IfSome st (λ (x : Stage). IsInPhase a x.phase)) there (stage_after o h l.legal) in
    ap (λ (t : State). is_recovery t.running) l.mirrors.rest ∙ success_runs a.abr a.running under_way.running
