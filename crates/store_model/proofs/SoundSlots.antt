-- A slot that can be booted has a system, and so has the one that runs.
use Rattle.std.proofs.Common.{inl, inr, ◌≡◌, ℕ, ◌-◌, Bool, true, false, cond, not, List, Option, Some, None, is_some, refl, sym, ap, subst, ◌∙◌, ◌||◌, arith}
use Rattle.std.specs.Prelude.{min, nat_lt}
use Rattle.std.proofs.lemmas.Bool.{cases_Bool, true≢false, and_from, and_parts, ltb-true, lt-ltb, not-true}
use Rattle.abr_record.specs.declared.Record.{Record}
use Rattle.abr_record.specs.declared.Slot.{Slot}
use Rattle.abr_record.specs.declared.Slot.TheVariants.{A, B, R}
use Rattle.abr_record.specs.declared.SlotRecord.{SlotRecord}
use Rattle.abr_record.specs.Boot.{is_bootable, boot_slot, tried, after_slot, boot_record}
use Rattle.abr_record.specs.Marks.{unbootable_record, active_record, lowered, committed_record}
use Rattle.image_layout.specs.declared.Sys.{Sys}
use Rattle.store_model.specs.declared.events.Event.{Event}
use Rattle.store_model.specs.declared.events.LookedAt.{LookedAt}
use Rattle.store_model.specs.declared.events.Act.{Act}
use Rattle.store_model.specs.declared.events.Act.TheVariants.{Boot, Stage, Activate, Commit}
use Rattle.store_model.specs.declared.ends.StageEnd.TheVariants as stages
use Rattle.store_model.specs.declared.ends.ActivateEnd.TheVariants as activations
use Rattle.store_model.specs.State.{State, sys_of, other_slot, with_sys, is_recovery, is_successful, is_other_bootable, is_committed, is_pending}
use Rattle.store_model.specs.State as state
use Rattle.store_model.specs.State.Phase.{Filling, Sealed, Done}
use Rattle.store_model.specs.Step.{IsActDue, IsActDueIf, IsDue, next, next_broken, step}
use Rattle.store_model.specs.Systems.{base_of, staged_verdict}
use Rattle.store_model.specs.Acts.Boot.{HasSystem}
use Rattle.store_model.specs.Acts.Stage.{staging, abr_after_stage, stage_answer}
use Rattle.store_model.specs.Acts.Activate.{activated, activated_at}
use Rattle.store_model.specs.Sound.{HaveSystems}
use Rattle.store_model.proofs.Frames.{keeps_next}
use Rattle.store_model.proofs.SoundSteps.{some_and}
use Rattle.store_model.proofs.SoundUpdates.{IsUpdateSound, sys_at, UnderWay, turn_of, updates_to, sealed_in, marked_active_in}

record Systems (abr : Record) (running : Slot) (sys_a sys_b : Option Sys) : Type 0 where
  a : is_bootable abr.a ≡ true → is_some sys_a ≡ true
  b : is_bootable abr.b ≡ true → is_some sys_b ≡ true
  running_one : is_recovery running ≡ false → is_some (sys_at sys_a sys_b running) ≡ true

abbrev SystemsOf : State → Type 0
SystemsOf s = Systems s.abr s.running s.a s.b

pub system_at : (s : State) (slot : Slot) → sys_of s slot ≡ sys_at s.a s.b slot
system_at s A = refl
system_at s B = refl
system_at s R = refl

systems_to : (s : State) → HaveSystems s → SystemsOf s
systems_to s h = record {
  a = h.a;
  b = h.b;
  running_one = λ usual. ap (λ (o : Option Sys). is_some o) (sym (system_at s s.running)) ∙ h.running usual;
}

systems_from : (s : State) → SystemsOf s → HaveSystems s
systems_from s h = record {
  a = h.a;
  b = h.b;
  running = λ usual. ap (λ (o : Option Sys). is_some o) (system_at s s.running) ∙ h.running_one usual;
}

-- ---- what the marks make of a slot

tried_bootable : (slot : SlotRecord) → is_bootable (tried slot) ≡ true → is_bootable slot ≡ true
tried_bootable slot bootable =
    elim (cases_Bool slot.successful) [
      | inl yes' ↦
          let parts = and_parts (nat_lt 0 slot.priority) true (rw yes' at bootable) in
          and_from (nat_lt 0 slot.priority) (slot.successful || nat_lt 0 slot.tries) parts.0 (rw yes' refl)
      | inr no' ↦
          let parts = and_parts (nat_lt 0 slot.priority) (false || nat_lt 0 (slot.tries - 1)) (rw no' at bootable) in
          let left = ltb-true 0 (slot.tries - 1) parts.1 in
          and_from (nat_lt 0 slot.priority) (slot.successful || nat_lt 0 slot.tries) parts.0 (rw no' (lt-ltb 0 slot.tries (omega (arith, left))))
    ]

lowered_bootable : (slot : SlotRecord) → is_bootable (lowered slot) ≡ true → is_bootable slot ≡ true
lowered_bootable slot bootable =
    let parts = and_parts (nat_lt 0 (min slot.priority 14)) (slot.successful || nat_lt 0 slot.tries) bootable in
    let some_priority = ltb-true 0 (min slot.priority 14) parts.0 in
    and_from (nat_lt 0 slot.priority) (slot.successful || nat_lt 0 slot.tries) (lt-ltb 0 slot.priority (omega (arith, some_priority))) parts.1

booted_a : (slot : Slot) (abr : Record) → is_bootable (after_slot slot abr).a ≡ true → is_bootable abr.a ≡ true
booted_a A abr bootable = tried_bootable abr.a bootable
booted_a B abr bootable = bootable
booted_a R abr bootable = bootable

booted_b : (slot : Slot) (abr : Record) → is_bootable (after_slot slot abr).b ≡ true → is_bootable abr.b ≡ true
booted_b A abr bootable = bootable
booted_b B abr bootable = tried_bootable abr.b bootable
booted_b R abr bootable = bootable

-- ---- the acts

has_running : (s : State) (seen : List LookedAt) (slot : Slot) → HasSystem s seen slot → is_recovery slot ≡ false → is_some (sys_at s.a s.b slot) ≡ true
has_running s seen A whole usual = let found = some_and s.a whole in rw found.1 refl
has_running s seen B whole usual = let found = some_and s.b whole in rw found.1 refl
has_running s seen R whole usual = absurd cc

systems_boot : (s : State) (seen : List LookedAt) (slot : Slot) → slot ≡ boot_slot s.abr → HasSystem s seen slot → SystemsOf s → Systems (boot_record s.abr) (boot_slot s.abr) s.a s.b
systems_boot s seen slot chosen whole h = record {
  a = λ bootable. h.a (booted_a (boot_slot s.abr) s.abr bootable);
  b = λ bootable. h.b (booted_b (boot_slot s.abr) s.abr bootable);
  running_one = has_running s seen (boot_slot s.abr) (subst (λ (x : Slot). HasSystem s seen x) chosen whole);
}

sys_systems : (s : State) (slot : Slot) (sys : Option Sys) → Systems s.abr s.running (with_sys s slot sys).a (with_sys s slot sys).b → SystemsOf (with_sys s slot sys)
sys_systems s A sys h = h
sys_systems s B sys h = h
sys_systems s R sys h = h

systems_filling : (s : State) (abr : Record) (running : Slot) → is_recovery running ≡ false → Systems abr running s.a s.b
    → Systems (cond (is_other_bootable abr running) (unbootable_record (other_slot running) abr) abr) running (with_sys s (other_slot running) None).a (with_sys s (other_slot running) None).b
systems_filling s abr A usual h =
    elim (cases_Bool (is_other_bootable abr A)) [
      | inl bootable ↦ rw bootable (record { a = h.a; b = λ never. absurd (true≢false (sym never)); running_one = h.running_one })
      | inr free ↦ rw free (record { a = h.a; b = λ never. absurd (true≢false (sym never ∙ free)); running_one = h.running_one })
    ]
systems_filling s abr B usual h =
    elim (cases_Bool (is_other_bootable abr B)) [
      | inl bootable ↦ rw bootable (record { a = λ never. absurd (true≢false (sym never)); b = h.b; running_one = h.running_one })
      | inr free ↦ rw free (record { a = λ never. absurd (true≢false (sym never ∙ free)); b = h.b; running_one = h.running_one })
    ]
systems_filling s abr R usual h = absurd cc

systems_stage : (s : State) (lane epoch : ℕ) (slot : Slot) → stages.Turn slot ≡ stage_answer s epoch → SystemsOf s → SystemsOf (staging s lane slot)
systems_stage s lane epoch slot e h =
    let turn = turn_of s epoch slot e in
    let begun : Slot → State = λ sl. record s { abr = abr_after_stage s sl; stage = Some (record { lane = lane; phase = Filling }); staged = None } in
    subst (λ (sl : Slot). SystemsOf (with_sys (begun sl) sl None)) (sym turn.other)
    (sys_systems (begun (other_slot s.running)) (other_slot s.running) None (systems_filling (begun (other_slot s.running)) s.abr s.running turn.usual h))

systems_marked : (s : State) (abr : Record) (running : Slot) (sys : Sys) → is_successful abr running ≡ true → Systems abr running s.a s.b
    → Systems (active_record (other_slot running) abr) running (with_sys s (other_slot running) (Some sys)).a (with_sys s (other_slot running) (Some sys)).b
systems_marked s abr A sys succeeded h = record { a = λ bootable. h.a (lowered_bootable abr.a bootable); b = λ bootable. refl; running_one = h.running_one }
systems_marked s abr B sys succeeded h = record { a = λ bootable. refl; b = λ bootable. h.b (lowered_bootable abr.b bootable); running_one = h.running_one }
systems_marked s abr R sys succeeded h = absurd cc

systems_activate : (s : State) (lane : ℕ) (seen : List LookedAt) (slot : Slot) (sys : Sys) → slot ≡ other_slot s.running → UnderWay s.abr s.running → SystemsOf s → SystemsOf (activated s lane seen slot sys)
systems_activate s lane seen slot sys e way h =
    let base = base_of (staged_verdict s seen sys) in
    let marked : Slot → State = λ sl. marked_active_in s lane sl base in
    subst (λ (sl : Slot). SystemsOf (with_sys (marked sl) sl (Some sys))) (sym e)
    (sys_systems (marked (other_slot s.running)) (other_slot s.running) (Some sys) (systems_marked (marked (other_slot s.running)) s.abr s.running sys way.succeeded h))

usual_of : (s : State) → true ≡ is_pending s → is_recovery s.running ≡ false
usual_of s due = not-true _ (and_parts (not (is_recovery s.running)) (not (is_committed s)) (sym due)).0

systems_commit : (abr : Record) (running : Slot) (a b : Option Sys) → is_recovery running ≡ false → Systems abr running a b → Systems (committed_record running abr) running a b
systems_commit abr A a b usual h = record { a = λ bootable. h.running_one usual; b = λ never. absurd (true≢false (sym never)); running_one = h.running_one }
systems_commit abr B a b usual h = record { a = λ never. absurd (true≢false (sym never)); b = λ bootable. h.running_one usual; running_one = h.running_one }
systems_commit abr R a b usual h = absurd cc

same_systems : (abr abr' : Record) (running running' : Slot) (a a' b b' : Option Sys) → abr' ≡ abr → running' ≡ running → a' ≡ a → b' ≡ b → Systems abr running a b → Systems abr' running' a' b'
same_systems abr abr' running running' a a' b b' e1 e2 e3 e4 h = rw (e1, e2, e3, e4) h

systems_next : (s : State) (number lane : ℕ) (act : Act) → IsActDue s lane act → IsUpdateSound s → SystemsOf s → SystemsOf (next s number lane act)
systems_next s number lane (Boot slot seen) due sound h = systems_boot s seen slot due.chosen due.whole h
systems_next s number lane (Stage epoch (stages.Turn slot)) due sound h = systems_stage s lane epoch slot due h
systems_next s number lane (Stage epoch stages.InRecovery) due sound h = h
systems_next s number lane (Stage epoch (stages.Busy other)) due sound h = h
systems_next s number lane (Stage epoch stages.NotCommitted) due sound h = h
systems_next s number lane (Stage epoch (stages.Older have)) due sound h = h
systems_next s number lane (Activate (activations.Active slot) seen) due sound h =
    let stage : s.stage ≡ Some (record { lane = lane; phase = Sealed due.sys }) = due.stage in
    subst (λ (st : Option state.Stage). SystemsOf (activated_at s lane seen slot st)) (sym stage)
    (systems_activate s lane seen slot due.sys due.answer.1 (sealed_in s lane due.sys s.stage stage (updates_to s sound).stage) h)
systems_next s number lane (Activate (activations.BaseMissing root) seen) due sound h = h
systems_next s number lane (Activate (activations.NotASystem why) seen) due sound h = h
systems_next s number lane (Activate activations.DiskRead seen) due sound h = h
systems_next s number lane (Activate (activations.Rotten root got) seen) due sound h = h
systems_next s number lane (Commit true) due sound h = systems_commit s.abr s.running s.a s.b (usual_of s due) h
systems_next s number lane (Commit false) due sound h = h
systems_next s number lane act due sound h =
    let k = keeps_next s number lane act in
    let n = next s number lane act in
    same_systems s.abr n.abr s.running n.running s.a n.a s.b n.b (k.abr refl) (k.running refl) (k.a refl) (k.b refl) h

systems_if : (s : State) (number lane : ℕ) (act : Act) (broke : Bool) → IsActDueIf broke s number lane act → IsUpdateSound s → SystemsOf s → SystemsOf (cond broke (next_broken s number act) (next s number lane act))
systems_if s number lane act true due sound h = h
systems_if s number lane act false due sound h = systems_next s number lane act due sound h

pub have_next : (s : State) (number lane : ℕ) (act : Act) → IsActDue s lane act → IsUpdateSound s → HaveSystems s → HaveSystems (next s number lane act)
have_next s number lane act due sound h =
    systems_from (next s number lane act) (systems_next s number lane act due sound (systems_to s h))

pub have_step : (s : State) (number : ℕ) (e : Event) → IsDue s number e → IsUpdateSound s → HaveSystems s → HaveSystems (step s number e)
have_step s number e due sound h =
    systems_from (step s number e) (systems_if s number e.lane e.act e.broke due.due sound (systems_to s h))
