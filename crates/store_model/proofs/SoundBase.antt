-- The base of the running system is that of its slot.
use Rattle.std.proofs.Common.{◌≡◌, ℕ, Bool, true, false, cond, List, Option, Some, None, refl, sym, ap, subst, ◌∙◌}
use Rattle.std.specs.Prelude.{IsSomeAnd}
use Rattle.pkg_names.specs.declared.pinned.Pinned.{Pinned}
use Rattle.abr_record.specs.declared.Slot.{Slot}
use Rattle.abr_record.specs.declared.Slot.TheVariants.{A, B, R}
use Rattle.abr_record.specs.Boot.{boot_slot}
use Rattle.image_layout.specs.declared.Sys.{Sys}
use Rattle.package_indexes.specs.Indexes.{root_at}
use Rattle.system_lists.specs.Judging.{Verdict, system_path}
use Rattle.store_model.specs.declared.events.Event.{Event}
use Rattle.store_model.specs.declared.events.LookedAt.{LookedAt}
use Rattle.store_model.specs.declared.events.Act.{Act}
use Rattle.store_model.specs.declared.events.Act.TheVariants.{Boot, Stage, Activate}
use Rattle.store_model.specs.declared.ends.StageEnd.TheVariants as stages
use Rattle.store_model.specs.declared.ends.ActivateEnd.TheVariants as activations
use Rattle.store_model.specs.State.{State, sys_of, other_slot, with_sys, is_recovery}
use Rattle.store_model.specs.State as state
use Rattle.store_model.specs.State.Phase.{Filling, Sealed, Done}
use Rattle.store_model.specs.Systems.{at_hand, booted_verdict, staged_verdict, base_of}
use Rattle.store_model.specs.Step.{IsActDue, IsActDueIf, IsDue, next, next_broken, step}
use Rattle.store_model.specs.Acts.Boot.{HasSystem, IsWhole, base_after_boot}
use Rattle.store_model.specs.Acts.Stage.{abr_after_stage}
use Rattle.store_model.specs.Acts.Activate.{activated_at}
use Rattle.store_model.specs.Sound.{RunsItsSystem}
use Rattle.store_model.proofs.Frames.{keeps_next}
use Rattle.store_model.proofs.SoundSystems.{good_system}
use Rattle.store_model.proofs.SoundUpdates.{sys_at, turn_of, marked_active_in, system_first}
use Rattle.store_model.proofs.SoundSlots.{system_at}

-- by parts: the slot's system has its package in the base
abbrev BaseOf : Slot → Option Sys → Option Sys → List Pinned → Type 0
BaseOf running a b base = is_recovery running ≡ false → IsSomeAnd (sys_at a b running) (λ (sys : Sys). root_at base system_path ≡ Some sys.system)

abbrev BaseIn : State → Type 0
BaseIn s = BaseOf s.running s.a s.b s.base

same_base : (running running' : Slot) (a a' b b' : Option Sys) (base base' : List Pinned) → running' ≡ running → a' ≡ a → b' ≡ b → base' ≡ base → BaseOf running a b base → BaseOf running' a' b' base'
same_base running running' a a' b b' base base' e1 e2 e3 e4 h = rw (e1, e2, e3, e4) h

-- a change of the other slot
other_alone : (s : State) (running : Slot) (sys : Option Sys) (base : List Pinned) → BaseOf running s.a s.b base → BaseOf running (with_sys s (other_slot running) sys).a (with_sys s (other_slot running) sys).b base
other_alone s A sys base h = h
other_alone s B sys base h = h
other_alone s R sys base h = h

sys_base : (s : State) (slot : Slot) (sys : Option Sys) → BaseOf s.running (with_sys s slot sys).a (with_sys s slot sys).b s.base → BaseIn (with_sys s slot sys)
sys_base s A sys h = h
sys_base s B sys h = h
sys_base s R sys h = h

whole_base : (s : State) (seen : List LookedAt) (sys : Sys) → IsWhole (booted_verdict s seen sys) → root_at (base_of (booted_verdict s seen sys)) system_path ≡ Some sys.system
whole_base s seen sys whole =
    let found = good_system (at_hand s seen (λ root. true)) sys.system whole.0 whole.1 whole.2 in
    ap (λ (v : Verdict). root_at (base_of v) system_path) whole.2 ∙ system_first whole.0 found.rest sys.system found.first

base_of_sys : (s : State) (seen : List LookedAt) (held : Option Sys) → IsSomeAnd held (λ sys. IsWhole (booted_verdict s seen sys)) → IsSomeAnd held (λ (sys : Sys). root_at (base_after_boot s seen held) system_path ≡ Some sys.system)
base_of_sys s seen None whole = absurd whole
base_of_sys s seen (Some sys) whole = whole_base s seen sys whole

base_boot : (s : State) (seen : List LookedAt) (slot : Slot) → HasSystem s seen slot → BaseOf slot s.a s.b (base_after_boot s seen (sys_of s slot))
base_boot s seen A whole usual = base_of_sys s seen s.a whole
base_boot s seen B whole usual = base_of_sys s seen s.b whole
base_boot s seen R whole usual = absurd cc

base_next : (s : State) (number lane : ℕ) (act : Act) → IsActDue s lane act → BaseIn s → BaseIn (next s number lane act)
base_next s number lane (Boot slot seen) due h = base_boot s seen (boot_slot s.abr) (subst (λ (x : Slot). HasSystem s seen x) due.chosen due.whole)
base_next s number lane (Stage epoch (stages.Turn slot)) due h =
    let begun : Slot → State = λ sl. record s { abr = abr_after_stage s sl; stage = Some (record { lane = lane; phase = Filling }); staged = None } in
    subst (λ (sl : Slot). BaseIn (with_sys (begun sl) sl None)) (sym (turn_of s epoch slot due).other)
    (sys_base (begun (other_slot s.running)) (other_slot s.running) None (other_alone (begun (other_slot s.running)) s.running None s.base h))
base_next s number lane (Stage epoch stages.InRecovery) due h = h
base_next s number lane (Stage epoch (stages.Busy other)) due h = h
base_next s number lane (Stage epoch stages.NotCommitted) due h = h
base_next s number lane (Stage epoch (stages.Older have)) due h = h
base_next s number lane (Activate (activations.Active slot) seen) due h =
    let stage : s.stage ≡ Some (record { lane = lane; phase = Sealed due.sys }) = due.stage in
    let marked : Slot → State = λ sl. marked_active_in s lane sl (base_of (staged_verdict s seen due.sys)) in
    subst (λ (st : Option state.Stage). BaseIn (activated_at s lane seen slot st)) (sym stage)
    (subst (λ (sl : Slot). BaseIn (with_sys (marked sl) sl (Some due.sys))) (sym due.answer.1)
    (sys_base (marked (other_slot s.running)) (other_slot s.running) (Some due.sys) (other_alone (marked (other_slot s.running)) s.running (Some due.sys) s.base h)))
base_next s number lane (Activate (activations.BaseMissing root) seen) due h = h
base_next s number lane (Activate (activations.NotASystem why) seen) due h = h
base_next s number lane (Activate activations.DiskRead seen) due h = h
base_next s number lane (Activate (activations.Rotten root got) seen) due h = h
base_next s number lane act due h =
    let k = keeps_next s number lane act in
    let n = next s number lane act in
    same_base s.running n.running s.a n.a s.b n.b s.base n.base (k.running refl) (k.a refl) (k.b refl) (k.base refl) h

base_if : (s : State) (number lane : ℕ) (act : Act) (broke : Bool) → IsActDueIf broke s number lane act → BaseIn s → BaseIn (cond broke (next_broken s number act) (next s number lane act))
base_if s number lane act true due h = h
base_if s number lane act false due h = base_next s number lane act due h

-- from and to the words of soundness
at_slot : (s : State) (slot : Slot) (P : Sys → Type 0) → IsSomeAnd (sys_of s slot) P → IsSomeAnd (sys_at s.a s.b slot) P
at_slot s slot P h = subst (λ (o : Option Sys). IsSomeAnd o P) (system_at s slot) h

of_slot : (s : State) (slot : Slot) (P : Sys → Type 0) → IsSomeAnd (sys_at s.a s.b slot) P → IsSomeAnd (sys_of s slot) P
of_slot s slot P h = subst (λ (o : Option Sys). IsSomeAnd o P) (sym (system_at s slot)) h

pub base_step : (s : State) (number : ℕ) (e : Event) → IsDue s number e → RunsItsSystem s → RunsItsSystem (step s number e)
base_step s number e due h =
    let moved = base_if s number e.lane e.act e.broke due.due (λ usual. at_slot s s.running (λ (sys : Sys). root_at s.base system_path ≡ Some sys.system) (h.base usual)) in
    let new = step s number e in
    record { base = λ usual. of_slot new new.running (λ (sys : Sys). root_at new.base system_path ≡ Some sys.system) (moved usual) }
