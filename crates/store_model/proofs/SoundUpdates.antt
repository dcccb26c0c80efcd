-- What an update that is under way, or was activated, says of the slots and of what is retained.
use Rattle.std.proofs.Common.{inl, inr, ◌≡◌, ℕ, Bool, true, false, cond, not, List, ◌∷◌, Option, Some, None, is_some, All, refl, sym, ap, subst, ◌∙◌, ◌||◌, ◌&&◌}
use Rattle.std.specs.Prelude.{◌↔◌, nat_lt, IfSome, IsSomeAnd}
use Rattle.std.proofs.lemmas.Bool.{cases_Bool, true≢false, and_from, and_parts, or_right, not-true, not-false}
use Rattle.std.proofs.lemmas.Option.{IfSome_then}
use Rattle.std.proofs.lemmas.List.Elements.{All-weaker}
use Rattle.pkg_names.specs.declared.root.Root.{Root}
use Rattle.pkg_names.specs.declared.pinned.Pinned.{Pinned}
use Rattle.abr_record.specs.declared.Record.{Record}
use Rattle.abr_record.specs.declared.Slot.{Slot}
use Rattle.abr_record.specs.declared.Slot.TheVariants.{A, B, R}
use Rattle.abr_record.specs.Marks.{unbootable_record, active_record}
use Rattle.image_layout.specs.declared.Sys.{Sys}
use Rattle.package_indexes.specs.Indexes.{root_at}
use Rattle.system_lists.specs.Judging.{system_path}
use Rattle.system_lists.specs.Judging.Verdict.{Whole}
use Rattle.store_model.specs.declared.events.Event.{Event}
use Rattle.store_model.specs.declared.events.LookedAt.{LookedAt}
use Rattle.store_model.specs.declared.events.Act.{Act}
use Rattle.store_model.specs.declared.events.Act.TheVariants.{Boot, Retain, Stage, Seal, Activate, LeftStage, Commit}
use Rattle.store_model.specs.declared.ends.RetainEnd.TheVariants as retains
use Rattle.store_model.specs.declared.ends.StageEnd.{StageEnd}
use Rattle.store_model.specs.declared.ends.StageEnd.TheVariants as stages
use Rattle.store_model.specs.declared.ends.ActivateEnd.{ActivateEnd}
use Rattle.store_model.specs.declared.ends.ActivateEnd.TheVariants as activations
use Rattle.store_model.specs.State.{State, Phase, has_root, sys_of, other_slot, with_sys, is_recovery, is_successful, is_other_bootable, is_committed, is_pending, running_epoch, protected_in}
use Rattle.store_model.specs.State as state
use Rattle.store_model.specs.State.Phase.{Filling, Sealed, Done}
use Rattle.store_model.specs.Packages.{is_complete}
use Rattle.store_model.specs.Systems.{at_hand, staged_verdict, base_of}
use Rattle.store_model.specs.Step.{IsActDue, IsActDueIf, IsDue, next, next_broken, next_of, seen_by, is_boot, step}
use Rattle.package_indexes.specs.Sets.{each_once}
use Rattle.store_model.specs.Acts.Stage.{free_answer, held_answer, stage_answer, staging, abr_after_stage}
use Rattle.store_model.specs.Acts.Activate.{activated, activated_at}
use Rattle.store_model.specs.Sound.{IsActivated, IsInPhase}
use Rattle.store_model.proofs.Frames.{keeps_next, books_next}
use Rattle.store_model.proofs.SoundBooks.{settles_complete}
use Rattle.store_model.proofs.SoundSystems.{IsGood, good_system}
use Rattle.store_model.proofs.SoundPackages.{IsReady, by_retained, good_complete, still_ready}

-- ---- by parts of the state

abbrev pub sys_at : Option Sys → Option Sys → Slot → Option Sys
sys_at a b A = a
sys_at a b B = b
sys_at a b R = None

pub record Activated (abr : Record) (running : Slot) (a b : Option Sys) (kept : List Root) (P : Root → Type 0) (base : List Pinned) : Type 0 where
  succeeded : is_successful abr running ≡ true
  other : is_other_bootable abr running ≡ true
  system : IsSomeAnd (sys_at a b (other_slot running)) (λ (sys : Sys). root_at base system_path ≡ Some sys.system)
  retained : All (λ (pair : Pinned). has_root kept pair.root ≡ true) base
  complete : All (λ (pair : Pinned). P pair.root) base

pub record UnderWay (abr : Record) (running : Slot) : Type 0 where
  pub succeeded : is_successful abr running ≡ true
  pub other : is_other_bootable abr running ≡ false

abbrev pub InPhase : Record → Slot → Phase → Type 0
InPhase abr running Filling = UnderWay abr running
InPhase abr running (Sealed sys) = UnderWay abr running
InPhase abr running Done = Unit {0}

pub record Updates (abr : Record) (running : Slot) (a b : Option Sys) (kept : List Root) (under_way : Option state.Stage) (activated : Option (List Pinned)) (P : Root → Type 0) : Type 0 where
  pub staged : IfSome activated (Activated abr running a b kept P)
  pub stage : IfSome under_way (λ (s : state.Stage). InPhase abr running s.phase)

abbrev pub UpdatesOf : State → (Root → Type 0) → Type 0
UpdatesOf s P = Updates s.abr s.running s.a s.b s.retained s.stage s.staged P

same_updates : (P : Root → Type 0) (abr abr' : Record) (running running' : Slot) (a a' b b' : Option Sys) (retained retained' : List Root) (stage stage' : Option state.Stage) (staged staged' : Option (List Pinned))
    → abr' ≡ abr → running' ≡ running → a' ≡ a → b' ≡ b → retained' ≡ retained → stage' ≡ stage → staged' ≡ staged
    → Updates abr running a b retained stage staged P → Updates abr' running' a' b' retained' stage' staged' P
same_updates P abr abr' running running' a a' b b' retained retained' stage stage' staged staged' e1 e2 e3 e4 e5 e6 e7 h =
    rw (e1, e2, e3, e4, e5, e6, e7) h

weaker_updates : (abr : Record) (running : Slot) (a b : Option Sys) (retained : List Root) (stage : Option state.Stage) (staged : Option (List Pinned)) (P Q : Root → Type 0)
    → ((root : Root) → has_root retained root ≡ true → P root → Q root) → Updates abr running a b retained stage staged P → Updates abr running a b retained stage staged Q
weaker_updates abr running a b retained stage staged P Q f h = record {
  staged = IfSome_then staged h.staged (λ base r. record {
    succeeded = r.succeeded;
    other = r.other;
    system = r.system;
    retained = r.retained;
    complete = λ k d lt. f _ (r.retained k d lt) (r.complete k d lt);
  });
  stage = h.stage;
}

-- ---- in the words of soundness

system_of : (s : State) (base : List Pinned) → IsSomeAnd (sys_of s (other_slot s.running)) (λ (sys : Sys). root_at base system_path ≡ Some sys.system) ↔ IsSomeAnd (sys_at s.a s.b (other_slot s.running)) (λ (sys : Sys). root_at base system_path ≡ Some sys.system)
system_of s base = (λ h. ap_to (other_slot s.running) h, λ h. ap_from (other_slot s.running) h) where
  ap_to : (slot : Slot) → IsSomeAnd (sys_of s slot) (λ (sys : Sys). root_at base system_path ≡ Some sys.system) → IsSomeAnd (sys_at s.a s.b slot) (λ (sys : Sys). root_at base system_path ≡ Some sys.system)
  ap_to A h = h
  ap_to B h = h
  ap_to R h = h

  ap_from : (slot : Slot) → IsSomeAnd (sys_at s.a s.b slot) (λ (sys : Sys). root_at base system_path ≡ Some sys.system) → IsSomeAnd (sys_of s slot) (λ (sys : Sys). root_at base system_path ≡ Some sys.system)
  ap_from A h = h
  ap_from B h = h
  ap_from R h = h

pub record IsUpdateSound (s : State) : Type 0 where
  pub staged : IfSome s.staged (IsActivated s)
  pub stage : IfSome s.stage (λ (stage : state.Stage). IsInPhase s stage.phase)
  pub before : s.booted ≡ false → (s.stage ≡ None) × (s.staged ≡ None)

phase_to : (s : State) (phase : Phase) → IsInPhase s phase → InPhase s.abr s.running phase
phase_to s Filling h = record { succeeded = h.running; other = h.other }
phase_to s (Sealed sys) h = record { succeeded = h.running; other = h.other }
phase_to s Done h = tt

phase_from : (s : State) (phase : Phase) → InPhase s.abr s.running phase → IsInPhase s phase
phase_from s Filling h = record { running = h.succeeded; other = h.other }
phase_from s (Sealed sys) h = record { running = h.succeeded; other = h.other }
phase_from s Done h = tt

pub updates_to : (s : State) → IsUpdateSound s → UpdatesOf s (λ root. is_complete s root ≡ true)
updates_to s h = record {
  staged = IfSome_then s.staged h.staged (λ base r. record {
    succeeded = r.running;
    other = r.other;
    system = (system_of s base).0 r.system;
    retained = λ k d lt. (r.packages k d lt).retained;
    complete = λ k d lt. (r.packages k d lt).complete;
  });
  stage = IfSome_then s.stage h.stage (λ stage r. phase_to s stage.phase r);
}

staged_from : (s : State) → UpdatesOf s (λ root. is_complete s root ≡ true) → IfSome s.staged (IsActivated s)
staged_from s h = IfSome_then s.staged h.staged (λ base r. record {
  running = r.succeeded;
  other = r.other;
  system = (system_of s base).1 r.system;
  packages = λ k d lt. record { retained = r.retained k d lt; complete = r.complete k d lt };
})

stage_from : (s : State) → UpdatesOf s (λ root. is_complete s root ≡ true) → IfSome s.stage (λ (stage : state.Stage). IsInPhase s stage.phase)
stage_from s h = IfSome_then s.stage h.stage (λ stage r. phase_from s stage.phase r)

-- ---- the acts of an update

-- a running system that has succeeded, and an update that was activated or is under way, is committed
committed_by : (s : State) → is_successful s.abr s.running ≡ true → (not (is_other_bootable s.abr s.running) || is_some s.staged) ≡ true → is_committed s ≡ true
committed_by s succeeded rest = and_from _ _ succeeded rest

not_pending : (s : State) → true ≡ is_pending s → is_committed s ≡ true → ⊥
not_pending s due committed = true≢false (due ∙ pending_no (is_recovery s.running) (is_committed s) committed) where
  pending_no : (r c : Bool) → c ≡ true → (not r && not c) ≡ false
  pending_no true c e = refl
  pending_no false true e = refl
  pending_no false false e = absurd cc

-- of a commit
updates_commit : (s : State) (lane : ℕ) (P : Root → Type 0) (abr : Record) → true ≡ is_pending s → UpdatesOf s P → Updates abr s.running s.a s.b s.retained s.stage s.staged P
updates_commit s lane P abr due h = record {
  staged = go s.staged refl h.staged;
  stage = IfSome_then s.stage h.stage (λ stage r. in_phase stage.phase r);
} where
  go : (staged : Option (List Pinned)) → s.staged ≡ staged → IfSome staged (Activated s.abr s.running s.a s.b s.retained P) → IfSome staged (Activated abr s.running s.a s.b s.retained P)
  go None e r = tt
  go (Some base) e r = absurd (not_pending s due (committed_by s r.succeeded (or_right (not (is_other_bootable s.abr s.running)) (is_some s.staged) (ap (λ (o : Option (List Pinned)). is_some o) e))))

  in_phase : (phase : Phase) → InPhase s.abr s.running phase → InPhase abr s.running phase
  in_phase Filling r = absurd (not_pending s due (committed_by s r.succeeded (rw r.other refl)))
  in_phase (Sealed sys) r = absurd (not_pending s due (committed_by s r.succeeded (rw r.other refl)))
  in_phase Done r = tt

-- of a set that is retained
updates_retain : (s : State) (P : Root → Type 0) (roots : List Root) → is_other_bootable s.abr s.running ≡ false → UpdatesOf s P → Updates s.abr s.running s.a s.b roots s.stage s.staged P
updates_retain s P roots free h = record {
  staged = IfSome_then s.staged h.staged (λ base r. absurd (true≢false (sym r.other ∙ free)));
  stage = h.stage;
}

-- of an update that begins
pub record IsTurn (s : State) (slot : Slot) : Type 0 where
  pub usual : is_recovery s.running ≡ false
  pub committed : is_committed s ≡ true
  pub other : slot ≡ other_slot s.running

same_turn : (x y : Slot) → stages.Turn x ≡ stages.Turn y → x ≡ y
same_turn x y same = cc

past_recovery : (slot : Slot) (r : Bool) (rest : StageEnd) → stages.Turn slot ≡ cond r stages.InRecovery rest → (r ≡ false) × (stages.Turn slot ≡ rest)
past_recovery slot true rest e = absurd cc
past_recovery slot false rest e = (refl, e)

past_holder : (s : State) (epoch : ℕ) (slot : Slot) (stage : Option state.Stage) → stages.Turn slot ≡ held_answer s epoch stage → stages.Turn slot ≡ free_answer s epoch
past_holder s epoch slot None e = e
past_holder s epoch slot (Some stage) e = absurd cc

past_committed : (slot : Slot) (c : Bool) (rest : StageEnd) → stages.Turn slot ≡ cond (not c) stages.NotCommitted rest → (c ≡ true) × (stages.Turn slot ≡ rest)
past_committed slot false rest e = absurd cc
past_committed slot true rest e = (refl, e)

past_epoch : (slot other : Slot) (have : ℕ) (older : Bool) → stages.Turn slot ≡ cond older (stages.Older have) (stages.Turn other) → slot ≡ other
past_epoch slot other have true e = absurd cc
past_epoch slot other have false e = same_turn slot other e

pub turn_of : (s : State) (epoch : ℕ) (slot : Slot) → stages.Turn slot ≡ stage_answer s epoch → IsTurn s slot
turn_of s epoch slot e =
    let first = past_recovery slot (is_recovery s.running) (held_answer s epoch s.stage) e in
    let second = past_holder s epoch slot s.stage first.1 in
    let third = past_committed slot (is_committed s) (cond (nat_lt epoch (running_epoch s)) (stages.Older (running_epoch s)) (stages.Turn (other_slot s.running))) second in
    record {
      usual = first.0;
      committed = third.0;
      other = past_epoch slot (other_slot s.running) (running_epoch s) (nat_lt epoch (running_epoch s)) third.1;
    }

-- the other slot can't be booted from then on
filling : (abr : Record) (running : Slot) → is_recovery running ≡ false → is_successful abr running ≡ true → UnderWay (cond (is_other_bootable abr running) (unbootable_record (other_slot running) abr) abr) running
filling abr A usual succeeded =
    elim (cases_Bool (is_other_bootable abr A)) [
      | inl bootable ↦ rw bootable (record { succeeded = succeeded; other = refl })
      | inr free ↦ rw free (record { succeeded = succeeded; other = free })
    ]
filling abr B usual succeeded =
    elim (cases_Bool (is_other_bootable abr B)) [
      | inl bootable ↦ rw bootable (record { succeeded = succeeded; other = refl })
      | inr free ↦ rw free (record { succeeded = succeeded; other = free })
    ]
filling abr R usual succeeded = absurd cc

sys_parts : (s : State) (slot : Slot) (sys : Option Sys) (P : Root → Type 0) → Updates s.abr s.running (with_sys s slot sys).a (with_sys s slot sys).b s.retained s.stage s.staged P → UpdatesOf (with_sys s slot sys) P
sys_parts s A sys P h = h
sys_parts s B sys P h = h
sys_parts s R sys P h = h

updates_stage : (s : State) (lane epoch : ℕ) (slot : Slot) (P : Root → Type 0) → stages.Turn slot ≡ stage_answer s epoch → UpdatesOf (staging s lane slot) P
updates_stage s lane epoch slot P e =
    let turn = turn_of s epoch slot e in
    let succeeded = (and_parts (is_successful s.abr s.running) (not (is_other_bootable s.abr s.running) || is_some s.staged) turn.committed).0 in
    let begun : State = record s { abr = abr_after_stage s slot; stage = Some (record { lane = lane; phase = Filling }); staged = None } in
    sys_parts begun slot None P (record {
      staged = tt;
      stage = rw turn.other (filling s.abr s.running turn.usual succeeded);
    })

-- of an update that is activated
marked_active : (abr : Record) (running : Slot) → is_successful abr running ≡ true → (is_successful (active_record (other_slot running) abr) running ≡ true) × (is_other_bootable (active_record (other_slot running) abr) running ≡ true)
marked_active abr A succeeded = (succeeded, refl)
marked_active abr B succeeded = (succeeded, refl)
marked_active abr R succeeded = absurd cc

sys_there : (s : State) (running : Slot) (abr : Record) (sys : Sys) (P : Sys → Type 0) → is_successful abr running ≡ true → P sys → IsSomeAnd (sys_at (with_sys s (other_slot running) (Some sys)).a (with_sys s (other_slot running) (Some sys)).b (other_slot running)) P
sys_there s A abr sys P succeeded h = h
sys_there s B abr sys P succeeded h = h
sys_there s R abr sys P succeeded h = absurd cc

under_way : (s : State) (phase : Phase) (sys : Sys) → phase ≡ Sealed sys → InPhase s.abr s.running phase → UnderWay s.abr s.running
under_way s Filling sys e h = absurd cc
under_way s (Sealed other) sys e h = h
under_way s Done sys e h = absurd cc

pub sealed_in : (s : State) (lane : ℕ) (sys : Sys) (stage : Option state.Stage) → stage ≡ Some (record { lane = lane; phase = Sealed sys }) → IfSome stage (λ (st : state.Stage). InPhase s.abr s.running st.phase) → UnderWay s.abr s.running
sealed_in s lane sys None e h = absurd cc
sealed_in s lane sys (Some stage) e h = under_way s stage.phase sys (phase_same e) h where
  phase_same : ◌≡◌ {A = Option state.Stage} (Some stage) (Some (record { lane = lane; phase = Sealed sys })) → stage.phase ≡ Sealed sys
  phase_same same = ap (λ (st : state.Stage). st.phase) (some_is stage (record { lane = lane; phase = Sealed sys }) same) where
    some_is : (x y : state.Stage) → ◌≡◌ {A = Option state.Stage} (Some x) (Some y) → x ≡ y
    some_is x y e2 = cc

pub system_first : (base rest : List Pinned) (root : Root) → base ≡ record { path = system_path; root = root } ∷ rest → root_at base system_path ≡ Some root
system_first base rest root e = ap (λ (pairs : List Pinned). root_at pairs system_path) e

-- the state after an activation, by its base
abbrev pub marked_active_in : State → ℕ → Slot → List Pinned → State
marked_active_in s lane slot base = record s { abr = active_record slot s.abr; stage = Some (record { lane = lane; phase = Done }); staged = Some base }

updates_marked : (s : State) (lane : ℕ) (seen : List LookedAt) (sys : Sys) (base cached : List Pinned) (P : Root → Type 0) → UnderWay s.abr s.running → staged_verdict s seen sys ≡ Whole base cached
    → ((root : Root) → IsGood (at_hand s seen (has_root s.retained)) root → P root) → UpdatesOf (with_sys (marked_active_in s lane (other_slot s.running) base) (other_slot s.running) (Some sys)) P
updates_marked s lane seen sys base cached P h verdict good =
    let marked = marked_active_in s lane (other_slot s.running) base in
    let now = marked_active s.abr s.running h.succeeded in
    let whole = good_system (at_hand s seen (has_root s.retained)) sys.system base cached verdict in
    sys_parts marked (other_slot s.running) (Some sys) P (record {
      staged = record {
        succeeded = now.0;
        other = now.1;
        system = sys_there marked s.running s.abr sys (λ (y : Sys). root_at base system_path ≡ Some y.system) h.succeeded (system_first base whole.rest sys.system whole.first);
        retained = All-weaker (λ (pair : Pinned). IsGood (at_hand s seen (has_root s.retained)) pair.root) (λ (pair : Pinned). has_root s.retained pair.root ≡ true) (λ pair g. g.kept) base whole.good;
        complete = All-weaker (λ (pair : Pinned). IsGood (at_hand s seen (has_root s.retained)) pair.root) (λ (pair : Pinned). P pair.root) (λ pair g. good pair.root g) base whole.good;
      };
      stage = tt;
    })

updates_activate : (s : State) (lane : ℕ) (seen : List LookedAt) (slot : Slot) (sys : Sys) (base cached : List Pinned) (P : Root → Type 0) → slot ≡ other_slot s.running → UnderWay s.abr s.running → staged_verdict s seen sys ≡ Whole base cached
    → ((root : Root) → IsGood (at_hand s seen (has_root s.retained)) root → P root) → UpdatesOf (activated s lane seen slot sys) P
updates_activate s lane seen slot sys base cached P e h verdict good =
    let same : base_of (staged_verdict s seen sys) ≡ base = ap base_of verdict in
    subst (λ (sl : Slot). UpdatesOf (with_sys (marked_active_in s lane sl (base_of (staged_verdict s seen sys))) sl (Some sys)) P) (sym e)
    (subst (λ (pairs : List Pinned). UpdatesOf (with_sys (marked_active_in s lane (other_slot s.running) pairs) (other_slot s.running) (Some sys)) P) (sym same)
    (updates_marked s lane seen sys base cached P h verdict good))

updates_activate_at : (s : State) (number lane : ℕ) (seen : List LookedAt) (slot : Slot) (P : Root → Type 0) → IsActDue s lane (Activate (activations.Active slot) seen) → UpdatesOf s P
    → ((root : Root) → IsGood (at_hand s seen (has_root s.retained)) root → P root) → UpdatesOf (next s number lane (Activate (activations.Active slot) seen)) P
updates_activate_at s number lane seen slot P due h good =
    let stage : s.stage ≡ Some (record { lane = lane; phase = Sealed due.sys }) = due.stage in
    let whole = due.answer.0 in
    subst (λ (st : Option state.Stage). UpdatesOf (activated_at s lane seen slot st) P) (sym stage)
    (updates_activate s lane seen slot due.sys whole.0 whole.1 P due.answer.1 (sealed_in s lane due.sys s.stage stage h.stage) whole.2 good)

-- ---- each act

seal_way : (s : State) (lane : ℕ) (stage : Option state.Stage) → stage ≡ Some (record { lane = lane; phase = Filling }) → IfSome stage (λ (st : state.Stage). InPhase s.abr s.running st.phase) → UnderWay s.abr s.running
seal_way s lane None e h = absurd cc
seal_way s lane (Some stage) e h = filled stage.phase (ap (λ (st : state.Stage). st.phase) (some_is stage (record { lane = lane; phase = Filling }) e)) h where
  some_is : (x y : state.Stage) → ◌≡◌ {A = Option state.Stage} (Some x) (Some y) → x ≡ y
  some_is x y e2 = cc

  filled : (phase : Phase) → phase ≡ Filling → InPhase s.abr s.running phase → UnderWay s.abr s.running
  filled Filling same h2 = h2
  filled (Sealed other) same h2 = h2
  filled Done same h2 = absurd cc

updates_next : (s : State) (number lane : ℕ) (act : Act) (P : Root → Type 0) → is_boot act ≡ not s.booted → IsActDue s lane act → (s.booted ≡ false → (s.stage ≡ None) × (s.staged ≡ None))
    → ((seen : List LookedAt) (reply : ActivateEnd) → act ≡ Activate reply seen → (root : Root) → IsGood (at_hand s seen (has_root s.retained)) root → P root)
    → UpdatesOf s P → UpdatesOf (next s number lane act) P
updates_next s number lane (Boot slot seen) P boots due before good h =
    let none = before (not-true s.booted (sym boots)) in
    record { staged = rw none.1 tt; stage = rw none.0 tt }
updates_next s number lane (Retain roots retains.Done seen) P boots due before good h = updates_retain s P (each_once roots) due h
updates_next s number lane (Retain roots retains.SlotInUse seen) P boots due before good h = h
updates_next s number lane (Retain roots retains.DiskRead seen) P boots due before good h = h
updates_next s number lane (Retain roots (retains.Rotten root got) seen) P boots due before good h = h
updates_next s number lane (Stage epoch (stages.Turn slot)) P boots due before good h = updates_stage s lane epoch slot P due
updates_next s number lane (Stage epoch stages.InRecovery) P boots due before good h = h
updates_next s number lane (Stage epoch (stages.Busy other)) P boots due before good h = h
updates_next s number lane (Stage epoch stages.NotCommitted) P boots due before good h = h
updates_next s number lane (Stage epoch (stages.Older have)) P boots due before good h = h
updates_next s number lane (Seal sys None) P boots due before good h = record { staged = h.staged; stage = seal_way s lane s.stage due.0 h.stage }
updates_next s number lane (Seal sys (Some difference)) P boots due before good h = h
updates_next s number lane (Activate (activations.Active slot) seen) P boots due before good h =
    updates_activate_at s number lane seen slot P due h (good seen (activations.Active slot) refl)
updates_next s number lane (Activate (activations.BaseMissing root) seen) P boots due before good h = h
updates_next s number lane (Activate (activations.NotASystem why) seen) P boots due before good h = h
updates_next s number lane (Activate activations.DiskRead seen) P boots due before good h = h
updates_next s number lane (Activate (activations.Rotten root got) seen) P boots due before good h = h
updates_next s number lane LeftStage P boots due before good h = record { staged = h.staged; stage = tt }
updates_next s number lane (Commit true) P boots due before good h = updates_commit s lane P (next s number lane (Commit true)).abr due h
updates_next s number lane (Commit false) P boots due before good h = h
updates_next s number lane act P boots due before good h =
    let k = keeps_next s number lane act in
    let n = next s number lane act in
    same_updates P s.abr n.abr s.running n.running s.a n.a s.b n.b s.retained n.retained s.stage n.stage s.staged n.staged
    (k.abr refl) (k.running refl) (k.a refl) (k.b refl) (k.retained refl) (k.stage refl) (k.staged refl) h

before_if : (s : State) (number lane : ℕ) (act : Act) (broke : Bool) → is_boot act ≡ not s.booted → (s.booted ≡ false → (s.stage ≡ None) × (s.staged ≡ None))
    → (cond broke (next_broken s number act) (next s number lane act)).booted ≡ false → ((cond broke (next_broken s number act) (next s number lane act)).stage ≡ None) × ((cond broke (next_broken s number act) (next s number lane act)).staged ≡ None)
before_if s number lane act true boots before opening = before opening
before_if s number lane (Boot slot seen) false boots before opening = absurd (true≢false opening)
before_if s number lane act false boots before opening =
    absurd (true≢false (sym (not-false s.booted (sym boots)) ∙ sym ((keeps_next s number lane act).booted refl) ∙ opening))

-- the base of a system that was activated is complete by what the books are settled from
good_if : (s : State) (number lane : ℕ) (act : Act) (seen : List LookedAt) (reply : ActivateEnd) → act ≡ Activate reply seen → (root : Root) → IsGood (at_hand s seen (has_root s.retained)) root → IsReady (seen_by act) (next s number lane act) root
good_if s number lane act seen reply e root good =
    subst (λ (a : Act). IsReady (seen_by a) (next s number lane a) root) (sym e)
    (rw (books_next s number lane (Activate reply seen), (keeps_next s number lane (Activate reply seen)).stock refl) (good_complete s seen (has_root s.retained) root good))

updates_if : (s : State) (number lane : ℕ) (act : Act) (broke : Bool) → is_boot act ≡ not s.booted → IsActDueIf broke s number lane act → (s.booted ≡ false → (s.stage ≡ None) × (s.staged ≡ None))
    → UpdatesOf s (IsReady (seen_by act) (cond broke (next_broken s number act) (next s number lane act))) → UpdatesOf (cond broke (next_broken s number act) (next s number lane act)) (IsReady (seen_by act) (cond broke (next_broken s number act) (next s number lane act)))
updates_if s number lane act true boots due before h = h
updates_if s number lane act false boots due before h =
    updates_next s number lane act (IsReady (seen_by act) (next s number lane act)) boots due before
    (λ seen reply e root good. good_if s number lane act seen reply e root good) h

pub updates_step : (s : State) (number : ℕ) (e : Event) → IsDue s number e → IsUpdateSound s → IsUpdateSound (step s number e)
updates_step s number e due h =
    let n = next_of s number e in
    let seen = seen_by e.act in
    let ready = weaker_updates s.abr s.running s.a s.b s.retained s.stage s.staged (λ root. is_complete s root ≡ true) (IsReady seen n)
    (λ root kept complete. still_ready s number e due root (record { protected = by_retained s root kept; complete = complete })) (updates_to s h) in
    let moved = updates_if s number e.lane e.act e.broke due.boots due.due h.before ready in
    let settled = weaker_updates n.abr n.running n.a n.b n.retained n.stage n.staged (IsReady seen n) (λ root. is_complete (step s number e) root ≡ true)
    (λ root kept complete. settles_complete seen n root complete (by_retained n root kept)) moved in
    record {
      staged = staged_from (step s number e) settled;
      stage = stage_from (step s number e) settled;
      before = before_if s number e.lane e.act e.broke due.boots h.before;
    }
