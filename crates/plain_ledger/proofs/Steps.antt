-- Calls after which the books know what they knew.
use Rattle.std.proofs.Common.{◌≡◌, ◌≤◌, ◌+◌, ℕ, Bool, true, false, List, [], length, Some, None, refl, sym, ap, subst, arith, ◌∙◌}
use Rattle.std.proofs.lemmas.List.{length_push, length-map}
use Rattle.std.specs.Prelude.{IsSomeAnd, if◌then◌else◌}
use Rattle.pkg_names.specs.NameAndVariant.{NameAndVariant}
use Rattle.pkg_names.specs.declared.root.Root.{Root}
use Rattle.pkg_names.specs.Root.{root_eq}
use Rattle.abr_record.specs.declared.Slot.{Slot}
use Rattle.abr_record.specs.declared.Slot.TheVariants as slots
use Rattle.image_layout.specs.declared.Sys.{Sys}
use Rattle.fetch_queue.specs.declared.FetchEnd.{FetchEnd}
use Rattle.fetch_queue.specs.declared.FetchEnd.TheVariants as ends
use Rattle.fetch_queue.specs.declared.queue.ClaimEntry.{ClaimEntry}
use Rattle.fetch_queue.specs.Fetches.{is_claimed, roomed, without_claim}
use Rattle.store_model.specs.declared.ends.Miss.{Miss}
use Rattle.store_model.specs.declared.ends.Miss.TheVariants as misses
use Rattle.store_model.specs.declared.ends.WantEnd.TheVariants as wants
use Rattle.store_model.specs.declared.ends.StageEnd.TheVariants as stages
use Rattle.store_model.specs.declared.events.Act.{Act}
use Rattle.store_model.specs.declared.events.Act.TheVariants as acts
use Rattle.store_model.specs.declared.events.Event.{Event}
use Rattle.store_model.specs.declared.events.LookedAt.{LookedAt}
use Rattle.store_model.specs.State.{State, Stage, IsStageOf, claim_of, is_pending, is_committed, other_slot}
use Rattle.store_model.specs.State.Phase.{Filling}
use Rattle.store_model.specs.Packages.{rest as unnamed}
use Rattle.store_model.specs.Step.{IsActDue, is_boot, next, seen_by}
use Rattle.store_model.specs.History.{Origin}
use Rattle.store_model.specs.Acts.Want.{IsDueWant, next_want}
use Rattle.store_model.specs.Acts.Room.{IsDueRoom, next_room}
use Rattle.store_model.specs.Acts.Put.{IsDuePut}
use Rattle.store_model.specs.Acts.Land.{IsDueLand}
use Rattle.store_model.specs.Acts.Missed.{IsDueMissed, next_missed}
use Rattle.store_model.specs.Acts.Marking.{ended, marked}
use Rattle.store_model.specs.Acts.LeftStage.{IsDueLeftStage, next_left_stage}
use Rattle.store_model.specs.Acts.Commit.{next_commit}
use Rattle.store_model.specs.Acts.Collect.{collect_answer, next_collect}
use Rattle.store_model.specs.Acts.Seal.{next_seal}
use Rattle.store_model.specs.Acts.OpenPath.{next_open_path, root_to_open}
use Rattle.store_model.specs.Acts.Stage.{stage_answer, staging}
use Rattle.store_model.proofs.LanesOnce.{granted as granted_to}
use Rattle.plain_state.specs.Holdings.{ends_due, stage_ends}
use Rattle.plain_state.specs.Learning.{IsSettled}
use Rattle.plain_state.proofs.SettledStill.{stays, grants, makes_room, unclaims, ends as ends_settled, stages as stages_settled, seals, leaves_stage, commits, opens_path, collects}
use Rattle.plain_ledger.specs.Ledgers.{LedgerOf, IsLedger, IsStill, Noted, Pushes}
use Rattle.plain_ledger.proofs.Counting.{shorter, found}
use Rattle.plain_ledger.proofs.Turns.{turn_of}
use Rattle.plain_ledger.proofs.Ledgers.{Came, here, quietly, ready, seen_as}

-- the call left exactly what the act leaves
as_next : {n s : State} → s ≡ n → IsSettled [] n n → IsSettled [] n s
as_next {n} is settled = subst (IsSettled [] n) (sym is) settled

-- an act that leaves the state as it is
pub noted : {o : Origin} {h : List Event} {spare : ℕ} {s : State} {n1 n2 : Noted} {old : LedgerOf} {lane : ℕ} {act : Act}
    → seen_as o h s ≡ old → IsLedger o h spare s → n1.events ≡ h → ends_due s + 1 ≤ n1.spare → Pushes lane act n1 n2
    → IsActDue old.state lane act → IsStill old.state act → Came o n2 s old lane act
noted {h = h} {s = s} {n2 = n2} {lane = lane} {act = act} view l same room pushed due stays_so =
    let still : IsStill s act = here (λ (t : State). IsStill t act) view stays_so in
    let is : next s (length h + 1) lane act ≡ s = still.state (length h + 1) lane in
    quietly view l same pushed due still.later still.seen (ap (λ (n : State). n.booted) is) (ap (λ (n : State). n.broken) is)
    (subst (λ (n : State). IsSettled [] n s) (sym is) (stays s (ready l)))
    (subst (λ (n : State). ends_due n ≤ n2.spare) (sym is) (omega (arith, room, pushed.spare)))

-- ---- claims

pub granted : {o : Origin} {h : List Event} {spare : ℕ} {s s2 : State} {n1 n2 : Noted} {old : LedgerOf} {lane ticket : ℕ} {root : Root}
    → seen_as o h s ≡ old → IsLedger o h spare s → n1.events ≡ h → ends_due s + 2 ≤ n1.spare
    → Pushes lane (acts.Want ticket (wants.Fetch root)) n1 n2 → IsDueWant old.state lane ticket (wants.Fetch root)
    → s2 ≡ next_want s 0 lane ticket (wants.Fetch root) → Came o n2 s2 old lane (acts.Want ticket (wants.Fetch root))
granted {h = h} {s = s} {lane = lane} {ticket = ticket} {root = root} view l same room pushed due is =
    quietly view l same pushed due refl refl refl refl (as_next is (grants s (length h + 1) lane ticket root (ready l)))
    (omega (arith, pushed.spare, room, length_push s.claims (record { root = root; lane = lane; len = None })))

-- a blob that is granted isn't claimed
pub free : {o : Origin} {h : List Event} {s : State} {old : LedgerOf} (lane ticket : ℕ) (root : Root)
    → seen_as o h s ≡ old → IsDueWant old.state lane ticket (wants.Fetch root) → is_claimed s.claims root ≡ false
free {s = s} lane ticket root view due =
    (granted_to s lane ticket root (here (λ (t : State). IsDueWant t lane ticket (wants.Fetch root)) view due)).claimed

pub roomy : {o : Origin} {h : List Event} {spare : ℕ} {s s2 : State} {n1 n2 : Noted} {old : LedgerOf} {lane len : ℕ} {root : Root}
    → seen_as o h s ≡ old → IsLedger o h spare s → n1.events ≡ h → ends_due s + 1 ≤ n1.spare
    → Pushes lane (acts.Room root len None) n1 n2 → IsDueRoom old.state lane root len None
    → s2 ≡ next_room s root len None → Came o n2 s2 old lane (acts.Room root len None)
roomy {s = s} {len = len} {root = root} view l same room pushed due is =
    quietly view l same pushed due refl refl refl refl (as_next is (makes_room s root len (ready l)))
    (omega (arith, pushed.spare, room, length-map s.claims (roomed root len)))

-- a place is held for a claim's end
pub held_claim : {o : Origin} {h : List Event} {spare : ℕ} {s : State} {old : LedgerOf} (root : Root) (P : ClaimEntry → Type 0)
    → seen_as o h s ≡ old → IsLedger o h spare s → IsSomeAnd (claim_of old.state.claims root) P
    → length (without_claim s.claims root) + length s.arriving + length s.dirs + stage_ends s.stage + 1 ≤ spare
held_claim {s = s} root P view l due =
    let there = found (claim_of s.claims root) P (here (λ (t : State). IsSomeAnd (claim_of t.claims root) P) view due) in
    omega (arith, l.enough, shorter (λ (c : ClaimEntry). root_eq c.root root) there.it s.claims there.is)

-- the fetch of a claimed blob ends
fetch_ended : {o : Origin} {h : List Event} {s s2 : State} {n1 n2 : Noted} {old : LedgerOf} {lane : ℕ} {act : Act} (root : Root) (end : FetchEnd) (P : ClaimEntry → Type 0)
    → seen_as o h s ≡ old → IsLedger o h n1.spare s → n1.events ≡ h → Pushes lane act n1 n2 → IsActDue old.state lane act
    → is_boot act ≡ false → seen_by act ≡ [] → next s (length h + 1) lane act ≡ ended s root end
    → IsSomeAnd (claim_of old.state.claims root) P → s2 ≡ ended s root end → Came o n2 s2 old lane act
fetch_ended {s = s} {s2 = s2} {n2 = n2} root end P view l same pushed due later nothing leaves there is =
    quietly view l same pushed due later nothing (ap (λ (n : State). n.booted) leaves) (ap (λ (n : State). n.broken) leaves)
    (subst (λ (n : State). IsSettled [] n s2) (sym leaves) (as_next is (ends_settled s root end (ready l))))
    (subst (λ (n : State). ends_due n ≤ n2.spare) (sym leaves)
    (omega (arith, pushed.spare, held_claim root P view l there, length-map s.arriving (marked s.books root end))))

pub room_ended : {o : Origin} {h : List Event} {s s2 : State} {n1 n2 : Noted} {old : LedgerOf} {lane len : ℕ} {root : Root} {end : FetchEnd}
    → seen_as o h s ≡ old → IsLedger o h n1.spare s → n1.events ≡ h → Pushes lane (acts.Room root len (Some end)) n1 n2
    → IsDueRoom old.state lane root len (Some end) → s2 ≡ ended s root end → Came o n2 s2 old lane (acts.Room root len (Some end))
room_ended {root = root} {end = end} view l same pushed due is =
    fetch_ended root end _ view l same pushed due refl refl refl due.0 is

pub land_ended : {o : Origin} {h : List Event} {s s2 : State} {n1 n2 : Noted} {old : LedgerOf} {lane len : ℕ} {root : Root} {end : FetchEnd} {seen : List LookedAt}
    → seen_as o h s ≡ old → IsLedger o h n1.spare s → n1.events ≡ h → Pushes lane (acts.Land root len (Some end) seen) n1 n2 → seen ≡ []
    → IsDueLand old.state lane root len (Some end) → s2 ≡ ended s root end → Came o n2 s2 old lane (acts.Land root len (Some end) [])
land_ended {n1 = n1} {n2 = n2} {lane = lane} {len = len} {root = root} {end = end} view l same pushed nothing due is =
    fetch_ended root end _ view l same (subst (λ (x : List LookedAt). Pushes lane (acts.Land root len (Some end) x) n1 n2) nothing pushed)
    due refl refl refl due.0 is

put_as : {o : Origin} {h : List Event} {s s2 : State} {n1 n2 : Noted} {old : LedgerOf} {lane : ℕ} {root : Root} (end : FetchEnd)
    → seen_as o h s ≡ old → IsLedger o h n1.spare s → n1.events ≡ h → Pushes lane (acts.Put root (Some end)) n1 n2
    → IsDuePut old.state lane root (Some end) → s2 ≡ ended s root end → Came o n2 s2 old lane (acts.Put root (Some end))
put_as {root = root} (ends.Long len) view l same pushed due is =
    fetch_ended root (ends.Long len) _ view l same pushed due refl refl refl due is
put_as end view l same pushed due is = absurd due

pub put_ended : {o : Origin} {h : List Event} {s s2 : State} {n1 n2 : Noted} {old : LedgerOf} {lane : ℕ} {root : Root} {end : FetchEnd}
    → seen_as o h s ≡ old → IsLedger o h n1.spare s → n1.events ≡ h → Pushes lane (acts.Put root (Some end)) n1 n2
    → IsDuePut old.state lane root (Some end) → s2 ≡ ended s root end → Came o n2 s2 old lane (acts.Put root (Some end))
put_ended {end = end} view l same pushed due is = put_as end view l same pushed due is

pub held_put : {o : Origin} {h : List Event} {spare : ℕ} {s : State} {old : LedgerOf} (lane : ℕ) (root : Root) (end : FetchEnd)
    → seen_as o h s ≡ old → IsLedger o h spare s → IsDuePut old.state lane root (Some end) → 1 ≤ spare
held_put lane root (ends.Long len) view l due = omega (arith, held_claim root _ view l due)
held_put lane root end view l due = absurd due

missed_as : {o : Origin} {h : List Event} {s s2 : State} {n1 n2 : Noted} {old : LedgerOf} {lane : ℕ} {root : Root} (why : Miss)
    → seen_as o h s ≡ old → IsLedger o h n1.spare s → n1.events ≡ h → Pushes lane (acts.Missed root why) n1 n2
    → IsDueMissed old.state lane root → s2 ≡ next_missed s root why → Came o n2 s2 old lane (acts.Missed root why)
missed_as {root = root} misses.Absent view l same pushed due is =
    fetch_ended root ends.Absent _ view l same pushed due refl refl refl due is
missed_as {root = root} misses.Read view l same pushed due is =
    fetch_ended root ends.Read _ view l same pushed due refl refl refl due is
missed_as {s = s} {root = root} misses.Memory view l same pushed due is =
    quietly view l same pushed due refl refl refl refl (as_next is (unclaims s root (ready l)))
    (omega (arith, pushed.spare, held_claim root _ view l due))

pub missed : {o : Origin} {h : List Event} {s s2 : State} {n1 n2 : Noted} {old : LedgerOf} {lane : ℕ} {root : Root} {why : Miss}
    → seen_as o h s ≡ old → IsLedger o h n1.spare s → n1.events ≡ h → Pushes lane (acts.Missed root why) n1 n2
    → IsDueMissed old.state lane root → s2 ≡ next_missed s root why → Came o n2 s2 old lane (acts.Missed root why)
missed {why = why} view l same pushed due is = missed_as why view l same pushed due is

-- ---- updates

-- what the beginning of an update leaves
record Began (old new : State) : Type 0 where
  pub booted : new.booted ≡ old.booted
  pub broken : new.broken ≡ old.broken
  pub ends : ends_due new ≤ ends_due old + 1

began : (s : State) (lane : ℕ) (slot : Slot) → Began s (staging s lane slot)
began s lane slots.A = record { booted = refl; broken = refl; ends = omega arith }
began s lane slots.B = record { booted = refl; broken = refl; ends = omega arith }
began s lane slots.R = record { booted = refl; broken = refl; ends = omega arith }

pub staged : {o : Origin} {h : List Event} {spare : ℕ} {s s2 : State} {n1 n2 : Noted} {old : LedgerOf} {lane epoch : ℕ} {slot : Slot}
    → seen_as o h s ≡ old → IsLedger o h spare s → n1.events ≡ h → ends_due s + 2 ≤ n1.spare
    → Pushes lane (acts.Stage epoch (stages.Turn slot)) n1 n2 → stage_answer old.state epoch ≡ stages.Turn slot
    → s2 ≡ staging s lane (other_slot s.running) → Came o n2 s2 old lane (acts.Stage epoch (stages.Turn slot))
staged {s = s} {lane = lane} {epoch = epoch} {slot = slot} view l same room pushed answer is =
    let turn = turn_of s epoch slot (here (λ (t : State). stage_answer t epoch ≡ stages.Turn slot) view answer) in
    let new = began s lane slot in
    quietly view l same pushed (sym answer) refl refl new.booted new.broken
    (as_next (is ∙ sym (ap (staging s lane) turn.slot)) (stages_settled s lane slot (ready l)))
    (omega (arith, pushed.spare, room, new.ends))

pub sealed : {o : Origin} {h : List Event} {spare : ℕ} {s s2 : State} {n1 n2 : Noted} {old : LedgerOf} {lane : ℕ} {sys : Sys}
    → seen_as o h s ≡ old → IsLedger o h spare s → n1.events ≡ h → ends_due s + 1 ≤ n1.spare → Pushes lane (acts.Seal sys None) n1 n2
    → IsStageOf old.state lane Filling → s2 ≡ next_seal s lane sys None → Came o n2 s2 old lane (acts.Seal sys None)
sealed {s = s} {lane = lane} {sys = sys} view l same room pushed due is =
    quietly view l same pushed (due, tt) refl refl refl refl (as_next is (seals s lane sys (ready l)))
    (omega (arith, pushed.spare, room, ap stage_ends (here (λ (t : State). IsStageOf t lane Filling) view due)))

-- a place is held for an update's end
pub held_stage : {o : Origin} {h : List Event} {spare : ℕ} {s : State} {old : LedgerOf} (P : Stage → Type 0)
    → seen_as o h s ≡ old → IsLedger o h spare s → IsSomeAnd old.state.stage P → ends_due (next_left_stage s) + 1 ≤ spare
held_stage {s = s} P view l due =
    let there = found s.stage P (here (λ (t : State). IsSomeAnd t.stage P) view due) in
    omega (arith, l.enough, ap stage_ends there.is)

pub left_stage : {o : Origin} {h : List Event} {s s2 : State} {n1 n2 : Noted} {old : LedgerOf} {lane : ℕ}
    → seen_as o h s ≡ old → IsLedger o h n1.spare s → n1.events ≡ h → Pushes lane acts.LeftStage n1 n2
    → IsDueLeftStage old.state lane → s2 ≡ next_left_stage s → Came o n2 s2 old lane acts.LeftStage
left_stage {s = s} view l same pushed due is =
    quietly view l same pushed due refl refl refl refl (as_next is (leaves_stage s (ready l)))
    (omega (arith, pushed.spare, held_stage _ view l due))

pub committed : {o : Origin} {h : List Event} {spare : ℕ} {s s2 : State} {n1 n2 : Noted} {old : LedgerOf} {lane : ℕ}
    → seen_as o h s ≡ old → IsLedger o h spare s → n1.events ≡ h → ends_due s + 1 ≤ n1.spare → Pushes lane (acts.Commit true) n1 n2
    → is_pending old.state ≡ true → s2 ≡ next_commit s true → Came o n2 s2 old lane (acts.Commit true)
committed {s = s} view l same room pushed pending is =
    quietly view l same pushed (sym pending) refl refl refl refl (as_next is (commits s true (ready l)))
    (omega (arith, pushed.spare, room))

-- ---- a directory

pub path_opened : {o : Origin} {h : List Event} {spare : ℕ} {s s2 : State} {n1 n2 : Noted} {old : LedgerOf} {lane number : ℕ} {path : NameAndVariant} {root : Root}
    → seen_as o h s ≡ old → IsLedger o h spare s → n1.events ≡ h → ends_due s + 2 ≤ n1.spare
    → Pushes lane (acts.OpenPath path (Some root)) n1 n2 → root_to_open old.state path ≡ Some root → number ≡ length h + 1
    → s2 ≡ next_open_path s number lane (Some root) → Came o n2 s2 old lane (acts.OpenPath path (Some root))
path_opened {h = h} {s = s} {lane = lane} {path = path} {root = root} view l same room pushed answer own is =
    quietly view l same pushed (sym answer) refl refl refl refl
    (as_next (is ∙ ap (λ (n : ℕ). next_open_path s n lane (Some root)) own)
    (opens_path s (length h + 1) lane path root (ready l) (here (λ (t : State). root_to_open t path ≡ Some root) view answer)))
    (omega (arith, pushed.spare, room, length_push s.dirs (record { number = length h + 1; lane = lane; root = root })))

-- ---- a collection

picked : (t : Bool) (xs ys : List Root) → (if t then Some xs else None) ≡ Some ys → xs ≡ ys
picked true xs ys e = cc
picked false xs ys e = absurd cc

pub collected : {o : Origin} {h : List Event} {spare : ℕ} {s s2 : State} {n1 n2 : Noted} {old : LedgerOf} {lane : ℕ} {roots : List Root}
    → seen_as o h s ≡ old → IsLedger o h spare s → n1.events ≡ h → ends_due s + 1 ≤ n1.spare → Pushes lane (acts.Collect (Some roots)) n1 n2
    → collect_answer old.state ≡ Some roots → s2 ≡ next_collect s (Some roots) → Came o n2 s2 old lane (acts.Collect (Some roots))
collected {s = s} {roots = roots} view l same room pushed answer is =
    let all : unnamed s ≡ roots =
    picked (is_committed s) (unnamed s) roots (here (λ (t : State). collect_answer t ≡ Some roots) view answer) in
    quietly view l same pushed (sym answer) refl refl refl refl
    (as_next is (subst (λ (r : List Root). IsSettled [] (next_collect s (Some r)) (next_collect s (Some r))) all (collects s (ready l))))
    (omega (arith, pushed.spare, room))
