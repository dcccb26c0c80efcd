-- An act of a lane makes of what the lane holds what it makes of the state.
use Rattle.std.proofs.Common.{◌≡◌, ℕ, Bool, true, false, cond, List, [], ◌∷◌, ◌++◌, Option, Some, None, refl, sym, ap, subst, ◌∙◌}
use Rattle.std.specs.Prelude.{IsSomeAnd}
use Rattle.abr_record.specs.declared.Slot.{Slot}
use Rattle.abr_record.specs.declared.Slot.TheVariants.{A, B, R}
use Rattle.image_layout.specs.declared.Sys.{Sys}
use Rattle.package_indexes.specs.declared.Choice.{Choice}
use Rattle.pkg_names.specs.NameAndVariant.{NameAndVariant}
use Rattle.pkg_names.specs.declared.root.Root.{Root}
use Rattle.fetch_queue.specs.declared.FetchEnd.{FetchEnd}
use Rattle.fetch_queue.specs.declared.FetchEnd.TheVariants as ends
use Rattle.fetch_queue.specs.declared.queue.ClaimEntry.{ClaimEntry}
use Rattle.open_tracker.specs.declared.dirs.DirEntry.{DirEntry}
use Rattle.open_tracker.specs.Directories.{without}
use Rattle.store_model.specs.declared.events.Event.{Event}
use Rattle.store_model.specs.declared.events.Act.{Act}
use Rattle.store_model.specs.declared.events.Act.TheVariants.{Boot, Begin, Want, Room, Put, Land, Missed, GaveUp, OpenPath, Read, Check, Close, Collect, Retain, Stage, Copy, Seal, Activate, LeftStage, Commit, Reject, Refused}
use Rattle.store_model.specs.declared.events.CallName.{CallName}
use Rattle.store_model.specs.declared.events.CallName.TheVariants as calls
use Rattle.store_model.specs.declared.events.LookedAt.{LookedAt}
use Rattle.store_model.specs.declared.ends.BeginEnd.{BeginEnd}
use Rattle.store_model.specs.declared.ends.BeginEnd.TheVariants as begins
use Rattle.store_model.specs.declared.ends.WantEnd.{WantEnd}
use Rattle.store_model.specs.declared.ends.WantEnd.TheVariants as wants
use Rattle.store_model.specs.declared.ends.StageEnd.{StageEnd}
use Rattle.store_model.specs.declared.ends.StageEnd.TheVariants as stages
use Rattle.store_model.specs.declared.ends.ActivateEnd.{ActivateEnd}
use Rattle.store_model.specs.declared.ends.ActivateEnd.TheVariants as activations
use Rattle.store_model.specs.declared.ends.Miss.{Miss}
use Rattle.store_model.specs.declared.ends.Miss.TheVariants as misses
use Rattle.store_model.specs.declared.ends.Difference.{Difference}
use Rattle.store_model.specs.State.{State, Arrival, Phase, Stage as StageOf, claim_of, arrival_of, IsStageOf, with_sys}
use Rattle.store_model.specs.State.Phase.{Filling, Sealed, Done}
use Rattle.store_model.specs.Systems.{base_of, staged_verdict}
use Rattle.abr_record.specs.Marks.{active_record}
use Rattle.store_model.specs.Settling.{settle}
use Rattle.store_model.specs.Acts.Marking.{ended, unclaimed}
use Rattle.store_model.specs.Acts.Begin.{next_begin}
use Rattle.store_model.specs.Acts.Want.{IsAnswered, IsDueWant, next_want, with_directory}
use Rattle.store_model.specs.Acts.Room.{IsRoomless, IsDueRoom, next_room}
use Rattle.store_model.specs.Acts.Put.{IsRoomOf, IsDuePut, next_put}
use Rattle.store_model.specs.Acts.Land.{IsDueLand, next_land}
use Rattle.store_model.specs.Acts.Missed.{IsClaimOf, next_missed}
use Rattle.store_model.specs.Acts.GaveUp.{next_gave_up}
use Rattle.store_model.specs.Acts.OpenPath.{next_open_path}
use Rattle.store_model.specs.Acts.Stage.{abr_after_stage, next_stage, staging}
use Rattle.store_model.specs.Acts.Seal.{next_seal}
use Rattle.store_model.specs.Acts.Activate.{IsDueActivate, activated, next_activate}
use Rattle.store_model.specs.Acts.Commit.{next_commit}
use Rattle.store_model.specs.Acts.Collect.{next_collect}
use Rattle.store_model.specs.Acts.Refused.{IsHandedOf, next_refused}
use Rattle.store_model.specs.Step.{next, IsActDue, next_broken, MayWrite, IsActDueIf, next_of, seen_by, step, IsDue}
use Rattle.store_model.specs.Holding.{HeldTicket, Held, without_number, ticket_with, dir_of, held_after_call, held_after_act, held_after_break, held_after_event}
use Rattle.store_model.specs.Held.{ticket_in}
use Rattle.store_model.proofs.HoldingLists.{some_and}
use Rattle.store_model.proofs.HoldingParts.{HoldsIn, lane_tickets, lane_claims, lane_dirs, lane_phase, begun_own, dropped_own, ticket_found, marked_tickets, claimed_own, unclaimed_own, roomed_own, opened_own, closed_own, staged_own}

-- ---- states that differ in nothing that is held

pub record SameHoldings (s t : State) : Type 0 where
  pub arriving : t.arriving ≡ s.arriving
  pub claims : t.claims ≡ s.claims
  pub dirs : t.dirs ≡ s.dirs
  pub stage : t.stage ≡ s.stage

pub carried : (lane : ℕ) (h : Held) (s t : State) → SameHoldings s t → HoldsIn lane h s → HoldsIn lane h t
carried lane h s t same holds = record {
  tickets = holds.tickets ∙ ap (lane_tickets lane) (sym same.arriving);
  claim = holds.claim ∙ ap (lane_claims lane) (sym same.claims);
  dirs = holds.dirs ∙ ap (lane_dirs lane) (sym same.dirs);
  stage = holds.stage ∙ ap (lane_phase lane) (sym same.stage);
}

pub settled_same : (seen : List LookedAt) (s : State) → SameHoldings s (settle seen s)
settled_same seen s = record { arriving = refl; claims = refl; dirs = refl; stage = refl }

pub with_sys_same : (s : State) (slot : Slot) (sys : Option Sys) → SameHoldings s (with_sys s slot sys)
with_sys_same s A sys = record { arriving = refl; claims = refl; dirs = refl; stage = refl }
with_sys_same s B sys = record { arriving = refl; claims = refl; dirs = refl; stage = refl }
with_sys_same s R sys = record { arriving = refl; claims = refl; dirs = refl; stage = refl }

-- ---- what a lane is handed is its own

pub some_weaker : {X : Type 0} (o : Option X) (P Q : X → Type 0) → ((x : X) → P x → Q x) → IsSomeAnd o P → IsSomeAnd o Q
some_weaker None P Q more holds = holds
some_weaker (Some x) P Q more holds = more x holds

pub roomless_claim : (s : State) (lane : ℕ) (root : Root) → IsSomeAnd (claim_of s.claims root) (IsRoomless lane) → IsClaimOf s lane root
roomless_claim s lane root =
    some_weaker (claim_of s.claims root) (IsRoomless lane) (λ (c : ClaimEntry). c.lane ≡ lane) (λ c is. is.lane)

pub room_claim : (s : State) (lane : ℕ) (root : Root) (len : ℕ) → IsSomeAnd (claim_of s.claims root) (IsRoomOf lane len) → IsClaimOf s lane root
room_claim s lane root len =
    some_weaker (claim_of s.claims root) (IsRoomOf lane len) (λ (c : ClaimEntry). c.lane ≡ lane) (λ c is. is.lane)

pub put_claim : (s : State) (lane : ℕ) (root : Root) (end : FetchEnd) → IsDuePut s lane root (Some end) → IsClaimOf s lane root
put_claim s lane root (ends.Long len) due = room_claim s lane root len due
put_claim s lane root end due = absurd due

-- ---- an act of the lane itself

own_ended : (s : State) (lane : ℕ) (h : Held) (root : Root) (end : FetchEnd) → HoldsIn lane h s → IsClaimOf s lane root → HoldsIn lane (record h { claim = None }) (ended s root end)
own_ended s lane h root end holds handed = record {
  tickets = holds.tickets ∙ sym (marked_tickets lane s.books root end s.arriving);
  claim = sym (unclaimed_own lane s.claims root h.claim holds.claim handed);
  dirs = holds.dirs;
  stage = holds.stage;
}

own_unclaimed : (s : State) (lane : ℕ) (h : Held) (root : Root) → HoldsIn lane h s → IsClaimOf s lane root → HoldsIn lane (record h { claim = None }) (unclaimed s root)
own_unclaimed s lane h root holds handed = record {
  tickets = holds.tickets;
  claim = sym (unclaimed_own lane s.claims root h.claim holds.claim handed);
  dirs = holds.dirs;
  stage = holds.stage;
}

own_gave_up : (s : State) (lane : ℕ) (h : Held) (ticket : ℕ) → HoldsIn lane h s → HoldsIn lane (record h { tickets = without_number h.tickets ticket }) (next_gave_up s ticket)
own_gave_up s lane h ticket holds = record {
  tickets = ap (λ (ts : List HeldTicket). without_number ts ticket) holds.tickets ∙ sym (dropped_own lane ticket s.arriving);
  claim = holds.claim;
  dirs = holds.dirs;
  stage = holds.stage;
}

own_begin : (s : State) (number lane : ℕ) (h : Held) (path : NameAndVariant) (root : Root) → HoldsIn lane h s
    → HoldsIn lane (record h { tickets = h.tickets ++ record { number = number; path = path; root = root } ∷ [] }) (next_begin s number lane path (begins.Ticket root))
own_begin s number lane h path root holds =
    let a : Arrival = record { ticket = number; lane = lane; path = path; root = root; mark = None } in
    record {
      tickets = ap (λ (ts : List HeldTicket). ts ++ ticket_in a ∷ []) holds.tickets ∙ sym (begun_own lane s.arriving a refl);
      claim = holds.claim;
      dirs = holds.dirs;
      stage = holds.stage;
    }

own_fetch : (s : State) (number lane : ℕ) (h : Held) (ticket : ℕ) (root : Root) → HoldsIn lane h s → IsDueWant s lane ticket (wants.Fetch root)
    → HoldsIn lane (record h { claim = Some (record { root = root; len = None }) }) (next_want s number lane ticket (wants.Fetch root))
own_fetch s number lane h ticket root holds due =
    let answered = some_and (arrival_of s.arriving ticket) (IsAnswered s lane (wants.Fetch root)) due in
    let c : ClaimEntry = record { root = root; lane = lane; len = None } in
    record {
      tickets = holds.tickets;
      claim = sym (claimed_own lane s.claims c refl answered.2.free);
      dirs = holds.dirs;
      stage = holds.stage;
    }

own_opened : (s : State) (number lane : ℕ) (h : Held) (ticket : ℕ) → HoldsIn lane h s → IsDueWant s lane ticket wants.Opened
    → HoldsIn lane (record h { tickets = without_number h.tickets ticket; dirs = h.dirs ++ dir_of number lane (ticket_with h.tickets ticket) }) (next_want s number lane ticket wants.Opened)
own_opened s number lane h ticket holds due =
    let answered = some_and (arrival_of s.arriving ticket) (IsAnswered s lane wants.Opened) due in
    let d : DirEntry = record { number = number; lane = lane; root = answered.0.root } in
    let found : ticket_with h.tickets ticket ≡ Some (ticket_in answered.0) =
    ap (λ (ts : List HeldTicket). ticket_with ts ticket) holds.tickets ∙ ticket_found lane ticket s.arriving answered.0 answered.1 answered.2.lane in
    record {
      tickets = ap (λ (ts : List HeldTicket). without_number ts ticket) holds.tickets ∙ sym (dropped_own lane ticket s.arriving);
      claim = holds.claim;
      dirs =
          ap (λ (o : Option HeldTicket). h.dirs ++ dir_of number lane o) found ∙ ap (λ (ds : List DirEntry). ds ++ d ∷ []) holds.dirs ∙ sym (opened_own lane s.dirs d refl) ∙ sym
          (ap (λ (o : Option Arrival). lane_dirs lane (with_directory s.dirs number lane o)) answered.1);
      stage = holds.stage;
    }

own_want : (s : State) (number lane : ℕ) (h : Held) (ticket : ℕ) (reply : WantEnd) → HoldsIn lane h s → IsDueWant s lane ticket reply
    → HoldsIn lane (held_after_act h number lane (Want ticket reply)) (next_want s number lane ticket reply)
own_want s number lane h ticket (wants.Fetch root) holds due = own_fetch s number lane h ticket root holds due
own_want s number lane h ticket wants.Opened holds due = own_opened s number lane h ticket holds due
own_want s number lane h ticket (wants.Failed cause) holds due =
    let given = own_gave_up s lane h ticket holds in
    record { tickets = given.tickets; claim = given.claim; dirs = given.dirs; stage = given.stage }

own_room : (s : State) (number lane : ℕ) (h : Held) (root : Root) (len : ℕ) (reply : Option FetchEnd) → HoldsIn lane h s → IsDueRoom s lane root len reply
    → HoldsIn lane (held_after_act h number lane (Room root len reply)) (next_room s root len reply)
own_room s number lane h root len None holds due = record {
  tickets = holds.tickets;
  claim = roomed_own lane s.claims root len h.claim holds.claim (roomless_claim s lane root due.0);
  dirs = holds.dirs;
  stage = holds.stage;
}
own_room s number lane h root len (Some end) holds due = own_ended s lane h root end holds (roomless_claim s lane root due.0)

own_put : (s : State) (lane : ℕ) (h : Held) (root : Root) (reply : Option FetchEnd) → HoldsIn lane h s → IsDuePut s lane root reply
    → HoldsIn lane (record h { claim = None }) (next_put s root reply)
own_put s lane h root None holds due = absurd due
own_put s lane h root (Some end) holds due = own_ended s lane h root end holds (put_claim s lane root end due)

own_land : (s : State) (lane : ℕ) (h : Held) (root : Root) (len : ℕ) (reply : Option FetchEnd) → HoldsIn lane h s → IsDueLand s lane root len reply
    → HoldsIn lane (record h { claim = None }) (next_land s root len reply)
own_land s lane h root len None holds due =
    let gone = own_unclaimed s lane h root holds (room_claim s lane root len due.0) in
    record { tickets = gone.tickets; claim = gone.claim; dirs = gone.dirs; stage = gone.stage }
own_land s lane h root len (Some end) holds due = own_ended s lane h root end holds (room_claim s lane root len due.0)

own_missed : (s : State) (lane : ℕ) (h : Held) (root : Root) (why : Miss) → HoldsIn lane h s → IsClaimOf s lane root → HoldsIn lane (record h { claim = None }) (next_missed s root why)
own_missed s lane h root misses.Absent holds handed = own_ended s lane h root ends.Absent holds handed
own_missed s lane h root misses.Read holds handed = own_ended s lane h root ends.Read holds handed
own_missed s lane h root misses.Memory holds handed = own_unclaimed s lane h root holds handed

own_open : (s : State) (number lane : ℕ) (h : Held) (path : NameAndVariant) (reply : Option Root) → HoldsIn lane h s
    → HoldsIn lane (held_after_act h number lane (OpenPath path reply)) (next_open_path s number lane reply)
own_open s number lane h path None holds = record { tickets = holds.tickets; claim = holds.claim; dirs = holds.dirs; stage = holds.stage }
own_open s number lane h path (Some root) holds =
    let d : DirEntry = record { number = number; lane = lane; root = root } in
    record {
      tickets = holds.tickets;
      claim = holds.claim;
      dirs = ap (λ (ds : List DirEntry). ds ++ d ∷ []) holds.dirs ∙ sym (opened_own lane s.dirs d refl);
      stage = holds.stage;
    }

-- the stage of a lane
staged : (s t : State) (lane : ℕ) (h : Held) (phase : Phase) → HoldsIn lane h s → t.arriving ≡ s.arriving → t.claims ≡ s.claims → t.dirs ≡ s.dirs → IsStageOf t lane phase
    → HoldsIn lane (record h { stage = Some phase }) t
staged s t lane h phase holds arriving claims dirs stage =
    let now : StageOf = record { lane = lane; phase = phase } in
    record {
      tickets = holds.tickets ∙ ap (lane_tickets lane) (sym arriving);
      claim = holds.claim ∙ ap (lane_claims lane) (sym claims);
      dirs = holds.dirs ∙ ap (lane_dirs lane) (sym dirs);
      stage = sym (ap (lane_phase lane) stage ∙ staged_own lane now refl);
    }

own_stage : (s : State) (number lane : ℕ) (h : Held) (epoch : ℕ) (reply : StageEnd) → HoldsIn lane h s
    → HoldsIn lane (held_after_act h number lane (Stage epoch reply)) (next_stage s lane reply)
own_stage s number lane h epoch (stages.Turn slot) holds =
    let same = with_sys_same (record s { abr = abr_after_stage s slot; stage = Some (record { lane = lane; phase = Filling }); staged = None }) slot None in
    staged s (staging s lane slot) lane h Filling holds same.arriving same.claims same.dirs same.stage
own_stage s number lane h epoch stages.InRecovery holds = holds
own_stage s number lane h epoch (stages.Busy other) holds = holds
own_stage s number lane h epoch stages.NotCommitted holds = holds
own_stage s number lane h epoch (stages.Older have) holds = holds

own_seal : (s : State) (number lane : ℕ) (h : Held) (sys : Sys) (reply : Option Difference) → HoldsIn lane h s
    → HoldsIn lane (held_after_act h number lane (Seal sys reply)) (next_seal s lane sys reply)
own_seal s number lane h sys None holds = staged s (next_seal s lane sys None) lane h (Sealed sys) holds refl refl refl refl
own_seal s number lane h sys (Some difference) holds = holds

pub activated_is : (s : State) (lane : ℕ) (seen : List LookedAt) (slot : Slot) (sys : Sys) → IsStageOf s lane (Sealed sys)
    → next_activate s lane seen (activations.Active slot) ≡ activated s lane seen slot sys
activated_is s lane seen slot sys stage = rw stage refl

pub activated_same : (s : State) (lane : ℕ) (seen : List LookedAt) (slot : Slot) (sys : Sys)
    → SameHoldings (record s { stage = Some (record { lane = lane; phase = Done }) }) (activated s lane seen slot sys)
activated_same s lane seen slot sys =
    let same = with_sys_same (record s { abr = active_record slot s.abr; stage = Some (record { lane = lane; phase = Done }); staged = Some (base_of (staged_verdict s seen sys)) }) slot (Some sys) in
    record { arriving = same.arriving; claims = same.claims; dirs = same.dirs; stage = same.stage }

own_activate : (s : State) (number lane : ℕ) (h : Held) (seen : List LookedAt) (reply : ActivateEnd) → HoldsIn lane h s → IsDueActivate s lane seen reply
    → HoldsIn lane (held_after_act h number lane (Activate reply seen)) (next_activate s lane seen reply)
own_activate s number lane h seen (activations.Active slot) holds due =
    let same = activated_same s lane seen slot due.sys in
    subst (λ (t : State). HoldsIn lane (record h { stage = Some Done }) t) (sym (activated_is s lane seen slot due.sys due.stage))
    (staged s (activated s lane seen slot due.sys) lane h Done holds same.arriving same.claims same.dirs same.stage)
own_activate s number lane h seen (activations.BaseMissing root) holds due = holds
own_activate s number lane h seen (activations.NotASystem why) holds due = holds
own_activate s number lane h seen activations.DiskRead holds due = holds
own_activate s number lane h seen (activations.Rotten root got) holds due = holds

own_refused : (s : State) (lane : ℕ) (h : Held) (call : CallName) → HoldsIn lane h s → IsHandedOf s lane call → HoldsIn lane (held_after_call h call) (next_refused s call)
own_refused s lane h (calls.Want ticket) holds handed = own_gave_up s lane h ticket holds
own_refused s lane h (calls.Room root) holds handed = own_unclaimed s lane h root holds handed
own_refused s lane h (calls.Put root) holds handed = own_unclaimed s lane h root holds handed
own_refused s lane h (calls.Land root) holds handed = own_unclaimed s lane h root holds handed
own_refused s lane h call holds handed = holds

own_begun : (s : State) (number lane : ℕ) (h : Held) (path : NameAndVariant) (choice : Choice) (reply : BeginEnd) (seen : List LookedAt) → HoldsIn lane h s
    → HoldsIn lane (held_after_act h number lane (Begin path choice reply seen)) (next_begin s number lane path reply)
own_begun s number lane h path choice (begins.Ticket root) seen holds = own_begin s number lane h path root holds
own_begun s number lane h path choice reply seen holds = record { tickets = holds.tickets; claim = holds.claim; dirs = holds.dirs; stage = holds.stage }

pub collected : (s : State) (lane : ℕ) (h : Held) (reply : Option (List Root)) → HoldsIn lane h s → HoldsIn lane h (next_collect s reply)
collected s lane h None holds = holds
collected s lane h (Some roots) holds = record { tickets = holds.tickets; claim = holds.claim; dirs = holds.dirs; stage = holds.stage }

pub committed : (s : State) (lane : ℕ) (h : Held) (done : Bool) → HoldsIn lane h s → HoldsIn lane h (next_commit s done)
committed s lane h true holds = record { tickets = holds.tickets; claim = holds.claim; dirs = holds.dirs; stage = holds.stage }
committed s lane h false holds = holds

-- an act that is answered as its condition says
pub own_act : (s : State) (number lane : ℕ) (h : Held) (act : Act) → HoldsIn lane h s → IsActDue s lane act → HoldsIn lane (held_after_act h number lane act) (next s number lane act)
own_act s number lane h (Boot slot seen) holds due = record { tickets = holds.tickets; claim = holds.claim; dirs = holds.dirs; stage = holds.stage }
own_act s number lane h (Begin path choice reply seen) holds due = own_begun s number lane h path choice reply seen holds
own_act s number lane h (Want ticket reply) holds due = own_want s number lane h ticket reply holds due
own_act s number lane h (Room root len reply) holds due = own_room s number lane h root len reply holds due
own_act s number lane h (Put root reply) holds due = own_put s lane h root reply holds due
own_act s number lane h (Land root len reply seen) holds due = own_land s lane h root len reply holds due
own_act s number lane h (Missed root why) holds due = own_missed s lane h root why holds due
own_act s number lane h (GaveUp ticket) holds due = own_gave_up s lane h ticket holds
own_act s number lane h (OpenPath path reply) holds due = own_open s number lane h path reply holds
own_act s number lane h (Read dir file reply) holds due = holds
own_act s number lane h (Check dir file reply) holds due = holds
own_act s number lane h (Close dir closed) holds due = record {
  tickets = holds.tickets;
  claim = holds.claim;
  dirs = ap (λ (ds : List DirEntry). without ds dir lane) holds.dirs ∙ sym (closed_own lane dir s.dirs);
  stage = holds.stage;
}
own_act s number lane h (Collect reply) holds due = collected s lane h reply holds
own_act s number lane h (Retain roots reply seen) holds due = record { tickets = holds.tickets; claim = holds.claim; dirs = holds.dirs; stage = holds.stage }
own_act s number lane h (Stage epoch reply) holds due = own_stage s number lane h epoch reply holds
own_act s number lane h (Copy image dir file reply) holds due = holds
own_act s number lane h (Seal sys reply) holds due = own_seal s number lane h sys reply holds
own_act s number lane h (Activate reply seen) holds due = own_activate s number lane h seen reply holds due
own_act s number lane h LeftStage holds due = record { tickets = holds.tickets; claim = holds.claim; dirs = holds.dirs; stage = refl }
own_act s number lane h (Commit done) holds due = committed s lane h done holds
own_act s number lane h (Reject file why) holds due = holds
own_act s number lane h (Refused call broken) holds due = own_refused s lane h call holds due.handed

-- one in which a write failed
own_break : (s : State) (number lane : ℕ) (h : Held) (act : Act) → HoldsIn lane h s → MayWrite s number lane act → HoldsIn lane (held_after_break h act) (next_broken s number act)
own_break s number lane h (Put root reply) holds may =
    let gone = own_unclaimed s lane h root holds (room_claim s lane root may.1.0 may.1.1) in
    record { tickets = gone.tickets; claim = gone.claim; dirs = gone.dirs; stage = gone.stage }
own_break s number lane h (Land root len reply seen) holds may =
    let gone = own_unclaimed s lane h root holds (room_claim s lane root len may.2) in
    record { tickets = gone.tickets; claim = gone.claim; dirs = gone.dirs; stage = gone.stage }
own_break s number lane h act holds may = record { tickets = holds.tickets; claim = holds.claim; dirs = holds.dirs; stage = holds.stage }

own_if : (broke : Bool) (s : State) (number lane : ℕ) (h : Held) (act : Act) → HoldsIn lane h s → IsActDueIf broke s number lane act
    → HoldsIn lane (cond broke (held_after_break h act) (held_after_act h number lane act)) (cond broke (next_broken s number act) (next s number lane act))
own_if true s number lane h act holds due = own_break s number lane h act holds due.0
own_if false s number lane h act holds due = own_act s number lane h act holds due

-- an event of the lane
pub own_event : (s : State) (number : ℕ) (h : Held) (e : Event) → HoldsIn e.lane h s → IsDue s number e → HoldsIn e.lane (held_after_event h number e) (step s number e)
own_event s number h e holds due =
    carried e.lane (held_after_event h number e) (next_of s number e) (step s number e) (settled_same (seen_by e.act) (next_of s number e))
    (own_if e.broke s number e.lane h e.act holds due.due)
