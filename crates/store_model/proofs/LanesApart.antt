-- An event of one lane leaves what another holds.
use Rattle.std.proofs.Common.{◌≡◌, ◌≢◌, ℕ, ◌+◌, Bool, true, false, cond, not, List, [], ◌∷◌, ◌++◌, map, length, Option, Some, None, inl, inr, refl, sym, ap, ◌∙◌}
use Rattle.std.specs.Prelude.{filter, ◌==◌, IsSomeAnd}
use Rattle.std.proofs.lemmas.Bool.{cases_Bool, eqb-true, ne_eqb, false_from_ne_true, not_from_false, and_parts}
use Rattle.pkg_names.specs.declared.root.Root.{Root}
use Rattle.pkg_names.specs.Root.{root_eq}
use Rattle.pkg_names.proofs.Roots.{root_eq-true}
use Rattle.abr_record.specs.declared.Slot.{Slot}
use Rattle.abr_record.specs.declared.Slot.TheVariants.{A, B, R}
use Rattle.image_layout.specs.declared.Sys.{Sys}
use Rattle.fetch_queue.specs.declared.FetchEnd.{FetchEnd}
use Rattle.fetch_queue.specs.declared.FetchEnd.TheVariants as ends
use Rattle.fetch_queue.specs.declared.queue.ClaimEntry.{ClaimEntry}
use Rattle.fetch_queue.specs.Fetches.{roomed, with_room, without_claim}
use Rattle.open_tracker.specs.declared.dirs.DirEntry.{DirEntry}
use Rattle.open_tracker.specs.Directories.{is_of, without}
use Rattle.package_book.specs.Books.{Books}
use Rattle.package_book.specs.Names.{names}
use Rattle.store_model.specs.declared.events.Event.{Event}
use Rattle.store_model.specs.declared.events.CallName.TheVariants as calls
use Rattle.store_model.specs.declared.events.Act.{Act}
use Rattle.store_model.specs.declared.events.Act.TheVariants.{Begin, Want, Room, Put, Land, Missed, GaveUp, OpenPath, Close, Stage, Seal, Activate, LeftStage, Refused}
use Rattle.store_model.specs.declared.ends.BeginEnd.TheVariants as begins
use Rattle.store_model.specs.declared.ends.WantEnd.TheVariants as wants
use Rattle.store_model.specs.declared.ends.Miss.TheVariants as misses
use Rattle.store_model.specs.declared.ends.StageEnd.TheVariants as stages
use Rattle.store_model.specs.declared.ends.ActivateEnd.TheVariants as activations
use Rattle.store_model.specs.State as states
use Rattle.store_model.specs.State.{State, Arrival, arrival_of, claim_of, without_ticket, with_sys, is_recovery, has_root}
use Rattle.store_model.specs.Acts.Marking.{marked, marked_arrivals}
use Rattle.store_model.specs.Acts.Want.{IsAnswered, with_directory}
use Rattle.store_model.specs.Acts.Room.{IsRoomless}
use Rattle.store_model.specs.Acts.Put.{IsRoomOf}
use Rattle.store_model.specs.Acts.Activate.{next_activate}
use Rattle.store_model.specs.declared.events.LookedAt.{LookedAt}
use Rattle.store_model.specs.Acts.Stage.{stage_answer}
use Rattle.store_model.specs.Step.{IsDue, IsActDue, IsActDueIf, MayWrite, next, next_broken, step}
use Rattle.store_model.specs.History.{Origin, IsLegal, after}
use Rattle.store_model.specs.Lanes.{AreClaims, AreTickets, StandOnce, unmarked, claims_of, tickets_of, dirs_of, if_of, stage_of, HoldsSame}
use Rattle.store_model.proofs.LanesLists.{gone_elsewhere, changed_elsewhere, filter_kept, filter-map, filter_other}
use Rattle.store_model.proofs.LanesLasting.{keeps_rest}
use Rattle.store_model.proofs.LanesMarks.{marked_lane}
use Rattle.store_model.proofs.LanesOnce.{roomed_lane, stand_once}

-- what is another lane's isn't mine
not_mine : (own mine lane : ℕ) → lane ≢ mine → own ≡ lane → (own == mine) ≡ false
not_mine own mine lane other is = ne_eqb own mine (λ same. other (sym is ∙ same))

-- ---- claims

pub claims_apart : (root : Root) (a b : ClaimEntry) → a.root ≢ b.root → root_eq a.root root ≡ true → root_eq b.root root ≡ false
claims_apart root a b apart own = false_from_ne_true _ (λ also. apart (root_eq-true a.root root own ∙ sym (root_eq-true b.root root also)))

claim_gone : (claims : List ClaimEntry) (lane mine : ℕ) (root : Root) (P : ClaimEntry → Type 0) (found : Option ClaimEntry) → lane ≢ mine → ((c : ClaimEntry) → P c → c.lane ≡ lane) → claim_of claims root ≡ found → IsSomeAnd found P → (stock : List states.Stored) → AreClaims claims stock
    → filter (λ (c : ClaimEntry). c.lane == mine) (without_claim claims root) ≡ filter (λ (c : ClaimEntry). c.lane == mine) claims
claim_gone claims lane mine root P None other of is due stock once = absurd due
claim_gone claims lane mine root P (Some claim) other of is due stock once =
    gone_elsewhere (λ (c : ClaimEntry). root_eq c.root root) (λ (c : ClaimEntry). c.lane == mine) (λ (a b : ClaimEntry). a.root ≢ b.root) (claims_apart root) claims once.roots claim is (not_mine claim.lane mine lane other (of claim due))

roomed_other : (root : Root) (len : ℕ) (claim : ClaimEntry) → root_eq claim.root root ≡ false → roomed root len claim ≡ claim
roomed_other root len claim lacks = rw lacks refl

claim_roomed : (claims : List ClaimEntry) (lane mine : ℕ) (root : Root) (len : ℕ) (found : Option ClaimEntry) → lane ≢ mine → claim_of claims root ≡ found → IsSomeAnd found (IsRoomless lane) → (stock : List states.Stored) → AreClaims claims stock
    → filter (λ (c : ClaimEntry). c.lane == mine) (with_room claims root len) ≡ filter (λ (c : ClaimEntry). c.lane == mine) claims
claim_roomed claims lane mine root len None other is due stock once = absurd due
claim_roomed claims lane mine root len (Some claim) other is due stock once =
    changed_elsewhere (λ (c : ClaimEntry). root_eq c.root root) (λ (c : ClaimEntry). c.lane == mine) (roomed root len) (λ (a b : ClaimEntry). a.root ≢ b.root) (claims_apart root) (roomed_other root len) (λ c. ap (λ (n : ℕ). n == mine) (roomed_lane root len c)) claims once.roots claim is (not_mine claim.lane mine lane other due.lane)

claims_next : (s : State) (number lane : ℕ) (act : Act) (mine : ℕ) → lane ≢ mine → IsActDue s lane act → AreClaims s.claims s.stock → claims_of mine (next s number lane act) ≡ claims_of mine s
claims_next s number lane (Want ticket (wants.Fetch root)) mine other due once =
    filter_other (λ (c : ClaimEntry). c.lane == mine) s.claims (record { root = root; lane = lane; len = None }) (not_mine lane mine lane other refl)
claims_next s number lane (Want ticket wants.Opened) mine other due once = refl
claims_next s number lane (Want ticket (wants.Failed cause)) mine other due once = refl
claims_next s number lane (Room root len None) mine other due once = claim_roomed s.claims lane mine root len (claim_of s.claims root) other refl due.0 s.stock once
claims_next s number lane (Room root len (Some end)) mine other due once = claim_gone s.claims lane mine root (IsRoomless lane) (claim_of s.claims root) other (λ c of. of.lane) refl due.0 s.stock once
claims_next s number lane (Put root (Some (ends.Long len))) mine other due once = claim_gone s.claims lane mine root (IsRoomOf lane len) (claim_of s.claims root) other (λ c of. of.lane) refl due s.stock once
claims_next s number lane (Put root reply) mine other due once = absurd due
claims_next s number lane (Land root len None seen) mine other due once = claim_gone s.claims lane mine root (IsRoomOf lane len) (claim_of s.claims root) other (λ c of. of.lane) refl due.0 s.stock once
claims_next s number lane (Land root len (Some end) seen) mine other due once = claim_gone s.claims lane mine root (IsRoomOf lane len) (claim_of s.claims root) other (λ c of. of.lane) refl due.0 s.stock once
claims_next s number lane (Missed root misses.Absent) mine other due once = claim_gone s.claims lane mine root (λ (c : ClaimEntry). c.lane ≡ lane) (claim_of s.claims root) other (λ c of. of) refl due s.stock once
claims_next s number lane (Missed root misses.Read) mine other due once = claim_gone s.claims lane mine root (λ (c : ClaimEntry). c.lane ≡ lane) (claim_of s.claims root) other (λ c of. of) refl due s.stock once
claims_next s number lane (Missed root misses.Memory) mine other due once = claim_gone s.claims lane mine root (λ (c : ClaimEntry). c.lane ≡ lane) (claim_of s.claims root) other (λ c of. of) refl due s.stock once
claims_next s number lane (Refused (calls.Room root) broken) mine other due once = claim_gone s.claims lane mine root (λ (c : ClaimEntry). c.lane ≡ lane) (claim_of s.claims root) other (λ c of. of) refl due.handed s.stock once
claims_next s number lane (Refused (calls.Put root) broken) mine other due once = claim_gone s.claims lane mine root (λ (c : ClaimEntry). c.lane ≡ lane) (claim_of s.claims root) other (λ c of. of) refl due.handed s.stock once
claims_next s number lane (Refused (calls.Land root) broken) mine other due once = claim_gone s.claims lane mine root (λ (c : ClaimEntry). c.lane ≡ lane) (claim_of s.claims root) other (λ c of. of) refl due.handed s.stock once
claims_next s number lane (Refused call broken) mine other due once = refl
claims_next s number lane act mine other due once =
    ap (filter (λ (c : ClaimEntry). c.lane == mine)) ((keeps_rest s number (record { lane = lane; act = act; broke = false })).claims refl)

broken_claims : (s : State) (number lane : ℕ) (act : Act) (mine : ℕ) → lane ≢ mine → MayWrite s number lane act → AreClaims s.claims s.stock → claims_of mine (next_broken s number act) ≡ claims_of mine s
broken_claims s number lane (Put root reply) mine other may once = claim_gone s.claims lane mine root (IsRoomOf lane may.1.0) (claim_of s.claims root) other (λ c of. of.lane) refl may.1.1 s.stock once
broken_claims s number lane (Land root len reply seen) mine other may once = claim_gone s.claims lane mine root (IsRoomOf lane len) (claim_of s.claims root) other (λ c of. of.lane) refl may.2 s.stock once
broken_claims s number lane act mine other may once = refl

-- ---- tickets

abbrev mine_of : ℕ → List Arrival → List Arrival
mine_of mine arriving = map unmarked (filter (λ (a : Arrival). a.lane == mine) arriving)

pub tickets_apart : (ticket : ℕ) (a b : Arrival) → a.ticket ≢ b.ticket → (a.ticket == ticket) ≡ true → (b.ticket == ticket) ≡ false
tickets_apart ticket a b apart own = ne_eqb b.ticket ticket (λ also. apart (eqb-true a.ticket ticket own ∙ sym also))

ticket_gone : (arriving : List Arrival) (number lane mine ticket : ℕ) (P : Arrival → Type 0) (found : Option Arrival) → lane ≢ mine → ((a : Arrival) → P a → a.lane ≡ lane) → arrival_of arriving ticket ≡ found → IsSomeAnd found P → AreTickets arriving number
    → mine_of mine (without_ticket arriving ticket) ≡ mine_of mine arriving
ticket_gone arriving number lane mine ticket P None other of is due once = absurd due
ticket_gone arriving number lane mine ticket P (Some arrival) other of is due once =
    ap (map unmarked) (gone_elsewhere (λ (a : Arrival). a.ticket == ticket) (λ (a : Arrival). a.lane == mine) (λ (a b : Arrival). a.ticket ≢ b.ticket) (tickets_apart ticket) arriving once.apart arrival is (not_mine arrival.lane mine lane other (of arrival due)))

unmarked_marked : (books : Books) (root : Root) (end : FetchEnd) (arrival : Arrival) → unmarked (marked books root end arrival) ≡ unmarked arrival
unmarked_marked books root end arrival = elim (cases_Bool (has_root (names arrival.root books) root)) [ inl holds ↦ rw holds refl | inr lacks ↦ rw lacks refl ]

tickets_marked : (s : State) (mine : ℕ) (root : Root) (end : FetchEnd) → mine_of mine (marked_arrivals s root end) ≡ mine_of mine s.arriving
tickets_marked s mine root end =
    filter-map (λ (a : Arrival). a.lane == mine) (marked s.books root end) unmarked (λ a. ap (λ (n : ℕ). n == mine) (marked_lane s.books root end a)) (unmarked_marked s.books root end) s.arriving

tickets_next : (s : State) (number lane : ℕ) (act : Act) (mine : ℕ) → lane ≢ mine → IsActDue s lane act → AreTickets s.arriving number → tickets_of mine (next s number lane act) ≡ tickets_of mine s
tickets_next s number lane (Begin path choice (begins.Ticket root) seen) mine other due once =
    ap (map unmarked) (filter_other (λ (a : Arrival). a.lane == mine) s.arriving (record { ticket = number; lane = lane; path = path; root = root; mark = None }) (not_mine lane mine lane other refl))
tickets_next s number lane (Begin path choice reply seen) mine other due once = refl
tickets_next s number lane (Want gone wants.Opened) mine other due once = ticket_gone s.arriving number lane mine gone (IsAnswered s lane wants.Opened) (arrival_of s.arriving gone) other (λ a of. of.lane) refl due once
tickets_next s number lane (Want gone (wants.Failed cause)) mine other due once = ticket_gone s.arriving number lane mine gone (IsAnswered s lane (wants.Failed cause)) (arrival_of s.arriving gone) other (λ a of. of.lane) refl due once
tickets_next s number lane (Want gone (wants.Fetch root)) mine other due once = refl
tickets_next s number lane (GaveUp gone) mine other due once = ticket_gone s.arriving number lane mine gone (λ (a : Arrival). a.lane ≡ lane) (arrival_of s.arriving gone) other (λ a of. of) refl due once
tickets_next s number lane (Refused (calls.Want gone) broken) mine other due once = ticket_gone s.arriving number lane mine gone (λ (a : Arrival). a.lane ≡ lane) (arrival_of s.arriving gone) other (λ a of. of) refl due.handed once
tickets_next s number lane (Refused call broken) mine other due once = refl
tickets_next s number lane (Room root len None) mine other due once = refl
tickets_next s number lane (Room root len (Some end)) mine other due once = tickets_marked s mine root end
tickets_next s number lane (Put root None) mine other due once = refl
tickets_next s number lane (Put root (Some end)) mine other due once = tickets_marked s mine root end
tickets_next s number lane (Land root len None seen) mine other due once = refl
tickets_next s number lane (Land root len (Some end) seen) mine other due once = tickets_marked s mine root end
tickets_next s number lane (Missed root misses.Absent) mine other due once = tickets_marked s mine root _
tickets_next s number lane (Missed root misses.Read) mine other due once = tickets_marked s mine root _
tickets_next s number lane (Missed root misses.Memory) mine other due once = refl
tickets_next s number lane act mine other due once =
    ap (mine_of mine) ((keeps_rest s number (record { lane = lane; act = act; broke = false })).arriving refl)

-- ---- directories

dir_other : (dirs : List DirEntry) (number lane mine : ℕ) (root : Root) → lane ≢ mine → filter (λ (d : DirEntry). d.lane == mine) (dirs ++ record { number = number; lane = lane; root = root } ∷ []) ≡ filter (λ (d : DirEntry). d.lane == mine) dirs
dir_other dirs number lane mine root other = filter_other (λ (d : DirEntry). d.lane == mine) dirs (record { number = number; lane = lane; root = root }) (not_mine lane mine lane other refl)

dir_opened : (dirs : List DirEntry) (number lane mine : ℕ) (found : Option Arrival) → lane ≢ mine → filter (λ (d : DirEntry). d.lane == mine) (with_directory dirs number lane found) ≡ filter (λ (d : DirEntry). d.lane == mine) dirs
dir_opened dirs number lane mine None other = refl
dir_opened dirs number lane mine (Some arrival) other = dir_other dirs number lane mine arrival.root other

dir_closed : (dirs : List DirEntry) (dir lane mine : ℕ) → lane ≢ mine → filter (λ (d : DirEntry). d.lane == mine) (without dirs dir lane) ≡ filter (λ (d : DirEntry). d.lane == mine) dirs
dir_closed dirs dir lane mine other =
    filter_kept (λ (d : DirEntry). d.lane == mine) (λ (d : DirEntry). not (is_of d dir lane))
    (λ d own. not_from_false _ (false_from_ne_true _ (λ of. other (sym (eqb-true d.lane lane (and_parts _ _ of).1) ∙ eqb-true d.lane mine own)))) dirs

dirs_next : (s : State) (number lane : ℕ) (act : Act) (mine : ℕ) → lane ≢ mine → dirs_of mine (next s number lane act) ≡ dirs_of mine s
dirs_next s number lane (Want ticket wants.Opened) mine other = dir_opened s.dirs number lane mine (arrival_of s.arriving ticket) other
dirs_next s number lane (Want ticket reply) mine other = refl
dirs_next s number lane (OpenPath path None) mine other = refl
dirs_next s number lane (OpenPath path (Some root)) mine other = dir_other s.dirs number lane mine root other
dirs_next s number lane (Close dir closed) mine other = dir_closed s.dirs dir lane mine other
dirs_next s number lane act mine other =
    ap (filter (λ (d : DirEntry). d.lane == mine)) ((keeps_rest s number (record { lane = lane; act = act; broke = false })).dirs refl)

-- ---- the update

with_sys_stage : (s : State) (slot : Slot) (sys : Option Sys) → (with_sys s slot sys).stage ≡ s.stage
with_sys_stage s A sys = refl
with_sys_stage s B sys = refl
with_sys_stage s R sys = refl

not_of : (mine lane : ℕ) (phase : states.Phase) → lane ≢ mine → if_of mine (Some (record { lane = lane; phase = phase })) ≡ None
not_of mine lane phase other = rw (not_mine lane mine lane other refl) refl

-- an update begins where none is under way
turn_free : (s : State) (epoch : ℕ) (slot : Slot) (stage : Option states.Stage) → stages.Turn slot ≡ stage_answer (record s { stage = stage }) epoch → stage ≡ None
turn_free s epoch slot None is = refl
turn_free s epoch slot (Some stage) is = elim (cases_Bool (is_recovery s.running)) [
  | inl recovery ↦ absurd (cc (rw recovery at is))
  | inr runs ↦ absurd (cc (rw runs at is))
]

left_other : (mine lane : ℕ) (stage : Option states.Stage) → lane ≢ mine → IsSomeAnd stage (λ (x : states.Stage). x.lane ≡ lane) → None ≡ if_of mine stage
left_other mine lane None other due = refl
left_other mine lane (Some stage) other due = rw (not_mine stage.lane mine lane other due) refl

active_other : (s : State) (lane : ℕ) (seen : List LookedAt) (slot : Slot) (sys : Sys) (mine : ℕ) → lane ≢ mine → (stage : Option states.Stage) → stage ≡ Some (record { lane = lane; phase = states.Phase.Sealed sys })
    → if_of mine (next_activate (record s { stage = stage }) lane seen (activations.Active slot)).stage ≡ if_of mine stage
active_other s lane seen slot sys mine other stage is =
    rw is (ap (if_of mine) (with_sys_stage _ slot (Some sys)) ∙ not_of mine lane states.Phase.Done other ∙ sym (not_of mine lane (states.Phase.Sealed sys) other))

stage_next : (s : State) (number lane : ℕ) (act : Act) (mine : ℕ) → lane ≢ mine → IsActDue s lane act → stage_of mine (next s number lane act) ≡ stage_of mine s
stage_next s number lane (Stage epoch (stages.Turn slot)) mine other due =
    ap (if_of mine) (with_sys_stage _ slot None) ∙ not_of mine lane states.Phase.Filling other ∙ sym (ap (if_of mine) (turn_free s epoch slot s.stage due))
stage_next s number lane (Stage epoch reply) mine other due = refl
stage_next s number lane (Seal sys None) mine other due =
    not_of mine lane (states.Phase.Sealed sys) other ∙ sym (ap (if_of mine) due.0 ∙ not_of mine lane states.Phase.Filling other)
stage_next s number lane (Seal sys (Some difference)) mine other due = refl
stage_next s number lane (Activate (activations.Active slot) seen) mine other due = active_other s lane seen slot due.sys mine other s.stage due.stage
stage_next s number lane (Activate reply seen) mine other due = refl
stage_next s number lane LeftStage mine other due = left_other mine lane s.stage other due
stage_next s number lane act mine other due =
    ap (if_of mine) ((keeps_rest s number (record { lane = lane; act = act; broke = false })).stage refl)

-- ---- the event

same_next : (s : State) (number lane : ℕ) (act : Act) (mine : ℕ) → lane ≢ mine → IsActDue s lane act → StandOnce s number → HoldsSame mine s (next s number lane act)
same_next s number lane act mine other due once = record {
  claims = claims_next s number lane act mine other due once.claims;
  tickets = tickets_next s number lane act mine other due once.tickets;
  dirs = dirs_next s number lane act mine other;
  stage = stage_next s number lane act mine other due;
}

pub left_alone : (s : State) (number : ℕ) (e : Event) (mine : ℕ) → StandOnce s number → IsDue s number e → e.lane ≢ mine → HoldsSame mine s (step s number e)
left_alone s number e mine once due other = by_broke e.broke due.due where
  settled : (t : State) → HoldsSame mine s t → (books : Books) → HoldsSame mine s (record t { books = books })
  settled t same books = record { claims = same.claims; tickets = same.tickets; dirs = same.dirs; stage = same.stage }

  by_broke : (b : Bool) → IsActDueIf b s number e.lane e.act → HoldsSame mine s (record (cond b (next_broken s number e.act) (next s number e.lane e.act)) { books = (step s number e).books })
  by_broke true may = record { claims = broken_claims s number e.lane e.act mine other may.0 once.claims; tickets = refl; dirs = refl; stage = refl }
  by_broke false act_due = settled (next s number e.lane e.act) (same_next s number e.lane e.act mine other act_due once) (step s number e).books

pub left_alone_after : (origin : Origin) (history : List Event) (e : Event) (mine : ℕ) → IsLegal origin history → IsDue (after origin history) (length history + 1) e → e.lane ≢ mine → HoldsSame mine (after origin history) (step (after origin history) (length history + 1) e)
left_alone_after origin history e mine legal due other =
    left_alone (after origin history) (length history + 1) e mine (stand_once origin history legal) due other
