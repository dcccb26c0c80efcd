-- What a lane holds at its desk is the state's, before and after each call.
use Rattle.std.proofs.Common.{inl, inr, ◌≡◌, ◌≢◌, ◌+◌, ◌<◌, ℕ, List, [], ◌∷◌, ◌++◌, length, All, refl, sym, ap, subst, ◌∙◌, arith}
use Rattle.std.specs.Prelude.{◌==◌, filter}
use Rattle.std.proofs.lemmas.Bool.{cases_Bool, eq-eqb, ne_eqb}
use Rattle.std.proofs.lemmas.List.{same_from_push}
use Rattle.std.proofs.lemmas.List.Elements.{All-head, All-tail, All-map, All-filter, All-same}
use Rattle.open_tracker.specs.declared.dirs.DirEntry.{DirEntry}
use Rattle.store_model.specs.declared.events.Event.{Event}
use Rattle.store_model.specs.State.{State, Arrival}
use Rattle.store_model.specs.History.{Origin, IsLegal, after, Numbered, of_lane_from, of_lane}
use Rattle.store_model.specs.Holding.{HeldTicket, Held, held}
use Rattle.store_model.specs.Held.{HoldsAsState, HasHandles, ticket_in}
use Rattle.store_model.specs.Lanes.{StandOnce}
use Rattle.store_model.proofs.LanesOnce.{stand_once}
use Rattle.store_model.specs.Desk.{View, state_of, held_by, Does, Rests}
use Rattle.store_model.proofs.Histories.{front_is_legal}
use Rattle.store_model.proofs.HoldingParts.{HoldsIn, lane_tickets, lane_dirs, has_lane, is_open_for}
use Rattle.store_model.proofs.Holding.{holds_in, holds_as_state}
use Rattle.store_model.proofs.HoldingThere.{handles_there}

-- ---- the events of a lane

abbrev as_numbered : ℕ → Event → Numbered
as_numbered number e = record { number = number; event = e }

of_lane_from-push : (lane number : ℕ) (history : List Event) (e : Event) → e.lane ≡ lane → of_lane_from lane number (history ++ e ∷ []) ≡ of_lane_from lane number history ++ as_numbered (length history + number) e ∷ []
of_lane_from-push lane number [] e own =
    rw (eq-eqb e.lane lane own) (ap (λ (n : ℕ). as_numbered n e ∷ []) (omega arith))
of_lane_from-push lane number (x ∷ history) e own =
    let rest : of_lane_from lane (number + 1) (history ++ e ∷ []) ≡ of_lane_from lane (number + 1) history ++ as_numbered (length (x ∷ history) + number) e ∷ [] =
    of_lane_from-push lane (number + 1) history e own ∙ ap (λ (n : ℕ). of_lane_from lane (number + 1) history ++ as_numbered n e ∷ []) (omega arith) in
    elim (cases_Bool (x.lane == lane)) [
      | inl is ↦ rw is (ap (λ (es : List Numbered). as_numbered number x ∷ es) rest)
      | inr isnt ↦ rw isnt rest
    ]

-- one more event of the lane
pub of_lane-push : (lane : ℕ) (history : List Event) (e : Event) → e.lane ≡ lane → of_lane lane (history ++ e ∷ []) ≡ of_lane lane history ++ record { number = length history + 1; event = e } ∷ []
of_lane-push lane history e own = of_lane_from-push lane 1 history e own

of_lane_from-others : (lane number : ℕ) (history others : List Event) → All (λ (e : Event). e.lane ≢ lane) others → of_lane_from lane number (history ++ others) ≡ of_lane_from lane number history
of_lane_from-others lane number [] [] none = refl
of_lane_from-others lane number [] (x ∷ others) none =
    rw (ne_eqb x.lane lane (All-head (λ (e : Event). e.lane ≢ lane) x others none))
    (of_lane_from-others lane (number + 1) [] others (All-tail (λ (e : Event). e.lane ≢ lane) x others none))
of_lane_from-others lane number (x ∷ history) others none =
    let rest = of_lane_from-others lane (number + 1) history others none in
    elim (cases_Bool (x.lane == lane)) [
      | inl is ↦ rw is (ap (λ (es : List Numbered). as_numbered number x ∷ es) rest)
      | inr isnt ↦ rw isnt rest
    ]

-- events of other lanes
pub of_lane-others : (lane : ℕ) (history others : List Event) → All (λ (e : Event). e.lane ≢ lane) others → of_lane lane (history ++ others) ≡ of_lane lane history
of_lane-others lane history others none = of_lane_from-others lane 1 history others none

-- ---- before a call

-- what the lane did is its part of the history in which its event came
pub mine_before-Does : (old new : View) (IsIts : ℕ → Event → Type 0) (does : Does old new IsIts) → old.mine ≡ of_lane old.lane (old.seen ++ does.others)
mine_before-Does old new IsIts does =
    let lanes : of_lane new.lane new.seen ≡ of_lane old.lane (old.seen ++ does.others) ++ record { number = length (old.seen ++ does.others) + 1; event = does.event } ∷ [] =
    ap (λ (l : ℕ). of_lane l new.seen) does.stays.lane ∙ ap (of_lane old.lane) does.seen ∙ of_lane-push old.lane (old.seen ++ does.others) does.event does.lane in
    (same_from_push old.mine (of_lane old.lane (old.seen ++ does.others)) _ _ (sym does.mine ∙ does.own ∙ lanes)).0

pub legal_before-Does : (old new : View) (IsIts : ℕ → Event → Type 0) (does : Does old new IsIts) → IsLegal old.origin (old.seen ++ does.others)
legal_before-Does old new IsIts does =
    front_is_legal old.origin (old.seen ++ does.others) (does.event ∷ [])
    (subst (λ (es : List Event). IsLegal old.origin es) does.seen (subst (λ (o : Origin). IsLegal o new.seen) does.stays.origin does.legal))

-- ---- what the lane holds

holds_view : (origin : Origin) (lane : ℕ) (seen : List Event) (mine : List Numbered) → mine ≡ of_lane lane seen → IsLegal origin seen → HoldsAsState lane (held mine) (after origin seen)
holds_view origin lane seen mine own legal =
    subst (λ (es : List Numbered). HoldsAsState lane (held es) (after origin seen)) (sym own) (holds_as_state origin seen lane legal)

there_view : (origin : Origin) (lane : ℕ) (seen : List Event) (mine : List Numbered) → mine ≡ of_lane lane seen → IsLegal origin seen → HasHandles lane (held mine) (after origin seen)
there_view origin lane seen mine own legal =
    subst (λ (es : List Numbered). HasHandles lane (held es) (after origin seen)) (sym own) (handles_there origin seen lane legal)

-- after a call
pub holds_after-Does : (old new : View) (IsIts : ℕ → Event → Type 0) → Does old new IsIts → HoldsAsState new.lane (held_by new) (state_of new)
holds_after-Does old new IsIts does = holds_view new.origin new.lane new.seen new.mine does.own does.legal

pub holds_after-Rests : (old new : View) → Rests old new → HoldsAsState new.lane (held_by new) (state_of new)
holds_after-Rests old new rests = holds_view new.origin new.lane new.seen new.mine rests.own rests.legal

pub there_after-Does : (old new : View) (IsIts : ℕ → Event → Type 0) → Does old new IsIts → HasHandles new.lane (held_by new) (state_of new)
there_after-Does old new IsIts does = there_view new.origin new.lane new.seen new.mine does.own does.legal

pub there_after-Rests : (old new : View) → Rests old new → HasHandles new.lane (held_by new) (state_of new)
there_after-Rests old new rests = there_view new.origin new.lane new.seen new.mine rests.own rests.legal

-- in the state in which the event of the call is due
pub holds_before-Does : (old new : View) (IsIts : ℕ → Event → Type 0) (does : Does old new IsIts) → HoldsAsState old.lane (held_by old) (after old.origin (old.seen ++ does.others))
holds_before-Does old new IsIts does =
    holds_view old.origin old.lane (old.seen ++ does.others) old.mine (mine_before-Does old new IsIts does) (legal_before-Does old new IsIts does)

pub there_before-Does : (old new : View) (IsIts : ℕ → Event → Type 0) (does : Does old new IsIts) → HasHandles old.lane (held_by old) (after old.origin (old.seen ++ does.others))
there_before-Does old new IsIts does =
    there_view old.origin old.lane (old.seen ++ does.others) old.mine (mine_before-Does old new IsIts does) (legal_before-Does old new IsIts does)

-- ---- the numbers of tickets and directories

before_event : (old new : View) (IsIts : ℕ → Event → Type 0) (does : Does old new IsIts) → HoldsIn old.lane (held_by old) (after old.origin (old.seen ++ does.others))
before_event old new IsIts does =
    subst (λ (es : List Numbered). HoldsIn old.lane (held es) (after old.origin (old.seen ++ does.others))) (sym (mine_before-Does old new IsIts does))
    (holds_in old.origin (old.seen ++ does.others) old.lane (legal_before-Does old new IsIts does))

tickets_below : (lane next : ℕ) (h : Held) (s : State) → StandOnce s next → HoldsIn lane h s → All (λ (t : HeldTicket). t.number < next) h.tickets
tickets_below lane next h s once holds =
    All-same (λ (t : HeldTicket). t.number < next) h.tickets (lane_tickets lane s.arriving) holds.tickets
    (All-map (λ (t : HeldTicket). t.number < next) ticket_in (filter (has_lane lane) s.arriving) (All-filter (has_lane lane) (λ (a : Arrival). a.ticket < next) s.arriving once.tickets.before))

-- each ticket that the lane holds has a number below that of its next event
pub tickets_before-Does : (old new : View) (IsIts : ℕ → Event → Type 0) (does : Does old new IsIts)
    → All (λ (t : HeldTicket). t.number < length (old.seen ++ does.others) + 1) (held_by old).tickets
tickets_before-Does old new IsIts does =
    tickets_below old.lane (length (old.seen ++ does.others) + 1) (held_by old) (after old.origin (old.seen ++ does.others))
    (stand_once old.origin (old.seen ++ does.others) (legal_before-Does old new IsIts does)) (before_event old new IsIts does)

dirs_below : (lane next : ℕ) (h : Held) (s : State) → StandOnce s next → HoldsIn lane h s → All (λ (d : DirEntry). d.number < next) h.dirs
dirs_below lane next h s once holds =
    All-same (λ (d : DirEntry). d.number < next) h.dirs (lane_dirs lane s.dirs) holds.dirs
    (All-filter (is_open_for lane) (λ (d : DirEntry). d.number < next) s.dirs once.dirs.before)

-- and so has each directory
pub dirs_before-Does : (old new : View) (IsIts : ℕ → Event → Type 0) (does : Does old new IsIts)
    → All (λ (d : DirEntry). d.number < length (old.seen ++ does.others) + 1) (held_by old).dirs
dirs_before-Does old new IsIts does =
    dirs_below old.lane (length (old.seen ++ does.others) + 1) (held_by old) (after old.origin (old.seen ++ does.others))
    (stand_once old.origin (old.seen ++ does.others) (legal_before-Does old new IsIts does)) (before_event old new IsIts does)
