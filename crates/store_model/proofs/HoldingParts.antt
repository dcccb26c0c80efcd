-- What a lane's change of the tickets, the claims, the directories or the stage makes of its part of them.
use Rattle.std.proofs.Common.{◌≡◌, ℕ, Bool, true, false, not, List, [], ◌∷◌, ◌++◌, map, Option, Some, None, cond, refl, sym, ap, ◌∙◌}
use Rattle.std.specs.Prelude.{◌==◌, filter, IsSomeAnd}
use Rattle.std.specs.Option.{option_map, option_to_list}
use Rattle.std.proofs.lemmas.Bool.{eq-eqb, not_from_true}
use Rattle.std.proofs.lemmas.List.{map-append}
use Rattle.pkg_names.specs.declared.root.Root.{Root}
use Rattle.pkg_names.specs.Root.{root_eq}
use Rattle.package_book.specs.Books.{Books}
use Rattle.package_book.specs.Names.{names}
use Rattle.fetch_queue.specs.declared.FetchEnd.{FetchEnd}
use Rattle.fetch_queue.specs.declared.queue.ClaimEntry.{ClaimEntry}
use Rattle.fetch_queue.specs.Fetches.{roomed, with_room, without_claim, first_mark}
use Rattle.open_tracker.specs.declared.dirs.DirEntry.{DirEntry}
use Rattle.open_tracker.specs.Directories.{is_of, without}
use Rattle.store_model.specs.State.{State, Arrival, Phase, Stage, has_root, claim_of, holds_claim, arrival_of, without_ticket}
use Rattle.store_model.specs.Acts.Marking.{marked}
use Rattle.store_model.specs.Holding.{HeldTicket, HeldClaim, Held, without_number, ticket_with, with_len}
use Rattle.store_model.specs.Held.{HoldsAsState, ticket_in, claim_in}
use Rattle.store_model.specs.Lanes.{HoldsSame, unmarked, if_of}
use Rattle.store_model.proofs.HoldingLists.{filter_swap, filter-map, filter_in, filter_none, map_same, filter_changed, find-map, some_and, found_alone}
use Rattle.store_model.proofs.LanesLists.{found_passes, found_mine}

-- ---- what a lane holds, of the lists of a state

abbrev pub lane_tickets : ℕ → List Arrival → List HeldTicket
lane_tickets lane arriving = map ticket_in (filter (λ (arrival : Arrival). arrival.lane == lane) arriving)

abbrev pub lane_claims : ℕ → List ClaimEntry → List HeldClaim
lane_claims lane claims = map claim_in (filter (λ (claim : ClaimEntry). claim.lane == lane) claims)

abbrev pub lane_dirs : ℕ → List DirEntry → List DirEntry
lane_dirs lane dirs = filter (λ (dir : DirEntry). dir.lane == lane) dirs

abbrev pub lane_phase : ℕ → Option Stage → Option Phase
lane_phase lane stage = option_map (λ (at : Stage). at.phase) (if_of lane stage)

-- the same as `HoldsAsState`, with a ticket's mark left out at once
pub record HoldsIn (lane : ℕ) (h : Held) (s : State) : Type 0 where
  pub tickets : h.tickets ≡ lane_tickets lane s.arriving
  pub claim : option_to_list h.claim ≡ lane_claims lane s.claims
  pub dirs : h.dirs ≡ lane_dirs lane s.dirs
  pub stage : h.stage ≡ lane_phase lane s.stage

unmarked_tickets : (lane : ℕ) (arriving : List Arrival) → map ticket_in (map unmarked (filter (λ (arrival : Arrival). arrival.lane == lane) arriving)) ≡ lane_tickets lane arriving
unmarked_tickets lane arriving =
    map_same ticket_in unmarked (λ (x : Arrival). refl) (filter (λ (arrival : Arrival). arrival.lane == lane) arriving)

pub as_state : (lane : ℕ) (h : Held) (s : State) → HoldsIn lane h s → HoldsAsState lane h s
as_state lane h s holds = record {
  tickets = holds.tickets ∙ sym (unmarked_tickets lane s.arriving);
  claim = holds.claim;
  dirs = holds.dirs;
  stage = holds.stage;
}

-- another lane's event leaves it
pub as_before : (lane : ℕ) (h : Held) (s t : State) → HoldsSame lane s t → HoldsIn lane h s → HoldsIn lane h t
as_before lane h s t same holds = record {
  tickets = holds.tickets ∙ sym (unmarked_tickets lane s.arriving) ∙ ap (map ticket_in) (sym same.tickets) ∙ unmarked_tickets lane t.arriving;
  claim = holds.claim ∙ ap (map claim_in) (sym same.claims);
  dirs = holds.dirs ∙ sym same.dirs;
  stage = holds.stage ∙ ap (option_map (λ (at : Stage). at.phase)) (sym same.stage);
}

-- what neither choice changes
pub cond_other : {X Y : Type 0} (f : X → Y) (test : Bool) (x y : X) → f x ≡ f y → f (cond test x y) ≡ f y
cond_other f true x y same = same
cond_other f false x y same = refl

same_lane : (by lane : ℕ) → by ≡ lane → (by == lane) ≡ true
same_lane by lane same = eq-eqb by lane same

-- ---- tickets

abbrev pub has_lane : ℕ → Arrival → Bool
has_lane lane arrival = arrival.lane == lane

abbrev pub has_number : ℕ → Arrival → Bool
has_number number arrival = arrival.ticket == number

pub begun_own : (lane : ℕ) (arriving : List Arrival) (a : Arrival) → a.lane ≡ lane → lane_tickets lane (arriving ++ a ∷ []) ≡ lane_tickets lane arriving ++ ticket_in a ∷ []
begun_own lane arriving a own =
    ap (map ticket_in) (filter_in (has_lane lane) arriving a (same_lane a.lane lane own)) ∙ map-append ticket_in (filter (has_lane lane) arriving) (a ∷ [])

pub dropped_own : (lane number : ℕ) (arriving : List Arrival) → lane_tickets lane (without_ticket arriving number) ≡ without_number (lane_tickets lane arriving) number
dropped_own lane number arriving =
    ap (map ticket_in) (filter_swap (has_lane lane) (λ (a : Arrival). not (has_number number a)) arriving) ∙ sym
    (filter-map ticket_in (λ (t : HeldTicket). not (t.number == number)) (filter (has_lane lane) arriving))

pub ticket_found : (lane number : ℕ) (arriving : List Arrival) (a : Arrival) → arrival_of arriving number ≡ Some a → a.lane ≡ lane
    → ticket_with (lane_tickets lane arriving) number ≡ Some (ticket_in a)
ticket_found lane number arriving a found own =
    find-map ticket_in (λ (t : HeldTicket). t.number == number) (filter (has_lane lane) arriving) ∙ ap (option_map ticket_in)
    (found_mine (has_number number) (has_lane lane) arriving a found (same_lane a.lane lane own))

pub marked_tickets : (lane : ℕ) (books : Books) (root : Root) (end : FetchEnd) (arriving : List Arrival)
    → lane_tickets lane (map (marked books root end) arriving) ≡ lane_tickets lane arriving
marked_tickets lane books root end arriving =
    ap (map ticket_in)
    (filter_changed (has_lane lane) (marked books root end)
    (λ (x : Arrival). cond_other (has_lane lane) (has_root (names x.root books) root) (record x { mark = first_mark x.mark end }) x refl)
    arriving) ∙ map_same ticket_in (marked books root end)
    (λ (x : Arrival). cond_other ticket_in (has_root (names x.root books) root) (record x { mark = first_mark x.mark end }) x refl)
    (filter (has_lane lane) arriving)

-- ---- claims

abbrev pub is_lanes : ℕ → ClaimEntry → Bool
is_lanes lane claim = claim.lane == lane

abbrev pub is_for : Root → ClaimEntry → Bool
is_for root claim = root_eq claim.root root

pub claimed_own : (lane : ℕ) (claims : List ClaimEntry) (c : ClaimEntry) → c.lane ≡ lane → holds_claim claims lane ≡ false → lane_claims lane (claims ++ c ∷ []) ≡ claim_in c ∷ []
claimed_own lane claims c own free =
    ap (map claim_in) (filter_in (is_lanes lane) claims c (same_lane c.lane lane own) ∙ ap (λ (cs : List ClaimEntry). cs ++ c ∷ []) (filter_none (is_lanes lane) claims free))

-- the claim of a root that is the lane's is the only one of the lane
alone : (lane : ℕ) (claims : List ClaimEntry) (root : Root) (o : Option HeldClaim) (c : ClaimEntry) → option_to_list o ≡ lane_claims lane claims → claim_of claims root ≡ Some c → c.lane ≡ lane
    → filter (is_lanes lane) claims ≡ c ∷ []
alone lane claims root o c few found own =
    found_alone claim_in (is_for root) (filter (is_lanes lane) claims) o c few
    (found_mine (is_for root) (is_lanes lane) claims c found (same_lane c.lane lane own))

pub unclaimed_own : (lane : ℕ) (claims : List ClaimEntry) (root : Root) (o : Option HeldClaim) → option_to_list o ≡ lane_claims lane claims → IsSomeAnd (claim_of claims root) (λ (c : ClaimEntry). c.lane ≡ lane)
    → lane_claims lane (without_claim claims root) ≡ []
unclaimed_own lane claims root o few handed =
    let found = some_and (claim_of claims root) (λ (c : ClaimEntry). c.lane ≡ lane) handed in
    let gone : filter (λ (c : ClaimEntry). not (is_for root c)) (found.0 ∷ []) ≡ [] =
    ap (λ (test : Bool). cond test (found.0 ∷ []) []) (not_from_true _ (found_passes (is_for root) claims found.0 found.1)) in
    ap (map claim_in)
    (filter_swap (is_lanes lane) (λ (c : ClaimEntry). not (is_for root c)) claims ∙ ap (filter (λ (c : ClaimEntry). not (is_for root c))) (alone lane claims root o found.0 few found.1 found.2) ∙ gone)

-- room changes no claim's lane
roomed_lane : (lane : ℕ) (claims : List ClaimEntry) (root : Root) (len : ℕ) → filter (is_lanes lane) (with_room claims root len) ≡ map (roomed root len) (filter (is_lanes lane) claims)
roomed_lane lane claims root len =
    filter_changed (is_lanes lane) (roomed root len)
    (λ (x : ClaimEntry). cond_other (is_lanes lane) (root_eq x.root root) (record x { len = Some len }) x refl) claims

to_list_map : (len : ℕ) (o : Option HeldClaim) → option_to_list (option_map (with_len len) o) ≡ map (with_len len) (option_to_list o)
to_list_map len None = refl
to_list_map len (Some claim) = refl

pub roomed_own : (lane : ℕ) (claims : List ClaimEntry) (root : Root) (len : ℕ) (o : Option HeldClaim) → option_to_list o ≡ lane_claims lane claims → IsSomeAnd (claim_of claims root) (λ (c : ClaimEntry). c.lane ≡ lane)
    → option_to_list (option_map (with_len len) o) ≡ lane_claims lane (with_room claims root len)
roomed_own lane claims root len o few handed =
    let found = some_and (claim_of claims root) (λ (c : ClaimEntry). c.lane ≡ lane) handed in
    let one : filter (is_lanes lane) claims ≡ found.0 ∷ [] = alone lane claims root o found.0 few found.1 found.2 in
    let room : claim_in (roomed root len found.0) ≡ with_len len (claim_in found.0) =
    ap (λ (test : Bool). claim_in (cond test (record found.0 { len = Some len }) found.0)) (found_passes (is_for root) claims found.0 found.1) in
    to_list_map len o ∙ ap (map (with_len len)) (few ∙ ap (map claim_in) one) ∙ ap (λ (claim : HeldClaim). claim ∷ []) (sym room) ∙ sym
    (ap (map claim_in) (roomed_lane lane claims root len ∙ ap (map (roomed root len)) one))

-- ---- directories and the stage

abbrev pub is_open_for : ℕ → DirEntry → Bool
is_open_for lane dir = dir.lane == lane

pub opened_own : (lane : ℕ) (dirs : List DirEntry) (d : DirEntry) → d.lane ≡ lane → lane_dirs lane (dirs ++ d ∷ []) ≡ lane_dirs lane dirs ++ d ∷ []
opened_own lane dirs d own = filter_in (is_open_for lane) dirs d (same_lane d.lane lane own)

pub closed_own : (lane dir : ℕ) (dirs : List DirEntry) → lane_dirs lane (without dirs dir lane) ≡ without (lane_dirs lane dirs) dir lane
closed_own lane dir dirs = filter_swap (is_open_for lane) (λ (d : DirEntry). not (is_of d dir lane)) dirs

pub staged_own : (lane : ℕ) (stage : Stage) → stage.lane ≡ lane → lane_phase lane (Some stage) ≡ Some stage.phase
staged_own lane stage own = ap (λ (test : Bool). option_map (λ (at : Stage). at.phase) (cond test (Some stage) None)) (same_lane stage.lane lane own)
