-- What the handles of a lane are in the state.
use Rattle.std.proofs.Common.{inl, inr, ◌≡◌, ◌≢◌, ℕ, Bool, true, false, cond, List, [], ◌∷◌, Option, Some, None, sym, ap, subst, ◌∙◌}
use Rattle.std.specs.Prelude.{◌==◌, find, filter, IsSomeAnd}
use Rattle.std.specs.List.{AllPairs}
use Rattle.std.specs.Option.{option_map, option_to_list}
use Rattle.std.proofs.lemmas.Bool.{cases_Bool, eqb-true, and_parts}
use Rattle.std.proofs.lemmas.List.Elements.{filter_passes}
use Rattle.pkg_names.specs.declared.root.Root.{Root}
use Rattle.pkg_names.proofs.Roots.{root_eq-same}
use Rattle.fetch_queue.specs.declared.queue.ClaimEntry.{ClaimEntry}
use Rattle.open_tracker.specs.declared.dirs.DirEntry.{DirEntry}
use Rattle.open_tracker.specs.Directories.{is_of, root_of}
use Rattle.store_model.specs.declared.events.Event.{Event}
use Rattle.store_model.specs.State.{State, Arrival, Phase, Stage, arrival_of, claim_of, holds_claim}
use Rattle.store_model.specs.History.{Origin, IsLegal, after, of_lane}
use Rattle.store_model.specs.Holding.{HeldTicket, HeldClaim, Held, ticket_with, held}
use Rattle.store_model.specs.Held.{HasHandles, IsTicketIn, ticket_in, claim_in}
use Rattle.store_model.specs.Lanes.{StandOnce}
use Rattle.store_model.proofs.LanesLists.{find_kept, found_all, found_whole}
use Rattle.store_model.proofs.LanesOnce.{stand_once}
use Rattle.store_model.proofs.LanesApart.{tickets_apart, claims_apart}
use Rattle.store_model.proofs.HoldingLists.{find-map, none_kept, map_none, map_one, mapped}
use Rattle.store_model.proofs.HoldingParts.{HoldsIn, lane_tickets, lane_claims, lane_phase, has_lane, has_number, is_lanes, is_for, is_open_for}
use Rattle.store_model.proofs.Holding.{holds_in}

pub in_some : {X : Type 0} (o : Option X) (P : X → Type 0) (x : X) → o ≡ Some x → P x → IsSomeAnd o P
in_some {X = X} o P x is holds = subst (λ (o : Option X). IsSomeAnd o P) (sym is) holds

ticket_there : (lane number : ℕ) (arriving : List Arrival) (ticket : HeldTicket) → AllPairs (λ (a b : Arrival). a.ticket ≢ b.ticket) arriving → ticket_with (lane_tickets lane arriving) number ≡ Some ticket
    → IsSomeAnd (arrival_of arriving number) (IsTicketIn lane ticket)
ticket_there lane number arriving ticket apart is =
    let found = mapped ticket_in (find (has_number number) (filter (has_lane lane) arriving)) ticket
    (sym (find-map ticket_in (λ (t : HeldTicket). t.number == number) (filter (has_lane lane) arriving)) ∙ is) in
    let own = found_all (has_number number) (λ (a : Arrival). has_lane lane a ≡ true) (filter (has_lane lane) arriving) found.0 found.1 (filter_passes (has_lane lane) arriving) in
    in_some (arrival_of arriving number) (IsTicketIn lane ticket) found.0
    (found_whole (has_number number) (has_lane lane) (λ (a b : Arrival). a.ticket ≢ b.ticket) (tickets_apart number) arriving apart found.0 found.1)
    (record { lane = eqb-true found.0.lane lane own; same = found.2 })

claim_there : (lane : ℕ) (claims : List ClaimEntry) (claim : HeldClaim) → AllPairs (λ (a b : ClaimEntry). a.root ≢ b.root) claims → claim ∷ [] ≡ lane_claims lane claims
    → claim_of claims claim.root ≡ Some (record { root = claim.root; lane = lane; len = claim.len })
claim_there lane claims claim apart few =
    let one = map_one claim_in (filter (is_lanes lane) claims) claim few in
    let entry : ClaimEntry = one.0 in
    let root : claim.root ≡ entry.root = ap (λ (c : HeldClaim). c.root) one.2 in
    let found : find (is_for claim.root) (filter (is_lanes lane) claims) ≡ Some entry =
    ap (find (is_for claim.root)) one.1 ∙ ap (λ (test : Bool). cond test (Some entry) None) (root_eq-same entry.root claim.root (sym root)) in
    let own = found_all (is_for claim.root) (λ (c : ClaimEntry). is_lanes lane c ≡ true) (filter (is_lanes lane) claims) entry found (filter_passes (is_lanes lane) claims) in
    let there : claim_of claims claim.root ≡ Some entry =
    found_whole (is_for claim.root) (is_lanes lane) (λ (a b : ClaimEntry). a.root ≢ b.root) (claims_apart claim.root) claims apart entry found in
    there ∙ ap (λ (r : Root). Some (as_entry r entry.lane entry.len)) (sym root) ∙ ap (λ (l : ℕ). Some (as_entry claim.root l entry.len)) (eqb-true entry.lane lane own) ∙
    ap (λ (n : Option ℕ). Some (as_entry claim.root lane n)) (sym (ap (λ (c : HeldClaim). c.len) one.2)) where
      as_entry : Root → ℕ → Option ℕ → ClaimEntry
      as_entry root lane len = record { root = root; lane = lane; len = len }

free_there : (lane : ℕ) (claims : List ClaimEntry) → [] ≡ lane_claims lane claims → holds_claim claims lane ≡ false
free_there lane claims few = none_kept (is_lanes lane) claims (map_none claim_in (filter (is_lanes lane) claims) few)

dir_there : (lane dir : ℕ) (dirs : List DirEntry) → root_of (filter (is_open_for lane) dirs) dir lane ≡ root_of dirs dir lane
dir_there lane dir dirs =
    ap (option_map (λ (d : DirEntry). d.root))
    (find_kept (λ (d : DirEntry). is_of d dir lane) (is_open_for lane) (λ d is. (and_parts (d.number == dir) (d.lane == lane) is).1) dirs)

stage_there : (lane : ℕ) (stage : Option Stage) (phase : Phase) → lane_phase lane stage ≡ Some phase → stage ≡ Some (record { lane = lane; phase = phase })
stage_there lane None phase is = absurd (cc is)
stage_there lane (Some stage) phase is =
    elim (cases_Bool (stage.lane == lane)) [
      | inl own ↦
          let here : Some stage.phase ≡ Some phase = rw own at is in
          let same : stage.phase ≡ phase = cc here in
          ap (λ (l : ℕ). Some (as_stage l stage.phase)) (eqb-true stage.lane lane own) ∙ ap (λ (p : Phase). Some (as_stage lane p)) same
      | inr other ↦ let no : None ≡ Some phase = rw other at is in absurd (cc no)
    ] where
      as_stage : ℕ → Phase → Stage
      as_stage lane phase = record { lane = lane; phase = phase }

pub has_handles : (next lane : ℕ) (h : Held) (s : State) → StandOnce s next → HoldsIn lane h s → HasHandles lane h s
has_handles next lane h s once holds = record {
  ticket = λ number ticket is. ticket_there lane number s.arriving ticket once.tickets.apart (sym (ap (λ (ts : List HeldTicket). ticket_with ts number) holds.tickets) ∙ is);
  claim = λ claim is. claim_there lane s.claims claim once.claims.roots (sym (ap (λ (o : Option HeldClaim). option_to_list o) is) ∙ holds.claim);
  free = λ is. free_there lane s.claims (sym (ap (λ (o : Option HeldClaim). option_to_list o) is) ∙ holds.claim);
  dir = λ dir. ap (λ (ds : List DirEntry). root_of ds dir lane) holds.dirs ∙ dir_there lane dir s.dirs;
  stage = λ phase is. stage_there lane s.stage phase (sym holds.stage ∙ is);
}

pub handles_there : (origin : Origin) (history : List Event) (lane : ℕ) → IsLegal origin history → HasHandles lane (held (of_lane lane history)) (after origin history)
handles_there origin history lane legal =
    has_handles _ lane (held (of_lane lane history)) (after origin history) (stand_once origin history legal) (holds_in origin history lane legal)
