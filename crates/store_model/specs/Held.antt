-- What a lane holds, as the state has it.
use Rattle.std.specs.Prelude.{◌≡◌, ℕ, false, map, Some, None, IsSomeAnd}
use Rattle.std.specs.Option.{option_map, option_to_list}
use Rattle.fetch_queue.specs.declared.queue.ClaimEntry.{ClaimEntry}
use Rattle.open_tracker.specs.Directories.{root_of}
use Rattle.store_model.specs.State.{State, Arrival, Phase, Stage, claim_of, holds_claim, arrival_of, IsStageOf}
use Rattle.store_model.specs.Lanes.{claims_of, tickets_of, dirs_of, stage_of}
use Rattle.store_model.specs.Holding.{HeldTicket, HeldClaim, Held, ticket_with}

-- the ticket of a package that arrives
abbrev pub ticket_in : Arrival → HeldTicket
ticket_in arrival = record { number = arrival.ticket; path = arrival.path; root = arrival.root }

abbrev pub claim_in : ClaimEntry → HeldClaim
claim_in claim = record { root = claim.root; len = claim.len }

-- The lane holds its tickets and its directories of the state, in their order, its one claim if it has
-- one, and the update if that is its own.
pub record HoldsAsState (lane : ℕ) (h : Held) (s : State) : Type 0 where
  pub tickets : h.tickets ≡ map ticket_in (tickets_of lane s)
  pub claim : option_to_list h.claim ≡ map claim_in (claims_of lane s)
  pub dirs : h.dirs ≡ dirs_of lane s
  pub stage : h.stage ≡ option_map (λ (stage : Stage). stage.phase) (stage_of lane s)

-- ---- what the handles of a lane are in the state

-- the arrival is the lane's, and of this ticket
pub record IsTicketIn (by : ℕ) (ticket : HeldTicket) (arrival : Arrival) : Type 0 where
  pub lane : arrival.lane ≡ by
  pub same : ticket_in arrival ≡ ticket

-- The state has each ticket of the lane under its number, the lane's claim as the one of its root, the
-- lane's directories, and the lane's update. A lane that holds no claim has none.
pub record HasHandles (lane : ℕ) (h : Held) (s : State) : Type 0 where
  pub ticket : (number : ℕ) (ticket : HeldTicket) → ticket_with h.tickets number ≡ Some ticket
      → IsSomeAnd (arrival_of s.arriving number) (IsTicketIn lane ticket)
  pub claim : (claim : HeldClaim) → h.claim ≡ Some claim
      → claim_of s.claims claim.root ≡ Some (record { root = claim.root; lane = lane; len = claim.len })
  pub free : h.claim ≡ None → holds_claim s.claims lane ≡ false
  pub dir : (dir : ℕ) → root_of h.dirs dir lane ≡ root_of s.dirs dir lane
  pub stage : (phase : Phase) → h.stage ≡ Some phase → IsStageOf s lane phase
