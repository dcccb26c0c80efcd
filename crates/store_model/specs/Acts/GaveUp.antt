-- A ticket is given up.
use Rattle.std.specs.Prelude.{◌≡◌, ℕ, IsSomeAnd}
use Rattle.store_model.specs.State.{State, Arrival, arrival_of, without_ticket}

-- the ticket is the lane's
abbrev pub IsTicketOf : State → ℕ → ℕ → Type 0
IsTicketOf s lane ticket = IsSomeAnd (arrival_of s.arriving ticket) (λ (arrival : Arrival). arrival.lane ≡ lane)

abbrev pub IsDueGaveUp : State → ℕ → ℕ → Type 0
IsDueGaveUp s lane ticket = IsTicketOf s lane ticket

abbrev pub next_gave_up : State → ℕ → State
next_gave_up s ticket = record s { arriving = without_ticket s.arriving ticket }
