-- After a write that failed, a call is refused. What it was handed ends, and marks nothing.
use Rattle.std.specs.Prelude.{◌≡◌, ℕ, Some}
use Rattle.store_model.specs.declared.events.CallName.{CallName}
use Rattle.store_model.specs.declared.events.CallName.TheVariants as calls
use Rattle.store_model.specs.State.{State}
use Rattle.store_model.specs.Acts.GaveUp.{IsTicketOf, next_gave_up}
use Rattle.store_model.specs.Acts.Marking.{unclaimed}
use Rattle.store_model.specs.Acts.Missed.{IsClaimOf}

-- the ticket or the claim that the call is handed is the lane's
abbrev pub IsHandedOf : State → ℕ → CallName → Type 0
IsHandedOf s lane (calls.Want ticket) = IsTicketOf s lane ticket
IsHandedOf s lane (calls.Room root) = IsClaimOf s lane root
IsHandedOf s lane (calls.Put root) = IsClaimOf s lane root
IsHandedOf s lane (calls.Land root) = IsClaimOf s lane root
IsHandedOf s lane call = Unit {0}

pub record IsDueRefused (s : State) (lane : ℕ) (call : CallName) (number : ℕ) : Type 0 where
  pub broken : s.broken ≡ Some number
  pub handed : IsHandedOf s lane call

abbrev pub next_refused : State → CallName → State
next_refused s (calls.Want ticket) = next_gave_up s ticket
next_refused s (calls.Room root) = unclaimed s root
next_refused s (calls.Put root) = unclaimed s root
next_refused s (calls.Land root) = unclaimed s root
next_refused s call = s
