-- A ledger: the history of a store, with the state after it.
use Rattle.std.specs.Prelude.{◌≡◌, ◌≤◌, ℕ, ◌+◌, true, false, List, [], ◌∷◌, ◌++◌, length, None}
use Rattle.image_layout.specs.declared.geometry.Geometry.{Geometry}
use Rattle.store_model.specs.declared.events.Act.{Act}
use Rattle.store_model.specs.declared.events.Event.{Event}
use Rattle.store_model.specs.State.{Standing, State}
use Rattle.store_model.specs.Step.{IsDue, is_boot, next, seen_by, step}
use Rattle.store_model.specs.History.{Origin, IsLegal, after}
use Rattle.store_model.specs.History.Beginning.{Lasted}
use Rattle.store_model.specs.Mirrors.{Mirrors}
use Rattle.plain_state.specs.Holdings.{ends_due}

-- the events, and how many more fit without memory
pub record Noted : Type 0 where
  pub events : List Event
  pub spare : ℕ

-- what contracts see of a ledger
pub record LedgerOf : Type 0 where
  pub origin : Origin
  pub history : List Event
  pub state : State

abbrev pub origin_of : Geometry → Standing → Origin
origin_of g d = record { geometry = g; beginning = Lasted d }

-- an event in which no write failed
abbrev pub event_by : ℕ → Act → Event
event_by lane act = record { lane = lane; act = act; broke = false }

-- The lane's event of this act stands last, in a place that was there for it.
pub record Pushes (lane : ℕ) (act : Act) (old new : Noted) : Type 0 where
  pub events : new.events ≡ old.events ++ event_by lane act ∷ []
  pub spare : new.spare + 1 ≡ old.spare

-- the number of the next event
abbrev pub next_number : LedgerOf → ℕ
next_number l = length l.history + 1

-- The history is legal, and the state mirrors the one after it.
pub record Agrees (l : LedgerOf) : Type 0 where
  pub legal : IsLegal l.origin l.history
  pub mirrors : Mirrors (after l.origin l.history) l.state

-- The history is the one event of the boot, and this is the state after it.
pub record Begins (from : Origin) (boot : Act) (s : State) (new : LedgerOf) : Type 0 where
  pub origin : new.origin ≡ from
  pub history : new.history ≡ event_by 0 boot ∷ []
  pub state : new.state ≡ s
  pub holds : Agrees new

-- The lane's event of this act came, and was due.
pub record Notes (old : LedgerOf) (lane : ℕ) (act : Act) (new : LedgerOf) : Type 0 where
  pub origin : new.origin ≡ old.origin
  pub history : new.history ≡ old.history ++ event_by lane act ∷ []
  pub due : IsDue (after old.origin old.history) (next_number old) (event_by lane act)
  pub state : Mirrors (step old.state (next_number old) (event_by lane act)) new.state
  pub holds : Agrees new

-- The event came, and this is its number.
abbrev pub NotesAt : LedgerOf → ℕ → Act → LedgerOf → ℕ → Type 0
NotesAt old lane act new number = (number ≡ next_number old) × Notes old lane act new

-- The lane's event came, of which this is so, and what is stored and claimed stays.
pub record Tells (lane : ℕ) (IsIts : ℕ → Event → Type 0) (old new : LedgerOf) : Type 0 where
  pub act : Act
  pub its : IsIts (next_number old) (event_by lane act)
  pub notes : Notes old lane act new
  pub stock : new.state.stock ≡ old.state.stock
  pub claims : new.state.claims ≡ old.state.claims

-- Nothing came.
pub record Stays (old new : LedgerOf) : Type 0 where
  pub origin : new.origin ≡ old.origin
  pub history : new.history ≡ old.history
  pub state : Mirrors old.state new.state
  pub holds : Agrees new

-- the act looks at nothing and leaves the state as it is
pub record IsStill (s : State) (act : Act) : Type 0 where
  pub later : is_boot act ≡ false
  pub seen : seen_by act ≡ []
  pub state : (number lane : ℕ) → next s number lane act ≡ s

-- The history is legal, the state mirrors the one after it, and what is held can end without memory.
pub record IsLedger (origin : Origin) (history : List Event) (spare : ℕ) (s : State) : Type 0 where
  pub legal : IsLegal origin history
  pub mirrors : Mirrors (after origin history) s
  pub booted : s.booted ≡ true
  pub unbroken : s.broken ≡ None
  pub enough : ends_due s ≤ spare
