-- What contracts see of a seat.
use Rattle.std.specs.Prelude.{◌≡◌, ◌⊎◌, ℕ, List, [], ◌∷◌}
use Rattle.atomic_table.specs.Seated.{TableId}
use Rattle.turn_lock.specs.Entries.{entries_by}

-- which lock it is
pub record Lock : Type 0 where
  pub board : TableId
  pub stamps : TableId

pub record Sitting (T : Type 0) : Type 0 where
  pub lock : Lock
  pub lane : ℕ
  -- the value at make
  pub made : T
  -- a value whose list is what was seen
  pub seen : T
  -- a value that holds for the lane what is held for it under the lock
  pub kept : T
  -- the lanes that this seat split off, and those that it joined
  pub splits : List ℕ
  pub ended : List ℕ
  -- the lanes that it joined, each with a value that holds for the lane what is held for it under the lock
  pub remains : List (ℕ × T)

-- the first seat of a lock over the value
abbrev pub first_seat : {T : Type 0} → Lock → T → Sitting T
first_seat z x = record {
  lock = z;
  lane = 0;
  made = x;
  seen = x;
  kept = x;
  splits = [];
  ended = [];
  remains = [];
}

-- the seat's own entries in what it has seen, each with its number in the list
abbrev pub mine : {T E : Type 0} → (T → List E) → (E → ℕ) → Sitting T → List (ℕ × E)
mine entries by s = entries_by by s.lane (entries s.seen)

-- what is held for the seat's lane
abbrev pub kept : {T H : Type 0} → (ℕ → T → H) → Sitting T → H
kept held s = held s.lane s.kept

-- what contracts see of a turn: its seat as it was before, the value at its beginning, and the value now
pub record Turning (T : Type 0) : Type 0 where
  pub seat : Sitting T
  pub start : T
  pub value : T

-- the number stands in the list
abbrev pub Has : List ℕ → ℕ → Type 0
Has [] x = ⊥
Has (y ∷ ys) x = (x ≡ y) ⊎ Has ys x
