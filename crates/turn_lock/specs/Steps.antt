-- What each step tells its seat.
use Rattle.std.specs.Prelude.{◌≡◌, ◌≢◌, ℕ, ◌%◌, ◌^◌, nat_lt, [], ◌∷◌, length, if◌then◌else◌, Option, Some}
use Rattle.std.specs.List.{All}
use Rattle.atomic_table.specs.Table.{Me, Step}
use Rattle.turn_lock.specs.Sitting.{Has}
use Rattle.turn_lock.specs.Rule.{Log, Grows, Alike, Merges, Unsplit, Remains, knowing}
use Rattle.turn_lock.specs.declared.board.Stage.{Stage}
use Rattle.turn_lock.specs.declared.board.Stage.TheVariants.{Rests, Waits, Holds, Names, Joined}
use Rattle.turn_lock.specs.declared.board.Knows.{Knows}
use Rattle.turn_lock.specs.declared.board.View.{View}
use Rattle.turn_lock.specs.declared.board.View.TheVariants.{Spent, Sits}

abbrev pub At : Type 0 → Type 0
At T = Step (Option T)

abbrev pub Sat : Type 0 → Type 0
Sat T = Me (Option T) (View T)

module _ {T : Type 0} where
  abbrev pub staged : View T → Stage T → View T
  staged Spent st = Spent
  staged (Sits k) st = Sits (record k { stage = st })

  abbrev pub ticket_in : Stage T → ℕ
  ticket_in (Waits t) = t
  ticket_in (Holds t x) = t
  ticket_in _ = 0

  abbrev pub ticket_of : View T → ℕ
  ticket_of Spent = 0
  ticket_of (Sits k) = ticket_in k.stage

  -- the view after a turn that left the value y
  abbrev pub after_turn : View T → T → View T
  after_turn Spent y = Spent
  after_turn (Sits k) y = Sits (record k { seen = y; kept = y; stage = Rests })

  -- the seat has a turn
  abbrev pub took : At T → Sat T → ℕ → Sat T → Type 0
  took st m n m' = (t : ℕ) × (t % 2 ^ 64 ≡ n) × (m' ≡ (staged m.0 (Waits t), m.1))

  -- the seat stays as it is
  abbrev pub stirred : At T → Sat T → ℕ → Sat T → Type 0
  stirred st m n m' = m' ≡ m

  abbrev pub name_in : Stage T → ℕ
  name_in (Names l) = l
  name_in _ = 0

  -- of a seat that names a lane: it goes on, and that lane's seat begins
  abbrev pub split_left : View T → View T
  split_left Spent = Spent
  split_left (Sits k) = Sits (record k { splits = name_in k.stage ∷ k.splits; stage = Rests })

  abbrev pub split_right : View T → View T
  split_right Spent = Spent
  split_right (Sits k) = Sits (knowing (name_in k.stage) k.made k.seen k.made Rests)

-- what a turn finds: the value x
pub record Finds {T E O H : Type 0} (r : Log T E O H) (k : Knows T) (x : T) : Type 0 where
  pub since : Grows r k.made x
  pub origin : r.origin x ≡ r.origin k.made
  pub seen : Grows r k.seen x
  pub own : Alike r k.lane k.seen x
  pub kept : r.held k.lane x ≡ r.held k.lane k.kept
  pub ended : k.lane ≡ 0 → (l : ℕ) → Has k.ended l → Alike r l k.seen x
  pub remains : k.lane ≡ 0 → All (Remains r x) k.remains
  pub unsplit : Unsplit r k x
  pub untouched : k.lane ≡ 0 → (l : ℕ) → l ≢ 0 → ¬ Has k.splits l → r.held l k.made ≡ r.held l x

abbrev pub Found : {T E O H : Type 0} → Log T E O H → View T → T → Type 0
Found r Spent x = Unit {0}
Found r (Sits k) x = Finds r k x

module _ {T E O H : Type 0} (r : Log T E O H) where
  -- the seat's turn has come, and it has the value out
  abbrev pub came : Sat T → Sat T → Type 0
  came m m' = (x : T) × (m' ≡ (staged m.0 (Holds (ticket_of m.0) x), (0, Some x) ∷ m.1)) × Found r m.0 x

  -- its turn has come, or nothing changed
  abbrev pub looked : At T → Sat T → ℕ → Sat T → Type 0
  looked st m n m' = (n ≡ ticket_of m.0 % 2 ^ 64 → came m m') × (n ≢ ticket_of m.0 % 2 ^ 64 → m' ≡ m)

  abbrev pub Out : Knows T → Stage T → Type 0
  Out k (Holds t x) = Finds r k x
  Out k _ = Unit {0}

  abbrev pub IsOut : View T → Type 0
  IsOut Spent = Unit {0}
  IsOut (Sits k) = Out k k.stage

  -- the value y is at home, and the next turn is served. The turn began at what it found
  abbrev pub served : At T → Sat T → ℕ → Sat T → Type 0
  served st m n m' = ((y : T) → m.1 ≡ (0, Some y) ∷ [] → m' ≡ (after_turn m.0 y, [])) × IsOut m.0

-- the seat waits with a ticket of this number
abbrev pub IsWaiting : {T : Type 0} → ℕ → Sat T → Type 0
IsWaiting {T} n m = (k : Knows T) × (t : ℕ) × (m ≡ (Sits (record k { stage = Waits t }), [])) × (t % 2 ^ 64 ≡ n)

module _ {T E O H : Type 0} (r : Log T E O H) where
  -- the value with the longer list
  abbrev pub longer : T → T → T
  longer x y = if nat_lt (length (r.entries x)) (length (r.entries y)) then y else x

  -- what the seat has seen has no entry of a lane that was not split off but those at make
  abbrev pub IsUnsplit : View T → Type 0
  IsUnsplit Spent = Unit {0}
  IsUnsplit (Sits k) = Unsplit r k k.seen

  -- the seat names the lane
  abbrev pub named : At T → Sat T → ℕ → Sat T → Type 0
  named st m n m' = (m' ≡ (staged m.0 (Names st.first), m.1)) × IsUnsplit m.0

  -- of two seats: the first takes in the second
  abbrev pub joined : View T → View T → View T
  joined Spent w = Spent
  joined (Sits k) Spent = Sits k
  joined (Sits k) (Sits m) = Sits (record k {
    seen = longer k.seen m.seen;
    ended = m.lane ∷ k.ended;
    remains = (m.lane, m.kept) ∷ k.remains;
    stage = Joined k.seen m.seen m.lane;
  })

  abbrev pub Told : Knows T → Stage T → Type 0
  Told k (Joined a b l) = Merges r k.lane k.ended a b l k.seen
  Told k _ = Unit {0}

  abbrev pub IsTold : View T → Type 0
  IsTold Spent = Unit {0}
  IsTold (Sits k) = Told k k.stage

  -- the seat is told what it has seen together with the seat that it took in
  abbrev pub told : At T → Sat T → ℕ → Sat T → Type 0
  told st m n m' = (m' ≡ (staged m.0 Rests, m.1)) × IsTold m.0 × IsUnsplit m.0
