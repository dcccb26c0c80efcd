-- The rule of the table.
use Rattle.std.specs.Prelude.{◌≡◌, ◌≢◌, ◌⊎◌, ℕ, ◌+◌, ◌%◌, ◌^◌, ◌<◌, ◌≤◌, List, [], ◌∷◌, ◌++◌, length, slice_index, Option, Some, None}
use Rattle.std.specs.List.{All}
use mathlib.Core.Option.{some}
use mathlib.Core.List.{IsPrefix}
use lib.ListN.{get_elem?}
use Rattle.atomic_table.specs.Table.{State, Me}
use Rattle.atomic_table.specs.Seated.{TableId}
use Rattle.turn_lock.specs.Entries.{entries_by}
use Rattle.turn_lock.specs.Sitting.{Lock, Sitting, Turning, Has}
use Rattle.turn_lock.specs.declared.board.Stage.{Stage}
use Rattle.turn_lock.specs.declared.board.Stage.TheVariants.{Rests, Waits, Holds, Names, Joined}
use Rattle.turn_lock.specs.declared.board.Knows.{Knows}
use Rattle.turn_lock.specs.declared.board.View.{View}
use Rattle.turn_lock.specs.declared.board.View.TheVariants.{Spent, Sits}

-- how a value is read
pub record Log (T E O H : Type 0) : Type 0 where
  pub entries : T → List E
  pub by : E → ℕ
  pub origin : T → O
  pub held : ℕ → T → H

abbrev pub log : {T E O H : Type 0} → (T → List E) → (E → ℕ) → (T → O) → (ℕ → T → H) → Log T E O H
log entries by origin held = record { entries = entries; by = by; origin = origin; held = held }

-- the list of y begins with that of x
abbrev pub Grows : {T E O H : Type 0} → Log T E O H → T → T → Type 0
Grows r x y = IsPrefix (r.entries x) (r.entries y)

-- what a turn of the lane owes: it began at the value x, and leaves the value y
pub record TakesTurn {T E O H : Type 0} (r : Log T E O H) (lane : ℕ) (x y : T) : Type 0 where
  -- the list is the same, or has one entry more, the lane's
  pub list : (r.entries y ≡ r.entries x) ⊎ ((e : E) × (r.by e ≡ lane) × (r.entries y ≡ r.entries x ++ e ∷ []))
  pub origin : r.origin y ≡ r.origin x
  -- what is held for other lanes is the same
  pub others : (l : ℕ) → l ≢ lane → r.held l y ≡ r.held l x

-- the lane's entries are the same in both lists
abbrev pub Alike : {T E O H : Type 0} → Log T E O H → ℕ → T → T → Type 0
Alike r lane x y = entries_by r.by lane (r.entries x) ≡ entries_by r.by lane (r.entries y)

module _ {T : Type 0} where
  -- a seat that has joined no other
  abbrev pub knowing : ℕ → T → T → T → Stage T → Knows T
  knowing lane made seen kept stage = record {
    lane = lane;
    made = made;
    seen = seen;
    kept = kept;
    splits = [];
    ended = [];
    remains = [];
    stage = stage;
  }

  -- the first seat
  abbrev pub beginning : T → Knows T
  beginning x = knowing 0 x x x Rests

  abbrev pub starting : T → View T
  starting x = Sits (beginning x)

  abbrev pub knows_or : T → View T → Knows T
  knows_or d (Sits k) = k
  knows_or d Spent = beginning d

  -- which turn the seat has
  abbrev pub HasTurn : Stage T → ℕ → Type 0
  HasTurn (Waits u) t = u ≡ t
  HasTurn (Holds u x) t = u ≡ t
  HasTurn _ t = ⊥

  abbrev pub IsHolder : Stage T → Type 0
  IsHolder (Holds u x) = Unit {0}
  IsHolder _ = ⊥

  abbrev pub stage_turns : Stage T → ℕ
  stage_turns (Waits u) = 1
  stage_turns (Holds u x) = 1
  stage_turns _ = 0

  abbrev pub view_turns : View T → ℕ
  view_turns Spent = 0
  view_turns (Sits k) = stage_turns k.stage

  -- how many turns are out
  abbrev pub turns : List (View T) → ℕ
  turns [] = 0
  turns (v ∷ vs) = view_turns v + turns vs

-- no number stands twice, and each is below 2 ^ 32
abbrev pub AreLanes : List ℕ → Type 0
AreLanes [] = Unit {0}
AreLanes (x ∷ xs) = (¬ Has xs x) × (x < 2 ^ 32) × AreLanes xs

-- a seat of the lane `lane`, which has seen a, took in the seat of l, which has seen b: together they have seen x
pub record Merges {T E O H : Type 0} (r : Log T E O H) (lane : ℕ) (ended : List ℕ) (a b : T) (l : ℕ) (x : T)
    : Type 0 where
  pub longer : (x ≡ a) ⊎ (x ≡ b)
  pub ours : Grows r a x
  pub theirs : Grows r b x
  pub own : Alike r lane a x
  pub joined : Alike r l b x
  pub gone : (j : ℕ) → Has ended j → j ≢ l → Alike r j a x

-- what is true of the stage of a seat: `out` turns are out, from `served` on
abbrev pub StageOk : {T E O H : Type 0} → Log T E O H → T → ℕ → ℕ → Knows T → Stage T → Type 0
StageOk r cur served out k Rests = Unit {0}
StageOk r cur served out k (Waits t) = (served ≤ t) × (t < served + out)
StageOk r cur served out k (Holds t x) = (t ≡ served) × (0 < out) × (x ≡ cur)
StageOk r cur served out k (Names l) = Unit {0}
StageOk r cur served out k (Joined a b l) = Merges r k.lane k.ended a b l k.seen

-- what the value x holds for a lane is what the value beside the lane holds for it
abbrev pub Remains : {T E O H : Type 0} → Log T E O H → T → ℕ × T → Type 0
Remains r x p = r.held p.0 p.1 ≡ r.held p.0 x

abbrev pub EndedWith : {T E O H : Type 0} → Log T E O H → List ℕ → T → ℕ × T → Type 0
EndedWith r ended x p = Has ended p.0 × Remains r x p

-- what is true of a seat, where the value at make is `key`, and the value under the lock is `cur`
pub record SeatOk {T E O H : Type 0} (r : Log T E O H) (key cur : T) (served out : ℕ) (splits ended : List ℕ)
    (k : Knows T) : Type 0 where
  pub made : k.made ≡ key
  -- what it has seen is a beginning of the one list, and has the entries of its lane
  pub since : Grows r key k.seen
  pub seen : Grows r k.seen cur
  pub own : Alike r k.lane k.seen cur
  -- what it knows to be held for its lane is what is held
  pub kept : r.held k.lane k.kept ≡ r.held k.lane cur
  -- the first seat knows which lanes were split off and which have ended, and every entry of those that have ended
  pub first : k.lane ≡ 0 → (k.splits ≡ splits) × (k.ended ≡ ended)
  pub other : k.lane ≢ 0 → Has splits k.lane × (¬ Has ended k.lane)
  pub gone : k.lane ≡ 0 → (l : ℕ) → Has ended l → Alike r l k.seen cur
  pub remains : k.lane ≡ 0 → All (EndedWith r ended cur) k.remains
  pub stage : StageOk r cur served out k k.stage

-- of the first seat: a lane that it has not split off has the entries that it had at make
abbrev pub Unsplit : {T E O H : Type 0} → Log T E O H → Knows T → T → Type 0
Unsplit r k x = k.lane ≡ 0 → (l : ℕ) → l ≢ 0 → ¬ Has k.splits l → Alike r l k.made x

-- two seats have two lanes, and two turns
abbrev pub Differ : {T : Type 0} → Knows T → Knows T → Type 0
Differ k m = (k.lane ≢ m.lane) × ((t : ℕ) → HasTurn k.stage t → ¬ HasTurn m.stage t)

-- the rule: of the value at make, and of the table
pub record IsTable {T E O H : Type 0} (r : Log T E O H) (key : T) (s : State (Option T) (View T)) : Type 0 where
  -- the value at home, or that at which the turn began
  pub cur : T
  -- the turn that is served
  pub served : ℕ
  -- the lanes that were split off, and those that have ended
  pub splits : List ℕ
  pub ended : List ℕ
  pub sizes : (1 < length s.words) × (length s.homes ≡ 1)
  -- the words
  pub ticket : slice_index s.words 0 ≡ (served + turns s.views) % 2 ^ 64
  pub serving : slice_index s.words 1 ≡ served % 2 ^ 64
  -- the value
  pub origin : r.origin cur ≡ r.origin key
  pub grown : Grows r key cur
  -- there is a seat for each lane that was split off, and the first
  pub few : length s.views ≡ 1 + length splits
  pub lanes : AreLanes splits
  pub were : (l : ℕ) → Has ended l → Has splits l × (l ≢ 0)
  -- the seats
  pub each : (i : ℕ) (k : Knows T) → get_elem? s.views i ≡ some (Sits k)
      → SeatOk r key cur served (turns s.views) splits ended k
  pub apart : (i j : ℕ) (k m : Knows T) → get_elem? s.views i ≡ some (Sits k) → get_elem? s.views j ≡ some (Sits m)
      → i ≢ j → Differ k m
  -- a lane that was not split off has the entries that it had at make, and the same is held for it
  pub unsplit : (l : ℕ) → l ≢ 0 → ¬ Has splits l → Alike r l key cur × (r.held l key ≡ r.held l cur)
  -- the value is at home, or a seat has it
  pub home : (get_elem? s.homes 0 ≡ some (some (Some cur)))
      ⊎ ((i : ℕ) × (k : Knows T) × (get_elem? s.views i ≡ some (Sits k)) × IsHolder k.stage)

-- each seat of the second table remembers the value
abbrev pub AllSame : {T : Type 0} → T → State (Unit {0}) T → Type 0
AllSame {T} key s = (i : ℕ) (v : T) → get_elem? s.views i ≡ some v → v ≡ key

module _ {T : Type 0} where
  abbrev pub sat : Lock → Knows T → Sitting T
  sat z k = record {
    lock = z;
    lane = k.lane;
    made = k.made;
    seen = k.seen;
    kept = k.kept;
    splits = k.splits;
    ended = k.ended;
    remains = k.remains;
  }

  abbrev pub sitting : TableId → TableId → T → View T → Sitting T
  sitting board stamps d v = sat (record { board = board; stamps = stamps }) (knows_or d v)

  -- the seat is at rest, and holds no slot
  abbrev pub Rested : T → Me (Option T) (View T) → Type 0
  Rested d me = me ≡ (Sits (record (knows_or d me.0) { made = d; stage = Rests }), [])

  abbrev pub turn_or : ℕ → Stage T → ℕ
  turn_or d (Holds t x) = t
  turn_or d _ = d

  abbrev pub start_or : T → Stage T → T
  start_or d (Holds t x) = x
  start_or d _ = d

  abbrev pub turning : TableId → TableId → T → View T → T → Turning T
  turning board stamps d v now = record {
    seat = sitting board stamps d v;
    start = start_or d (knows_or d v).stage;
    value = now;
  }

  -- the seat has its turn, and the slot, which is empty
  abbrev pub Turned : T → Me (Option T) (View T) → Type 0
  Turned d me = me ≡ (
    Sits (record (knows_or d me.0) {
      made = d;
      stage = Holds (turn_or 0 (knows_or d me.0).stage) (start_or d (knows_or d me.0).stage);
    }),
    (0, None) ∷ [],
  )
