-- What the calls of the lock get from the steps.
use Rattle.std.proofs.Common.{◌≡◌, ◌≢◌, ℕ, ◌+◌, ◌%◌, ◌^◌, ◌<◌, eqb, length, List, [], ◌∷◌, ◌++◌, sym, refl, ap, ◌∙◌, subst, Option, Some, None}
use Rattle.std.specs.List.{All}
use mathlib.Core.Option.{none, some, some-injective}
use Rattle.atomic_table.specs.Table.{step, Allows, Splits, Joins, Final, Seen, rest}
use Rattle.atomic_table.specs.Seated.{TableId}
use Rattle.turn_lock.specs.Sitting.{Lock, Sitting, Turning, mine, Has}
use Rattle.turn_lock.specs.Rule.{Log, Grows, Alike, TakesTurn, Remains, IsTable, knows_or, sat, sitting, Rested, Turned, turn_or, start_or}
use Rattle.turn_lock.specs.Steps.{Sat, ticket_of, after_turn, took, served, Finds, came, looked, IsWaiting, IsOut, IsUnsplit, named, split_left, split_right, longer, joined, told}
use Rattle.turn_lock.specs.declared.board.Stage.TheVariants.{Rests, Holds, Names, Joined}
use Rattle.turn_lock.specs.declared.board.Knows.{Knows}
use Rattle.turn_lock.specs.declared.board.View.{View}
use Rattle.turn_lock.specs.declared.board.View.TheVariants.{Spent, Sits}
use Rattle.turn_lock.specs.Entries.{entries_by}
use Rattle.turn_lock.proofs.Lists.{begins_on, one_more}
use Rattle.turn_lock.proofs.Keeps.{takes_ticket, looks, serves, adds_grow, adds_alike}
use Rattle.turn_lock.proofs.Ends.{names, splits, merges, tells, closes}
use lib.ListN.{get_elem?}
use prog.Atomic.{either}

module _ {T : Type 0} where
  abbrev pub resting : T → Sat T → Knows T
  resting d me = record (knows_or d me.0) { made = d; stage = Rests }

  pub waits_after : (d : T) (me me' : Sat T) (n : ℕ) → Rested d me → took (step 1 0 1 0 none) me n me' → IsWaiting n me'
  waits_after d me me' n rested h = let h' = subst (λ (m : Sat T). took (step 1 0 1 0 none) m n me') rested h in (resting d me, h'.0, h'.2, h'.1)

  -- the seat at rest, as contracts see it
  rested_view : (z : Lock) (d : T) (me : Sat T) → Rested d me → sat z (knows_or d me.0) ≡ sat z (resting d me)
  rested_view z d me rested = ap (λ (m : Sat T). sat z (knows_or d m.0)) rested

  pub left_rests : (d : T) (me me'' : Sat T) (y : T) → me'' ≡ (Sits (record (knows_or d me.0) { made = d; seen = y; kept = y; stage = Rests }), []) → Rested d me''
  left_rests d me me'' y is = subst (Rested d) (sym is) refl

  pub left_lane : (lane : ℕ) (d : T) (me me'' : Sat T) (y : T) → me'' ≡ (Sits (record (knows_or d me.0) { made = d; seen = y; kept = y; stage = Rests }), []) → lane ≡ (knows_or d me.0).lane → lane ≡ (knows_or d me''.0).lane
  left_lane lane d me me'' y is e = e ∙ sym (ap (λ (m : Sat T). (knows_or d m.0).lane) is)

  pub left_view : (b b' z : TableId) (d : T) (me me'' : Sat T) (y : T) → Turned d me → b' ≡ b → me'' ≡ (Sits (record (knows_or d me.0) { made = d; seen = y; kept = y; stage = Rests }), [])
      → sitting b' z d me''.0 ≡ record (sitting b z d me.0) { seen = y; kept = y }
  left_view b b' z d me me'' y turned same is =
      ap (λ (w : TableId × View T). sitting w.0 z d w.1) (λ i. (same i, (ap (λ (m : Sat T). m.0) is) i))
      ∙ ap (λ (k : Knows T). record (sat (record { board = b; stamps = z }) k) { seen = y; kept = y }) (sym (ap (λ (m : Sat T). knows_or d m.0) turned))

-- what the seat has seen has no entry of a lane that was not split off but those at make
abbrev pub UnsplitFor : {T E O H : Type 0} → Log T E O H → Sitting T → Type 0
UnsplitFor r v = v.lane ≡ 0 → (l : ℕ) → l ≢ 0 → ¬ Has v.splits l → Alike r l v.made v.seen

module _ {T E O H : Type 0} (r : Log T E O H) (key : T) where
  pub entering : (slots id : ℕ) (d : T) (me : Sat T) → Rested d me → Allows (IsTable r key) slots id me 0 (λ n. (n + 1) % 2 ^ 64) (took (step slots 0 1 0 none) me)
  entering slots id d me rested = subst (λ (m : Sat T). Allows (IsTable r key) slots id m 0 (λ n. (n + 1) % 2 ^ 64) (took (step slots 0 1 0 none) m)) (sym rested) (takes_ticket r key slots id (resting d me))

  pub waiting : (slots id n : ℕ) (me : Sat T) → IsWaiting n me → Allows (IsTable r key) slots id me 1 (λ n. n) (looked r (step slots 1 0 0 none) me)
  waiting slots id n me w = subst (λ (m : Sat T). Allows (IsTable r key) slots id m 1 (λ n. n) (looked r (step slots 1 0 0 none) m)) (sym w.2) (looks r key slots id w.0 w.1)

  -- the turn has not come, or it has
  pub not_yet : (me me' : Sat T) (n number : ℕ) → IsWaiting number me → looked r (step 1 1 0 0 none) me n me' → n ≢ number → me' ≡ me
  not_yet me me' n number w l ne = l.1 (λ e. ne (e ∙ (ap (λ (m : Sat T). ticket_of m.0 % 2 ^ 64) w.2 ∙ w.3)))

  pub it_came : (me me' : Sat T) (n number : ℕ) → IsWaiting number me → looked r (step 1 1 0 0 none) me n me' → n ≡ number → came r me me'
  it_came me me' n number w l e = l.0 (e ∙ sym (ap (λ (m : Sat T). ticket_of m.0 % 2 ^ 64) w.2 ∙ w.3))

  pub leaving : (slots id : ℕ) (d : T) (me me' : Sat T) (y : T) → Turned d me → me' ≡ (me.0, (0, Some y) ∷ [])
      → TakesTurn r (knows_or d me.0).lane (start_or d (knows_or d me.0).stage) y
      → Allows (IsTable r key) slots id me' 1 (λ n. (n + 1) % 2 ^ 64) (served r (step slots 1 1 0 none) me')
  leaving slots id d me me' y turned put next =
      let k : Knows T = knows_or d me.0 in
      subst (λ (m : Sat T). Allows (IsTable r key) slots id m 1 (λ n. (n + 1) % 2 ^ 64) (served r (step slots 1 1 0 none) m))
      (sym (put ∙ ap (λ (m : Sat T). (m.0, (0, Some y) ∷ [])) turned))
      (serves r key slots id (record k { made = d }) (turn_or 0 k.stage) (start_or d k.stage) y next)

  -- where the seat left the value y
  pub left : (d : T) (me me' me'' : Sat T) (y : T) (n : ℕ) → Turned d me → me' ≡ (me.0, (0, Some y) ∷ []) → served r (step 1 1 1 0 none) me' n me''
      → me'' ≡ (Sits (record (knows_or d me.0) { made = d; seen = y; kept = y; stage = Rests }), [])
  left d me me' me'' y n turned put h =
      h.0 y (ap (λ (m : Sat T). m.1) put) ∙ ap (λ (v : View T). (after_turn v y, [])) (ap (λ (m : Sat T). m.0) put ∙ ap (λ (m : Sat T). m.0) turned)

  -- what contracts say of what a turn finds
  pub record FindsFor (v : Sitting T) (x : T) : Type 0 where
    pub since : Grows r v.made x
    pub origin : r.origin x ≡ r.origin v.made
    pub seen : Grows r v.seen x
    pub own : Alike r v.lane v.seen x
    pub kept : r.held v.lane x ≡ r.held v.lane v.kept
    pub ended : v.lane ≡ 0 → (l : ℕ) → Has v.ended l → Alike r l v.seen x
    pub remains : v.lane ≡ 0 → All (Remains r x) v.remains
    pub unsplit : v.lane ≡ 0 → (l : ℕ) → l ≢ 0 → ¬ Has v.splits l → Alike r l v.made x
    pub untouched : v.lane ≡ 0 → (l : ℕ) → l ≢ 0 → ¬ Has v.splits l → r.held l v.made ≡ r.held l x

  finds_for : (z : Lock) (k : Knows T) (x : T) → Finds r k x → FindsFor (sat z k) x
  finds_for z k x f = record { since = f.since; origin = f.origin; seen = f.seen; own = f.own; kept = f.kept; ended = f.ended; remains = f.remains; unsplit = f.unsplit; untouched = f.untouched }

  -- what the turn had found at its beginning
  pub had_found : (z : Lock) (d : T) (me me' me'' : Sat T) (y : T) (n : ℕ) → Turned d me → me' ≡ (me.0, (0, Some y) ∷ []) → served r (step 1 1 1 0 none) me' n me''
      → FindsFor (sat z (knows_or d me.0)) (start_or d (knows_or d me.0).stage)
  had_found z d me me' me'' y n turned put h =
      let k : Knows T = knows_or d me.0 in
      let held : Knows T = record k { made = d; stage = Holds (turn_or 0 k.stage) (start_or d k.stage) } in
      let out : Finds r held (start_or d k.stage) = subst (λ (v : View T). IsOut r v) (ap (λ (m : Sat T). m.0) put ∙ ap (λ (m : Sat T). m.0) turned) h.1 in
      subst (λ (w : Knows T). FindsFor (sat z w) (start_or d k.stage)) (sym (ap (λ (m : Sat T). knows_or d m.0) turned)) (finds_for z held (start_or d k.stage) out)

  -- what contracts say of a turn that was left
  pub record Leaves (t : Turning T) (now : Sitting T) : Type 0 where
    pub seat : now ≡ record t.seat { seen = t.value; kept = t.value }
    pub seen : Grows r t.seat.seen now.seen
    pub quiet : r.entries t.value ≡ r.entries t.start → mine r.entries r.by now ≡ mine r.entries r.by t.seat
    pub entry : (e : E) → r.by e ≡ t.seat.lane → r.entries t.value ≡ r.entries t.start ++ e ∷ [] → mine r.entries r.by now ≡ mine r.entries r.by t.seat ++ (length (r.entries t.start) + 1, e) ∷ []
    pub others : (l : ℕ) → l ≢ t.seat.lane → Alike r l t.start now.seen
    pub origin : r.origin now.seen ≡ r.origin t.seat.made

  pub leaves_for : (t : Turning T) → TakesTurn r t.seat.lane t.start t.value → FindsFor t.seat t.start → Leaves t (record t.seat { seen = t.value; kept = t.value })
  leaves_for t next f = record {
    seat = refl;
    seen = begins_on (r.entries t.seat.seen) (r.entries t.start) (r.entries t.value) f.seen (adds_grow r key t.seat.lane t.start t.value next.list);
    quiet = λ e. ap (entries_by r.by t.seat.lane) e ∙ sym f.own;
    entry = λ e by is. ap (entries_by r.by t.seat.lane) is ∙ (one_more r.by t.seat.lane (r.entries t.start) e by ∙ ap (λ (w : List (ℕ × E)). w ++ (length (r.entries t.start) + 1, e) ∷ []) (sym f.own));
    others = λ l apart. adds_alike r key t.seat.lane l t.start t.value next.list apart;
    origin = next.origin ∙ f.origin;
  }

  -- the seat has the slot
  pub out : (d : T) (me me' me'' : Sat T) (n : ℕ) → Rested d me → took (step 1 0 1 0 none) me n me' → came r me' me'' → (old : Option T) × (me''.1 ≡ (0, old) ∷ rest me''.1)
  out d me me' me'' n rested took' came' =
      let t = subst (λ (m : Sat T). took (step 1 0 1 0 none) m n me') rested took' in
      let c = subst (λ (m : Sat T). came r m me'') t.2 came' in
      let k : Knows T = resting d me in
      let is : me'' ≡ (Sits (record k { stage = Holds t.0 c.0 }), (0, Some c.0) ∷ []) = c.1 in
      (Some c.0, subst (λ (m : Sat T). m.1 ≡ (0, Some c.0) ∷ rest m.1) (sym is) refl)

  pub naming : (slots id lane : ℕ) (d : T) (me : Sat T) → Rested d me → Allows (IsTable r key) slots id me 0 (λ n. either (eqb n lane) lane n) (named r (step slots 0 lane lane none) me)
  naming slots id lane d me rested =
      subst (λ (m : Sat T). Allows (IsTable r key) slots id m 0 (λ n. either (eqb n lane) lane n) (named r (step slots 0 lane lane none) m)) (sym rested) (names r key slots id lane (resting d me))

  pub named_is : (lane : ℕ) (d : T) (me me' : Sat T) (n : ℕ) → Rested d me → named r (step 1 0 lane lane none) me n me' → me' ≡ (Sits (record (resting d me) { stage = Names lane }), [])
  named_is lane d me me' n rested h = (subst (λ (m : Sat T). named r (step 1 0 lane lane none) m n me') rested h).0

  -- what a seat that rests has seen, as contracts see it
  pub seen_unsplit : (b z : TableId) (d : T) (me : Sat T) → Rested d me → IsUnsplit r me.0 → UnsplitFor r (sitting b z d me.0)
  seen_unsplit b z d me rested known =
      subst (λ (w : Sitting T). UnsplitFor r w) (sym (rested_view (record { board = b; stamps = z }) d me rested)) (subst (λ (m : Sat T). IsUnsplit r m.0) rested known)

  pub splitting : (id lane : ℕ) (d : T) (me me' : Sat T) → me' ≡ (Sits (record (resting d me) { stage = Names lane }), [])
      → (knows_or d me.0).lane ≡ 0 → lane ≢ 0 → lane < 2 ^ 32 → ¬ Has (knows_or d me.0).splits lane → Splits (IsTable r key) id me'.0 (split_left me'.0) (split_right me'.0)
  splitting id lane d me me' is first some_lane small new =
      subst (λ (m : Sat T). Splits (IsTable r key) id m.0 (split_left m.0) (split_right m.0)) (sym is) (splits r key id lane (resting d me) first some_lane small new)

  pub merging : (id other : ℕ) (d e : T) (me you : Sat T) → Rested d me → Rested e you → (knows_or d me.0).lane ≡ 0 → Joins (IsTable r key) id me.0 other you.0 (joined r me.0 you.0) Spent
  merging id other d e me you rested rested' first =
      subst (λ (m : Sat T × Sat T). Joins (IsTable r key) id m.0.0 other m.1.0 (joined r m.0.0 m.1.0) Spent) (λ i. (sym rested i, sym rested' i)) (merges r key id other (resting d me) (resting e you) first)

  -- the seat that took in another one
  abbrev pub merged_knows : Knows T → Knows T → Knows T
  merged_knows k m = record k { seen = longer r k.seen m.seen; ended = m.lane ∷ k.ended; remains = (m.lane, m.kept) ∷ k.remains; stage = Joined k.seen m.seen m.lane }

  pub merged_is : (d e : T) (me you me' : Sat T) → Rested d me → Rested e you → me' ≡ (joined r me.0 you.0, me.1) → me' ≡ (Sits (merged_knows (resting d me) (resting e you)), [])
  merged_is d e me you me' rested rested' is = is ∙ ap (λ (m : Sat T × Sat T). (joined r m.0.0 m.1.0, m.0.1)) (λ i. (rested i, rested' i))

  pub telling : (slots id : ℕ) (k m : Knows T) (me' : Sat T) → me' ≡ (Sits (merged_knows k m), []) → Allows (IsTable r key) slots id me' 0 (λ n. n) (told r (step slots 0 0 0 none) me')
  telling slots id k m me' is =
      subst (λ (w : Sat T). Allows (IsTable r key) slots id w 0 (λ n. n) (told r (step slots 0 0 0 none) w)) (sym is) (tells r key slots id (merged_knows k m) k.seen m.seen m.lane)

  -- what contracts say of the value at the end
  pub record ClosesFor (v : Sitting T) (x : T) : Type 0 where
    pub origin : r.origin x ≡ r.origin v.made
    pub list : r.entries x ≡ r.entries v.seen
    pub since : Grows r v.made x
    pub unsplit : (l : ℕ) → l ≢ 0 → ¬ Has v.splits l → Alike r l v.made x
    pub kept : r.held 0 x ≡ r.held v.lane v.kept
    pub remains : All (Remains r x) v.remains
    pub untouched : (l : ℕ) → l ≢ 0 → ¬ Has v.splits l → r.held l v.made ≡ r.held l x

  pub closing : (z : Lock) (d : T) (id : ℕ) (me : Sat T) (words : List ℕ) (slots : List (Option T)) (got : Option T) → Rested d me → (knows_or d me.0).lane ≡ 0
      → ((l : ℕ) → Has (knows_or d me.0).splits l → Has (knows_or d me.0).ended l) → Final (Seen (IsTable r key) id me.0) words slots → get_elem? slots 0 ≡ some got
      → (x : T) × (got ≡ Some x) × ClosesFor (sat z (knows_or d me.0)) x
  closing z d id me words slots got rested first all_joined final there =
      let k : Knows T = resting d me in
      let f = subst (λ (w : Sat T). Final (Seen (IsTable r key) id w.0) words slots) rested final in
      let c = closes r key id k words slots first all_joined f in
      let b : ClosesFor (sat z k) c.0 = record { origin = c.2.origin; list = c.2.list; since = c.2.since; unsplit = c.2.unsplit; kept = c.2.kept; remains = c.2.remains; untouched = c.2.untouched } in
      (c.0, some-injective got (Some c.0) (sym there ∙ c.1), subst (λ (w : Sitting T). ClosesFor w c.0) (sym (rested_view z d me rested)) b)

  some_or : T → Option T → T
  some_or d (Some x) = x
  some_or d None = d

  -- the same, of the value that was taken and of the seat as contracts see it
  pub closed : (z : Lock) (d : T) (id : ℕ) (me : Sat T) (words : List ℕ) (slots : List (Option T)) (got : Option T) (v : Sitting T) (x : T) → Rested d me → (knows_or d me.0).lane ≡ 0
      → ((l : ℕ) → Has (knows_or d me.0).splits l → Has (knows_or d me.0).ended l) → Final (Seen (IsTable r key) id me.0) words slots → get_elem? slots 0 ≡ some got
      → sat z (knows_or d me.0) ≡ v → got ≡ Some x → ClosesFor v x
  unfolding some_or
  closed z d id me words slots got v x rested first all_joined final there view is =
      let f = closing z d id me words slots got rested first all_joined final there in
      let same : f.0 ≡ x = ap (some_or x) (sym f.1 ∙ is) in
      subst (λ (w : Sitting T × T). ClosesFor w.0 w.1) (λ i. (view i, same i)) f.2
