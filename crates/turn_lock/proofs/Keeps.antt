-- Each step keeps the rule of the table.
use Rattle.std.proofs.Common.{◌≡◌, ◌≢◌, ◌⊎◌, ℕ, zero, suc, ◌+◌, ◌%◌, ◌^◌, ◌<◌, ◌≤◌, List, [], ◌∷◌, ◌++◌, length, get_or, set, sym, refl, ap, ◌∙◌, subst, ⊎_elim, inl, inr, arith, Option, Some, None, length-set, get_or-set_other, get_or-set_same}
use Rattle.std.proofs.Math.Nat.{mod-add-mod}
use mathlib.Core.Logic.{dite}
use mathlib.Core.Option.{none, some, some-injective, some-ne-none}
use mathlib.Core.Option as maybe
use mathlib.Core.List.{append-nil}
use native.Mathlib.Decide.{ℕ_discrete}
use lib.ListN.{get_elem?}
use lib.Seq.{set-get_or}
use Rattle.atomic_table.specs.Table.{State, step, keeps, takes, gives, Allows}
use Rattle.atomic_table.proofs.Lists.{at_set, set_here, set_else, set_again, one_turn}
use Rattle.turn_lock.specs.Entries.{entries_by}
use Rattle.turn_lock.specs.Sitting.{Has}
use Rattle.turn_lock.specs.Rule.{Log, Grows, Alike, TakesTurn, Unsplit, Remains, EndedWith, IsTable, SeatOk, StageOk, Differ, HasTurn, IsHolder, turns, knows_or}
use Rattle.turn_lock.specs.Steps.{took, Sat, served, Finds, looked}
use Rattle.turn_lock.specs.declared.board.Stage.{Stage}
use Rattle.turn_lock.specs.declared.board.Stage.TheVariants.{Rests, Waits, Holds, Names, Joined}
use Rattle.turn_lock.specs.declared.board.Knows.{Knows}
use Rattle.turn_lock.specs.declared.board.View.{View}
use Rattle.turn_lock.specs.declared.board.View.TheVariants.{Sits}
use Rattle.turn_lock.proofs.Lists.{begins_itself, begins_on, begins_with, between, another's, all_of, turns_set, turns_few, few_lanes}

pub at_below : {A : Type 0} (xs : List A) (i : ℕ) (a : A) → get_elem? xs i ≡ some a → i < length xs
at_below [] i a e = absurd (some-ne-none a (sym e))
at_below (x ∷ xs) zero a e = omega arith
at_below (x ∷ xs) (suc i) a e = let h = at_below xs i a e in omega arith

module _ {T : Type 0} where
  -- what is so of a seat that moves and of each other is so of all
  pub each_seat : (d : T) (P : Knows T → Type 0) (vs : List (View T)) (id : ℕ) (k' : Knows T) → P k' → ((j : ℕ) (m : Knows T) → j ≢ id → get_elem? vs j ≡ some (Sits m) → P m)
      → (j : ℕ) (m : Knows T) → get_elem? (set vs id (Sits k')) j ≡ some (Sits m) → P m
  each_seat d P vs id k' mine others j m at =
      ⊎_elim (λ (t : (j ≡ id) × (Sits k' ≡ Sits m)). subst P (ap (knows_or d) t.1) mine)
      (λ (t : (j ≢ id) × (get_elem? vs j ≡ some (Sits m))). others j m t.0 t.1) (at_set vs id j (Sits k') (Sits m) at)

  pub flip : (k m : Knows T) → Differ k m → Differ m k
  flip k m d = ((λ e. d.0 (sym e)), (λ t a b. d.1 t b a))

  pub each_pair : (d : T) (vs : List (View T)) (id : ℕ) (k' : Knows T) → ((j : ℕ) (m : Knows T) → j ≢ id → get_elem? vs j ≡ some (Sits m) → Differ k' m)
      → ((i j : ℕ) (k m : Knows T) → get_elem? vs i ≡ some (Sits k) → get_elem? vs j ≡ some (Sits m) → i ≢ j → Differ k m)
      → (i j : ℕ) (k m : Knows T) → get_elem? (set vs id (Sits k')) i ≡ some (Sits k) → get_elem? (set vs id (Sits k')) j ≡ some (Sits m) → i ≢ j → Differ k m
  each_pair d vs id k' mine others i j k m ati atj ne =
      ⊎_elim
      (λ (t : (i ≡ id) × (Sits k' ≡ Sits k)). subst (λ (z : Knows T). Differ z m) (ap (knows_or d) t.1)
      (⊎_elim (λ (u : (j ≡ id) × (Sits k' ≡ Sits m)). absurd (ne (t.0 ∙ sym u.0))) (λ (u : (j ≢ id) × (get_elem? vs j ≡ some (Sits m))). mine j m u.0 u.1) (at_set vs id j (Sits k') (Sits m) atj)))
      (λ (t : (i ≢ id) × (get_elem? vs i ≡ some (Sits k))).
      ⊎_elim (λ (u : (j ≡ id) × (Sits k' ≡ Sits m)). subst (λ (z : Knows T). Differ k z) (ap (knows_or d) u.1) (flip k' k (mine i k t.0 t.1)))
      (λ (u : (j ≢ id) × (get_elem? vs j ≡ some (Sits m))). others i j k m t.1 u.1 ne) (at_set vs id j (Sits k') (Sits m) atj))
      (at_set vs id i (Sits k') (Sits k) ati)

module _ {T E O H : Type 0} (r : Log T E O H) (key : T) where
  abbrev St : Type 0
  St = State (Option T) (View T)

  widen : (cur : T) (served out out' : ℕ) (k : Knows T) (st : Stage T) → out ≤ out' → StageOk r cur served out k st → StageOk r cur served out' k st
  widen cur served out out' k Rests le ok = ok
  widen cur served out out' k (Waits t) le ok = let a = ok.1 in (ok.0, omega arith)
  widen cur served out out' k (Holds t x) le ok = let a = ok.1 in (ok.0, omega arith, ok.2)
  widen cur served out out' k (Names l) le ok = ok
  widen cur served out out' k (Joined a b l) le ok = ok

  within : (cur : T) (served out : ℕ) (k : Knows T) (st : Stage T) (u : ℕ) → StageOk r cur served out k st → HasTurn st u → (served ≤ u) × (u < served + out)
  within cur served out k Rests u ok h = absurd h
  within cur served out k (Waits t) u ok h = let a = ok.0 in let b = ok.1 in (omega arith, omega arith)
  within cur served out k (Holds t x) u ok h = let a = ok.0 in let b = ok.1 in (omega arith, omega arith)
  within cur served out k (Names l) u ok h = absurd h
  within cur served out k (Joined a b l) u ok h = absurd h

  -- a seat where more turns are out
  pub regard : (cur : T) (served out out' : ℕ) (splits ended : List ℕ) (k : Knows T) → out ≤ out' → SeatOk r key cur served out splits ended k → SeatOk r key cur served out' splits ended k
  regard cur served out out' splits ended k le ok = record {
    made = ok.made;
    since = ok.since;
    seen = ok.seen;
    own = ok.own;
    kept = ok.kept;
    first = ok.first;
    other = ok.other;
    gone = ok.gone;
    remains = ok.remains;
    stage = widen cur served out out' k k.stage le ok.stage;
  }

  -- the same seat at another stage
  pub restaged : (cur : T) (served out out' : ℕ) (splits ended : List ℕ) (k : Knows T) (st : Stage T) → StageOk r cur served out' (record k { stage = st }) st
      → SeatOk r key cur served out splits ended k → SeatOk r key cur served out' splits ended (record k { stage = st })
  restaged cur served out out' splits ended k st here ok = record {
    made = ok.made;
    since = ok.since;
    seen = ok.seen;
    own = ok.own;
    kept = ok.kept;
    first = ok.first;
    other = ok.other;
    gone = ok.gone;
    remains = ok.remains;
    stage = here;
  }

  -- one seat moves, and the value, the words and the slot may change
  pub moved : (s : St) (q : IsTable r key s) (id : ℕ) (k' : Knows T) (words' : List ℕ) (homes' : List (maybe.Option (Option T))) (cur' : T) (served' : ℕ)
      → length words' ≡ length s.words → length homes' ≡ 1
      → get_or words' 0 0 ≡ (served' + turns (set s.views id (Sits k'))) % 2 ^ 64 → get_or words' 1 0 ≡ served' % 2 ^ 64
      → r.origin cur' ≡ r.origin key → Grows r key cur'
      → SeatOk r key cur' served' (turns (set s.views id (Sits k'))) q.splits q.ended k'
      → ((j : ℕ) (m : Knows T) → j ≢ id → get_elem? s.views j ≡ some (Sits m) → SeatOk r key cur' served' (turns (set s.views id (Sits k'))) q.splits q.ended m)
      → ((j : ℕ) (m : Knows T) → j ≢ id → get_elem? s.views j ≡ some (Sits m) → Differ k' m)
      → ((l : ℕ) → l ≢ 0 → ¬ Has q.splits l → Alike r l key cur' × (r.held l key ≡ r.held l cur'))
      → ((get_elem? homes' 0 ≡ some (some (Some cur'))) ⊎ ((i : ℕ) × (m : Knows T) × (get_elem? (set s.views id (Sits k')) i ≡ some (Sits m)) × IsHolder m.stage))
      → IsTable r key record { words = words'; homes = homes'; views = set s.views id (Sits k') }
  moved s q id k' words' homes' cur' served' wide deep ticket serving origin grown mine others differ unsplit home = record {
    cur = cur';
    served = served';
    splits = q.splits;
    ended = q.ended;
    sizes = (omega (arith, wide, q.sizes.0), deep);
    ticket = ticket;
    serving = serving;
    origin = origin;
    grown = grown;
    few = length-set s.views id (Sits k') ∙ q.few;
    lanes = q.lanes;
    were = q.were;
    each = each_seat key (SeatOk r key cur' served' (turns (set s.views id (Sits k'))) q.splits q.ended) s.views id k' mine others;
    apart = each_pair key s.views id k' differ q.apart;
    unsplit = unsplit;
    home = home;
  }

  -- where the value is, after a step of a seat that neither has it nor takes it
  pub at_home : (s : St) (cur : T) (id : ℕ) (k k' : Knows T) → get_elem? s.views id ≡ some (Sits k) → (IsHolder k.stage → IsHolder k'.stage)
      → ((get_elem? s.homes 0 ≡ some (some (Some cur))) ⊎ ((i : ℕ) × (m : Knows T) × (get_elem? s.views i ≡ some (Sits m)) × IsHolder m.stage))
      → ((get_elem? s.homes 0 ≡ some (some (Some cur))) ⊎ ((i : ℕ) × (m : Knows T) × (get_elem? (set s.views id (Sits k')) i ≡ some (Sits m)) × IsHolder m.stage))
  at_home s cur id k k' at holds (inl h) = inl h
  at_home s cur id k k' at holds (inr (i, m, ati, is)) =
      dite (ℕ_discrete i id)
      (λ (e : i ≡ id). let same : k ≡ m = ap (knows_or key) (some-injective (Sits k) (Sits m) (sym at ∙ (ap (get_elem? s.views) (sym e) ∙ ati))) in
      inr (id, k', set_here s.views id (Sits k') (at_below s.views id (Sits k) at), holds (subst (λ (z : Knows T). IsHolder z.stage) (sym same) is)))
      (λ (ne : i ≢ id). inr (i, m, set_else s.views id i (Sits k') ne ∙ ati, is))

  -- a step that changes nothing
  pub unmoved : (s : St) (q : IsTable r key s) (i id : ℕ) (v : View T) → get_elem? s.views id ≡ some v
      → IsTable r key record { words = set s.words i (get_or s.words i 0); homes = s.homes; views = set s.views id v }
  unmoved s q i id v at =
      subst (λ (z : List ℕ × List (View T)). IsTable r key record { words = z.0; homes = s.homes; views = z.1 })
      (λ c. (sym (set-get_or s.words i 0) c, sym (set_again s.views id v at) c)) q

  -- few turns are out
  turns_fit : (s : St) (q : IsTable r key s) → turns s.views < 2 ^ 64
  turns_fit s q = let a = turns_few s.views in let b = few_lanes q.splits q.lanes in let c = q.few in omega arith

  pub takes_ticket : (slots id : ℕ) (k : Knows T) → Allows (IsTable r key) slots id (Sits (record k { stage = Rests }), []) 0 (λ n. (n + 1) % 2 ^ 64) (took (step slots 0 1 0 none) (Sits (record k { stage = Rests }), []))
  takes_ticket slots id k s q deep at fits =
      let t : ℕ = q.served + turns s.views in
      let k' : Knows T = record k { stage = Waits t } in
      let old : Knows T = record k { stage = Rests } in
      let more = turns_set s.views id (Sits old) (Sits k') at in
      let out : turns (set s.views id (Sits k')) ≡ turns s.views + 1 = omega arith in
      let ok = q.each id old at in
      let sum : q.served + turns (set s.views id (Sits k')) ≡ t + 1 = omega arith in
      let word : (get_or s.words 0 0 + 1) % 2 ^ 64 ≡ (q.served + turns (set s.views id (Sits k'))) % 2 ^ 64 =
      ap (λ (n : ℕ). (n + 1) % 2 ^ 64) q.ticket ∙ (mod-add-mod t (2 ^ 64) 1 ∙ ap (λ (n : ℕ). n % 2 ^ 64) (sym sum)) in (
        Sits k',
        keeps,
        tt,
        moved s q id k' (set s.words 0 ((get_or s.words 0 0 + 1) % 2 ^ 64)) s.homes q.cur q.served (length-set s.words 0 _) q.sizes.1
            (get_or-set_same s.words 0 _ 0 (omega (arith, q.sizes.0)) ∙ word)
            (get_or-set_other s.words 0 1 _ 0 (λ e. omega arith) ∙ q.serving)
            q.origin q.grown
            (restaged q.cur q.served (turns s.views) (turns (set s.views id (Sits k'))) q.splits q.ended old (Waits t) (omega arith, omega arith) ok)
            (λ j m ne atj. regard q.cur q.served (turns s.views) (turns (set s.views id (Sits k'))) q.splits q.ended m (omega arith) (q.each j m atj))
            (λ j m ne atj. let d = q.apart id j old m at atj (λ e. ne (sym e)) in (d.0, λ u a b. let w = within q.cur q.served (turns s.views) m m.stage u (q.each j m atj).stage b in omega (arith, w.1)))
            q.unsplit
            (at_home s q.cur id old k' at (λ h. h) q.home),
        (t, sym q.ticket, refl),
      )

  -- the seats' turns differ as they did, where one goes on with its turn
  pub same_turn : (k k' m : Knows T) → k'.lane ≡ k.lane → ((u : ℕ) → HasTurn k'.stage u → HasTurn k.stage u) → Differ k m → Differ k' m
  same_turn k k' m lane turn d = ((λ e. d.0 (sym lane ∙ e)), (λ u a b. d.1 u (turn u a) b))

  -- a lane that the first seat has not split off has not been split off
  not_split : (s : St) (q : IsTable r key s) (id : ℕ) (k : Knows T) → get_elem? s.views id ≡ some (Sits k) → k.lane ≡ 0 → (l : ℕ) → ¬ Has k.splits l → ¬ Has q.splits l
  not_split s q id k at first l h g = h (subst (λ (z : List ℕ). Has z l) (sym ((q.each id k at).first first).0) g)

  -- what a seat has seen has no entry of a lane that was not split off but those at make
  pub knows_unsplit : (s : St) (q : IsTable r key s) (id : ℕ) (k : Knows T) → get_elem? s.views id ≡ some (Sits k) → Unsplit r k k.seen
  knows_unsplit s q id k at first l apart h =
      let ok = q.each id k at in
      let far : Alike r l key q.cur = (q.unsplit l apart (not_split s q id k at first l h)).0 in
      let near : Alike r l k.seen q.cur = between r.by l (r.entries key) (r.entries k.seen) (r.entries q.cur) ok.since ok.seen far in
      subst (λ (z : T). Alike r l z k.seen) (sym ok.made) (far ∙ sym near)

  finds : (s : St) (q : IsTable r key s) (id : ℕ) (k : Knows T) → get_elem? s.views id ≡ some (Sits k) → Finds r k q.cur
  finds s q id k at = let ok = q.each id k at in let out = not_split s q id k at in record {
    since = subst (λ (z : T). Grows r z q.cur) (sym ok.made) q.grown;
    origin = q.origin ∙ ap r.origin (sym ok.made);
    seen = ok.seen;
    own = ok.own;
    kept = sym ok.kept;
    ended = λ first l h. ok.gone first l (subst (λ (z : List ℕ). Has z l) (ok.first first).1 h);
    remains = λ first. all_of (EndedWith r q.ended q.cur) (Remains r q.cur) k.remains (λ p h. h.1) (ok.remains first);
    unsplit = λ first l apart h. subst (λ (z : T). Alike r l z q.cur) (sym ok.made) (q.unsplit l apart (out first l h)).0;
    untouched = λ first l apart h. ap (r.held l) ok.made ∙ (q.unsplit l apart (out first l h)).1;
  }

  -- the seat of the turn that is served takes the value out
  comes : (s : St) (q : IsTable r key s) (id : ℕ) (k : Knows T) (t : ℕ) → get_elem? s.views id ≡ some (Sits (record k { stage = Waits t })) → t ≡ q.served
      → (get_elem? s.homes 0 ≡ some (some (Some q.cur)))
      → IsTable r key record { words = set s.words 1 (get_or s.words 1 0); homes = set s.homes 0 none; views = set s.views id (Sits (record k { stage = Holds t q.cur })) }
  comes s q id k t at now home =
      let old : Knows T = record k { stage = Waits t } in
      let k' : Knows T = record k { stage = Holds t q.cur } in
      let more = turns_set s.views id (Sits old) (Sits k') at in
      let out : turns (set s.views id (Sits k')) ≡ turns s.views = omega arith in
      let ok = q.each id old at in
      let low = ok.stage.0 in
      let high = ok.stage.1 in
      subst (λ (w : List ℕ). IsTable r key record { words = w; homes = set s.homes 0 none; views = set s.views id (Sits k') }) (sym (set-get_or s.words 1 0))
      (moved s q id k' s.words (set s.homes 0 none) q.cur q.served refl (length-set s.homes 0 none ∙ q.sizes.1)
      (q.ticket ∙ ap (λ (n : ℕ). (q.served + n) % 2 ^ 64) (sym out)) q.serving q.origin q.grown
      (restaged q.cur q.served (turns s.views) (turns (set s.views id (Sits k'))) q.splits q.ended old (Holds t q.cur) (now, omega arith, refl) ok)
      (λ j m ne atj. regard q.cur q.served (turns s.views) (turns (set s.views id (Sits k'))) q.splits q.ended m (omega arith) (q.each j m atj))
      (λ j m ne atj. same_turn old k' m refl (λ u h. h) (q.apart id j old m at atj (λ e. ne (sym e))))
      q.unsplit
      (inr (id, k', set_here s.views id (Sits k') (at_below s.views id (Sits old) at), tt)))

  -- where a seat's turn is served, no other has the value
  undisturbed : (s : St) (q : IsTable r key s) (id : ℕ) (k : Knows T) (t : ℕ) → get_elem? s.views id ≡ some (Sits (record k { stage = Waits t })) → t ≡ q.served
      → (get_elem? s.homes 0 ≡ some (some (Some q.cur))) ⊎ ((i : ℕ) × (m : Knows T) × (get_elem? s.views i ≡ some (Sits m)) × IsHolder m.stage)
      → get_elem? s.homes 0 ≡ some (some (Some q.cur))
  undisturbed s q id k t at now (inl h) = h
  undisturbed s q id k t at now (inr (i, m, ati, is)) = absurd (go m.stage (q.each i m ati).stage is refl)
    where
      old : Knows T
      old = record k { stage = Waits t }

      go : (st : Stage T) → StageOk r q.cur q.served (turns s.views) m st → IsHolder st → m.stage ≡ st → ⊥
      go Rests ok h e = h
      go (Waits u) ok h e = h
      go (Names l) ok h e = h
      go (Joined a b l) ok h e = h
      go (Holds u x) ok h e =
          dite (ℕ_discrete i id)
          (λ (same : i ≡ id). let whole : m ≡ old = ap (knows_or key) (some-injective (Sits m) (Sits old) (sym ati ∙ (ap (get_elem? s.views) same ∙ at))) in
          subst (λ (z : Stage T). IsHolder z) (sym e ∙ ap (λ (z : Knows T). z.stage) whole) h)
          (λ (ne : i ≢ id). (q.apart i id m old ati at ne).1 q.served (subst (λ (z : Stage T). HasTurn z q.served) (sym e) ok.0) now)

  pub looks : (slots id : ℕ) (k : Knows T) (t : ℕ)
      → Allows (IsTable r key) slots id (Sits (record k { stage = Waits t }), []) 1 (λ n. n) (looked r (step slots 1 0 0 none) (Sits (record k { stage = Waits t }), []))
  looks slots id k t s q deep at fits =
      let old : Knows T = record k { stage = Waits t } in
      let ok = q.each id old at in
      let low : q.served ≤ t = ok.stage.0 in
      let high : t < q.served + turns s.views = ok.stage.1 in
      let few = turns_fit s q in
      dite (ℕ_discrete (get_or s.words 1 0) (t % 2 ^ 64))
      (λ (e : get_or s.words 1 0 ≡ t % 2 ^ 64).
      let now : t ≡ q.served = sym (one_turn q.served t (2 ^ 64) low (omega arith) (sym q.serving ∙ e)) in
      let home = undisturbed s q id k t at now q.home in (
        Sits (record k { stage = Holds t q.cur }),
        takes 0 (Some q.cur),
        home,
        comes s q id k t at now home,
        ((λ _. (q.cur, refl, finds s q id old at)), (λ ne. absurd (ne e))),
      ))
      (λ (ne : get_or s.words 1 0 ≢ t % 2 ^ 64). (
        Sits old,
        keeps,
        tt,
        unmoved s q 1 id (Sits old) at,
        ((λ e. absurd (ne e)), (λ _. refl)),
      ))

  -- the list of y is that of x, or has one entry of the lane more
  abbrev pub Adds : ℕ → T → T → Type 0
  Adds lane x y = (r.entries y ≡ r.entries x) ⊎ ((e : E) × (r.by e ≡ lane) × (r.entries y ≡ r.entries x ++ e ∷ []))

  pub adds_grow : (lane : ℕ) (x y : T) → Adds lane x y → Grows r x y
  adds_grow lane x y (inl e) = begins_with (r.entries x) [] (r.entries y) (e ∙ sym (append-nil (r.entries x)))
  adds_grow lane x y (inr (e, by, is)) = begins_with (r.entries x) (e ∷ []) (r.entries y) is

  pub adds_alike : (lane l : ℕ) (x y : T) → Adds lane x y → l ≢ lane → Alike r l x y
  adds_alike lane l x y (inl e) other = ap (entries_by r.by l) (sym e)
  adds_alike lane l x y (inr (e, by, is)) other = sym (ap (entries_by r.by l) is ∙ another's r.by l (r.entries x) e (λ h. other (sym h ∙ by)))

  next_stage : (cur y : T) (served out out' : ℕ) (m : Knows T) (st : Stage T) → out' + 1 ≡ out → ¬ HasTurn st served → StageOk r cur served out m st → StageOk r y (served + 1) out' m st
  next_stage cur y served out out' m Rests one other ok = ok
  next_stage cur y served out out' m (Waits u) one other ok = let a = ok.0 in let b = ok.1 in let ne : u ≢ served = other in (omega arith, omega arith)
  next_stage cur y served out out' m (Holds u x) one other ok = absurd (other ok.0)
  next_stage cur y served out out' m (Names l) one other ok = ok
  next_stage cur y served out out' m (Joined a b l) one other ok = ok

  -- another seat, where the seat of `lane` has left y
  others_next : (cur y : T) (served out out' : ℕ) (splits ended : List ℕ) (lane : ℕ) (m : Knows T) → TakesTurn r lane cur y → out' + 1 ≡ out → ¬ HasTurn m.stage served → m.lane ≢ lane
      → (m.lane ≡ 0 → ¬ Has ended lane) → SeatOk r key cur served out splits ended m → SeatOk r key y (served + 1) out' splits ended m
  others_next cur y served out out' splits ended lane m next one turn apart live ok = record {
    made = ok.made;
    since = ok.since;
    seen = begins_on (r.entries m.seen) (r.entries cur) (r.entries y) ok.seen (adds_grow lane cur y next.list);
    own = ok.own ∙ adds_alike lane m.lane cur y next.list apart;
    kept = ok.kept ∙ sym (next.others m.lane apart);
    first = ok.first;
    other = ok.other;
    gone = λ first l h. ok.gone first l h ∙ adds_alike lane l cur y next.list (λ e. live first (subst (Has ended) e h));
    remains = λ first. all_of (EndedWith r ended cur) (EndedWith r ended y) m.remains (λ p h. (h.0, h.1 ∙ sym (next.others p.0 (λ e. live first (subst (Has ended) e h.0))))) (ok.remains first);
    stage = next_stage cur y served out out' m m.stage one turn ok.stage;
  }

  value_or : T → List (ℕ × Option T) → T
  value_or d [] = d
  value_or d ((n, Some y) ∷ xs) = y
  value_or d ((n, None) ∷ xs) = d

  leaves : (s : St) (q : IsTable r key s) (id : ℕ) (k : Knows T) (t : ℕ) (y : T) → get_elem? s.views id ≡ some (Sits (record k { stage = Holds t q.cur })) → t ≡ q.served → TakesTurn r k.lane q.cur y
      → IsTable r key record { words = set s.words 1 ((get_or s.words 1 0 + 1) % 2 ^ 64); homes = set s.homes 0 (some (Some y)); views = set s.views id (Sits (record k { seen = y; kept = y; stage = Rests })) }
  leaves s q id k t y at now next =
      let old : Knows T = record k { stage = Holds t q.cur } in
      let k' : Knows T = record k { seen = y; kept = y; stage = Rests } in
      let less = turns_set s.views id (Sits old) (Sits k') at in
      let one : turns (set s.views id (Sits k')) + 1 ≡ turns s.views = omega arith in
      let ok = q.each id old at in
      let grow = adds_grow k.lane q.cur y next.list in
      let sum : q.served + turns s.views ≡ (q.served + 1) + turns (set s.views id (Sits k')) = omega arith in
      moved s q id k' (set s.words 1 ((get_or s.words 1 0 + 1) % 2 ^ 64)) (set s.homes 0 (some (Some y))) y (q.served + 1)
      (length-set s.words 1 _) (length-set s.homes 0 _ ∙ q.sizes.1)
      (get_or-set_other s.words 1 0 _ 0 (λ e. omega arith) ∙ (q.ticket ∙ ap (λ (n : ℕ). n % 2 ^ 64) sum))
      (get_or-set_same s.words 1 _ 0 (omega (arith, q.sizes.0)) ∙ (ap (λ (n : ℕ). (n + 1) % 2 ^ 64) q.serving ∙ mod-add-mod q.served (2 ^ 64) 1))
      (next.origin ∙ q.origin)
      (begins_on (r.entries key) (r.entries q.cur) (r.entries y) q.grown grow)
      (record {
        made = ok.made;
        since = begins_on (r.entries key) (r.entries q.cur) (r.entries y) q.grown grow;
        seen = begins_itself (r.entries y);
        own = refl;
        kept = refl;
        first = ok.first;
        other = ok.other;
        gone = λ first l h. refl;
        remains = λ first. all_of (EndedWith r q.ended q.cur) (EndedWith r q.ended y) k.remains (λ p h. (h.0, h.1 ∙ sym (next.others p.0 (λ e. (q.were p.0 h.0).1 (e ∙ first))))) (ok.remains first);
        stage = tt;
      })
      (λ j m ne atj. let d = q.apart id j old m at atj (λ e. ne (sym e)) in
      others_next q.cur y q.served (turns s.views) (turns (set s.views id (Sits k'))) q.splits q.ended k.lane m next one (d.1 q.served now) (λ e. d.0 (sym e))
      (λ first. (ok.other (λ e. d.0 (e ∙ sym first))).1) (q.each j m atj))
      (λ j m ne atj. ((q.apart id j old m at atj (λ e. ne (sym e))).0, (λ u a b. a)))
      (λ l apart h. let u = q.unsplit l apart h in
      let other : l ≢ k.lane = (λ e. h (subst (Has q.splits) (sym e) (ok.other (λ z. apart (e ∙ z))).0)) in
      (u.0 ∙ adds_alike k.lane l q.cur y next.list other, u.1 ∙ sym (next.others l other)))
      (inl (set_here s.homes 0 (some (Some y)) (omega (arith, q.sizes.1))))

  pub serves : (slots id : ℕ) (k : Knows T) (t : ℕ) (x y : T) → TakesTurn r k.lane x y
      → Allows (IsTable r key) slots id (Sits (record k { stage = Holds t x }), (0, Some y) ∷ []) 1 (λ n. (n + 1) % 2 ^ 64) (served r (step slots 1 1 0 none) (Sits (record k { stage = Holds t x }), (0, Some y) ∷ []))
  unfolding value_or
  serves slots id k t x y next s q deep at fits =
      let ok = q.each id (record k { stage = Holds t x }) at in
      let is : x ≡ q.cur = ok.stage.2 in (
        Sits (record k { seen = y; kept = y; stage = Rests }),
        gives,
        tt,
        leaves s q id k t y (subst (λ (z : T). get_elem? s.views id ≡ some (Sits (record k { stage = Holds t z }))) is at) ok.stage.0 (subst (λ (z : T). TakesTurn r k.lane z y) is next),
        (
          (λ z e. let same : y ≡ z = ap (value_or y) e in ap (λ (w : T). (Sits (record k { seen = w; kept = w; stage = Rests }), [])) same),
          subst (Finds r (record k { stage = Holds t x })) (sym is) (finds s q id (record k { stage = Holds t x }) at),
        ),
      )

  -- a step on a word behind the first two
  pub stirs : (slots id : ℕ) (me : Sat T) (i : ℕ) (f : ℕ → ℕ) → 1 < i → Allows (IsTable r key) slots id me i f (λ n m'. m' ≡ me)
  stirs slots id me i f behind s q deep at fits = (
    me.0,
    keeps,
    tt,
    subst (λ (z : List (View T)). IsTable r key record { words = set s.words i (f (get_or s.words i 0)); homes = s.homes; views = z }) (sym (set_again s.views id me.0 at)) record {
      cur = q.cur;
      served = q.served;
      splits = q.splits;
      ended = q.ended;
      sizes = (omega (arith, length-set s.words i (f (get_or s.words i 0)), q.sizes.0), q.sizes.1);
      ticket = get_or-set_other s.words i 0 (f (get_or s.words i 0)) 0 (λ e. omega arith) ∙ q.ticket;
      serving = get_or-set_other s.words i 1 (f (get_or s.words i 0)) 0 (λ e. omega arith) ∙ q.serving;
      origin = q.origin;
      grown = q.grown;
      few = q.few;
      lanes = q.lanes;
      were = q.were;
      each = q.each;
      apart = q.apart;
      unsplit = q.unsplit;
      home = q.home;
    },
    refl,
  )
