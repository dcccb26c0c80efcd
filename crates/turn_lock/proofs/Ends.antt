-- How the table begins, how seats are split off and taken in, and how it ends.
use Rattle.std.proofs.Common.{◌≡◌, ◌≢◌, ◌⊎◌, ℕ, zero, suc, ◌+◌, ◌%◌, ◌^◌, ◌<◌, eqb, Bool, true, false, List, [], ◌∷◌, ◌++◌, length, get_or, set, sym, refl, ap, ◌∙◌, subst, ⊎_elim, inl, inr, arith, Option, Some, length-set, length-append, ltb-true, ltb-false}
use Rattle.std.specs.Prelude.{nat_lt, if◌then◌else◌}
use Rattle.std.specs.List.{All}
use Rattle.std.proofs.lemmas.List.Elements.{All-nil, All-cons}
use Rattle.std.proofs.Math.Nat.{mod-eq_of_lt}
use mathlib.Core.Logic.{dite}
use mathlib.Core.Option.{none, some, some-injective, some-ne-none}
use native.Mathlib.Decide.{ℕ_discrete}
use lib.ListN.{get_elem?}
use lib.Seq.{set-get_or}
use prog.Atomic.{either}
use Rattle.atomic_table.specs.Table.{State, step, keeps, Allows, Splits, Joins, opening, Final, Seen}
use Rattle.atomic_table.proofs.Lists.{at_set, set_else, at_longer, at_snoc, exchanged}
use Rattle.turn_lock.specs.Sitting.{Has}
use Rattle.turn_lock.specs.Rule.{Log, Grows, Alike, Remains, EndedWith, IsTable, SeatOk, Differ, IsHolder, turns, knows_or, knowing, beginning, starting, AllSame}
use Rattle.turn_lock.specs.Steps.{named, split_left, split_right, longer, joined, told}
use Rattle.turn_lock.specs.declared.board.Stage.TheVariants.{Rests, Names, Joined}
use Rattle.turn_lock.specs.declared.board.Knows.{Knows}
use Rattle.turn_lock.specs.declared.board.View.{View}
use Rattle.turn_lock.specs.declared.board.View.TheVariants.{Spent, Sits}
use Rattle.turn_lock.proofs.Lists.{begins_itself, begins_on, begins_both, between, all_alike, all_of, turns_set, turns_snoc, whether, at_end}
use Rattle.turn_lock.proofs.Keeps.{each_seat, each_pair, flip, regard, restaged, moved, at_home, same_turn, knows_unsplit}

module _ {T E O H : Type 0} (r : Log T E O H) (key : T) where
  abbrev St : Type 0
  St = State (Option T) (View T)

  -- the first two words have the same number
  pub starts : (words : List ℕ) (n : ℕ) → 1 < length words → n < 2 ^ 64 → get_or words 0 0 ≡ n → get_or words 1 0 ≡ n → IsTable r key (opening words (Some key ∷ []) (starting key))
  starts words n long small ticket serving = record {
    cur = key;
    served = n;
    splits = [];
    ended = [];
    sizes = (long, refl);
    ticket = ticket ∙ (sym below ∙ ap (λ (z : ℕ). z % 2 ^ 64) whole);
    serving = serving ∙ sym below;
    origin = refl;
    grown = begins_itself (r.entries key);
    few = refl;
    lanes = tt;
    were = λ l h. absurd h;
    each = one;
    apart = alone;
    unsplit = λ l apart h. (refl, refl);
    home = inl refl;
  }
    where
      below : n % 2 ^ 64 ≡ n
      below = mod-eq_of_lt small

      whole : n ≡ n + 0
      whole = omega arith

      here : (i : ℕ) (k : Knows T) → get_elem? (starting key ∷ []) i ≡ some (Sits k) → (i ≡ 0) × (beginning key ≡ k)
      here zero k e = (refl, ap (knows_or key) (some-injective (starting key) (Sits k) e))
      here (suc i) k e = absurd (some-ne-none (Sits k) (sym e))

      begun : SeatOk r key key n 0 [] [] (beginning key)
      begun = record {
        made = refl;
        since = begins_itself (r.entries key);
        seen = begins_itself (r.entries key);
        own = refl;
        kept = refl;
        first = λ e. (refl, refl);
        other = λ ne. absurd (ne refl);
        gone = λ first l h. refl;
        remains = λ first. All-nil (EndedWith r [] key);
        stage = tt;
      }

      one : (i : ℕ) (k : Knows T) → get_elem? (starting key ∷ []) i ≡ some (Sits k) → SeatOk r key key n 0 [] [] k
      one i k e = subst (SeatOk r key key n 0 [] []) (here i k e).1 begun

      alone : (i j : ℕ) (k m : Knows T) → get_elem? (starting key ∷ []) i ≡ some (Sits k) → get_elem? (starting key ∷ []) j ≡ some (Sits m) → i ≢ j → Differ k m
      alone i j k m a b ne = absurd (ne ((here i k a).0 ∙ sym (here j m b).0))

  pub names : (slots id lane : ℕ) (k : Knows T)
      → Allows (IsTable r key) slots id (Sits (record k { stage = Rests }), []) 0 (λ n. either (eqb n lane) lane n) (named r (step slots 0 lane lane none) (Sits (record k { stage = Rests }), []))
  names slots id lane k s q deep at fits =
      let old : Knows T = record k { stage = Rests } in
      let k' : Knows T = record k { stage = Names lane } in
      let more = turns_set s.views id (Sits old) (Sits k') at in
      let out : turns (set s.views id (Sits k')) ≡ turns s.views = omega arith in
      let n : ℕ = get_or s.words 0 0 in
      let same : either (eqb n lane) lane n ≡ n = exchanged n lane lane (λ z. z ≡ n) (λ e. sym e) (λ ne. refl) in (
        Sits k',
        keeps,
        tt,
        subst (λ (w : List ℕ). IsTable r key record { words = w; homes = s.homes; views = set s.views id (Sits k') }) (sym (ap (λ (z : ℕ). set s.words 0 z) same ∙ set-get_or s.words 0 0))
            (moved r key s q id k' s.words s.homes q.cur q.served refl q.sizes.1
            (q.ticket ∙ ap (λ (z : ℕ). (q.served + z) % 2 ^ 64) (sym out)) q.serving q.origin q.grown
            (restaged r key q.cur q.served (turns s.views) (turns (set s.views id (Sits k'))) q.splits q.ended old (Names lane) tt (q.each id old at))
            (λ j m ne atj. regard r key q.cur q.served (turns s.views) (turns (set s.views id (Sits k'))) q.splits q.ended m (omega arith) (q.each j m atj))
            (λ j m ne atj. same_turn r key old k' m refl (λ u h. h) (q.apart id j old m at atj (λ e. ne (sym e))))
            q.unsplit
            (at_home r key s q.cur id old k' at (λ h. h) q.home)),
        (refl, knows_unsplit r key s q id old at),
      )

  pub splits : (id lane : ℕ) (k : Knows T) → k.lane ≡ 0 → lane ≢ 0 → lane < 2 ^ 32 → ¬ Has k.splits lane
      → Splits (IsTable r key) id (Sits (record k { stage = Names lane })) (split_left (Sits (record k { stage = Names lane }))) (split_right (Sits (record k { stage = Names lane })))
  splits id lane k first some_lane small new s q at =
      let old : Knows T = record k { stage = Names lane } in
      let k' : Knows T = record k { splits = lane ∷ k.splits; stage = Rests } in
      let fresh : Knows T = knowing lane k.made k.seen k.made Rests in
      let more = turns_set s.views id (Sits old) (Sits k') at in
      let last = turns_snoc (set s.views id (Sits k')) (Sits fresh) in
      let views' : List (View T) = set s.views id (Sits k') ++ Sits fresh ∷ [] in
      let out : turns views' ≡ turns s.views = omega arith in
      let ok = q.each id old at in
      let mine : (k.splits ≡ q.splits) × (k.ended ≡ q.ended) = ok.first first in
      let new' : ¬ Has q.splits lane = (λ h. new (subst (λ (z : List ℕ). Has z lane) (sym mine.0) h)) in
      let here = q.unsplit lane some_lane new' in
      let P : Knows T → Type 0 = SeatOk r key q.cur q.served (turns views') (lane ∷ q.splits) q.ended in
      let left : P k' = record {
        made = ok.made;
        since = ok.since;
        seen = ok.seen;
        own = ok.own;
        kept = ok.kept;
        first = λ e. (ap (λ (z : List ℕ). lane ∷ z) mine.0, mine.1);
        other = λ ne. absurd (ne first);
        gone = ok.gone;
        remains = ok.remains;
        stage = tt;
      } in
      let right : P fresh = record {
        made = ok.made;
        since = ok.since;
        seen = ok.seen;
        own = between r.by lane (r.entries key) (r.entries k.seen) (r.entries q.cur) ok.since ok.seen here.0;
        kept = ap (r.held lane) ok.made ∙ here.1;
        first = λ e. absurd (some_lane e);
        other = λ ne. (inl refl, (λ h. new' (q.were lane h).0));
        gone = λ e. absurd (some_lane e);
        remains = λ e. absurd (some_lane e);
        stage = tt;
      } in
      let others : (j : ℕ) (m : Knows T) → j ≢ id → get_elem? s.views j ≡ some (Sits m) → P m = (λ j m ne atj.
      let d = q.apart id j old m at atj (λ e. ne (sym e)) in
      let okm = regard r key q.cur q.served (turns s.views) (turns views') q.splits q.ended m (omega arith) (q.each j m atj) in
      record {
        made = okm.made;
        since = okm.since;
        seen = okm.seen;
        own = okm.own;
        kept = okm.kept;
        first = λ e. absurd (d.0 (first ∙ sym e));
        other = λ n. let o = okm.other n in (inr o.0, o.1);
        gone = λ e. absurd (d.0 (first ∙ sym e));
        remains = λ e. absurd (d.0 (first ∙ sym e));
        stage = okm.stage;
      }) in
      let inner : (j : ℕ) (m : Knows T) → get_elem? (set s.views id (Sits k')) j ≡ some (Sits m) → P m = each_seat key P s.views id k' left others in
      let pairs = each_pair key s.views id k' (λ j m ne atj. same_turn r key old k' m refl (λ u h. h) (q.apart id j old m at atj (λ e. ne (sym e)))) q.apart in
      let away : (j : ℕ) (m : Knows T) → get_elem? (set s.views id (Sits k')) j ≡ some (Sits m) → Differ fresh m =
      each_seat key (Differ fresh) s.views id k' ((λ e. some_lane (e ∙ first)), (λ u a b. a))
      (λ j m ne atj. let d = q.apart id j old m at atj (λ e. ne (sym e)) in
      ((λ e. new' (subst (Has q.splits) (sym e) ((q.each j m atj).other (λ z. d.0 (first ∙ sym z))).0)), (λ u a b. a))) in
      record {
        cur = q.cur;
        served = q.served;
        splits = lane ∷ q.splits;
        ended = q.ended;
        sizes = q.sizes;
        ticket = q.ticket ∙ ap (λ (z : ℕ). (q.served + z) % 2 ^ 64) (sym out);
        serving = q.serving;
        origin = q.origin;
        grown = q.grown;
        few = length-append (set s.views id (Sits k')) (Sits fresh ∷ []) ∙ omega (arith, length-set s.views id (Sits k'), q.few);
        lanes = (new', small, q.lanes);
        were = λ l h. (inr (q.were l h).0, (q.were l h).1);
        each = λ j m e. ⊎_elim (inner j m) (λ (t : (j ≡ length (set s.views id (Sits k'))) × (Sits fresh ≡ Sits m)). subst P (ap (knows_or key) t.1) right) (at_end (set s.views id (Sits k')) (Sits fresh) (Sits m) j e);
        apart = λ i j h m ei ej ne. ⊎_elim
            (λ (a : get_elem? (set s.views id (Sits k')) i ≡ some (Sits h)). ⊎_elim
            (λ (b : get_elem? (set s.views id (Sits k')) j ≡ some (Sits m)). pairs i j h m a b ne)
            (λ (b : (j ≡ length (set s.views id (Sits k'))) × (Sits fresh ≡ Sits m)). subst (Differ h) (ap (knows_or key) b.1) (flip fresh h (away i h a)))
            (at_end (set s.views id (Sits k')) (Sits fresh) (Sits m) j ej))
            (λ (a : (i ≡ length (set s.views id (Sits k'))) × (Sits fresh ≡ Sits h)). ⊎_elim
            (λ (b : get_elem? (set s.views id (Sits k')) j ≡ some (Sits m)). subst (λ (z : Knows T). Differ z m) (ap (knows_or key) a.1) (away j m b))
            (λ (b : (j ≡ length (set s.views id (Sits k'))) × (Sits fresh ≡ Sits m)). absurd (ne (a.0 ∙ sym b.0)))
            (at_end (set s.views id (Sits k')) (Sits fresh) (Sits m) j ej))
            (at_end (set s.views id (Sits k')) (Sits fresh) (Sits h) i ei);
        unsplit = λ l apart h. q.unsplit l apart (λ g. h (inr g));
        home = ⊎_elim inl (λ (t : (i : ℕ) × (m : Knows T) × (get_elem? (set s.views id (Sits k')) i ≡ some (Sits m)) × IsHolder m.stage). inr (t.0, t.1, at_longer (set s.views id (Sits k')) (Sits fresh ∷ []) t.0 (Sits t.1) t.2, t.3))
            (at_home r key s q.cur id old k' at (λ h. h) q.home);
      }

  abbrev Longest : T → T → T → T → Type 0
  Longest x y cur z = ((z ≡ x) ⊎ (z ≡ y)) × Grows r x z × Grows r y z × Grows r z cur

  longest : (x y cur : T) → Grows r x cur → Grows r y cur → Longest x y cur (longer r x y)
  longest x y cur gx gy = go (nat_lt (length (r.entries x)) (length (r.entries y))) refl
    where
      go : (b : Bool) → nat_lt (length (r.entries x)) (length (r.entries y)) ≡ b → Longest x y cur (if b then y else x)
      go true e =
          let lt = ltb-true (length (r.entries x)) (length (r.entries y)) e in
          (inr refl, begins_both (r.entries x) (r.entries y) (r.entries cur) gx gy (omega arith), begins_itself (r.entries y), gy)
      go false e =
          let le = ltb-false (length (r.entries x)) (length (r.entries y)) e in
          (inl refl, begins_itself (r.entries x), begins_both (r.entries y) (r.entries x) (r.entries cur) gy gx (omega arith), gx)

  past_spent : (vs : List (View T)) (other i : ℕ) (h : Knows T) → get_elem? (set vs other Spent) i ≡ some (Sits h) → (i ≢ other) × (get_elem? vs i ≡ some (Sits h))
  past_spent vs other i h e =
      ⊎_elim (λ (t : (i ≡ other) × (Spent ≡ Sits h)). let f = t.1 in absurd (cc)) (λ (t : (i ≢ other) × (get_elem? vs i ≡ some (Sits h))). t) (at_set vs other i Spent (Sits h) e)

  pub merges : (id other : ℕ) (k m : Knows T) → k.lane ≡ 0
      → Joins (IsTable r key) id (Sits (record k { stage = Rests })) other (Sits (record m { stage = Rests })) (joined r (Sits (record k { stage = Rests })) (Sits (record m { stage = Rests }))) Spent
  merges id other k m first s q at ne at1 =
      let k0 : Knows T = record k { stage = Rests } in
      let m0 : Knows T = record m { stage = Rests } in
      let z : T = longer r k.seen m.seen in
      let k1 : Knows T = record k { seen = z; ended = m.lane ∷ k.ended; remains = (m.lane, m.kept) ∷ k.remains; stage = Joined k.seen m.seen m.lane } in
      let vs1 : List (View T) = set s.views id (Sits k1) in
      let vs2 : List (View T) = set vs1 other Spent in
      let atm : get_elem? s.views other ≡ some (Sits m0) = sym (set_else s.views id other (Sits k1) ne) ∙ at1 in
      let t1 = turns_set s.views id (Sits k0) (Sits k1) at in
      let t2 = turns_set vs1 other (Sits m0) Spent at1 in
      let out : turns vs2 ≡ turns s.views = omega arith in
      let okk = q.each id k0 at in
      let okm = q.each other m0 atm in
      let apart : k.lane ≢ m.lane = (q.apart id other k0 m0 at atm (λ e. ne (sym e))).0 in
      let lists : (k.splits ≡ q.splits) × (k.ended ≡ q.ended) = okk.first first in
      let theirs : Has q.splits m.lane × (¬ Has q.ended m.lane) = okm.other (λ e. apart (first ∙ sym e)) in
      let far = longest k.seen m.seen q.cur okk.seen okm.seen in
      let as_mine : (l : ℕ) → Alike r l k.seen q.cur → Alike r l z q.cur = (λ l e. between r.by l (r.entries k.seen) (r.entries z) (r.entries q.cur) far.1 far.3 e) in
      let as_theirs : (l : ℕ) → Alike r l m.seen q.cur → Alike r l z q.cur = (λ l e. between r.by l (r.entries m.seen) (r.entries z) (r.entries q.cur) far.2 far.3 e) in
      let ended' : List ℕ = m.lane ∷ q.ended in
      let P : Knows T → Type 0 = SeatOk r key q.cur q.served (turns vs2) q.splits ended' in
      let gone_of : (l : ℕ) → Has q.ended l → Alike r l k.seen q.cur = okk.gone first in
      let here : P k1 = record {
        made = okk.made;
        since = begins_on (r.entries key) (r.entries k.seen) (r.entries z) okk.since far.1;
        seen = far.3;
        own = as_mine k.lane okk.own;
        kept = okk.kept;
        first = λ e. (lists.0, ap (λ (w : List ℕ). m.lane ∷ w) lists.1);
        other = λ n. absurd (n first);
        gone = λ e l h. ⊎_elim (λ (f : l ≡ m.lane). as_theirs l (subst (λ (w : ℕ). Alike r w m.seen q.cur) (sym f) okm.own)) (λ (f : Has q.ended l). as_mine l (gone_of l f)) h;
        remains = λ e. All-cons (EndedWith r ended' q.cur) (m.lane, m.kept) k.remains (inl refl, okm.kept) (all_of (EndedWith r q.ended q.cur) (EndedWith r ended' q.cur) k.remains (λ p h. (inr h.0, h.1)) (okk.remains first));
        stage = record {
          longer = far.0;
          ours = far.1;
          theirs = far.2;
          own = okk.own ∙ sym (as_mine k.lane okk.own);
          joined = okm.own ∙ sym (as_theirs m.lane okm.own);
          gone = λ j h other_lane.
              ⊎_elim (λ (f : j ≡ m.lane). absurd (other_lane f))
              (λ (f : Has k.ended j). let g = gone_of j (subst (λ (w : List ℕ). Has w j) lists.1 f) in g ∙ sym (as_mine j g)) h;
        };
      } in
      let others : (j : ℕ) (h : Knows T) → j ≢ id → j ≢ other → get_elem? s.views j ≡ some (Sits h) → P h = (λ j h ni no atj.
      let d = q.apart id j k0 h at atj (λ e. ni (sym e)) in
      let dm = q.apart other j m0 h atm atj (λ e. no (sym e)) in
      let okh = regard r key q.cur q.served (turns s.views) (turns vs2) q.splits q.ended h (omega arith) (q.each j h atj) in
      record {
        made = okh.made;
        since = okh.since;
        seen = okh.seen;
        own = okh.own;
        kept = okh.kept;
        first = λ e. absurd (d.0 (first ∙ sym e));
        other = λ n. let o = okh.other n in (o.0, (λ g. ⊎_elim (λ (f : h.lane ≡ m.lane). dm.0 (sym f)) o.1 g));
        gone = λ e. absurd (d.0 (first ∙ sym e));
        remains = λ e. absurd (d.0 (first ∙ sym e));
        stage = okh.stage;
      }) in
      let Q : ℕ → Knows T → Type 0 = (λ j h. j ≢ other → P h) in
      let each1 : (j : ℕ) (h : Knows T) → j ≢ other → get_elem? vs1 j ≡ some (Sits h) → P h = (λ j h no e.
      ⊎_elim (λ (t : (j ≡ id) × (Sits k1 ≡ Sits h)). subst P (ap (knows_or key) t.1) here) (λ (t : (j ≢ id) × (get_elem? s.views j ≡ some (Sits h))). others j h t.0 no t.1)
      (at_set s.views id j (Sits k1) (Sits h) e)) in
      let pairs = each_pair key s.views id k1 (λ j h n atj. same_turn r key k0 k1 h refl (λ u g. g) (q.apart id j k0 h at atj (λ e. n (sym e)))) q.apart in
      record {
        cur = q.cur;
        served = q.served;
        splits = q.splits;
        ended = ended';
        sizes = q.sizes;
        ticket = q.ticket ∙ ap (λ (w : ℕ). (q.served + w) % 2 ^ 64) (sym out);
        serving = q.serving;
        origin = q.origin;
        grown = q.grown;
        few = length-set vs1 other Spent ∙ (length-set s.views id (Sits k1) ∙ q.few);
        lanes = q.lanes;
        were = λ l h. ⊎_elim (λ (f : l ≡ m.lane). (subst (Has q.splits) (sym f) theirs.0, (λ e. apart (first ∙ sym (sym f ∙ e))))) (λ (f : Has q.ended l). q.were l f) h;
        each = λ j h e. let p = past_spent vs1 other j h e in each1 j h p.0 p.1;
        apart = λ i j g h ei ej n. pairs i j g h (past_spent vs1 other i g ei).1 (past_spent vs1 other j h ej).1 n;
        unsplit = q.unsplit;
        home = ⊎_elim inl
            (λ (t : (i : ℕ) × (h : Knows T) × (get_elem? vs1 i ≡ some (Sits h)) × IsHolder h.stage).
            dite (ℕ_discrete t.0 other)
            (λ (e : t.0 ≡ other). let same : m0 ≡ t.1 = ap (knows_or key) (some-injective (Sits m0) (Sits t.1) (sym at1 ∙ (ap (get_elem? vs1) (sym e) ∙ t.2))) in
            absurd (subst (λ (w : Knows T). IsHolder w.stage) (sym same) t.3))
            (λ (n : t.0 ≢ other). inr (t.0, t.1, set_else vs1 other t.0 Spent n ∙ t.2, t.3)))
            (at_home r key s q.cur id k0 k1 at (λ h. h) q.home);
      }

  pub tells : (slots id : ℕ) (k : Knows T) (a b : T) (l : ℕ)
      → Allows (IsTable r key) slots id (Sits (record k { stage = Joined a b l }), []) 0 (λ n. n) (told r (step slots 0 0 0 none) (Sits (record k { stage = Joined a b l }), []))
  tells slots id k a b l s q deep at fits =
      let old : Knows T = record k { stage = Joined a b l } in
      let k' : Knows T = record k { stage = Rests } in
      let more = turns_set s.views id (Sits old) (Sits k') at in
      let out : turns (set s.views id (Sits k')) ≡ turns s.views = omega arith in (
        Sits k',
        keeps,
        tt,
        subst (λ (w : List ℕ). IsTable r key record { words = w; homes = s.homes; views = set s.views id (Sits k') }) (sym (set-get_or s.words 0 0))
            (moved r key s q id k' s.words s.homes q.cur q.served refl q.sizes.1
            (q.ticket ∙ ap (λ (z : ℕ). (q.served + z) % 2 ^ 64) (sym out)) q.serving q.origin q.grown
            (restaged r key q.cur q.served (turns s.views) (turns (set s.views id (Sits k'))) q.splits q.ended old Rests tt (q.each id old at))
            (λ j m ne atj. regard r key q.cur q.served (turns s.views) (turns (set s.views id (Sits k'))) q.splits q.ended m (omega arith) (q.each j m atj))
            (λ j m ne atj. same_turn r key old k' m refl (λ u h. absurd h) (q.apart id j old m at atj (λ e. ne (sym e))))
            q.unsplit
            (at_home r key s q.cur id old k' at (λ h. absurd h) q.home)),
        (refl, (q.each id old at).stage, knows_unsplit r key s q id old at),
      )

  -- what the value is at the end
  pub record Closes (k : Knows T) (x : T) : Type 0 where
    pub origin : r.origin x ≡ r.origin k.made
    pub list : r.entries x ≡ r.entries k.seen
    pub since : Grows r k.made x
    pub unsplit : (l : ℕ) → l ≢ 0 → ¬ Has k.splits l → Alike r l k.made x
    pub kept : r.held 0 x ≡ r.held k.lane k.kept
    pub remains : All (Remains r x) k.remains
    pub untouched : (l : ℕ) → l ≢ 0 → ¬ Has k.splits l → r.held l k.made ≡ r.held l x

  pub closes : (id : ℕ) (k : Knows T) (words : List ℕ) (slots : List (Option T)) → k.lane ≡ 0 → ((l : ℕ) → Has k.splits l → Has k.ended l)
      → Final (Seen (IsTable r key) id (Sits (record k { stage = Rests }))) words slots → (x : T) × (get_elem? slots 0 ≡ some (Some x)) × Closes k x
  closes id k words slots first all_joined (s, (q, at), words_are, deep, there) =
      let old : Knows T = record k { stage = Rests } in
      let ok = q.each id old at in
      let lists : (k.splits ≡ q.splits) × (k.ended ≡ q.ended) = ok.first first in
      let home : get_elem? s.homes 0 ≡ some (some (Some q.cur)) = ⊎_elim (λ h. h)
      (λ (t : (i : ℕ) × (m : Knows T) × (get_elem? s.views i ≡ some (Sits m)) × IsHolder m.stage).
      dite (ℕ_discrete t.0 id)
      (λ (e : t.0 ≡ id). let same : old ≡ t.1 = ap (knows_or key) (some-injective (Sits old) (Sits t.1) (sym at ∙ (ap (get_elem? s.views) (sym e) ∙ t.2))) in
      absurd (subst (λ (w : Knows T). IsHolder w.stage) (sym same) t.3))
      (λ (n : t.0 ≢ id).
      let d = q.apart id t.0 old t.1 at t.2 (λ e. n (sym e)) in
      let o = (q.each t.0 t.1 t.2).other (λ e. d.0 (first ∙ sym e)) in
      absurd (o.1 (subst (λ (w : List ℕ). Has w t.1.lane) lists.1 (all_joined t.1.lane (subst (λ (w : List ℕ). Has w t.1.lane) (sym lists.0) o.0)))))) q.home in
      let whole : (l : ℕ) → l ≢ 0 → ¬ Has k.splits l → Alike r l key q.cur × (r.held l key ≡ r.held l q.cur) = (λ l n h. q.unsplit l n (λ (g : Has q.splits l). h (subst (λ (w : List ℕ). Has w l) (sym lists.0) g))) in
      let unsplit : (l : ℕ) → l ≢ 0 → ¬ Has k.splits l → Alike r l key q.cur = (λ l n h. (whole l n h).0) in
      let alike : (l : ℕ) → Alike r l k.seen q.cur = (λ l. dite (ℕ_discrete l 0)
      (λ (e : l ≡ 0). subst (λ (w : ℕ). Alike r w k.seen q.cur) (first ∙ sym e) ok.own)
      (λ (n : l ≢ 0). dite (whether k.splits l)
      (λ (h : Has k.splits l). ok.gone first l (subst (λ (w : List ℕ). Has w l) lists.1 (all_joined l h)))
      (λ (h : ¬ Has k.splits l). between r.by l (r.entries key) (r.entries k.seen) (r.entries q.cur) ok.since ok.seen (unsplit l n h)))) in (
        q.cur,
        there 0 (Some q.cur) home,
        record {
          origin = q.origin ∙ ap r.origin (sym ok.made);
          list = sym (all_alike r.by (r.entries k.seen) (r.entries q.cur) ok.seen alike);
          since = subst (λ (w : T). Grows r w q.cur) (sym ok.made) q.grown;
          unsplit = λ l n h. subst (λ (w : T). Alike r l w q.cur) (sym ok.made) (unsplit l n h);
          kept = subst (λ (w : ℕ). r.held w q.cur ≡ r.held k.lane k.kept) first (sym ok.kept);
          remains = all_of (EndedWith r q.ended q.cur) (Remains r q.cur) k.remains (λ p h. h.1) (ok.remains first);
          untouched = λ l n h. ap (r.held l) ok.made ∙ (whole l n h).1;
        },
      )

  -- the seats of the second table all remember one value
  pub twins : (id : ℕ) (v : T) → Splits (AllSame key) id v v v
  twins id v s q at =
      λ i w e. ⊎_elim
      (λ (a : get_elem? (set s.views id v) i ≡ some w). ⊎_elim (λ (t : (i ≡ id) × (v ≡ w)). sym t.1 ∙ q id v at) (λ (t : (i ≢ id) × (get_elem? s.views i ≡ some w)). q i w t.1) (at_set s.views id i v w a))
      (λ (a : v ≡ w). sym a ∙ q id v at) (at_snoc (set s.views id v) v w i e)

  pub same_start : AllSame key (opening (0 ∷ []) [] key)
  same_start zero v e = sym (some-injective key v e)
  same_start (suc i) v e = absurd (some-ne-none v (sym e))

  pub starts_with : (value : T) (words : List ℕ) (slots : List (Option T)) (n : ℕ) → 1 < length words → n < 2 ^ 64 → get_or words 0 0 ≡ n → get_or words 1 0 ≡ n → key ≡ value → slots ≡ Some value ∷ []
      → IsTable r key (opening words slots (starting key))
  starts_with value words slots n long small ticket serving same is =
      subst (λ (w : List (Option T)). IsTable r key (opening words w (starting key))) (sym (is ∙ ap (λ (w : T). Some w ∷ []) (sym same))) (starts words n long small ticket serving)
