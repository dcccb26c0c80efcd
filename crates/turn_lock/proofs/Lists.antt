-- Lists: beginnings, a lane's entries, how many turns are out, and how many seats there can be.
use Rattle.std.proofs.Common.{◌≡◌, ◌≢◌, ◌⊎◌, ℕ, zero, suc, ◌+◌, ◌^◌, ◌<◌, ◌≤◌, eqb, Bool, true, false, List, [], ◌∷◌, ◌++◌, length, set, sym, refl, ap, ◌∙◌, inl, inr, ⊎_elim, arith, append_assoc, length-append, eq-eqb, ne_eqb, eqb-true}
use Rattle.std.specs.Prelude.{if◌then◌else◌, ◌||◌}
use mathlib.Core.Logic.{dite}
use native.Mathlib.Decide.{ℕ_discrete}
use Rattle.std.specs.List.{All, IsDistinct, AllByRecursion, list_any}
use Rattle.std.proofs.lemmas.List.Elements.{All-nil, All-cons, All-head, All-tail}
use Rattle.std.proofs.lemmas.Map.Steps.{length-le_from_distinct_below}
use mathlib.Core.Option.{some, some-injective, some-ne-none}
use mathlib.Core.List.{IsPrefix, append-nil}
use lib.ListN.{get_elem?}
use Rattle.turn_lock.specs.Entries.{own, entries_after, entries_by}
use Rattle.turn_lock.specs.Sitting.{Has}
use Rattle.turn_lock.specs.Rule.{AreLanes, turns, view_turns}
use Rattle.turn_lock.specs.declared.board.View.{View}
use Rattle.turn_lock.specs.declared.board.View.TheVariants.{Spent, Sits}
use Rattle.turn_lock.specs.declared.board.Stage.TheVariants.{Rests, Waits, Holds, Names, Joined}

module _ {A : Type 0} where
  head_or : A → List A → A
  head_or d [] = d
  head_or d (x ∷ xs) = x

  tail : List A → List A
  tail [] = []
  tail (x ∷ xs) = xs

  -- what is so of each element, and gives something else, is so
  pub all_of : (P Q : A → Type 0) (xs : List A) → ((x : A) → P x → Q x) → All P xs → All Q xs
  all_of P Q [] f h = All-nil Q
  all_of P Q (x ∷ xs) f h = All-cons Q x xs (f x (All-head P x xs h)) (all_of P Q xs f (All-tail P x xs h))

  pub begins_itself : (xs : List A) → IsPrefix xs xs
  begins_itself xs = ([], append-nil xs)

  pub begins_on : (xs ys zs : List A) → IsPrefix xs ys → IsPrefix ys zs → IsPrefix xs zs
  begins_on xs ys zs p q = (p.0 ++ q.0, sym (append_assoc xs p.0 q.0) ∙ (ap (λ w. w ++ q.0) p.1 ∙ q.1))

  pub begins_with : (xs ys zs : List A) → zs ≡ xs ++ ys → IsPrefix xs zs
  begins_with xs ys zs e = (ys, sym e)

  pub nothing_more : (xs ys zs : List A) → xs ++ ys ≡ zs → length zs ≤ length xs → ys ≡ []
  nothing_more xs [] zs e l = refl
  nothing_more xs (y ∷ ys) zs e l = absurd (omega (arith, length-append xs (y ∷ ys), ap length e))

  pub begins_whole : (xs ys : List A) → IsPrefix xs ys → length ys ≤ length xs → xs ≡ ys
  begins_whole xs ys p l = sym (append-nil xs) ∙ (ap (λ w. xs ++ w) (sym (nothing_more xs p.0 ys p.1 l)) ∙ p.1)

  pub begins_shorter : (xs ys : List A) → IsPrefix xs ys → length xs ≤ length ys
  begins_shorter xs ys p = omega (arith, length-append xs p.0, ap length p.1)

module _ {E : Type 0} (by : E → ℕ) (lane : ℕ) where
  pub after_append : (n : ℕ) (xs ys : List E) → entries_after by lane n (xs ++ ys) ≡ entries_after by lane n xs ++ entries_after by lane (n + length xs) ys
  after_append n [] ys = let z : n ≡ n + 0 = omega arith in ap (λ k. entries_after by lane k ys) z
  after_append n (x ∷ xs) ys =
      let z : n + 1 + length xs ≡ n + length (x ∷ xs) = omega arith in
      ap (λ w. own by lane (n + 1) x ++ w) (after_append (n + 1) xs ys ∙ ap (λ k. entries_after by lane (n + 1) xs ++ entries_after by lane k ys) z)
      ∙ sym (append_assoc (own by lane (n + 1) x) (entries_after by lane (n + 1) xs) (entries_after by lane (n + length (x ∷ xs)) ys))

  pub mine_begins : (xs ys : List E) → IsPrefix xs ys → IsPrefix (entries_by by lane xs) (entries_by by lane ys)
  mine_begins xs ys p = (entries_after by lane (0 + length xs) p.0, sym (after_append 0 xs p.0) ∙ ap (entries_by by lane) p.1)

  -- of three lists, each beginning the next, the first and the last have the same entries of the lane: so has the one between
  pub between : (xs ys zs : List E) → IsPrefix xs ys → IsPrefix ys zs → entries_by by lane xs ≡ entries_by by lane zs → entries_by by lane ys ≡ entries_by by lane zs
  between xs ys zs p q e =
      let a = begins_shorter _ _ (mine_begins xs ys p) in
      let b : length (entries_by by lane zs) ≤ length (entries_by by lane ys) = omega (arith, a, ap length e) in
      begins_whole _ _ (mine_begins ys zs q) b

  pub another's : (xs : List E) (e : E) → by e ≢ lane → entries_by by lane (xs ++ e ∷ []) ≡ entries_by by lane xs
  another's xs e other =
      after_append 0 xs (e ∷ [])
      ∙ (ap (λ (b : Bool). entries_by by lane xs ++ ((if b then (0 + length xs + 1, e) ∷ [] else []) ++ [])) (ne_eqb (by e) lane other) ∙ append-nil (entries_by by lane xs))

  pub one_more : (xs : List E) (e : E) → by e ≡ lane → entries_by by lane (xs ++ e ∷ []) ≡ entries_by by lane xs ++ (length xs + 1, e) ∷ []
  one_more xs e is =
      let z : 0 + length xs + 1 ≡ length xs + 1 = omega arith in
      after_append 0 xs (e ∷ [])
      ∙ (ap (λ (b : Bool). entries_by by lane xs ++ ((if b then (0 + length xs + 1, e) ∷ [] else []) ++ [])) (eq-eqb (by e) lane is)
      ∙ ap (λ (n : ℕ). entries_by by lane xs ++ (n, e) ∷ []) z)

  -- where the lane has the same entries in a list as in a beginning of it, only other lanes' entries stand behind that
  pub others_follow : (xs more : List E) → entries_by by lane xs ≡ entries_by by lane (xs ++ more) → All (λ e. by e ≢ lane) more
  others_follow xs more same = go (0 + length xs) more (nothing_more (entries_by by lane xs) (entries_after by lane (0 + length xs) more) (entries_by by lane (xs ++ more)) (sym (after_append 0 xs more)) (omega (arith, ap length same)))
    where
      go : (n : ℕ) (es : List E) → entries_after by lane n es ≡ [] → All (λ e. by e ≢ lane) es
      go n [] none = All-nil (λ e. by e ≢ lane)
      go n (e ∷ es) none = dite (ℕ_discrete (by e) lane)
          (λ (is : by e ≡ lane). absurd (omega (arith, ap length (sym (ap (λ (b : Bool). (if b then (n + 1, e) ∷ [] else []) ++ entries_after by lane (n + 1) es) (eq-eqb (by e) lane is)) ∙ none))))
          (λ (ne : by e ≢ lane). All-cons (λ e. by e ≢ lane) e es ne
          (go (n + 1) es (sym (ap (λ (b : Bool). (if b then (n + 1, e) ∷ [] else []) ++ entries_after by lane (n + 1) es) (ne_eqb (by e) lane ne)) ∙ none)))

  pub others_behind : (xs ys more : List E) → entries_by by lane ys ≡ entries_by by lane xs → ys ≡ xs ++ more → All (λ e. by e ≢ lane) more
  others_behind xs ys more same is = others_follow xs more (sym same ∙ ap (entries_by by lane) is)

-- where each lane has the same entries in a list as in a beginning of it, that is the whole list
pub all_alike : {E : Type 0} (by : E → ℕ) (xs ys : List E) → IsPrefix xs ys → ((lane : ℕ) → entries_by by lane xs ≡ entries_by by lane ys) → xs ≡ ys
all_alike {E} by xs ys (rest, e) alike = go rest e
  where
    go : (more : List E) → xs ++ more ≡ ys → xs ≡ ys
    go [] is = sym (append-nil xs) ∙ is
    go (x ∷ more) is =
        let lane : ℕ = by x in
        let grown : length (entries_by by lane (xs ++ x ∷ [])) ≡ length (entries_by by lane xs) + 1 =
        ap length (one_more by lane xs x refl) ∙ length-append (entries_by by lane xs) ((length xs + 1, x) ∷ []) in
        let front : IsPrefix (xs ++ x ∷ []) ys = (more, append_assoc xs (x ∷ []) more ∙ is) in
        let short = begins_shorter _ _ (mine_begins by lane (xs ++ x ∷ []) ys front) in
        absurd (omega (arith, grown, short, ap length (alike lane)))

module _ {T : Type 0} where
  pub turns_set : (vs : List (View T)) (i : ℕ) (v w : View T) → get_elem? vs i ≡ some v → turns (set vs i w) + view_turns v ≡ turns vs + view_turns w
  turns_set [] i v w at = absurd (some-ne-none v (sym at))
  turns_set (x ∷ xs) zero v w at = let e : view_turns x ≡ view_turns v = ap view_turns (some-injective x v at) in omega arith
  turns_set (x ∷ xs) (suc i) v w at = let e = turns_set xs i v w at in omega arith

  pub turns_snoc : (vs : List (View T)) (v : View T) → turns (vs ++ v ∷ []) ≡ turns vs + view_turns v
  turns_snoc [] v = omega arith
  turns_snoc (x ∷ xs) v = let e = turns_snoc xs v in omega arith

  one_turn_at_most : (v : View T) → view_turns v ≤ 1
  one_turn_at_most Spent = omega arith
  one_turn_at_most (Sits k) = elim k.stage as (λ (st : _). view_turns (Sits (record k { stage = st })) ≤ 1) [ Rests ↦ omega arith | Waits u ↦ omega arith | Holds u x ↦ omega arith | Names l ↦ omega arith | Joined a b l ↦ omega arith ]

  pub turns_few : (vs : List (View T)) → turns vs ≤ length vs
  turns_few [] = omega arith
  turns_few (v ∷ vs) = let a = one_turn_at_most v in let b = turns_few vs in omega arith

all_others : (x : ℕ) (xs : List ℕ) → ¬ Has xs x → AllByRecursion (λ y. eqb x y ≡ false) xs
all_others x [] out = tt
all_others x (y ∷ ys) out = (ne_eqb x y (λ e. out (inl e)), all_others x ys (λ h. out (inr h)))

distinct : (xs : List ℕ) → AreLanes xs → IsDistinct eqb xs
unfolding IsDistinct
distinct [] a = tt
distinct (x ∷ xs) a = (all_others x xs a.0, distinct xs a.2)

found : (q : ℕ) (xs : List ℕ) → list_any (eqb q) xs ≡ true → Has xs q
found q [] h = absurd (cc)
found q (x ∷ xs) h = go (eqb q x) refl (found q xs) h
  where
    go : (b : Bool) → eqb q x ≡ b → (list_any (eqb q) xs ≡ true → Has xs q) → (b || list_any (eqb q) xs) ≡ true → Has (x ∷ xs) q
    go true e more _ = inl (eqb-true q x e)
    go false _ more t = inr (more t)

pub lane_below : (xs : List ℕ) → AreLanes xs → (l : ℕ) → Has xs l → l < 2 ^ 32
lane_below [] a l h = absurd h
lane_below (x ∷ xs) a l (inl e) = let b = a.1 in omega arith
lane_below (x ∷ xs) a l (inr h) = lane_below xs a.2 l h

pub few_lanes : (xs : List ℕ) → AreLanes xs → length xs ≤ 2 ^ 32
few_lanes xs a = length-le_from_distinct_below xs (2 ^ 32) (distinct xs a) (λ q h. lane_below xs a q (found q xs h))

pub whether : (xs : List ℕ) (l : ℕ) → Dec (Has xs l)
whether [] l = no (λ h. h)
whether (x ∷ xs) l = dite (ℕ_discrete l x) (λ e. yes (inl e)) (λ ne. rest ne (whether xs l))
  where
    rest : l ≢ x → Dec (Has xs l) → Dec (Has (x ∷ xs) l)
    rest ne (yes h) = yes (inr h)
    rest ne (no n) = no (λ h. ⊎_elim ne n h)

module _ {A : Type 0} where
  -- of two beginnings of one list the shorter begins the longer
  pub begins_both : (xs ys zs : List A) → IsPrefix xs zs → IsPrefix ys zs → length xs ≤ length ys → IsPrefix xs ys
  unfolding head_or tail
  begins_both xs ys zs p q le = go xs ys (p.1 ∙ sym q.1) le
    where
      go : (xs ys : List A) → xs ++ p.0 ≡ ys ++ q.0 → length xs ≤ length ys → IsPrefix xs ys
      go [] ys e le = (ys, refl)
      go (x ∷ xs) [] e le = absurd (omega arith)
      go (x ∷ xs) (y ∷ ys) e le =
          let head : x ≡ y = ap (head_or x) e in
          let rest = go xs ys (ap tail e) (omega arith) in
          (rest.0, λ i. head i ∷ rest.1 i)

  pub at_end : (l : List A) (a b : A) (j : ℕ) → get_elem? (l ++ a ∷ []) j ≡ some b → (get_elem? l j ≡ some b) ⊎ ((j ≡ length l) × (a ≡ b))
  at_end [] a b zero e = inr (refl, some-injective a b e)
  at_end [] a b (suc j) e = absurd (some-ne-none b (sym e))
  at_end (x ∷ xs) a b zero e = inl e
  at_end (x ∷ xs) a b (suc j) e = ⊎_elim inl (λ (t : (j ≡ length xs) × (a ≡ b)). inr (omega (arith, t.0), t.1)) (at_end xs a b j e)
