-- A list is made of its entries, one after the other.
use Rattle.std.proofs.Common.{◌≡◌, ℕ, ◌+◌, ◌<◌, ◌≤◌, Bool, true, false, cond, leb, List, [], ◌∷◌, ◌++◌, length, map, Option, Some, None, Result, Ok, Err, inl, inr, refl, sym, ap, subst, ◌∙◌, append_assoc, arith}
use Rattle.std.specs.Prelude.{◌||◌, ◌↔◌, ◌⊎◌}
use Rattle.std.specs.List.{IsDistinct, AllByRecursion}
use Rattle.std.proofs.lemmas.Bool.{leb-true, leb-false, le-leb, lt-leb}
use Rattle.std.proofs.lemmas.List.{append-nil, length-append}
use Rattle.system_lists.specs.declared.list.ListFault.{ListFault}
use Rattle.system_lists.specs.declared.list.ListFault.TheVariants.{Bad, Repeat, NoMemory}
use Rattle.system_lists.specs.Entries.{stands_among, placed, ◌>>=◌, listed, IsMadeOf, IsWrong, IsFirstFault}

module _ {A : Type 0} (same : A → A → Bool) where
  pub goes_on : (front now : List A) (entry : Option A) (rest : List (Option A)) (x : A) (total : Result (List A) ListFault) → placed same front entry ≡ Ok x → now ≡ front ++ x ∷ []
      → listed same front (entry ∷ rest) ≡ total → listed same now rest ≡ total
  unfolding listed
  goes_on front now entry rest x total found grown so_far =
      let one : listed same front (entry ∷ rest) ≡ listed same (front ++ x ∷ []) rest = rw found refl in
      ap (λ (l : List A). listed same l rest) grown ∙ sym one ∙ so_far

  pub ends : (front : List A) (entry : Option A) (rest : List (Option A)) (fault : ListFault) (total : Result (List A) ListFault) → placed same front entry ≡ Err fault → listed same front (entry ∷ rest) ≡ total → Err fault ≡ total
  unfolding listed
  ends front entry rest fault total found so_far =
      let one : listed same front (entry ∷ rest) ≡ Err fault = rw found refl in
      sym one ∙ so_far

  pub is_done : (front : List A) (total : Result (List A) ListFault) → listed same front [] ≡ total → Ok front ≡ total
  unfolding listed
  is_done front total so_far = so_far

  full : (front : List A) (entry : Option A) → 4096 ≤ length front → placed same front entry ≡ Err (Bad (length front + 1))
  full front None le = refl
  full front (Some x) le = rw (le-leb 4096 (length front) le) refl

  pub too_many : (front : List A) (entry : Option A) (rest : List (Option A)) (total : Result (List A) ListFault) → length front ≡ 4096 → listed same front (entry ∷ rest) ≡ total → Err (Bad 4097) ≡ total
  too_many front entry rest total len so_far =
      let more : length front + 1 ≡ 4097 = omega arith in
      ap (λ (n : ℕ). let r : Result (List A) ListFault = Err (Bad n) in r) (sym more) ∙ ends front entry rest (Bad (length front + 1)) total (full front entry (omega arith)) so_far

  pub repeats : (front : List A) (x : A) → length front < 4096 → stands_among same x front ≡ true → placed same front (Some x) ≡ Err (Repeat (length front + 1))
  repeats front x below among =
      let off : leb 4096 (length front) ≡ false = lt-leb 4096 (length front) below in
      rw (off, among) refl

  pub has_place : (front : List A) (x : A) → length front < 4096 → stands_among same x front ≡ false → placed same front (Some x) ≡ Ok x
  has_place front x below fresh =
      let off : leb 4096 (length front) ≡ false = lt-leb 4096 (length front) below in
      rw (off, fresh) refl

  -- ---- distinct items

  all_snoc : (x item : A) (front : List A) → AllByRecursion (λ y. same x y ≡ false) front → same x item ≡ false → AllByRecursion (λ y. same x y ≡ false) (front ++ item ∷ [])
  all_snoc x item [] each one = (one, tt)
  all_snoc x item (y ∷ front) each one = (each.0, all_snoc x item front each.1 one)

  apart : (a b : Bool) → (a || b) ≡ false → (a ≡ false) × (b ≡ false)
  apart true b e = absurd cc
  apart false b e = (refl, e)

  pub distinct_snoc : (front : List A) (item : A) → IsDistinct same front → stands_among same item front ≡ false → IsDistinct same (front ++ item ∷ [])
  unfolding IsDistinct
  distinct_snoc [] item distinct fresh = (tt, tt)
  distinct_snoc (x ∷ front) item distinct fresh =
      let both = apart (same x item) (stands_among same item front) fresh in
      (all_snoc x item front distinct.0 both.0, distinct_snoc front item distinct.1 both.1)

  one_apart : (x item : A) (front rest : List A) → AllByRecursion (λ y. same x y ≡ false) (front ++ item ∷ rest) → same x item ≡ false
  one_apart x item [] rest each = each.0
  one_apart x item (y ∷ front) rest each = one_apart x item front rest each.1

  pub is_fresh : (front : List A) (item : A) (rest : List A) → IsDistinct same (front ++ item ∷ rest) → stands_among same item front ≡ false
  unfolding IsDistinct
  is_fresh [] item rest distinct = refl
  is_fresh (x ∷ front) item rest distinct =
      let here : same x item ≡ false = one_apart x item front rest distinct.0 in
      rw here (is_fresh front item rest distinct.1)

-- ---- what was listed

pub record Listed {A : Type 0} (same : A → A → Bool) (front : List A) (read : List (Option A)) (list : List A) : Type 0 where
  pub rest : List A
  pub whole : list ≡ front ++ rest
  pub entries : read ≡ map (λ x. Some x) rest
  pub few : length list ≤ 4096
  pub distinct : IsDistinct same list

record Fits {A : Type 0} (same : A → A → Bool) (front : List A) (entry : Option A) (item : A) : Type 0 where
  is : entry ≡ Some item
  few : length front < 4096
  fresh : stands_among same item front ≡ false

-- the entries up to the one with the fault
record Refused {A : Type 0} (same : A → A → Bool) (front : List A) (read : List (Option A)) (fault : ListFault) : Type 0 where
  all : List A
  more : List A
  entry : Option A
  rest : List (Option A)
  joined : all ≡ front ++ more
  whole : read ≡ map (λ x. Some x) more ++ entry ∷ rest
  few : length all ≤ 4096
  distinct : IsDistinct same all
  wrong : IsWrong same all entry fault

bound : {A B : Type 0} (r : Result A ListFault) (f : A → Result B ListFault) (y : B) → (r >>= f) ≡ Ok y → (x : A) × (r ≡ Ok x) × (f x ≡ Ok y)
bound (Ok x) f y e = (x, refl, e)
bound (Err fault) f y e = absurd cc

-- what a step that leads to a fault was
abbrev Stopped : {A B : Type 0} → Result A ListFault → (A → Result B ListFault) → ListFault → Type 0
Stopped {A} r f fault = (r ≡ Err fault) ⊎ ((x : A) × (r ≡ Ok x) × (f x ≡ Err fault))

stopped : {A B : Type 0} (r : Result A ListFault) (f : A → Result B ListFault) (fault : ListFault) → (r >>= f) ≡ Err fault → Stopped r f fault
stopped (Ok x) f fault e = inr (x, refl, e)
stopped (Err other) f fault e =
    let is : other ≡ fault = cc in
    inl (ap (λ (g : ListFault). Err g) is)

module _ {A : Type 0} (same : A → A → Bool) where
  choose : (front : List A) (found item : A) (many among : Bool) → leb 4096 (length front) ≡ many → stands_among same found front ≡ among
      → cond many (Err (Bad (length front + 1))) (cond among (Err (Repeat (length front + 1))) (Ok found)) ≡ Ok item → Fits same front (Some found) item
  choose front found item true among m a e = absurd cc
  choose front found item false true m a e = absurd cc
  choose front found item false false m a e =
      let is : found ≡ item = cc in
      let below : length front < 4096 = leb-false 4096 (length front) m in
      subst (Fits same front (Some found)) is (record { is = refl; few = below; fresh = a })

  fits : (front : List A) (entry : Option A) (item : A) → placed same front entry ≡ Ok item → Fits same front entry item
  fits front None item e = absurd cc
  fits front (Some found) item e = choose front found item (leb 4096 (length front)) (stands_among same found front) refl refl e

  refuse : (front : List A) (found : A) (fault : ListFault) (many among : Bool) → leb 4096 (length front) ≡ many → stands_among same found front ≡ among → length front ≤ 4096
      → cond many (Err (Bad (length front + 1))) (cond among (Err (Repeat (length front + 1))) (Ok found)) ≡ Err fault → IsWrong same front (Some found) fault
  refuse front found fault true among m a few e =
      let is : Bad (length front + 1) ≡ fault = cc in
      let low : 4096 ≤ length front = leb-true 4096 (length front) m in
      subst (IsWrong same front (Some found)) is (refl, inr (omega arith))
  refuse front found fault false true m a few e =
      let is : Repeat (length front + 1) ≡ fault = cc in
      let below : length front < 4096 = leb-false 4096 (length front) m in
      subst (IsWrong same front (Some found)) is (refl, below, found, refl, a)
  refuse front found fault false false m a few e = absurd cc

  is_wrong : (front : List A) (entry : Option A) (fault : ListFault) → length front ≤ 4096 → placed same front entry ≡ Err fault → IsWrong same front entry fault
  is_wrong front None fault few e =
      let is : Bad (length front + 1) ≡ fault = cc in
      subst (IsWrong same front None) is (refl, inl refl)
  is_wrong front (Some found) fault few e = refuse front found fault (leb 4096 (length front)) (stands_among same found front) refl refl few e

  pub is_listed : (front : List A) (entries : List (Option A)) (list : List A) → length front ≤ 4096 → IsDistinct same front → listed same front entries ≡ Ok list → Listed same front entries list
  unfolding listed
  is_listed front [] list few distinct e =
      let is : front ≡ list = cc in
      subst (Listed same front []) is (record { rest = []; whole = sym (append-nil front); entries = refl; few = few; distinct = distinct })
  is_listed front (entry ∷ entries) list few distinct e =
      let one = bound (placed same front entry) (λ x. listed same (front ++ x ∷ []) entries) list e in
      let fit = fits front entry one.0 one.1 in
      let below = fit.few in
      let more : length (front ++ one.0 ∷ []) ≤ 4096 = omega (arith, length-append front (one.0 ∷ [])) in
      let others = is_listed (front ++ one.0 ∷ []) entries list more (distinct_snoc same front one.0 distinct fit.fresh) one.2 in
      record {
        rest = one.0 ∷ others.rest;
        whole = others.whole ∙ append_assoc front (one.0 ∷ []) others.rest;
        entries = ap (λ (o : Option A). o ∷ entries) fit.is ∙ ap (λ (es : List (Option A)). Some one.0 ∷ es) others.entries;
        few = others.few;
        distinct = others.distinct;
      }

  is_refused : (front : List A) (entries : List (Option A)) (fault : ListFault) → length front ≤ 4096 → IsDistinct same front → listed same front entries ≡ Err fault → Refused same front entries fault
  unfolding listed
  is_refused front [] fault few distinct e = absurd cc
  is_refused front (entry ∷ entries) fault few distinct e =
      elim (stopped (placed same front entry) (λ x. listed same (front ++ x ∷ []) entries) fault e) [
        | inl here ↦ record {
          all = front;
          more = [];
          entry = entry;
          rest = entries;
          joined = sym (append-nil front);
          whole = refl;
          few = few;
          distinct = distinct;
          wrong = is_wrong front entry fault few here;
        }
        | inr later ↦
            let fit = fits front entry later.0 later.1 in
            let below = fit.few in
            let longer : length (front ++ later.0 ∷ []) ≤ 4096 = omega (arith, length-append front (later.0 ∷ [])) in
            let others = is_refused (front ++ later.0 ∷ []) entries fault longer (distinct_snoc same front later.0 distinct fit.fresh) later.2 in
            record {
              all = others.all;
              more = later.0 ∷ others.more;
              entry = others.entry;
              rest = others.rest;
              joined = others.joined ∙ append_assoc front (later.0 ∷ []) others.more;
              whole = ap (λ (o : Option A). o ∷ entries) fit.is ∙ ap (λ (es : List (Option A)). Some later.0 ∷ es) others.whole;
              few = others.few;
              distinct = others.distinct;
              wrong = others.wrong;
            }
      ]

  -- items that are distinct and few are listed, and the entries behind them are judged behind them
  skips : (front more : List A) (tail : List (Option A)) → length (front ++ more) ≤ 4096 → IsDistinct same (front ++ more) → listed same front (map (λ x. Some x) more ++ tail) ≡ listed same (front ++ more) tail
  unfolding listed
  skips front [] tail few distinct = ap (λ (l : List A). listed same l tail) (sym (append-nil front))
  skips front (x ∷ more) tail few distinct =
      let below : length front < 4096 = omega (arith, length-append front (x ∷ more)) in
      let off : leb 4096 (length front) ≡ false = lt-leb 4096 (length front) below in
      let joined : (front ++ x ∷ []) ++ more ≡ front ++ x ∷ more = append_assoc front (x ∷ []) more in
      let others : listed same (front ++ x ∷ []) (map (λ x. Some x) more ++ tail) ≡ listed same ((front ++ x ∷ []) ++ more) tail =
      skips (front ++ x ∷ []) more tail (subst (λ (l : List A). length l ≤ 4096) (sym joined) few) (subst (IsDistinct same) (sym joined) distinct) in
      rw (off, is_fresh same front x more distinct) (others ∙ ap (λ (l : List A). listed same l tail) joined)

  done : (list : List A) → listed same list [] ≡ Ok list
  unfolding listed
  done list = refl

  stops : (front : List A) (entry : Option A) (rest : List (Option A)) (fault : ListFault) → placed same front entry ≡ Err fault → listed same front (entry ∷ rest) ≡ Err fault
  unfolding listed
  stops front entry rest fault e = rw e refl

  is_placed : (front : List A) (entry : Option A) (fault : ListFault) → IsWrong same front entry fault → placed same front entry ≡ Err fault
  is_placed front entry (Bad n) (is, inl none) = rw (none, is) refl
  is_placed front None (Bad n) (is, inr many) = rw is refl
  is_placed front (Some x) (Bad n) (is, inr many) =
      let low : 4096 ≤ length front = omega arith in
      rw (le-leb 4096 (length front) low, is) refl
  is_placed front entry (Repeat n) (is, below, x, said, among) = rw (said, is) (repeats same front x below among)
  is_placed front entry NoMemory wrong = absurd wrong

  -- ---- the laws

  nothing_repeats : IsDistinct same []
  unfolding IsDistinct
  nothing_repeats = tt

  is_made : (entries : List (Option A)) (list : List A) → listed same [] entries ≡ Ok list → IsMadeOf same entries list
  is_made entries list e =
      let is = is_listed [] entries list (omega arith) nothing_repeats e in
      record { said = is.entries ∙ ap (map (λ x. Some x)) (sym is.whole); few = is.few; distinct = is.distinct }

  makes : (entries : List (Option A)) (list : List A) → IsMadeOf same entries list → listed same [] entries ≡ Ok list
  makes entries list is = ap (listed same []) (is.said ∙ sym (append-nil (map (λ x. Some x) list))) ∙ skips [] list [] is.few is.distinct ∙ done list

  has_first_fault : (entries : List (Option A)) (fault : ListFault) → listed same [] entries ≡ Err fault → IsFirstFault same entries fault
  has_first_fault entries fault e =
      let is = is_refused [] entries fault (omega arith) nothing_repeats e in
      record {
        front = is.all;
        entry = is.entry;
        rest = is.rest;
        whole = is.whole ∙ ap (λ (l : List A). map (λ x. Some x) l ++ is.entry ∷ is.rest) (sym is.joined);
        few = is.few;
        distinct = is.distinct;
        wrong = is.wrong;
      }

  refuses : (entries : List (Option A)) (fault : ListFault) → IsFirstFault same entries fault → listed same [] entries ≡ Err fault
  refuses entries fault is =
      ap (listed same []) is.whole ∙ skips [] is.front (is.entry ∷ is.rest) is.few is.distinct ∙ stops is.front is.entry is.rest fault (is_placed is.front is.entry fault is.wrong)

  pub made : (entries : List (Option A)) (list : List A) → (listed same [] entries ≡ Ok list) ↔ IsMadeOf same entries list
  made entries list = (is_made entries list, makes entries list)

  pub refused : (entries : List (Option A)) (fault : ListFault) → (listed same [] entries ≡ Err fault) ↔ IsFirstFault same entries fault
  refused entries fault = (has_first_fault entries fault, refuses entries fault)
