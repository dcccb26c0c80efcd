-- Pages that are taken and given back, one after another.
use Rattle.std.proofs.Common.{◌≡◌, ◌≢◌, ◌⊎◌, ◌↔◌, ℕ, zero, suc, ◌+◌, ◌-◌, ◌<◌, Bool, true, false, not, cond, List, [], ◌∷◌, ◌++◌, length, get_or, set, take, replicate, sym, refl, ◌∙◌, ap, subst, inl, inr, arith, All, Contains, length-set, length-take-le, get_or-take, get_or-set_same, get_or-set_other}
use Rattle.std.proofs.lemmas.Bool.{cases_eq, cases_lt, cases_Bool, true≢false}
use Rattle.std.proofs.lemmas.List.{get_or_append_left, get_or_push, length_push, get_or_past, get_or_default}
use Rattle.std.proofs.lemmas.List.Elements.{All-push, All-nil}
use Rattle.std.proofs.lemmas.List.Quantifiers.{all_pairs_push}
use Rattle.std.proofs.lemmas.List.Sums.{sum_by-set, sum_by-cons, count_by-le-length}
use Rattle.std.proofs.lemmas.List.Folds.{sum_by-replicate}
use Rattle.std.proofs.Math.Nat.{mul-one}
use Rattle.page_pool.specs.Flags.{IsTaken, IsFree, free_count, taken_count, with_flags, AreDistinct}
use Rattle.page_pool.specs.FreeList.{IsFreeList}

-- the pool has a page that is free, and one that is taken
pub inside_free : (flags : List Bool) (page : ℕ) → IsFree flags page → page < length flags
inside_free flags page is =
    elim (cases_lt page (length flags)) [ inl lt ↦ lt | inr past ↦ absurd (true≢false (sym (get_or_past flags page true past) ∙ is)) ]

pub inside_taken : (flags : List Bool) (page : ℕ) → IsTaken flags page → page < length flags
inside_taken flags page is =
    elim (cases_lt page (length flags)) [ inl lt ↦ lt | inr past ↦ absurd (true≢false (sym (sym (get_or_past flags page false past) ∙ is))) ]

pub set_free_count : (flags : List Bool) (page : ℕ) → IsFree flags page → free_count (set flags page true) + 1 ≡ free_count flags
set_free_count flags page is =
    let lt = inside_free flags page is in
    let counted = sum_by-set (λ (b : Bool). cond (not b) 1 0) flags page true true lt in
    let one : cond {A = ℕ} (not (get_or flags page true)) 1 0 ≡ 1 = ap (λ (b : Bool). cond {A = ℕ} (not b) 1 0) is in
    omega (arith, counted, one)

pub set_taken_count : (flags : List Bool) (page : ℕ) → IsTaken flags page → free_count (set flags page false) ≡ free_count flags + 1
set_taken_count flags page is =
    let lt = inside_taken flags page is in
    let counted = sum_by-set (λ (b : Bool). cond (not b) 1 0) flags page false false lt in
    let none : cond {A = ℕ} (not (get_or flags page false)) 1 0 ≡ 0 = ap (λ (b : Bool). cond {A = ℕ} (not b) 1 0) is in
    omega (arith, counted, none)

-- the last of the list is taken
pub list_take : (free : List ℕ) (page : ℕ) (flags : List Bool) → IsFreeList (free ++ page ∷ []) flags → IsFree flags page × IsFreeList free (set flags page true)
list_take free page flags list =
    let last : IsFree flags page = subst (IsFree flags) (get_or_push free page page (length free) refl) (list.each (length free) page (omega (arith, length_push free page))) in
    let same : (k : ℕ) (d : ℕ) → k < length free → get_or (free ++ page ∷ []) k d ≡ get_or free k d = λ k d lt. get_or_append_left free (page ∷ []) d k lt in (
      last,
      record {
        each = λ k d lt.
            let ne : get_or free k d ≢ page = λ e. list.apart k (length free) d lt (omega (arith, length_push free page)) (same k d lt ∙ e ∙ sym (get_or_push free page d (length free) refl)) in
            get_or-set_other flags page (get_or free k d) true true ne ∙ subst (IsFree flags) (same k d lt) (list.each k d (omega (arith, lt, length_push free page)));
        apart = λ i j d lt le. subst (λ (a : ℕ). a ≢ get_or free j d) (same i d (omega (arith, lt, le))) (subst (λ (b : ℕ). get_or (free ++ page ∷ []) i d ≢ b) (same j d le) (list.apart i j d lt (omega (arith, le, length_push free page))));
        count = omega (arith, list.count, length_push free page, set_free_count flags page last);
      },
    )

-- a page that was taken is put behind the others
pub list_give : (free : List ℕ) (page : ℕ) (flags : List Bool) → IsFreeList free flags → IsTaken flags page → IsFreeList (free ++ page ∷ []) (set flags page false)
list_give free page flags list is =
    let lt = inside_taken flags page is in
    let ne : (k : ℕ) (d : ℕ) → k < length free → get_or free k d ≢ page =
    λ k d below e. true≢false (sym is ∙ get_or_default flags page false true lt ∙ ap (λ (p : ℕ). get_or flags p true) (sym e) ∙ list.each k d below) in
    record {
      each = All-push (IsFree (set flags page false)) free page
          (λ k d below. get_or-set_other flags page (get_or free k d) false true (ne k d below) ∙ list.each k d below)
          (get_or-set_same flags page false true lt);
      apart = all_pairs_push (λ a b. a ≢ b) free page list.apart ne;
      count = omega (arith, list.count, length_push free page, set_taken_count flags page is);
    }

-- one page more at the end
pub with_flags-push : (flag : Bool) (pages : List ℕ) (page : ℕ) (flags : List Bool) → with_flags flag (pages ++ page ∷ []) flags ≡ set (with_flags flag pages flags) page flag
with_flags-push flag [] page flags = refl
with_flags-push flag (p ∷ pages) page flags = with_flags-push flag pages page (set flags p flag)

pub length-with_flags : (flag : Bool) (pages : List ℕ) (flags : List Bool) → length (with_flags flag pages flags) ≡ length flags
length-with_flags flag [] flags = refl
length-with_flags flag (p ∷ pages) flags = length-with_flags flag pages (set flags p flag) ∙ length-set flags p flag

cases_cons : (p : ℕ) (pages : List ℕ) (page : ℕ) → p ≢ page → All (λ q. q ≢ page) pages → All (λ q. q ≢ page) (p ∷ pages)
cases_cons p pages page ne all zero d lt = ne
cases_cons p pages page ne all (suc k) d lt = all k d (omega (arith, lt))

pub none_at : (count n : ℕ) → n < count → get_or (replicate count false) n true ≡ false
none_at zero n lt = absurd (omega (arith, lt))
none_at (suc count) zero lt = refl
none_at (suc count) (suc n) lt = none_at count n (omega (arith, lt))

pub all_free : (count : ℕ) → free_count (replicate count false) ≡ count
all_free count = sum_by-replicate (λ (b : Bool). cond (not b) 1 0) count false ∙ mul-one count

-- what is free after pages were taken was free before, and is none of them
pub still_free : (pages : List ℕ) (flags : List Bool) (page : ℕ) → IsFree (with_flags true pages flags) page → IsFree flags page × All (λ p. p ≢ page) pages
still_free [] flags page is = (is, All-nil (λ (p : ℕ). p ≢ page))
still_free (p ∷ pages) flags page is =
    let rest = still_free pages (set flags p true) page is in
    elim (cases_eq page p) [
      | inl e ↦ absurd (elim (cases_lt p (length flags)) [
        | inl lt ↦ true≢false (sym (get_or-set_same flags p true true lt) ∙ ap (λ (k : ℕ). get_or (set flags p true) k true) (sym e) ∙ rest.0)
        | inr past ↦ true≢false (sym (get_or_past (set flags p true) page true (omega (arith, length-set flags p true, e))) ∙ rest.0)
      ])
      | inr ne ↦ (sym (get_or-set_other flags p page true true ne) ∙ rest.0, λ k d lt. cases_cons p pages page (λ e. ne (sym e)) rest.1 k d lt)
    ]

-- a page that is none of those given stays taken
pub still_taken : (pages : List ℕ) (flags : List Bool) (page : ℕ) → All (λ p. p ≢ page) pages → IsTaken flags page → IsTaken (with_flags false pages flags) page
still_taken [] flags page none is = is
still_taken (p ∷ pages) flags page none is =
    still_taken pages (set flags p false) page (λ k d lt. none (suc k) d (omega (arith, lt)))
    (get_or-set_other flags p page false false (λ e. none 0 p (omega arith) (sym e)) ∙ is)

-- all pages, from a number down
pub list_all : (pages : List ℕ) (count : ℕ) → length pages ≡ count → ((k : ℕ) (d : ℕ) → k < count → get_or pages k d ≡ count - 1 - k) → IsFreeList pages (replicate count false)
list_all pages count size each = record {
  each = λ k d lt. ap (λ (p : ℕ). get_or (replicate count false) p true) (each k d (omega (arith, lt, size))) ∙ none_at count (count - 1 - k) (omega (arith, lt, size));
  apart = λ i j d lt le e. absurd (omega (arith, lt, le, size, sym (each i d (omega (arith, lt, le, size))) ∙ e ∙ each j d (omega (arith, le, size))));
  count = size ∙ sym (all_free count);
}

-- with a page taken, fewer are free than there are
pub free_count-lt : (flags : List Bool) (page : ℕ) → IsTaken flags page → free_count flags < length flags
free_count-lt flags page is = omega (arith, set_taken_count flags page is, count_by-le-length not (set flags page false), length-set flags page false)

-- the next page of a list is none of those before it, and stays taken while they are given back
pub next_taken : (flags : List Bool) (pages : List ℕ) (i d : ℕ) → i < length pages → All (IsTaken flags) pages → AreDistinct pages → IsTaken (with_flags false (take i pages) flags) (get_or pages i d)
next_taken flags pages i d lt taken apart =
    let short : length (take i pages) ≡ i = length-take-le i pages (omega arith) in
    still_taken (take i pages) flags (get_or pages i d)
    (λ k e below. subst (λ (p : ℕ). p ≢ get_or pages i d) (get_or_default pages k d e (omega (arith, below, short, lt)) ∙ sym (get_or-take i pages k e (omega (arith, below, short)))) (apart k i d (omega (arith, below, short)) lt))
    (taken i d lt)

pub either : (flags : List Bool) (page : ℕ) → page < length flags → IsFree flags page ⊎ IsTaken flags page
either flags page lt =
    elim (cases_Bool (get_or flags page true)) [ inl t ↦ inr (get_or_default flags page false true lt ∙ t) | inr f ↦ inl f ]

pub not_both : (flags : List Bool) (page : ℕ) → IsFree flags page → IsTaken flags page → ⊥
not_both flags page free taken = true≢false (sym taken ∙ get_or_default flags page false true (inside_taken flags page taken) ∙ free)

pub all_counted : (flags : List Bool) → free_count flags + taken_count flags ≡ length flags
all_counted [] = refl
all_counted (true ∷ flags) = omega (arith, sum_by-cons (λ (b : Bool). cond (not b) 1 0) true flags, sum_by-cons (λ (b : Bool). cond b 1 0) true flags, all_counted flags)
all_counted (false ∷ flags) = omega (arith, sum_by-cons (λ (b : Bool). cond (not b) 1 0) false flags, sum_by-cons (λ (b : Bool). cond b 1 0) false flags, all_counted flags)

get_or-set_at_same : (flags : List Bool) (p page : ℕ) → page ≡ p → page < length flags → get_or (set flags p true) page false ≡ true
get_or-set_at_same flags p page e lt = ap (λ (k : ℕ). get_or (set flags p true) k false) e ∙ get_or-set_same flags p true false (omega (arith, e, lt))

get_or-set_any : (flags : List Bool) (p : ℕ) → get_or (set flags p false) p false ≡ false
get_or-set_any flags p =
    elim (cases_lt p (length flags)) [
      | inl lt ↦ get_or-set_same flags p false false lt
      | inr past ↦ get_or_past (set flags p false) p false (omega (arith, length-set flags p false))
    ]

-- what is taken once pages were taken
set_taken : (flags : List Bool) (p page : ℕ) → IsTaken flags page → IsTaken (set flags p true) page
set_taken flags p page is =
    elim (cases_eq page p) [
      | inl e ↦ get_or-set_at_same flags p page e (inside_taken flags page is)
      | inr ne ↦ get_or-set_other flags p page true false ne ∙ is
    ]

pub taken_then : (pages : List ℕ) (flags : List Bool) (page : ℕ) → page < length flags → IsTaken flags page ⊎ Contains pages page → IsTaken (with_flags true pages flags) page
taken_then [] flags page lt (inl is) = is
taken_then [] flags page lt (inr c) = absurd (omega (arith, c.1))
taken_then (p ∷ pages) flags page lt (inl is) = taken_then pages (set flags p true) page (omega (arith, length-set flags p true)) (inl (set_taken flags p page is))
taken_then (p ∷ pages) flags page lt (inr (zero, below, at)) = taken_then pages (set flags p true) page (omega (arith, length-set flags p true)) (inl (get_or-set_at_same flags p page (sym at) lt))
taken_then (p ∷ pages) flags page lt (inr (suc k, below, at)) = taken_then pages (set flags p true) page (omega (arith, length-set flags p true)) (inr (k, omega (arith, below), at))

pub taken_before : (pages : List ℕ) (flags : List Bool) (page : ℕ) → IsTaken (with_flags true pages flags) page → IsTaken flags page ⊎ Contains pages page
taken_before [] flags page is = inl is
taken_before (p ∷ pages) flags page is =
    elim (taken_before pages (set flags p true) page is) [
      | inl t ↦ elim (cases_eq page p) [
        | inl e ↦ inr (0, omega arith, sym e)
        | inr ne ↦ inl (sym (get_or-set_other flags p page true false ne) ∙ t)
      ]
      | inr c ↦ inr (suc c.0, omega (arith, c.1), c.2)
    ]

pub given_before : (pages : List ℕ) (flags : List Bool) (page : ℕ) → IsTaken (with_flags false pages flags) page → IsTaken flags page × All (λ p. p ≢ page) pages
given_before [] flags page is = (is, All-nil (λ (p : ℕ). p ≢ page))
given_before (p ∷ pages) flags page is =
    let rest = given_before pages (set flags p false) page is in
    elim (cases_eq page p) [
      | inl e ↦ absurd (true≢false (sym rest.0 ∙ ap (λ (k : ℕ). get_or (set flags p false) k false) e ∙ get_or-set_any flags p))
      | inr ne ↦ (sym (get_or-set_other flags p page false false ne) ∙ rest.0, cases_cons p pages page (λ e. ne (sym e)) rest.1)
    ]

-- how many are free then
pub take_counted : (pages : List ℕ) (flags : List Bool) → All (IsFree flags) pages → AreDistinct pages → free_count (with_flags true pages flags) + length pages ≡ free_count flags
take_counted [] flags free apart = omega arith
take_counted (p ∷ pages) flags free apart =
    let ne : (k d : ℕ) → k < length pages → get_or pages k d ≢ p = λ k d lt e. apart 0 (suc k) d (omega arith) (omega (arith, lt)) (sym e) in
    let rest = take_counted pages (set flags p true)
    (λ k d lt. get_or-set_other flags p (get_or pages k d) true true (ne k d lt) ∙ free (suc k) d (omega (arith, lt)))
    (λ i j d lt le. apart (suc i) (suc j) d (omega (arith, lt)) (omega (arith, le))) in
    omega (arith, rest, set_free_count flags p (free 0 p (omega arith)))

pub give_counted : (pages : List ℕ) (flags : List Bool) → All (IsTaken flags) pages → AreDistinct pages → free_count (with_flags false pages flags) ≡ free_count flags + length pages
give_counted [] flags taken apart = omega arith
give_counted (p ∷ pages) flags taken apart =
    let ne : (k d : ℕ) → k < length pages → get_or pages k d ≢ p = λ k d lt e. apart 0 (suc k) d (omega arith) (omega (arith, lt)) (sym e) in
    let rest = give_counted pages (set flags p false)
    (λ k d lt. get_or-set_other flags p (get_or pages k d) false false (ne k d lt) ∙ taken (suc k) d (omega (arith, lt)))
    (λ i j d lt le. apart (suc i) (suc j) d (omega (arith, lt)) (omega (arith, le))) in
    omega (arith, rest, set_taken_count flags p (taken 0 p (omega arith)))

-- pages that were free are taken once they were taken
pub are_taken : (pages : List ℕ) (flags : List Bool) → All (IsFree flags) pages → All (IsTaken (with_flags true pages flags)) pages
are_taken pages flags free = λ k d lt.
    taken_then pages flags (get_or pages k d) (inside_free flags (get_or pages k d) (free k d lt)) (inr (k, lt, get_or_default pages k (get_or pages k d) d lt))

-- pages that were taken are free once they were given back
pub are_free : (pages : List ℕ) (flags : List Bool) → All (IsTaken flags) pages → All (IsFree (with_flags false pages flags)) pages
are_free pages flags taken = λ k d lt.
    let page = get_or pages k d in
    elim (either (with_flags false pages flags) page (omega (arith, length-with_flags false pages flags, inside_taken flags page (taken k d lt)))) [
      | inl free ↦ free
      | inr is ↦ absurd ((given_before pages flags page is).1 k d lt refl)
    ]

-- where none is counted, no page is free
pub none_free : (flags : List Bool) → free_count flags ≡ 0 → (page : ℕ) → IsFree flags page → ⊥
none_free flags none page is = absurd (omega (arith, set_free_count flags page is, none))

pub none_counted : (flags : List Bool) → ((page : ℕ) → IsFree flags page → ⊥) → free_count flags ≡ 0
none_counted [] none = refl
none_counted (true ∷ flags) none = omega (arith, sum_by-cons (λ (b : Bool). cond (not b) 1 0) true flags, none_counted flags (λ page. none (suc page)))
none_counted (false ∷ flags) none = absurd (none 0 refl)

-- as many flags, with the same pages taken, are the same flags
pub same_flags : (a b : List Bool) → length a ≡ length b → ((page : ℕ) → IsTaken a page ↔ IsTaken b page) → a ≡ b
same_flags [] [] size is = refl
same_flags [] (y ∷ b) size is = absurd (omega (arith, size))
same_flags (x ∷ a) [] size is = absurd (omega (arith, size))
same_flags (true ∷ a) (true ∷ b) size is = ap (λ (l : List Bool). true ∷ l) (same_flags a b (omega (arith, size)) (λ page. is (suc page)))
same_flags (false ∷ a) (false ∷ b) size is = ap (λ (l : List Bool). false ∷ l) (same_flags a b (omega (arith, size)) (λ page. is (suc page)))
same_flags (true ∷ a) (false ∷ b) size is = absurd (true≢false (sym ((is 0).0 refl)))
same_flags (false ∷ a) (true ∷ b) size is = absurd (true≢false (sym ((is 0).1 refl)))
