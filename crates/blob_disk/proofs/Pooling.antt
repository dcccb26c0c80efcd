-- Which pages are taken: those of the chains of the entries, and no others.
use Rattle.std.proofs.Common.{inl, inr, ◌≡◌, ◌≢◌, ◌⊎◌, ◌↔◌, ℕ, ◌+◌, ◌-◌, ◌<◌, Bool, true, false, List, [], ◌∷◌, ◌++◌, length, get_or, Any, All, Contains, refl, sym, subst, ◌∙◌, arith, length-append}
use Rattle.std.proofs.lemmas.Bool.{cases_lt}
use Rattle.std.proofs.lemmas.List.{get_or_append_left, get_or-append-add, get_or-append_right, get_or_default, get_or_past}
use Rattle.std.proofs.lemmas.List.Sums.{sum_by-append, sum_by-cons, sum_by_push}
use Rattle.node_table.specs.declared.entry.Entry.{Entry}
use Rattle.node_table.specs.Entries.{IsChained}
use Rattle.page_pool.specs.Flags.{IsTaken, free_count, with_flags}
use Rattle.blob_disk.specs.Pooled.{IsPooled}

pub any_left : {X : Type 0} (P : X → Type 0) (xs ys : List X) → Any P xs → Any P (xs ++ ys)
any_left P xs ys (k, x, below, is, p) = (k, x, omega (arith, below, length-append xs ys), get_or_append_left xs ys x k below ∙ is, p)

pub any_right : {X : Type 0} (P : X → Type 0) (xs ys : List X) → Any P ys → Any P (xs ++ ys)
any_right P xs ys (k, x, below, is, p) = (length xs + k, x, omega (arith, below, length-append xs ys), get_or-append-add xs ys k x ∙ is, p)

pub any_split : {X : Type 0} (P : X → Type 0) (xs ys : List X) → Any P (xs ++ ys) → Any P xs ⊎ Any P ys
any_split P xs ys (k, x, below, is, p) =
    elim (cases_lt k (length xs)) [
      | inl lt ↦ inl (k, x, lt, sym (get_or_append_left xs ys x k lt) ∙ is, p)
      | inr ge ↦ inr (k - length xs, x, omega (arith, below, ge, length-append xs ys), sym (get_or-append_right xs ys (length xs) k x refl ge) ∙ is, p)
    ]

pub any_one : {X : Type 0} (P : X → Type 0) (x : X) → P x → Any P (x ∷ [])
any_one P x p = (0, x, omega arith, refl, p)

any_of_one : {X : Type 0} (P : X → Type 0) (x : X) → Any P (x ∷ []) → P x
any_of_one P x (k, y, below, is, p) =
    let first : k ≡ 0 = omega (arith, below) in
    let same : x ≡ y = subst (λ (n : ℕ). get_or (x ∷ []) n y ≡ y) first is in
    subst P (sym same) p

-- the pages of an entry are given back
pub pooled_give : (xs ys : List Entry) (entry : Entry) (flags : List Bool) (count : ℕ) →
    ((page : ℕ) → IsTaken (with_flags false entry.pages flags) page ↔ (IsTaken flags page × All (λ p. p ≢ page) entry.pages)) →
    length (with_flags false entry.pages flags) ≡ length flags → free_count (with_flags false entry.pages flags) ≡ free_count flags + length entry.pages →
    ((page : ℕ) → IsChained (xs ++ ys) page → Contains entry.pages page → ⊥) →
    IsPooled (xs ++ entry ∷ ys) flags count → IsPooled (xs ++ ys) (with_flags false entry.pages flags) count
pooled_give xs ys entry flags count given long counted apart pooled =
    let now : List Bool = with_flags false entry.pages flags in
    record {
      size = long ∙ pooled.size;
      taken = λ page. (
        (λ is.
            let Has : Entry → Type 0 = λ e. Contains e.pages page in
            let was = (given page).0 is in
            elim (any_split Has xs (entry ∷ ys) ((pooled.taken page).0 was.0)) [
              | inl left ↦ any_left Has xs ys left
              | inr right ↦ elim (any_split Has (entry ∷ []) ys right) [
                | inl here ↦
                    let at = any_of_one Has entry here in
                    absurd (was.1 at.0 page at.1 at.2)
                | inr back ↦ any_right Has xs ys back
              ]
            ]),
        (λ chained.
            let Has : Entry → Type 0 = λ e. Contains e.pages page in
            let all : IsChained (xs ++ entry ∷ ys) page = elim (any_split Has xs ys chained) [
              | inl left ↦ any_left Has xs (entry ∷ ys) left
              | inr right ↦ any_right Has xs (entry ∷ ys) (any_right Has (entry ∷ []) ys right)
            ] in
            (given page).1 ((pooled.taken page).1 all, λ k d below e. apart page chained (k, below, get_or_default entry.pages k page d below ∙ e))),
      );
      free = omega (arith, counted, pooled.free, sum_by-append (λ (e : Entry). length e.pages) xs (entry ∷ ys), sum_by-cons (λ (e : Entry). length e.pages) entry ys, sum_by-append (λ (e : Entry). length e.pages) xs ys);
    }

-- a page that is taken is one of the pool's
taken_below : (flags : List Bool) (page : ℕ) → IsTaken flags page → page < length flags
taken_below flags page is =
    elim (cases_lt page (length flags)) [
      | inl lt ↦ lt
      | inr ge ↦
          let past : false ≡ true = sym (get_or_past flags page false ge) ∙ is in
          absurd (cc past)
    ]

-- the pages of one entry more are taken
pub pooled_take : (entries : List Entry) (entry : Entry) (flags : List Bool) (count : ℕ) →
    ((page : ℕ) → page < length flags → IsTaken (with_flags true entry.pages flags) page ↔ (IsTaken flags page ⊎ Contains entry.pages page)) →
    length (with_flags true entry.pages flags) ≡ length flags → free_count (with_flags true entry.pages flags) + length entry.pages ≡ free_count flags →
    All (λ page. page < count) entry.pages →
    IsPooled entries flags count → IsPooled (entries ++ entry ∷ []) (with_flags true entry.pages flags) count
pooled_take entries entry flags count took long counted within pooled =
    let now : List Bool = with_flags true entry.pages flags in
    record {
      size = long ∙ pooled.size;
      taken = λ page. (
        (λ is.
            let Has : Entry → Type 0 = λ e. Contains e.pages page in
            elim ((took page (omega (arith, taken_below now page is, long))).0 is) [
              | inl before ↦ any_left Has entries (entry ∷ []) ((pooled.taken page).0 before)
              | inr mine ↦ any_right Has entries (entry ∷ []) (any_one Has entry mine)
            ]),
        (λ chained.
            let Has : Entry → Type 0 = λ e. Contains e.pages page in
            elim (any_split Has entries (entry ∷ []) chained) [
              | inl before ↦
                  let was = (pooled.taken page).1 before in
                  (took page (taken_below flags page was)).1 (inl was)
              | inr last ↦
                  let at = any_of_one Has entry last in
                  let below : page < count = subst (λ (n : ℕ). n < count) at.2 (within at.0 page at.1) in
                  (took page (omega (arith, below, pooled.size))).1 (inr at)
            ]),
      );
      free = omega (arith, counted, pooled.free, sum_by_push (λ (e : Entry). length e.pages) entries entry);
    }
