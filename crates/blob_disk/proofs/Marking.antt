-- The pages of chains are marked.
use Rattle.std.proofs.Common.{inl, inr, ◌≡◌, ◌⊎◌, ◌↔◌, ℕ, zero, suc, ◌+◌, ◌<◌, Bool, true, false, List, [], ◌∷◌, ◌++◌, length, get_or, set, take, replicate, cond, not, All, Contains, refl, sym, ap, subst, ◌∙◌, arith, length-set}
use Rattle.std.proofs.lemmas.Bool.{cases_Bool}
use Rattle.std.proofs.lemmas.List.{get_or-take, get_or_default, length-take, take_more}
use Rattle.std.proofs.lemmas.List.Folds.{sum_by-replicate}
use Rattle.std.proofs.Math.Nat.{mul-one}
use Rattle.image_layout.specs.declared.geometry.Geometry.{Geometry}
use Rattle.node_table.specs.declared.entry.Entry.{Entry}
use Rattle.node_table.specs.Entries.{AreSound}
use Rattle.page_pool.specs.Flags.{IsTaken, IsFree, free_count, with_flags, AreDistinct}
use Rattle.blob_disk.specs.Pooled.{IsPooled}
use Rattle.blob_disk.proofs.Pooling.{pooled_take}

-- one page more at the end
pub marks_push : (flag : Bool) (pages : List ℕ) (page : ℕ) (flags : List Bool) → with_flags flag (pages ++ page ∷ []) flags ≡ set (with_flags flag pages flags) page flag
marks_push flag [] page flags = refl
marks_push flag (p ∷ pages) page flags = marks_push flag pages page (set flags p flag)

pub length-marks : (flag : Bool) (pages : List ℕ) (flags : List Bool) → length (with_flags flag pages flags) ≡ length flags
length-marks flag [] flags = refl
length-marks flag (p ∷ pages) flags = length-marks flag pages (set flags p flag) ∙ length-set flags p flag

never_taken : (count page : ℕ) → get_or (replicate count false) page false ≡ false
never_taken zero page = refl
never_taken (suc count) zero = refl
never_taken (suc count) (suc page) = never_taken count page

-- at first no page is marked
pub pooled_none : (flags : List Bool) (count : ℕ) → flags ≡ replicate count false → length flags ≡ count → IsPooled [] flags count
pooled_none flags count are size =
    let free : free_count (replicate count false) ≡ count = sum_by-replicate (λ (b : Bool). cond (not b) 1 0) count false ∙ mul-one count in
    record {
      size = size;
      taken = λ page. (
        (λ is.
            let wrong : false ≡ true = sym (never_taken count page) ∙ ap (λ (f : List Bool). get_or f page false) (sym are) ∙ is in
            absurd (cc wrong)),
        (λ chained. absurd (omega (arith, chained.2))),
      );
      free = omega (arith, free, ap free_count are);
    }

module _ (g : Geometry) (entries : List Entry) (i : ℕ) (entry : Entry) (flags : List Bool)
    (sound : AreSound g entries) (below : i < length entries) (here : (d : Entry) → get_or entries i d ≡ entry) (pooled : IsPooled (take i entries) flags g.data_pages) where
  pub next_below : All (λ page. page < length flags) entry.pages
  next_below = λ k d inside.
      let is = subst (λ (e : Entry). All (λ page. page < g.data_pages) e.pages) (here entry) (sound.each i entry below).below in
      omega (arith, is k d inside, pooled.size)

  -- its pages lie in no chain before it
  next_free : All (IsFree flags) entry.pages
  next_free = λ k d inside.
      let page : ℕ = get_or entry.pages k d in
      elim (cases_Bool (get_or flags page true)) [
        | inr free ↦ free
        | inl is ↦
            let was = (pooled.taken page).0 (get_or_default flags page false true (next_below k d inside) ∙ is) in
            let lt : was.0 < i = omega (arith, was.2, length-take i entries) in
            let there : get_or entries was.0 was.1 ≡ was.1 = sym (get_or-take i entries was.0 was.1 lt) ∙ was.3 in
            let together = sound.together was.0 i was.1 lt below in
            let first = subst (λ (e : Entry). Contains e.pages page) (sym there) was.4 in
            let second = subst (λ (e : Entry). Contains e.pages page) (sym (here was.1)) (k, inside, get_or_default entry.pages k page d inside) in
            absurd (together.chains page first second)
      ]

  pub pooled_next : ((flags : List Bool) (pages : List ℕ) (page : ℕ) → page < length flags → IsTaken (with_flags true pages flags) page ↔ (IsTaken flags page ⊎ Contains pages page)) →
      ((flags : List Bool) (pages : List ℕ) → All (IsFree flags) pages → AreDistinct pages → free_count (with_flags true pages flags) + length pages ≡ free_count flags) →
      IsPooled (take (i + 1) entries) (with_flags true entry.pages flags) g.data_pages
  pooled_next took counted =
      let is = subst (λ (e : Entry). AreDistinct e.pages) (here entry) (sound.each i entry below).distinct in
      subst (λ (l : List Entry). IsPooled l (with_flags true entry.pages flags) g.data_pages)
      (sym (take_more entries i entry below ∙ ap (λ (e : Entry). take i entries ++ e ∷ []) (here entry)))
      (pooled_take (take i entries) entry flags g.data_pages (λ page lt. took flags entry.pages page lt) (length-marks true entry.pages flags) (counted flags entry.pages next_free is)
      (λ k d inside. omega (arith, next_below k d inside, pooled.size)) pooled)
