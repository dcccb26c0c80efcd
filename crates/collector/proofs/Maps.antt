-- Counts in a map, and roots in a set.
use Rattle.std.proofs.Common.{◌≡◌, ℕ, ◌+◌, ◌-◌, ◌<◌, ◌||◌, Bool, true, false, cond, List, [], ◌∷◌, Option, Some, None, Result, Ok, Err, OnOk, OnErr, refl, sym, ap, ◌∙◌, inl, inr, arith}
use Rattle.std.specs.Option.{unwrap_or}
use Rattle.std.specs.Ordering.{is_eq}
use Rattle.std.specs.Map.{lookup}
use Rattle.std.specs.BTreeMap.{BTreeMap, get, is_at, Updates}
use Rattle.std.specs.BTreeSet.{BTreeSet, contains}
use Rattle.std.proofs.lemmas.Bool.{cases_Bool}
use Rattle.std.proofs.lemmas.Map.Text.{is_eq-slice_cmp}
use Rattle.pkg_names.specs.declared.root.Root.{Root}
use Rattle.pkg_names.specs.Root.{root_eq}
use Rattle.pkg_names.proofs.Roots.{root_eq-true}
use Rattle.collector.specs.Counts.{count_of}
use Rattle.collector.specs.Sets.{root_cmp, is_in}

pub is_eq-root_cmp : (a b : Root) → is_eq (root_cmp a b) ≡ root_eq a b
is_eq-root_cmp a b = is_eq-slice_cmp a.0 b.0

same_lookup : (p q : Root → Bool) → ((root : Root) → p root ≡ q root) → (entries : List (Root × ℕ)) → lookup p entries ≡ lookup q entries
same_lookup p q agree [] = refl
same_lookup p q agree (entry ∷ entries) = rw (agree entry.0) (ap (cond (q entry.0) (Some entry.1)) (same_lookup p q agree entries))

get-lookup : (map : BTreeMap Root ℕ) (root : Root) → get root_cmp map root ≡ lookup (root_eq root) map.entries
get-lookup map root = same_lookup (is_at (root_cmp root)) (root_eq root) (is_eq-root_cmp root) map.entries

-- what a look-up finds is the count
pub count_found : (map : BTreeMap Root ℕ) (root : Root) → unwrap_or (get root_cmp map root) 0 ≡ count_of map.entries root
count_found map root = ap (λ (found : Option ℕ). unwrap_or found 0) (get-lookup map root)

-- the map has another count at this root, and the same elsewhere
abbrev pub Updated : Root → Option ℕ → BTreeMap Root ℕ → BTreeMap Root ℕ → Type 0
Updated root value old new = (other : Root) → get root_cmp new other ≡ cond (is_at (root_cmp root) other) value (get root_cmp old other)

pub count_updated : (root : Root) (value : Option ℕ) (old new : BTreeMap Root ℕ) → Updated root value old new → (other : Root)
    → count_of new.entries other ≡ cond (root_eq root other) (unwrap_or value 0) (count_of old.entries other)
count_updated root value old new updated other =
    sym (count_found new other) ∙ ap (λ (found : Option ℕ). unwrap_or found 0) (updated other) ∙
    elim (cases_Bool (root_eq root other)) [
      | inl same ↦ rw (is_eq-root_cmp root other ∙ same, same) refl
      | inr differs ↦ rw (is_eq-root_cmp root other ∙ differs, differs) (count_found old other)
    ]

-- one more, and one fewer
pub one_more : (root : Root) (value : Option ℕ) (old new : BTreeMap Root ℕ) → Updated root value old new → unwrap_or value 0 ≡ count_of old.entries root + 1 → (other : Root)
    → count_of new.entries other ≡ count_of old.entries other + cond (root_eq root other) 1 0
one_more root value old new updated is other =
    count_updated root value old new updated other ∙
    elim (cases_Bool (root_eq root other)) [
      | inl same ↦ rw same (is ∙ ap (λ (r : Root). count_of old.entries r + 1) (root_eq-true root other same))
      | inr differs ↦ rw differs (omega arith)
    ]

pub one_fewer : (root : Root) (value : Option ℕ) (old new : BTreeMap Root ℕ) → Updated root value old new → unwrap_or value 0 ≡ count_of old.entries root - 1 → (other : Root)
    → count_of new.entries other ≡ count_of old.entries other - cond (root_eq root other) 1 0
one_fewer root value old new updated is other =
    count_updated root value old new updated other ∙
    elim (cases_Bool (root_eq root other)) [
      | inl same ↦ rw same (is ∙ ap (λ (r : Root). count_of old.entries r - 1) (root_eq-true root other same))
      | inr differs ↦ rw differs (omega arith)
    ]

-- a count that is there is written without memory
pub is_written : {E : Type 0} (root : Root) (value : ℕ) (old new : BTreeMap Root ℕ) (result : Result (Option ℕ) E)
    → OnOk result (Updates root_cmp old new root (Some value)) → OnErr result (get root_cmp old root ≡ None) → 0 < count_of old.entries root → Updated root (Some value) old new
is_written root value old new (Ok was) updates absent some = updates.0
is_written root value old new (Err fault) updates absent some =
    let none : count_of old.entries root ≡ 0 = sym (count_found old root) ∙ ap (λ (found : Option ℕ). unwrap_or found 0) absent in
    absurd (omega (arith, none, some))

-- a set with one root more
pub is_in_more : (root : Root) (old new : BTreeSet Root)
    → ((other : Root) → contains root_cmp new other ≡ cond (is_at (root_cmp root) other) true (contains root_cmp old other))
    → (other : Root) → is_in new other ≡ (is_in old other || root_eq root other)
is_in_more root old new updated other =
    updated other ∙ ap (λ (b : Bool). cond b true (is_in old other)) (is_eq-root_cmp root other) ∙ either_way (root_eq root other) (is_in old other)
  where
    either_way : (a b : Bool) → cond a true b ≡ (b || a)
    either_way true true = refl
    either_way true false = refl
    either_way false true = refl
    either_way false false = refl

pub or_assoc : (a b c : Bool) → ((a || b) || c) ≡ (a || (b || c))
or_assoc true b c = refl
or_assoc false b c = refl
