-- The least of the names that are left.
use Rattle.std.proofs.Common.{◌≡◌, ℕ, ◌<◌, List, [], ◌∷◌, map, length, refl, sym, ap, subst, arith, Option, Some, None, String, Global, BTreeSet}
use Rattle.std.specs.Option.{option_map, IfSome, IfNone, IsSome}
use Rattle.std.specs.List.{All}
use Rattle.std.specs.Ordering.{nat_cmp}
use Rattle.std.specs.Cmp.Lexicographic.{slice_cmp}
use Rattle.std.specs.declared.cmp.Ordering.TheVariants.{Less}
use Rattle.std.specs.String.{string_bytes}
use Rattle.std.proofs.lemmas.Bool.{false≢true}
use Rattle.std.proofs.lemmas.List.Elements.{All-map}
use Rattle.folder_publish.specs.Tree.{AreBelow, WereLeft, TakesName}

abbrev pub Texts : Type 0
Texts = List (String Global)

abbrev pub Names : Type 0
Names = BTreeSet (String Global)

abbrev pub seen : Option Names → Option (List (List ℕ))
seen names = option_map (λ set. map string_bytes set.keys) names

-- one is before each of these
abbrev pub IsBefore : String Global → Texts → Type 0
IsBefore first left = All (λ (other : String Global). slice_cmp nat_cmp (string_bytes first) (string_bytes other) ≡ Less) left

pub had : (told : Option (List ℕ → List (List ℕ))) (folder : List ℕ) (names : Option Names) (set : Names) → names ≡ Some set → WereLeft told folder (seen names) (map string_bytes set.keys)
had told folder names set is = subst (λ (o : Option Names). WereLeft told folder (seen o) (map string_bytes set.keys)) (sym is) refl

pub gathered : (told : Option (List ℕ → List (List ℕ))) (folder : List ℕ) (names : Option Names) (set : Names) → names ≡ None → AreBelow told folder (map string_bytes set.keys) → WereLeft told folder (seen names) (map string_bytes set.keys)
gathered told folder names set is below = subst (λ (o : Option Names). WereLeft told folder (seen o) (map string_bytes set.keys)) (sym is) below

nothing_left : (keys : Texts) → (0 < length keys → ⊥) → keys ≡ []
nothing_left [] empty = refl
nothing_left (key ∷ keys) empty = absurd (empty (omega arith))

pub taken : (told : Option (List ℕ → List (List ℕ))) (folder : List ℕ) (before : Option (List (List ℕ))) (keys left : Texts) (first : Option (String Global)) → WereLeft told folder before (map string_bytes keys) → IfSome first (λ k. keys ≡ k ∷ left) → IfSome first (λ k. IsBefore k left) → IfNone first (left ≡ keys) → (0 < length keys → IsSome first) → TakesName told folder before (option_map string_bytes first) (Some (map string_bytes left))
taken told folder before keys left (Some k) were removal less same some = (
  All-map (λ (other : List ℕ). slice_cmp nat_cmp (string_bytes k) other ≡ Less) string_bytes left less,
  subst (λ (names : Texts). WereLeft told folder before (map string_bytes names)) removal were,
)
taken told folder before keys left None were removal less same some =
    let none : keys ≡ [] = nothing_left keys (λ long. false≢true (some long)) in (
      ap (λ (names : Texts). Some (map string_bytes names)) (subst (λ (names : Texts). left ≡ names) none same),
      subst (λ (names : Texts). WereLeft told folder before (map string_bytes names)) none were,
    )
