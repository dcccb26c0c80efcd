-- The entries of an array from a place on.
use Rattle.std.proofs.Common.{◌≡◌, ◌∷◌, [], List, ℕ, ◌+◌, ◌<◌, ◌≤◌, length, get_or, drop, Option, sym, ap, ◌∙◌, arith}
use Rattle.std.proofs.Math.Seq.{drop-length}
use Rattle.std.proofs.lemmas.List.{drop_more}
use Rattle.serde_json.specs.Data.{Data}
use Rattle.serde_json.specs.declared.value.Value.{Value}
use Rattle.serde_json.specs.View.{view, items_view}
use Rattle.system_lists.specs.Document.{entries}

module _ {A : Type 0} (says : Data → Option A) where
  pub first_entry : (values : List Value) (i : ℕ) (item : Value) → i < length values → item ≡ get_or values i item
      → entries says (items_view (drop i values)) ≡ says (view item) ∷ entries says (items_view (drop (i + 1) values))
  first_entry values i item lt is =
      let next : entries says (items_view (drop i values)) ≡ says (view (get_or values i item)) ∷ entries says (items_view (drop (i + 1) values)) = ap (λ (vs : List Value). entries says (items_view vs)) (drop_more values i item lt) in
      next ∙ ap (λ (v : Value). says (view v) ∷ entries says (items_view (drop (i + 1) values))) (sym is)

  pub no_entries : (values : List Value) (i : ℕ) → length values ≤ i → i ≤ length values → entries says (items_view (drop i values)) ≡ []
  no_entries values i low high =
      let end : i ≡ length values = omega arith in
      ap (λ (n : ℕ). entries says (items_view (drop n values))) end ∙ ap (λ (vs : List Value). entries says (items_view vs)) (drop-length values)
