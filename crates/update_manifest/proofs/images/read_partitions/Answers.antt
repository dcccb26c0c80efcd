use Rattle.std.proofs.Common.{◌≡◌, ◌∷◌, [], List, ℕ, ◌+◌, ◌<◌, length, get_or, drop, Option, refl, sym, ap, subst, inl, inr}
use Rattle.std.proofs.lemmas.Result.{err_from_is_err_and}
use Rattle.serde_json.specs.declared.value.Value.{Value}
use Rattle.serde_json.specs.View.{view, items_view}
use Rattle.system_lists.specs.Document.{entries}
use Rattle.system_lists.proofs.Arrays.{first_entry, no_entries}
use Rattle.update_manifest.specs.declared.found.Found.{Found}
use Rattle.update_manifest.specs.declared.partition.Partition.{Partition}
use Rattle.update_manifest.specs.Partition.{partition_in}
use Rattle.update_manifest.specs.Found.{count}
use Rattle.update_manifest.proofs.Finding.{Reached, advanced, refused_there, all_found}
use Rattle.update_manifest.proofs.images.read_partitions.Goals as goal

abbrev all_of : List Value → List (Option Partition)
all_of values = entries partition_in (items_view values)

head_reached : (values : List Value) (i : ℕ) (item : Value) (found : Found) → i < length values → item ≡ get_or values i item → Reached found (all_of (drop i values)) (all_of values)
    → Reached found (partition_in (view item) ∷ all_of (drop (i + 1) values)) (all_of values)
head_reached values i item found lt is so_far =
    subst (λ (rest : List (Option Partition)). Reached found rest (all_of values)) (first_entry partition_in values i item lt is) so_far

pub loop-value-init : goal.loop-value-init
loop-value-init c = record { front = []; is = c.nothing-found.ensures; counted = ap count (sym c.nothing-found.ensures); left = refl }

pub returns-clause-found : goal.returns-clause-found
returns-clause-found c =
    let values = c.args.values.now in
    let found = c.loop-value.found in
    all_found found (all_of values) (subst (λ (rest : List (Option Partition)). Reached found rest (all_of values)) (no_entries partition_in values c.loop-value.value-index c.loop-value-test.false c.loop-value.auto.value-index-end) c.loop-value.invariant)

pub returns-in_err-put_value-clause-fault : goal.returns-in_err-put_value-clause-fault
returns-in_err-put_value-clause-fault c =
    let p = err_from_is_err_and c.from_residual.result c.from_residual.ensures.1 in
    let values = c.args.values.now in
    let found = c.loop-value.found in
    let here = head_reached values c.loop-value.value-index c.value-item.result found c.loop-value-test.true c.value-item.is c.loop-value.invariant in
    rw (p.1, p.2) (elim c.in_err-put_value.ensures.fault [
      | inl memory ↦ inl memory
      | inr refused ↦ inr (refused_there found (partition_in (view c.value-item.result)) (all_of (drop (c.loop-value.value-index + 1) values)) (all_of values) c.in_err-put_value.field-0.0 here refused)
    ])

pub loop-value-preserved : goal.loop-value-preserved
loop-value-preserved c =
    let values = c.args.values.now in
    let found = c.loop-value.found in
    let here = head_reached values c.loop-value.value-index c.value-item.result found c.loop-value-test.true c.value-item.is c.loop-value.invariant in
    advanced found c.put_value.new.found (partition_in (view c.value-item.result)) (all_of (drop (c.loop-value.value-index + 1) values)) (all_of values) here c.in_ok-put_value.ensures.found
