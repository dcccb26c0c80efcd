use Rattle.std.proofs.Common.{◌≡◌, ◌∷◌, [], List, ℕ, ◌+◌, ◌<◌, ◌≤◌, length, get_or, drop, Result, Ok, Err, sym, ap, ◌∙◌, inl, inr, arith}
use Rattle.std.proofs.lemmas.List.{length-append}
use Rattle.std.proofs.lemmas.Result.{err_from_is_err_and}
use Rattle.serde_json.specs.declared.value.Value.{Value}
use Rattle.serde_json.specs.View.{view, items_view}
use Rattle.pkg_names.specs.declared.pinned.Pinned.{Pinned}
use Rattle.system_lists.specs.declared.list.ListFault.{ListFault}
use Rattle.system_lists.specs.Document.{entries}
use Rattle.system_lists.specs.Entries.{listed}
use Rattle.system_lists.specs.Lists.{has_path_of}
use Rattle.system_lists.specs.Cached.{pinned_entry}
use Rattle.system_lists.proofs.Arrays.{first_entry, no_entries}
use Rattle.system_lists.proofs.Listing.{goes_on, ends, is_done, too_many}
use Rattle.system_lists.proofs.cached.read_entries.Goals as goal

abbrev Read : Type 0
Read = Result (List Pinned) ListFault

head_read : (values : List Value) (i : ℕ) (item : Value) (front : List Pinned) (total : Read) → i < length values → item ≡ get_or values i item → listed has_path_of front (entries pinned_entry (items_view (drop i values))) ≡ total
    → listed has_path_of front (pinned_entry (view item) ∷ entries pinned_entry (items_view (drop (i + 1) values))) ≡ total
head_read values i item front total lt is so_far =
    ap (listed has_path_of front) (sym (first_entry pinned_entry values i item lt is)) ∙ so_far

all_read : (values : List Value) (i : ℕ) (front : List Pinned) (total : Read) → length values ≤ i → i ≤ length values → listed has_path_of front (entries pinned_entry (items_view (drop i values))) ≡ total → Ok front ≡ total
all_read values i front total low high so_far =
    is_done has_path_of front total (ap (listed has_path_of front) (sym (no_entries pinned_entry values i low high)) ∙ so_far)

pub returns : goal.returns
returns c =
    inl (ap (λ (l : List Pinned). let r : Read = Ok l in r) c.make.ensures.list
    ∙ all_read c.args.values.now c.loop-value.value-index c.loop-value.list.items (listed has_path_of [] (entries pinned_entry (items_view c.args.values.now))) c.loop-value-test.false c.loop-value.auto.value-index-end c.loop-value.invariant.left)

pub returns-then-len-ge-ENTRY_LIMIT : goal.returns-then-len-ge-ENTRY_LIMIT
returns-then-len-ge-ENTRY_LIMIT c =
    let front = c.loop-value.list.items in
    let total = listed has_path_of [] (entries pinned_entry (items_view c.args.values.now)) in
    let here = head_read c.args.values.now c.loop-value.value-index c.value-item.result front total c.loop-value-test.true c.value-item.is c.loop-value.invariant.left in
    inl (too_many has_path_of front (pinned_entry (view c.value-item.result)) (entries pinned_entry (items_view (drop (c.loop-value.value-index + 1) c.args.values.now))) total (omega (arith, c.loop-value.invariant.few)) here)

pub returns-in_err-put_value : goal.returns-in_err-put_value
returns-in_err-put_value c =
    let p = err_from_is_err_and c.from_residual.result c.from_residual.ensures.1 in
    let front = c.loop-value.list.items in
    let total = listed has_path_of [] (entries pinned_entry (items_view c.args.values.now)) in
    let here = head_read c.args.values.now c.loop-value.value-index c.value-item.result front total c.loop-value-test.true c.value-item.is c.loop-value.invariant.left in
    rw (p.1, p.2) (elim c.in_err-put_value.ensures.fault [
      | inl memory ↦ inr (ap (λ (e : ListFault). let r : Read = Err e in r) memory)
      | inr found ↦ inl (ends has_path_of front (pinned_entry (view c.value-item.result)) (entries pinned_entry (items_view (drop (c.loop-value.value-index + 1) c.args.values.now))) c.in_err-put_value.field-0.0 total found here)
    ])

pub loop-value-preserved : goal.loop-value-preserved
loop-value-preserved c =
    let front = c.loop-value.list.items in
    let total = listed has_path_of [] (entries pinned_entry (items_view c.args.values.now)) in
    let here = head_read c.args.values.now c.loop-value.value-index c.value-item.result front total c.loop-value-test.true c.value-item.is c.loop-value.invariant.left in
    let found = c.in_ok-put_value.ensures.found in
    record {
      few = omega (arith, ap (λ (l : List Pinned). length l) found.2, length-append front (found.0 ∷ []));
      left = goes_on has_path_of front c.put_value.new.list.items (pinned_entry (view c.value-item.result)) (entries pinned_entry (items_view (drop (c.loop-value.value-index + 1) c.args.values.now))) found.0 total found.1 found.2 here;
    }
