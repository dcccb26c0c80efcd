use Rattle.std.proofs.Common.{◌≡◌, Some, None, sym, ◌∙◌, ap}
use Rattle.node_table.specs.declared.entry.Entry.{Entry}
use Rattle.node_table.specs.Steps.{place_from}
use Rattle.node_table.proofs.Listing.{no_entry}
use Rattle.node_table.proofs.IndexLemmas.{found_entry, none_found}
use Rattle.node_table.proofs.index.find.Goals as goal

pub bounds-entries-place : goal.bounds-entries-place
bounds-entries-place c =
    let at : place_from 0 c.args.entries.now c.args.root.now ≡ Some c.in-Some.place.now = sym (c.requires c.args.root.now) ∙ sym c.in-Some.ensures.value in
    (found_entry c.args.entries.now c.args.root.now c.in-Some.place.now no_entry at).0

pub returns-in-Some : goal.returns-in-Some
returns-in-Some c =
    let entry = c.index-entries-place.result in
    let at : place_from 0 c.args.entries.now c.args.root.now ≡ Some c.in-Some.place.now = sym (c.requires c.args.root.now) ∙ sym c.in-Some.ensures.value in
    ap (λ (e : Entry). Some e) c.index-entries-place.is ∙ (found_entry c.args.entries.now c.args.root.now c.in-Some.place.now entry at).1

pub returns-in-None : goal.returns-in-None
returns-in-None c =
    let none : place_from 0 c.args.entries.now c.args.root.now ≡ None = sym (c.requires c.args.root.now) ∙ sym c.in-None.ensures.value in
    none_found 0 c.args.entries.now c.args.root.now none
