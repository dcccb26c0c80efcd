use Rattle.std.proofs.Common.{◌≡◌, ℕ, List, get_or, remove, sym, ap, ◌∙◌, arith}
use Rattle.node_table.specs.declared.entry.Entry.{Entry}
use Rattle.blob_disk.specs.Chains.{draft_place}
use Rattle.blob_disk.proofs.SoundLists.{found_place, same_entry}
use Rattle.blob_disk.proofs.entries.take_draft.Goals as goal

pub returns-clause-at : goal.returns-clause-at
returns-clause-at c =
    let at = found_place c.args.root.now c.args.drafts.now.items c.requires in
    omega (arith, at.0, c.args.drafts.now.ok.0)

pub returns-clause-was : goal.returns-clause-was
returns-clause-was c = λ d.
    let items : List Entry = c.args.drafts.now.items in
    let at = found_place c.args.root.now items c.requires in
    let e : c.draft_at-place.result ≡ draft_place c.args.root.now items = c.draft_at-place.ensures.at ∙ ap (draft_place c.args.root.now) c.deref.ensures.value in
    same_entry (get_or items (draft_place c.args.root.now items) d) (get_or items (draft_place c.args.root.now items) c.remove.result) (sym (at.1 d) ∙ at.1 c.remove.result)
    ∙ ap (λ (k : ℕ). get_or items k c.remove.result) (sym e) ∙ sym c.remove.ensures.value

pub returns-clause-left : goal.returns-clause-left
returns-clause-left c =
    let items : List Entry = c.args.drafts.now.items in
    let e : c.draft_at-place.result ≡ draft_place c.args.root.now items = c.draft_at-place.ensures.at ∙ ap (draft_place c.args.root.now) c.deref.ensures.value in
    c.remove.ensures.items ∙ ap (remove items) e
