use Rattle.std.proofs.Common.{ℕ, get_or, Option, Some, is_some, sym, ap, ◌∙◌, arith}
use Rattle.blob_disk.specs.Chains.{draft_place}
use Rattle.blob_disk.proofs.SoundLists.{found_place, same_place}
use Rattle.blob_disk.proofs.entries.draft_at.Goals as goal

pub unwrap-requires : goal.unwrap-requires
unwrap-requires c =
    let at = found_place c.args.root.now c.args.drafts.now c.requires in
    ap (λ (o : Option ℕ). is_some o) (c.place_of.ensures ∙ at.2)

pub returns-clause-at : goal.returns-clause-at
returns-clause-at c =
    let at = found_place c.args.root.now c.args.drafts.now c.requires in
    same_place c.unwrap.result (draft_place c.args.root.now c.args.drafts.now) (sym c.unwrap.ensures ∙ c.place_of.ensures ∙ at.2)

pub returns-clause-below : goal.returns-clause-below
returns-clause-below c =
    let at = found_place c.args.root.now c.args.drafts.now c.requires in
    let e = same_place c.unwrap.result (draft_place c.args.root.now c.args.drafts.now) (sym c.unwrap.ensures ∙ c.place_of.ensures ∙ at.2) in
    omega (arith, at.0, e)

pub returns-clause-is : goal.returns-clause-is
returns-clause-is c = λ d.
    let at = found_place c.args.root.now c.args.drafts.now c.requires in
    let e = same_place c.unwrap.result (draft_place c.args.root.now c.args.drafts.now) (sym c.unwrap.ensures ∙ c.place_of.ensures ∙ at.2) in
    at.1 d ∙ ap (λ (k : ℕ). Some (get_or c.args.drafts.now k d)) (sym e)
