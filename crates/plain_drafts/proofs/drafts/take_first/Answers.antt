use Rattle.std.proofs.Common.{◌≡◌, List, Some, None, sym, ap, ◌∙◌}
use Rattle.std.specs.List.{position}
use Rattle.plain_drafts.specs.Drafts.{DraftOf, bytes_in, without_draft}
use Rattle.plain_drafts.proofs.Drafting.{is_of, others_left, placed, placeless}
use Rattle.plain_drafts.proofs.drafts.take_first.Goals as goal

pub returns-in-Some-clause-bytes : goal.returns-in-Some-clause-bytes
returns-in-Some-clause-bytes c =
    let is : position (is_of c.args.lane) c.args.drafts.now.items ≡ Some c.in-Some.place =
    sym (c.place_of.ensures ∙ ap (position (is_of c.args.lane)) c.deref.ensures.value) ∙ c.in-Some.is in
    c.into_bytes.ensures ∙ ap (λ (d : DraftOf). d.bytes) c.remove.ensures.value
    ∙ sym (ap bytes_in (placed c.args.lane c.args.drafts.now.items c.in-Some.place c.remove.result is))

pub returns-in-Some-clause-others : goal.returns-in-Some-clause-others
returns-in-Some-clause-others c =
    let is : position (is_of c.args.lane) c.args.drafts.now.items ≡ Some c.in-Some.place =
    sym (c.place_of.ensures ∙ ap (position (is_of c.args.lane)) c.deref.ensures.value) ∙ c.in-Some.is in
    ap (λ (drafts : List DraftOf). without_draft drafts c.args.lane) c.remove.ensures.items
    ∙ others_left c.args.lane c.args.drafts.now.items c.in-Some.place c.remove.result is

pub returns-in-None-clause-bytes : goal.returns-in-None-clause-bytes
returns-in-None-clause-bytes c =
    let none : position (is_of c.args.lane) c.args.drafts.now.items ≡ None =
    sym (c.place_of.ensures ∙ ap (position (is_of c.args.lane)) c.deref.ensures.value) ∙ c.in-None.is in
    c.make.ensures.list ∙ c.new.ensures.items ∙ sym (ap bytes_in (placeless c.args.lane c.args.drafts.now.items none))
