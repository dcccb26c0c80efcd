use Rattle.std.proofs.Common.{List, ap, ◌∙◌}
use Rattle.plain_drafts.specs.Drafts.{DraftOf, draft_of, without_draft}
use Rattle.plain_drafts.proofs.Drafting.{ended}
use Rattle.plain_drafts.proofs.drafts.Drafts.take.Goals as goal

pub returns-clause-bytes : goal.returns-clause-bytes
returns-clause-bytes c =
    c.take_first-bytes.ensures.bytes ∙ ap (λ (drafts : List DraftOf). draft_of drafts c.args.lane) c.self.view_is

pub returns-clause-list : goal.returns-clause-list
returns-clause-list c =
    c.end.ensures.list ∙ c.take_first-bytes.ensures.others
    ∙ ap (λ (drafts : List DraftOf). without_draft drafts c.args.lane) c.self.view_is

pub returns-clause-drafted : goal.returns-clause-drafted
returns-clause-drafted c = ended c.args.lane c.args.self.now _ (returns-clause-list c)
