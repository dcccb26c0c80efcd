use Rattle.std.proofs.Common.{rules, ◌≡◌, List, ap, ◌∙◌}
use Rattle.std.proofs.lemmas.Fn.{filter_same}
use Rattle.plain_drafts.specs.Drafts.{DraftOf, without_draft}
use Rattle.plain_drafts.proofs.Drafting.{ended}
use Rattle.plain_drafts.proofs.drafts.Drafts.end.Goals as goal

pub returns-clause-list : goal.returns-clause-list
returns-clause-list c =
    let left : c.retain.new.self.items ≡ without_draft c.self.inside.drafts.items c.args.lane =
    filter_same _ _ _ (λ x b f' k. search rules) _ _ c.retain.ensures.filtered in
    left ∙ ap (λ (drafts : List DraftOf). without_draft drafts c.args.lane) c.self.view_is

pub returns-clause-drafted : goal.returns-clause-drafted
returns-clause-drafted c = ended c.args.lane c.args.self.now _ (returns-clause-list c)
