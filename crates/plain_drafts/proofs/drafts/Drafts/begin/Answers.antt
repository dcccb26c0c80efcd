use Rattle.std.proofs.Common.{List, [], ◌∷◌, ◌++◌, sym, subst, ap, ◌∙◌}
use Rattle.plain_drafts.specs.Drafts.{DraftOf, Drafted}
use Rattle.plain_drafts.proofs.Drafting.{begun}
use Rattle.plain_drafts.proofs.drafts.Drafts.begin.Goals as goal

pub returns-clause-ok : goal.returns-clause-ok
returns-clause-ok c =
    subst (λ (new : List DraftOf). Drafted c.args.lane c.args.room [] c.args.self.now new)
    (sym (c.in_ok-push.ensures.items ∙ ap (λ (d : DraftOf). c.self.inside.drafts.items ++ d ∷ []) c.in_ok-draft.ensures))
    (begun c.args.lane c.args.room c.args.self.now c.self.inside.drafts.items (c.self.view_is ∙ c.end.ensures.list))
