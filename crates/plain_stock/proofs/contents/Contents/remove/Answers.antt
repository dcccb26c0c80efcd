use Rattle.std.proofs.Common.{List, None, subst}
use Rattle.store_model.specs.declared.events.LookedAt.{LookedAt}
use Rattle.plain_stock.specs.Contents.{Holds, contents_in}
use Rattle.plain_stock.proofs.ContentsMap.{holds}
use Rattle.plain_stock.proofs.contents.Contents.remove.Goals as goal

pub returns : goal.returns
returns c =
    subst (λ (old : List LookedAt). Holds c.args.root.now None old (contents_in c.remove.new.self)) c.self.view_is
    (holds c.args.root.now None c.self.inside.blobs c.remove.new.self c.remove.ensures.updates.0)
