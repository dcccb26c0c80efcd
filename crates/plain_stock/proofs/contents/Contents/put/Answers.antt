use Rattle.std.proofs.Common.{List, Some, subst}
use Rattle.store_model.specs.declared.events.LookedAt.{LookedAt}
use Rattle.plain_stock.specs.Contents.{Holds, contents_in}
use Rattle.plain_stock.proofs.ContentsMap.{holds}
use Rattle.plain_stock.proofs.contents.Contents.put.Goals as goal

pub returns-clause-ok : goal.returns-clause-ok
returns-clause-ok c =
    subst (λ (old : List LookedAt). Holds c.args.root (Some c.args.bytes) old (contents_in c.insert.new.self)) c.self.view_is
    (holds c.args.root (Some c.args.bytes) c.self.inside.blobs c.insert.new.self c.in_ok-insert.ensures.updates.0)
