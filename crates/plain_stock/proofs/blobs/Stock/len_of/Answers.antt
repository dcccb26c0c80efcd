use Rattle.std.proofs.Common.{List, ap, ◌∙◌}
use Rattle.store_model.specs.State.{Stored, stored_len}
use Rattle.plain_stock.proofs.blobs.Stock.len_of.Goals as goal

pub returns : goal.returns
returns c =
    c.copied.ensures
    ∙ c.get.ensures.value
    ∙ c.self.invariant.known c.args.root.now
    ∙ ap (λ (blobs : List Stored). stored_len blobs c.args.root.now) c.self.view_is
