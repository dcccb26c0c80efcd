use Rattle.std.proofs.Common.{◌≡◌, ◌-◌, ◌^◌, min, List, sym, ap, subst, ◌∙◌}
use Rattle.store_model.specs.State.{Stored, without_blobs}
use Rattle.store_model.specs.Packages.{stock_pages}
use Rattle.plain_stock.specs.Stocks.{IsStock}
use Rattle.plain_stock.proofs.Stocks.{kept_without, stock_without}
use Rattle.plain_stock.proofs.blobs.Stock.remove.Goals as goal

pub invariant_of-self : goal.invariant_of-self
invariant_of-self c =
    let blobs = c.self.inside.blobs.items in
    let roots = c.args.roots.now in
    let kept : c.keep_noted.new.blobs.items ≡ without_blobs blobs roots =
    c.keep_noted.ensures ∙ kept_without blobs c.self.inside.lens c.forget.new.lens c.self.inside.pages roots c.self.invariant c.forget.ensures in
    subst (λ (bs : List Stored). IsStock bs c.forget.new.lens c.pages_in-self-inside.result) (sym kept)
    (stock_without blobs c.self.inside.lens c.forget.new.lens c.self.inside.pages c.pages_in-self-inside.result roots c.self.invariant c.forget.ensures
    (c.pages_in-self-inside.ensures ∙ ap (λ (bs : List Stored). min (stock_pages bs) (2 ^ 64 - 1)) (c.deref.ensures.value ∙ kept)))

pub returns : goal.returns
returns c =
    c.keep_noted.ensures
    ∙ kept_without c.self.inside.blobs.items c.self.inside.lens c.forget.new.lens c.self.inside.pages c.args.roots.now c.self.invariant c.forget.ensures
    ∙ ap (λ (blobs : List Stored). without_blobs blobs c.args.roots.now) c.self.view_is
