use Rattle.std.proofs.Common.{◌≡◌, ◌+◌, ◌-◌, ◌^◌, ℕ, min, take, List, [], ◌∷◌, ◌++◌, sym, ap, ap₂, subst, ◌∙◌}
use Rattle.store_model.specs.State.{Stored}
use Rattle.store_model.specs.Packages.{pages_of}
use Rattle.plain_stock.specs.Stocks.{IsStock}
use Rattle.plain_stock.proofs.Stocks.{popped_last, same_stock, stock_with}
use Rattle.plain_stock.proofs.blobs.Stock.push.Goals as goal

pub invariant_of-self-in-Err : goal.invariant_of-self-in-Err
invariant_of-self-in-Err c =
    same_stock c.self.inside.blobs.items _ c.self.inside.lens _ c.self.inside.pages c.self.invariant
    (c.pop.ensures.rest ∙ ap (λ (n : ℕ). take (n - 1) c.push.new.self.items) c.push.new.self.ok.0 ∙ popped_last c.self.inside.blobs.items _ _ c.in_ok-push.ensures.items) c.in-Err.ensures.err

pub returns-in-Err-clause-err : goal.returns-in-Err-clause-err
returns-in-Err-clause-err c =
    c.pop.ensures.rest ∙ ap (λ (n : ℕ). take (n - 1) c.push.new.self.items) c.push.new.self.ok.0 ∙ popped_last c.self.inside.blobs.items _ _ c.in_ok-push.ensures.items ∙ c.self.view_is

pub invariant_of-self-2 : goal.invariant_of-self-2
invariant_of-self-2 c =
    let blob : Stored = record { root = c.args.root; len = c.args.len } in
    let items : c.push.new.self.items ≡ c.self.inside.blobs.items ++ blob ∷ [] =
    c.in_ok-push.ensures.items ∙ ap (λ (b : Stored). c.self.inside.blobs.items ++ b ∷ []) c.make.ensures in
    let pages : c.saturating_add-self-inside.result ≡ min (c.self.inside.pages + pages_of c.args.len) (2 ^ 64 - 1) =
    c.saturating_add-self-inside.ensures ∙ ap (λ (n : ℕ). min (c.self.inside.pages + n) (2 ^ 64 - 1)) c.pages_of.ensures in
    subst (λ (bs : List Stored). IsStock bs c.note.new.lens c.saturating_add-self-inside.result) (sym items)
    (subst (λ (n : ℕ). IsStock (c.self.inside.blobs.items ++ blob ∷ []) c.note.new.lens n) (sym pages)
    (stock_with c.self.inside.blobs.items c.self.inside.lens c.note.new.lens c.self.inside.pages blob c.self.invariant c.in_default.ensures.ok))

pub returns-clause-ok : goal.returns-clause-ok
returns-clause-ok c =
    c.in_ok-push.ensures.items ∙ ap₂ (λ (blobs : List Stored) (b : Stored). blobs ++ b ∷ []) c.self.view_is c.make.ensures
