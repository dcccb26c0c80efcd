use Rattle.std.proofs.Common.{◌≡◌, get_or, ap, ◌∙◌, arith}
use Rattle.store_model.specs.State.{Stored}
use Rattle.store_model.specs.Packages.{pages_of}
use Rattle.plain_stock.proofs.Stocks.{stock_pages_more}
use Rattle.plain_stock.proofs.blobs.pages_in.Goals as goal

pub loop-blob-preserved : goal.loop-blob-preserved
loop-blob-preserved c =
    let d = c.blob-item.result in
    let i = c.loop-blob.blob-index in
    let here : c.pages_of.result ≡ pages_of (get_or c.args.blobs.now i d).len =
    c.pages_of.ensures ∙ ap pages_of c.len.ensures ∙ ap (λ (b : Stored). pages_of b.len) c.blob-item.is in
    omega (arith, here, stock_pages_more c.args.blobs.now i d c.loop-blob-test.true, c.loop-blob.invariant, c.saturating_add-pages.ensures)
