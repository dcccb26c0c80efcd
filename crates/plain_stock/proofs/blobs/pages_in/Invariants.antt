use Rattle.std.proofs.Common.{◌≡◌, ◌-◌, ◌^◌, min, take}
use Rattle.store_model.specs.Packages.{stock_pages}
use Rattle.plain_stock.proofs.blobs.pages_in.Given as goal

abbrev pub invariant-loop-blob : goal.invariant-loop-blob
invariant-loop-blob l = l.pages ≡ min (stock_pages (take l.blob-index l.blobs)) (2 ^ 64 - 1)
