use Rattle.std.proofs.Common.{◌≡◌, List, sym, ap, subst, ◌∙◌}
use Rattle.plain_desk.specs.declared.opening.Opening.{Opening}
use Rattle.plain_desk.specs.Opening.{Opens}
use Rattle.plain_stock.specs.Contents.{AreBytesOf}
use Rattle.store_model.specs.State.{Standing, Stored}
use Rattle.first_store.specs.Start.{start_stock}
use Rattle.first_store.proofs.Opened.{are_bytes, nothing_faulty, nothing_missing, start_is}
use Rattle.first_store.proofs.start.start_store.Goals as goal

pub open-requires : goal.open-requires
open-requires c =
    let stock : c.make-standing.result.stock ≡ start_stock = ap (λ (d : Standing). d.stock) c.make-standing.ensures ∙ c.in_ok-stock.ensures.stock in
    subst (λ (s : List Stored). AreBytesOf c.in_ok-stock.contents s) (sym stock) (are_bytes c.in_ok-stock.contents c.in_ok-stock.ensures.bytes)

pub unreachable-requires-in-Missing : goal.unreachable-requires-in-Missing
unreachable-requires-in-Missing c =
    let d = c.make-standing.result in
    let is = start_is c.in_ok-stock.stock c.factory.result c.system.result d c.make-standing.ensures c.in_ok-stock.ensures.stock c.factory.ensures c.system.ensures in
    nothing_missing c.in_ok-stock.contents c.geometry.result d c.in-Missing.slot c.in-Missing.root c.in_ok-stock.ensures.bytes is
    (subst (λ (o : Opening). Opens c.in_ok-stock.contents c.new.result c.geometry.result d o) c.in-Missing.is c.in_ok-store.ensures)

pub unreachable-requires-in-Faulty : goal.unreachable-requires-in-Faulty
unreachable-requires-in-Faulty c =
    let d = c.make-standing.result in
    let is = start_is c.in_ok-stock.stock c.factory.result c.system.result d c.make-standing.ensures c.in_ok-stock.ensures.stock c.factory.ensures c.system.ensures in
    nothing_faulty c.in_ok-stock.contents c.geometry.result d c.in-Faulty.slot c.in-Faulty.why c.in_ok-stock.ensures.bytes is
    (subst (λ (o : Opening). Opens c.in_ok-stock.contents c.new.result c.geometry.result d o) c.in-Faulty.is c.in_ok-store.ensures)
