use Rattle.std.proofs.Common.{sym, ◌∙◌}
use Rattle.plain_stock.proofs.Stocks.{none_found, noted_before, noted_now}
use Rattle.plain_stock.proofs.blobs.note.Goals as goal

pub returns-then-contains_key-clause-ok : goal.returns-then-contains_key-clause-ok
returns-then-contains_key-clause-ok c =
    noted_before c.args.lens.now c.args.root c.args.len (sym c.contains_key.ensures ∙ c.if-contains_key.true)

pub returns-clause-ok : goal.returns-clause-ok
returns-clause-ok c =
    noted_now c.args.lens.now c.insert.new.self c.args.root c.args.len (none_found _ (sym c.contains_key.ensures ∙ c.if-contains_key.false)) c.in_ok-insert.ensures.updates.0
