use Rattle.std.proofs.Common.{rules, is_some}
use Rattle.std.specs.BTreeMap.{get}
use Rattle.std.proofs.lemmas.Fn.{filter_same}
use Rattle.store_model.specs.State.{Stored}
use Rattle.plain_stock.specs.Stocks.{root_cmp}
use Rattle.plain_stock.proofs.blobs.keep_noted.Goals as goal

pub returns : goal.returns
returns c = filter_same _ (λ (blob : Stored). is_some (get root_cmp c.args.lens.now blob.root)) _ (λ x b f' k. search rules) _ _ c.retain.ensures.filtered
