use Rattle.std.proofs.Common.{not, rules}
use Rattle.std.proofs.lemmas.Fn.{filter_same}
use Rattle.collector.specs.Sets.{is_in}
use Rattle.collector.proofs.slow.keep_outside.Goals as goal

pub returns : goal.returns
returns c =
    filter_same _ (λ root. not (is_in c.args.set.now root)) _ (λ x b f' k. search rules) _ _ c.retain.ensures.filtered
