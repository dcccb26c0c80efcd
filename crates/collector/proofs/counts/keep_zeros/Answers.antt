use Rattle.std.proofs.Common.{eqb, rules}
use Rattle.std.proofs.lemmas.Fn.{filter_same}
use Rattle.collector.specs.Counts.{count_of}
use Rattle.collector.proofs.counts.keep_zeros.Goals as goal

pub returns : goal.returns
returns c =
    filter_same _ (λ root. eqb (count_of c.args.counts.now.entries root) 0) _ (λ x b f' k. search rules) _ _ c.retain.ensures.filtered
