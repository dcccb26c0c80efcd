use Rattle.std.proofs.Common.{◌+◌, Some, ap}
use Rattle.collector.proofs.Maps.{one_more}
use Rattle.collector.proofs.counts.gain_one.Goals as goal

pub returns-clause-ok : goal.returns-clause-ok
returns-clause-ok c =
    one_more c.args.root (Some (c.count_in-count.result + 1)) c.args.counts.now c.insert.new.self c.in_ok-insert.ensures.updates.0 (ap (λ n. n + 1) c.count_in-count.ensures)
