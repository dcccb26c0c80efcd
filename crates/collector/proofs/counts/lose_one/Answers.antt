use Rattle.std.proofs.Common.{◌≡◌, ◌-◌, None, Some, ap, arith}
use Rattle.collector.specs.Counts.{count_of}
use Rattle.collector.proofs.Maps.{one_fewer, is_written}
use Rattle.collector.proofs.counts.lose_one.Goals as goal

pub returns-then-count-eq1 : goal.returns-then-count-eq1
returns-then-count-eq1 c =
    let last : 0 ≡ count_of c.args.counts.now.entries c.args.root.now - 1 = omega (arith, c.count_in-count.ensures, c.if-count-eq1.true) in
    one_fewer c.args.root.now None c.args.counts.now c.remove.new.self c.remove.ensures.updates.0 last

pub returns-else-count-eq1 : goal.returns-else-count-eq1
returns-else-count-eq1 c =
    let count = c.count_in-count.result in
    one_fewer c.args.root.now (Some (count - 1)) c.args.counts.now c.insert.new.self
    (is_written c.args.root.now (count - 1) c.args.counts.now c.insert.new.self c.insert.result c.insert.ensures.updates c.insert.ensures.absent c.requires)
    (ap (λ n. n - 1) c.count_in-count.ensures)
