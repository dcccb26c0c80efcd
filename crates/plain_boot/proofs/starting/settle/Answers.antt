use Rattle.std.proofs.Common.{◌∙◌}
use Rattle.plain_boot.proofs.Booted.{settled_so}
use Rattle.plain_boot.proofs.starting.settle.Goals as goal

pub returns : goal.returns
returns c =
    settled_so c.args.seen.now c.as_slice.result.now c.args.state c.learn_lengths.new.self c.forget_seen.new.self (c.as_slice.ensures.list ∙ c.in_ok-protected.ensures) c.in_ok-learn_lengths.ensures.ok c.forget_seen.ensures
