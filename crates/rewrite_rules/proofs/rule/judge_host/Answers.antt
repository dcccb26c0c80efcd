use Rattle.std.specs.Cmp.{both_ways}
use Rattle.package_url.specs.Reading.{is_host_text}
use Rattle.package_url.proofs.PathTests.{is_host_text-Decides}
use Rattle.rewrite_rules.proofs.rule.judge_host.Goals as goal

pub returns : goal.returns
returns c =
    let test = is_host_text-Decides c.args.host.now in
    both_ways c.is_host.result (is_host_text c.args.host.now) (λ e. test.1 (c.is_host.ensures.0 e)) (λ e. c.is_host.ensures.1 (test.0 e))
