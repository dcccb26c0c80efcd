use Rattle.std.proofs.Common.{sym, ◌∙◌}
use Rattle.rewrite_rules.proofs.Slashes.{rule_valid}
use Rattle.rewrite_rules.proofs.rule.rule_in.Goals as goal

pub returns-then-is_rule-clause-valid : goal.returns-then-is_rule-clause-valid
returns-then-is_rule-clause-valid c = rule_valid c.in-Some.rule (sym c.is_rule.ensures ∙ c.if-is_rule.true)
