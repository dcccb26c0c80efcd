use Rattle.std.proofs.Common.{◌<◌, length, Option, sym, subst, arith}
use Rattle.std.specs.Prelude.{IfSome}
use Rattle.rewrite_rules.specs.declared.rule.Rule.{Rule}
use Rattle.rewrite_rules.specs.Rule.{IsRule}
use Rattle.rewrite_rules.specs.Reading.{AreRules}
use Rattle.rewrite_rules.proofs.Entries.{grows}
use Rattle.rewrite_rules.proofs.reading.put.Goals.{in-Ok, in-Err}
use Rattle.rewrite_rules.proofs.reading.put.Goals as goal

pub returns-clause-valid : goal.returns-clause-valid
returns-clause-valid c =
    let below : length c.args.rules.now.items < 256 = omega arith in
    let is : IsRule c.in-Some.rule = subst (λ (entry : Option Rule). IfSome entry IsRule) c.in-Some.is c.requires.entry in
    elim c.match-push.branch [
      | in-Ok w ↦ rw w.result-is (subst AreRules (sym w.in-Ok.ensures.items) (grows c.args.rules.now.items c.in-Some.rule c.requires.rules below is))
      | in-Err w ↦ rw w.result-is tt
    ]
