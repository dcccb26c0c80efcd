use Rattle.script_lang.proofs.Judged.{one_way, script_or_refused, one_refusal}
use Rattle.script_lang.proofs.laws.scripts_are_judged_one_way.Goals as goal

pub returns-clause-script : goal.returns-clause-script
returns-clause-script c = one_way

pub returns-clause-never_both : goal.returns-clause-never_both
returns-clause-never_both c = script_or_refused

pub returns-clause-refusal : goal.returns-clause-refusal
returns-clause-refusal c = one_refusal
