use Rattle.std.proofs.Common.{append_assoc, rules}
use Rattle.pkg_report.proofs.lines.few_text.Goals as goal

pub returns : goal.returns
returns c = search (rules, append_assoc)
