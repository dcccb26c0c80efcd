use Rattle.pkg_tool.proofs.Printing.{as_front}
use Rattle.pkg_tool.proofs.print.close.Goals as goal

pub returns-in-Ok-clause-front : goal.returns-in-Ok-clause-front
returns-in-Ok-clause-front g c = as_front _ _ c.args.lines.now c.in-Ok.ensures.ok
