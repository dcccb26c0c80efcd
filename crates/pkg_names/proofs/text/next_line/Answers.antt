use Rattle.std.proofs.Common.{ap, ◌∙◌}
use Rattle.pkg_names.specs.Text.{lines_of}
use Rattle.pkg_names.proofs.Lines.{lines_cut, lines_whole}
use Rattle.pkg_names.proofs.text.next_line.Goals as goal

pub returns-in-Some-clause-lines : goal.returns-in-Some-clause-lines
returns-in-Some-clause-lines c = ap lines_of c.in-Some.ensures.found ∙ lines_cut c.in-Some.line.now c.in-Some.after.now c.in-Some.ensures.first

pub returns-in-None-clause-lines : goal.returns-in-None-clause-lines
returns-in-None-clause-lines c = lines_whole c.args.text.now c.in-None.ensures.none c.requires
