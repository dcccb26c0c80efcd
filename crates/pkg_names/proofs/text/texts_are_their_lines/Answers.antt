use Rattle.pkg_names.proofs.Lines.{lines_none, lines_whole_text, lines_only}
use Rattle.pkg_names.proofs.text.texts_are_their_lines.Goals as goal

pub returns-clause-none : goal.returns-clause-none
returns-clause-none c = lines_none

pub returns-clause-whole : goal.returns-clause-whole
returns-clause-whole c = lines_whole_text

pub returns-clause-only : goal.returns-clause-only
returns-clause-only c = lines_only
