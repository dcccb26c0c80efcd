use Rattle.script_lang.proofs.LinesSpelled.{line_spells}
use Rattle.script_lang.proofs.laws.lines_are_spelled.Goals as goal

pub returns : goal.returns
returns c = line_spells c.texts_spell_a_url_or_have_a_fault.ensures.url
