use Rattle.std.proofs.Common.{◌∙◌}
use Rattle.image_layout.proofs.SuperLemmas.{written, well}
use Rattle.image_layout.proofs.super_page.write_super.Goals as goal

pub returns-clause-spelled : goal.returns-clause-spelled
returns-clause-spelled c = (written c.args.geometry.now c.copy_from_slice.new.self c.zeros.result (c.copy_from_slice.ensures.after ∙ c.head.ensures) c.zeros.ensures).0

pub returns-clause-judged : goal.returns-clause-judged
returns-clause-judged c = well _ c.args.geometry.now (returns-clause-spelled c)

pub returns-clause-rest : goal.returns-clause-rest
returns-clause-rest c = (written c.args.geometry.now c.copy_from_slice.new.self c.zeros.result (c.copy_from_slice.ensures.after ∙ c.head.ensures) c.zeros.ensures).1
