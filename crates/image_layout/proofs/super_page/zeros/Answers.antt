use Rattle.std.proofs.Common.{refl}
use Rattle.image_layout.specs.Super.{zero_page}
use Rattle.image_layout.proofs.super_page.zeros.Goals as goal

pub returns : goal.returns
unfolding zero_page
returns c = refl
