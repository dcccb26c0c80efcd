use Rattle.std.proofs.Common.{refl}
use Rattle.disk_model.specs.Past.{zero_page}
use Rattle.disk_model.proofs.pages.zero_page.Goals as goal

pub returns : goal.returns
unfolding zero_page
returns c = refl
