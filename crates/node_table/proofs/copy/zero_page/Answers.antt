use Rattle.std.proofs.Common.{refl}
use Rattle.disk_model.specs.Past.{zero_page}
use Rattle.node_table.proofs.copy.zero_page.Goals as goal

pub returns : goal.returns
unfolding zero_page
returns c = refl
