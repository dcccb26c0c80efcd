use Rattle.disk_model.proofs.ImageLemmas.{fresh_image}
use Rattle.disk_model.proofs.laws.fresh_disk.Goals as goal

pub returns : goal.returns
returns c = fresh_image
