use Rattle.std.proofs.Common.{refl}
use Rattle.disk_model.specs.Past.{state_of}
use Rattle.disk_model.proofs.ImageLemmas.{image_synced, synced_page, image-latest, latest-image}
use Rattle.disk_model.proofs.laws.images_after_sync.Goals as goal

pub returns-clause-exact : goal.returns-clause-exact
returns-clause-exact c = λ past image. (image-latest past image, latest-image past image)

pub returns-clause-fewer : goal.returns-clause-fewer
returns-clause-fewer c = image_synced

pub returns-clause-settled : goal.returns-clause-settled
returns-clause-settled c = λ past n image lt none is. synced_page past n (state_of past n).now lt refl none image is
