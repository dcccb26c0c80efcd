use Rattle.disk_model.proofs.ImageLemmas.{contents-is_image, image-are_pages}
use Rattle.disk_model.proofs.laws.pages_apart.Goals as goal

pub returns-clause-contents : goal.returns-clause-contents
returns-clause-contents c = contents-is_image

pub returns-clause-pages : goal.returns-clause-pages
returns-clause-pages c = image-are_pages
