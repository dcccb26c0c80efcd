use Rattle.update_manifest.proofs.Bringing.{brings}
use Rattle.update_manifest.proofs.Files.{all_named}
use Rattle.update_manifest.proofs.laws.images_name_files.Goals as goal

pub returns : goal.returns
returns c = λ text images is. all_named text images ((brings text images).0 is)
