use Rattle.std.proofs.Common.{refl, Some, None, eq-eqb}
use Rattle.std.proofs.lemmas.Bool.{cond-true}
use Rattle.disk_model.specs.declared.act.DiskAct.TheVariants.{Wrote, Failed}
use Rattle.disk_model.proofs.ImageLemmas.{image_wrote, image_failed}
use Rattle.disk_model.proofs.ReplayLemmas.{image_stays, image_comes}
use Rattle.disk_model.proofs.laws.images_after_write.Goals as goal

pub returns-clause-wrote : goal.returns-clause-wrote
returns-clause-wrote c = image_wrote

pub returns-clause-failed : goal.returns-clause-failed
returns-clause-failed c = image_failed

pub returns-clause-wrote_may : goal.returns-clause-wrote_may
returns-clause-wrote_may c = λ past n bytes image is.
    (image_stays past (Wrote n bytes) image refl is, image_comes past (Wrote n bytes) n bytes image refl (cond-true _ (Some bytes) None (eq-eqb n n refl)) is)

pub returns-clause-failed_may : goal.returns-clause-failed_may
returns-clause-failed_may c = λ past n bytes image is.
    (image_stays past (Failed n bytes) image refl is, image_comes past (Failed n bytes) n bytes image refl (cond-true _ (Some bytes) None (eq-eqb n n refl)) is)
