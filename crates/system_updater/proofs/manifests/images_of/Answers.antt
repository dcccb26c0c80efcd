use Rattle.std.proofs.Common.{[], refl}
use Rattle.system_updater.specs.Serving.Prior.{PackagesRead}
use Rattle.system_updater.specs.Serving.Point.{Staging}
use Rattle.system_updater.proofs.Judging.{judged_goes}
use Rattle.system_updater.proofs.Grown.{images_read}
use Rattle.system_updater.proofs.manifests.images_of.Goals as goal

pub returns-clause-goes : goal.returns-clause-goes
returns-clause-goes g c = λ epoch packages repo.
    judged_goes (λ images. Staging c.args.dir (record { epoch = epoch; packages = packages; images = images })) c.args.dir (PackagesRead epoch packages) c.in_ok-found.found c.judge_images.result _ _ _ repo _ _
    (c.in_ok-found.ensures.goes (PackagesRead epoch packages) repo refl) (c.judge_images.ensures c.args.dir epoch packages)

pub returns-clause-images : goal.returns-clause-images
returns-clause-images g c = images_read (g.K.Desk.view c.args.desk.now) (g.K.Desk.view c.read_manifest.new.desk) c.args.dir c.in_ok-found.found c.judge_images.result c.in_ok-found.ensures.images (c.judge_images.ensures c.args.dir 0 [])
