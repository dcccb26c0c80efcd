use Rattle.std.proofs.Common.{◌≡◌, None, Err, ap, rules}
use Rattle.system_updater.specs.Serving.Point.{Staging}
use Rattle.system_updater.specs.Steps.{or_refused}
use Rattle.system_updater.proofs.Goes.{goes_then, goes_to}
use Rattle.system_updater.proofs.Grown.{grew_none, grew_then, grew_goes, did_wider}
use Rattle.system_updater.specs.Viewing.{Told, told}
use Rattle.system_updater.proofs.manifests.read_all.Goals as goal

pub returns-in_err-packages-clause-goes : goal.returns-in_err-packages-clause-goes
returns-in_err-packages-clause-goes g c = λ repo.
    let same : Err c.in_err-packages.field-0.0 ≡ c.from_residual-in_err-packages.result = search rules in
    goes_to _ _ _ _ _ repo repo _ _ (ap (or_refused (Staging c.args.dir) c.args.dir) same)
    (goes_then _ _ _ _ _ _ repo repo repo _ _ _ (c.in_ok-epoch.ensures.goes repo) (c.in_err-packages.ensures.goes c.in_ok-epoch.epoch repo))

pub returns-in_err-images-clause-goes : goal.returns-in_err-images-clause-goes
returns-in_err-images-clause-goes g c = λ repo.
    let same : Err c.in_err-images.field-0.0 ≡ c.from_residual-in_err-images.result = search rules in
    goes_to _ _ _ _ _ repo repo _ _ (ap (or_refused (Staging c.args.dir) c.args.dir) same)
    (goes_then _ _ _ _ _ _ repo repo repo _ _ _ (goes_then _ _ _ _ _ _ repo repo repo _ _ _ (c.in_ok-epoch.ensures.goes repo) (c.in_ok-packages.ensures.goes c.in_ok-epoch.epoch repo))
    (c.in_err-images.ensures.goes c.in_ok-epoch.epoch c.in_ok-packages.packages repo))

pub returns-clause-goes : goal.returns-clause-goes
returns-clause-goes g c = λ repo.
    goes_then _ _ _ _ _ _ repo repo repo _ _ _ (goes_then _ _ _ _ _ _ repo repo repo _ _ _ (c.in_ok-epoch.ensures.goes repo) (c.in_ok-packages.ensures.goes c.in_ok-epoch.epoch repo))
    (c.in_ok-images.ensures.goes c.in_ok-epoch.epoch c.in_ok-packages.packages repo)

pub returns-clause-images : goal.returns-clause-images
returns-clause-images g c =
    let repo : Told = told None None 0 0 in
    let v = g.K.Desk.view c.args.desk.now in
    let w = g.K.Desk.view c.epoch_of.new.desk in
    let u = g.K.Desk.view c.packages_of.new.desk in
    let z = g.K.Desk.view c.images_of.new.desk in
    let epoch = grew_goes _ _ v w _ _ _ _ (c.in_ok-epoch.ensures.goes repo) in
    let packages = grew_goes _ _ w u _ _ _ _ (c.in_ok-packages.ensures.goes c.in_ok-epoch.epoch repo) in
    did_wider v u z z _ (grew_then v w u epoch packages) (grew_none z) c.in_ok-images.ensures.images
