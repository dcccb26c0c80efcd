use Rattle.system_updater.proofs.Goes.{goes_then}
use Rattle.system_updater.proofs.manifests.read_plan.Goals as goal

pub returns-in-Err-clause-goes : goal.returns-in-Err-clause-goes
returns-in-Err-clause-goes g c = λ repo. goes_then _ _ _ _ _ _ repo repo repo _ _ _ (c.in-Err.ensures.goes repo) (c.refuse.ensures.goes c.args.dir repo)

pub returns-in-Err-clause-images : goal.returns-in-Err-clause-images
returns-in-Err-clause-images g c = c.refuse.ensures.early c.in-Err.ensures.images
