use Rattle.repo_publish.proofs.Ended.{package_ends}
use Rattle.repo_publish.proofs.publishing.meta_of.Goals as goal

pub returns-in-Err-package_of-clause-end : goal.returns-in-Err-package_of-clause-end
returns-in-Err-package_of-clause-end g c =
    let is = c.in-Ok.ensures.gathered in
    package_ends (g.T.Tree.left c.args.tree.now) c.args.path.now is.done c.in-Err-package_of.end is.all is.taken.fine.refused (c.in-Err-package_of.ensures.end is.done is.taken)
