use Rattle.repo_publish.proofs.Named.{contents_named}
use Rattle.repo_publish.proofs.package.inner_of.Goals as goal

pub put_made-requires : goal.put_made-requires
put_made-requires c = contents_named
