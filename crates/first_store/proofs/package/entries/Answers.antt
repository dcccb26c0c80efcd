use Rattle.first_store.proofs.Named.{contents_named, package_named}
use Rattle.first_store.proofs.package.entries.Goals as goal

pub entry-requires : goal.entry-requires
entry-requires c = contents_named

pub entry-requires-2 : goal.entry-requires-2
entry-requires-2 c = package_named
