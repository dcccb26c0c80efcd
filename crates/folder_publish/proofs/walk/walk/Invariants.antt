use Rattle.std.proofs.Common.{◌<◌}
use Rattle.std.specs.BTreeSet.{btree_set_len}
use Rattle.folder_publish.specs.declared.walk.TheConstants.{GATHER_LIMIT}
use Rattle.folder_publish.proofs.walk.walk.Given as goal

abbrev pub invariant-loop : goal.invariant-loop
invariant-loop g l = btree_set_len l.found.names < GATHER_LIMIT
