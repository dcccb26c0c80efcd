use Rattle.std.proofs.Common.{◌<◌}
use Rattle.std.specs.BTreeSet.{btree_set_len}
use Rattle.folder_publish.specs.declared.walk.TheConstants.{GATHER_LIMIT}
use Rattle.folder_publish.proofs.walk.read_folder.Given as goal

abbrev pub invariant-loop-entry : goal.invariant-loop-entry
invariant-loop-entry g l =
    (goal.iterator-loop-entry g).can_next l.entry-iterator ×
    (goal.iterator-loop-entry g).is_finite l.entry-iterator ×
    (btree_set_len l.found.names < GATHER_LIMIT)
