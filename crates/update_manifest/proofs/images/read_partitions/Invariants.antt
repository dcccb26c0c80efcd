use Rattle.std.proofs.Common.{drop}
use Rattle.serde_json.specs.View.{items_view}
use Rattle.system_lists.specs.Document.{entries}
use Rattle.update_manifest.specs.Partition.{partition_in}
use Rattle.update_manifest.proofs.Finding.{Reached}
use Rattle.update_manifest.proofs.images.read_partitions.Given as goal

abbrev pub invariant-loop-value : goal.invariant-loop-value
invariant-loop-value l = Reached l.found (entries partition_in (items_view (drop l.value-index l.values))) (entries partition_in (items_view l.values))
