use Rattle.std.proofs.Common.{◌≡◌, ◌++◌, drop}
use Rattle.std.specs.List.{flat_map}
use Rattle.far_archive.specs.Archive.{item_bytes}
use Rattle.far_archive.specs.Written.{items_from, listed}
use Rattle.far_archive.proofs.write.put_directory.Given as goal

abbrev pub invariant-loop-entry : goal.invariant-loop-entry
invariant-loop-entry l =
    l.out.items ++ flat_map item_bytes (items_from (listed (drop l.entry-index l.entries)) l.name_at l.data_at)
    ≡ l.fn.out.items ++ flat_map item_bytes (items_from (listed l.entries) 0 l.data_start)
