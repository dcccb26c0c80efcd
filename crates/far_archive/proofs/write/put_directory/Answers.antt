use Rattle.std.proofs.Common.{◌++◌}
use Rattle.std.specs.List.{flat_map}
use Rattle.far_archive.specs.Archive.{item_bytes}
use Rattle.far_archive.specs.Written.{items_from, listed}
use Rattle.far_archive.proofs.Lists.{one_more_item}
use Rattle.far_archive.proofs.write.put_directory.Goals as goal

pub loop-entry-preserved : goal.loop-entry-preserved
loop-entry-preserved c =
    one_more_item c.loop-entry.out.items c.put_item.new.out.items (c.args.out.now.items ++ flat_map item_bytes (items_from (listed c.args.entries.now) 0 c.args.data_start)) c.args.entries.now c.loop-entry.entry-index
    c.loop-entry.name_at c.loop-entry.data_at c.in_ok-name_at.field-0-0 c.in_ok-name_at.field-0-1 c.entry-item.result c.loop-entry-test.true c.entry-item.is c.in_ok-name_at.ensures.0 c.in_ok-name_at.ensures.1 c.in_ok-put_item.ensures c.loop-entry.invariant
