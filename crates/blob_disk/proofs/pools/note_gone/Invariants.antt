use Rattle.std.proofs.Common.{◌≡◌, ◌≤◌, take, vec_capacity}
use Rattle.blob_disk.specs.Gone.{gone_pages}
use Rattle.blob_disk.proofs.pools.note_gone.Given as goal

abbrev pub invariant-loop-entry : goal.invariant-loop-entry
invariant-loop-entry l =
    record {
      items : l.spare.items ≡ gone_pages l.roots (take l.entry-index l.entries);
      room : vec_capacity l.fn.spare ≤ vec_capacity l.spare;
    }
