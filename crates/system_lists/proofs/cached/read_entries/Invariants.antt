use Rattle.std.proofs.Common.{◌≡◌, ◌≤◌, [], length, drop}
use Rattle.serde_json.specs.View.{items_view}
use Rattle.system_lists.specs.Document.{entries}
use Rattle.system_lists.specs.Entries.{listed}
use Rattle.system_lists.specs.Lists.{has_path_of}
use Rattle.system_lists.specs.Cached.{pinned_entry}
use Rattle.system_lists.proofs.cached.read_entries.Given as goal

abbrev pub invariant-loop-value : goal.invariant-loop-value
invariant-loop-value l = record {
  few : length l.list.items ≤ 4096;
  left : listed has_path_of l.list.items (entries pinned_entry (items_view (drop l.value-index l.values))) ≡ listed has_path_of [] (entries pinned_entry (items_view l.values));
}
