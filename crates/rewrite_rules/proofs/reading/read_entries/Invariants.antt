use Rattle.std.proofs.Common.{drop}
use Rattle.serde_json.specs.View.{items_view}
use Rattle.system_lists.specs.Document.{entries}
use Rattle.rewrite_rules.specs.Content.{rule_in}
use Rattle.rewrite_rules.proofs.Entries.{Reached}
use Rattle.rewrite_rules.proofs.reading.read_entries.Given as goal

abbrev pub invariant-loop-value : goal.invariant-loop-value
invariant-loop-value l = Reached l.rules.items (entries rule_in (items_view (drop l.value-index l.values))) (entries rule_in (items_view l.values))
