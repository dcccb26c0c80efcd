use Rattle.std.proofs.Common.{◌≡◌, Some, option_copied, sym, ap, ◌∙◌}
use Rattle.node_table.specs.Entries.{entry_of}
use Rattle.blob_disk.proofs.StoredBytes.{entry_is}
use Rattle.blob_disk.proofs.entries.entry_at.Goals as goal

pub returns-clause-is : goal.returns-clause-is
returns-clause-is c =
    let t = c.args.table.now in
    let found : entry_of t.entries c.args.root.now ≡ Some c.unwrap.result.now = sym c.find.ensures.found ∙ ap (λ r. option_copied r) c.unwrap.ensures in
    entry_is t.geometry t.entries c.args.root.now c.unwrap.result.now c.find.ensures.sound found
