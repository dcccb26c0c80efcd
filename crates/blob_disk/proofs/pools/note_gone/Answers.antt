use Rattle.std.proofs.Common.{◌≡◌, ℕ, List, length, get_or, sym, ap, arith}
use Rattle.std.proofs.lemmas.List.{get_or_read}
use Rattle.node_table.specs.declared.entry.Entry.{Entry}
use Rattle.blob_disk.proofs.Removing.{gone_room}
use Rattle.blob_disk.proofs.pools.note_gone.Goals as goal

pub note_one-requires : goal.note_one-requires
note_one-requires c =
    let entries : List Entry = c.args.entries.now in
    let i : ℕ = c.loop-entry.entry-index in
    let entry : Entry = c.entry-item.result in
    let here : (d : Entry) → get_or entries i d ≡ entry = λ d. sym (get_or_read entries i entry c.loop-entry-test.true c.entry-item.is d) in
    omega (arith, gone_room c.args.roots.now entries i entry c.loop-entry-test.true here, ap length c.loop-entry.invariant.items, c.loop-entry.spare.ok.0, c.loop-entry.invariant.room, c.requires)
