use Rattle.std.proofs.Common.{sym, ◌∙◌}
use Rattle.package_book.specs.Books.{book_at}
use Rattle.boot_core.proofs.Entries.{unseen, blob_seen}
use Rattle.boot_core.proofs.seen.look_at.Goals as goal

pub returns-in_ok-keep-in-Bytes-clause-seen : goal.returns-in_ok-keep-in-Bytes-clause-seen
returns-in_ok-keep-in-Bytes-clause-seen g c =
    let fresh = unseen (book_at c.args.seen.now.books c.args.root.now) (sym c.is_seen.ensures ∙ c.if-is_seen.false) in
    blob_seen (g.L.Look.stock c.args.look.now) c.args.seen.now c.keep.new.seen c.args.root.now c.in-Bytes.bytes fresh c.in_ok-keep-in-Bytes.ensures.books (g.L.Look.blobs c.args.look.now) c.in_ok-keep-in-Bytes.ensures.blobs c.in-Bytes.ensures.gives.0 c.in-Bytes.ensures.gives.1 c.in-Bytes.ensures.told
