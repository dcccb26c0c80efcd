use Rattle.std.proofs.Common.{sym, ap, ◌∙◌}
use Rattle.std.specs.Prelude.{option_copied, Some}
use Rattle.package_book.specs.Books.{book_at}
use Rattle.boot_core.proofs.Named.{good_book, bad_book, book_roots, no_roots}
use Rattle.boot_core.proofs.hand.listed.Goals as goal

pub returns-in-Some-Good : goal.returns-in-Some-Good
returns-in-Some-Good c =
    let meta = book_at c.args.books.now c.args.root.now in
    c.outer_roots.ensures.list
    ∙ sym (book_roots meta c.in-Some-Good.book (good_book meta c.in-Some-Good.book (sym c.get.ensures ∙ ap option_copied c.in-Some-Good.is ∙ ap Some c.in-Some-Good.field-0-is)))

pub returns-in-Some-Bad : goal.returns-in-Some-Bad
returns-in-Some-Bad c =
    let meta = book_at c.args.books.now c.args.root.now in
    sym (no_roots meta (bad_book meta _ _ (sym c.get.ensures ∙ ap option_copied c.in-Some-Bad.is ∙ ap Some c.in-Some-Bad.field-0-is)))
