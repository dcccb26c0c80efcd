use Rattle.std.proofs.Common.{sym, ap, ◌∙◌}
use Rattle.std.specs.Prelude.{option_copied, Some}
use Rattle.package_book.specs.Books.{book_at}
use Rattle.plain_stock.proofs.Named.{good_roots, bad_roots, no_roots}
use Rattle.plain_stock.proofs.packages.listed.Goals as goal

pub returns-in-Some-Good : goal.returns-in-Some-Good
returns-in-Some-Good c =
    c.outer_roots.ensures.list
    ∙ sym (good_roots (book_at c.args.books.now c.args.root.now) c.in-Some-Good.book (sym c.get.ensures ∙ ap option_copied c.in-Some-Good.is ∙ ap Some c.in-Some-Good.field-0-is))

pub returns-in-Some-Bad : goal.returns-in-Some-Bad
returns-in-Some-Bad c =
    sym (bad_roots (book_at c.args.books.now c.args.root.now) _ _ (sym c.get.ensures ∙ ap option_copied c.in-Some-Bad.is ∙ ap Some c.in-Some-Bad.field-0-is))

pub returns-in-None : goal.returns-in-None
returns-in-None c =
    sym (no_roots (book_at c.args.books.now c.args.root.now) (sym c.get.ensures ∙ ap option_copied c.in-None.is))
