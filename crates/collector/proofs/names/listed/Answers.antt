use Rattle.std.proofs.Common.{Some, sym, ap, ◌∙◌}
use Rattle.std.specs.Prelude.{option_copied}
use Rattle.package_book.specs.declared.shelf.Shelved.{Shelved}
use Rattle.package_book.specs.Books.{book_at}
use Rattle.collector.proofs.NameLists.{listed_by, listed_so}
use Rattle.collector.proofs.names.listed.Goals as goal

pub returns-in-Some-Good : goal.returns-in-Some-Good
returns-in-Some-Good c =
    let found = ap option_copied c.in-Some-Good.is ∙ ap (λ (s : Shelved). Some s) c.in-Some-Good.field-0-is in
    c.outer_roots.ensures.list ∙ ap listed_by (sym found ∙ c.get.ensures) ∙ listed_so (book_at c.args.shelf.now c.args.top.now)

pub returns-in-Some-Bad : goal.returns-in-Some-Bad
returns-in-Some-Bad c =
    let found = ap option_copied c.in-Some-Bad.is ∙ ap (λ (s : Shelved). Some s) c.in-Some-Bad.field-0-is in
    ap listed_by (sym found ∙ c.get.ensures) ∙ listed_so (book_at c.args.shelf.now c.args.top.now)

pub returns-in-None : goal.returns-in-None
returns-in-None c = ap listed_by (ap option_copied (sym c.in-None.is) ∙ c.get.ensures) ∙ listed_so (book_at c.args.shelf.now c.args.top.now)
