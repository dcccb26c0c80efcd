use Rattle.std.proofs.Common.{◌≡◌, Ok, ap, sym, ◌∙◌, arith}
use Rattle.far_archive.specs.Fields.{AreBytes}
use Rattle.package_book.specs.Book.{book}
use Rattle.repo_publish.proofs.package.judge.Goals as goal

pub returns-in-Ok-book_of-clause-book : goal.returns-in-Ok-book_of-clause-book
returns-in-Ok-book_of-clause-book c =
    let meta = c.args.meta.now in
    let are : AreBytes meta = λ i. omega (arith, c.type_inv.meta i) in
    let found : book meta ≡ Ok c.in-Ok-book_of.field-0 = ap book (sym c.in-Ok.ensures.items) ∙ c.in-Ok-book_of.ensures.found in
    (c.in-Ok-book_of.field-0, c.books_are_read.ensures.stands meta c.in-Ok-book_of.field-0 are found)
