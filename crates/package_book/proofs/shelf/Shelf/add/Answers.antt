use Rattle.std.proofs.Common.{Some, subst}
use Rattle.package_book.specs.Books.{Books, Sets}
use Rattle.package_book.specs.Books.Meta.{Read}
use Rattle.package_book.specs.Invariant.{books_in}
use Rattle.package_book.proofs.Shelves.{still_shelf, added_stands, added_sets}
use Rattle.package_book.proofs.shelf.Shelf.add.Goals as goal

pub invariant_of-self-2 : goal.invariant_of-self-2
invariant_of-self-2 c =
    still_shelf c.args.root (Some c.in_ok-shelved.shelved) c.self.inside.entries c.insert.new.self c.self.invariant c.in_ok-insert.ensures.updates.0
    (added_stands c.in_ok-shelved.shelved (Read c.args.meta.items) c.in_ok-shelved.ensures)

pub returns-clause-ok : goal.returns-clause-ok
returns-clause-ok c =
    subst (λ (old : Books). Sets c.args.root (Some (Read c.args.meta.items)) old (books_in c.insert.new.self)) c.self.view_is
    (added_sets c.args.root c.in_ok-shelved.shelved (Read c.args.meta.items) c.self.inside.entries c.insert.new.self c.in_ok-shelved.ensures c.in_ok-insert.ensures.updates.0)
