use Rattle.std.proofs.Common.{None, refl, subst}
use Rattle.package_book.specs.Books.{Books, Sets}
use Rattle.package_book.specs.Invariant.{books_in}
use Rattle.package_book.proofs.Shelves.{sets, still_shelf}
use Rattle.package_book.proofs.shelf.Shelf.remove.Goals as goal

pub invariant_of-self : goal.invariant_of-self
invariant_of-self c = still_shelf c.args.root.now None c.self.inside.entries c.remove.new.self c.self.invariant c.remove.ensures.updates.0 refl

pub returns : goal.returns
returns c =
    subst (λ (old : Books). Sets c.args.root.now None old (books_in c.remove.new.self)) c.self.view_is
    (sets c.args.root.now None c.self.inside.entries c.remove.new.self c.remove.ensures.updates.0)
