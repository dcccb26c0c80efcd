use Rattle.std.proofs.Common.{◌≡◌, ◌∷◌, take}
use Rattle.package_book.specs.Books.{book_at}
use Rattle.package_book.specs.Names.{roots_known}
use Rattle.collector.proofs.NameLists.{but}
use Rattle.collector.proofs.names.names_of.Given as goal

abbrev pub invariant-loop-root : goal.invariant-loop-root
invariant-loop-root l = l.roots.items ≡ l.top ∷ but l.top (take l.root-index (roots_known (book_at l.shelf l.top)))
