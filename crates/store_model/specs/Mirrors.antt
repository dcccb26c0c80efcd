-- States that differ in the order of their books alone.
use Rattle.std.specs.Prelude.{◌≡◌}
use Rattle.pkg_names.specs.declared.root.Root.{Root}
use Rattle.package_book.specs.Books.{Books, book_at}
use Rattle.store_model.specs.State.{State}

-- the books know the same of each root
abbrev pub SameBooks : Books → Books → Type 0
SameBooks books others = (root : Root) → book_at books root ≡ book_at others root

-- the states have the same books, and are the same in all else
pub record Mirrors (s t : State) : Type 0 where
  pub rest : t ≡ record s { books = t.books }
  pub books : SameBooks s.books t.books
