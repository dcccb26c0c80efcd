-- Entries of protected packages, and what is known of these.
use Rattle.std.specs.Prelude.{List}
use Rattle.pkg_names.specs.declared.root.Root.{Root}
use Rattle.package_book.specs.Books.{Books}

pub record Protected : Type 0 where
  pub entries : List Root
  pub books : Books
