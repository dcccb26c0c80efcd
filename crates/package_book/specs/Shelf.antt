-- What a shelf has of each package.
use Rattle.std.specs.Prelude.{ℕ, List, [], Result, Ok, Err}
use Rattle.package_book.specs.declared.shelf.Shelved.{Shelved}
use Rattle.package_book.specs.declared.shelf.Shelved.TheVariants.{Good, Bad}
use Rattle.package_book.specs.declared.fault.PackageFault.{PackageFault}
use Rattle.package_book.specs.declared.fault.PackageFault.TheVariants as faults
use Rattle.package_book.specs.Books.{Meta}
use Rattle.package_book.specs.Books.Meta.{Read, Long}
use Rattle.package_book.specs.Book.{MetaAndFiles, book}

abbrev pub shelved_as : List ℕ → Result MetaAndFiles PackageFault → Shelved
shelved_as bytes (Ok found) = Good found
shelved_as bytes (Err fault) = Bad fault bytes

-- the book of a meta blob, or its first fault and its bytes; of one that is known by its length, that
-- it is too long, and no bytes
abbrev pub shelved_of : Meta → Shelved
shelved_of (Read bytes) = shelved_as bytes (book bytes)
shelved_of (Long len) = Bad (faults.Long len) []
