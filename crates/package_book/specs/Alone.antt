-- The names of a package whose book isn't looked at. The store in memory and the model take these until
-- they have books.
use Rattle.std.specs.Prelude.{◌≡◌, List, [], ◌∷◌, refl}
use Rattle.pkg_names.specs.declared.root.Root.{Root}
use Rattle.package_book.specs.Books.{Books}

-- the package itself, whatever is known of it
pub names_alone : Root → Books → List Root
names_alone top books = top ∷ []

pub names_alone-itself : (top : Root) (books : Books) → names_alone top books ≡ top ∷ []
unfolding names_alone
names_alone-itself top books = refl
