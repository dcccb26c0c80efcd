-- What a shelf has of a package tells its book, and what is looked for among its names is looked for at the
-- package and among the roots that its book lists.
use Rattle.std.proofs.Common.{◌≡◌, inl, inr, ℕ, Bool, true, false, cond, not, List, [], ◌∷◌, filter, Option, Some, None, refl, sym, ap, ◌∙◌}
use Rattle.std.specs.Prelude.{find, Result, Ok, Err}
use Rattle.std.specs.Option.{option_map}
use Rattle.std.proofs.lemmas.Bool.{cases_Bool}
use Rattle.pkg_names.specs.declared.root.Root.{Root}
use Rattle.pkg_names.specs.Root.{root_eq}
use Rattle.pkg_names.proofs.Roots.{root_eq-true}
use Rattle.package_book.specs.Books.{Meta, Books, book_at}
use Rattle.package_book.specs.Books.Meta.{Read, Long}
use Rattle.package_book.specs.declared.fault.PackageFault.{PackageFault}
use Rattle.package_book.specs.declared.shelf.Shelved.TheVariants.{Good, Bad}
use Rattle.package_book.specs.Shelf.{shelved_as, shelved_of}
use Rattle.package_book.specs.Book.{MetaAndFiles, book, outer_roots, each_once}
use Rattle.package_book.specs.Names.{names, roots_from, listed_roots, roots_known}
use Rattle.boot_core.specs.Seen.{the_book, book_known}

-- ---- a shelf

pub good_book : (meta : Option Meta) (found : MetaAndFiles) → option_map shelved_of meta ≡ Some (Good found) → book_known meta ≡ Some found
good_book None found h = absurd cc
good_book (Some (Long len)) found h = absurd cc
good_book (Some (Read bytes)) found h = first (book bytes) h where
  first : (r : Result MetaAndFiles PackageFault) → Some (shelved_as bytes r) ≡ Some (Good found) → the_book r ≡ Some found
  first (Ok other) h = let same : other ≡ found = cc in ap (λ (f : MetaAndFiles). Some f) same
  first (Err fault) h = absurd cc

pub bad_book : (meta : Option Meta) (fault : PackageFault) (bytes : List ℕ) → option_map shelved_of meta ≡ Some (Bad fault bytes) → book_known meta ≡ None
bad_book None fault bytes h = absurd cc
bad_book (Some (Long len)) fault bytes h = refl
bad_book (Some (Read text)) fault bytes h = first (book text) h where
  first : (r : Result MetaAndFiles PackageFault) → Some (shelved_as text r) ≡ Some (Bad fault bytes) → the_book r ≡ None
  first (Ok other) h = absurd cc
  first (Err why) h = refl

pub no_book_known : (meta : Option Meta) → option_map shelved_of meta ≡ None → book_known meta ≡ None
no_book_known None h = refl
no_book_known (Some meta) h = absurd cc

pub book_roots : (meta : Option Meta) (found : MetaAndFiles) → book_known meta ≡ Some found → roots_known meta ≡ outer_roots found.outer
unfolding listed_roots
book_roots None found h = absurd cc
book_roots (Some (Long len)) found h = absurd cc
book_roots (Some (Read bytes)) found h = first (book bytes) h where
  first : (r : Result MetaAndFiles PackageFault) → the_book r ≡ Some found → roots_from r ≡ outer_roots found.outer
  first (Ok other) h = let same : other ≡ found = cc in ap (λ (f : MetaAndFiles). outer_roots f.outer) same
  first (Err fault) h = absurd cc

pub no_roots : (meta : Option Meta) → book_known meta ≡ None → roots_known meta ≡ []
unfolding listed_roots
no_roots None h = refl
no_roots (Some (Long len)) h = refl
no_roots (Some (Read bytes)) h = first (book bytes) h where
  first : (r : Result MetaAndFiles PackageFault) → the_book r ≡ None → roots_from r ≡ []
  first (Ok other) h = absurd cc
  first (Err fault) h = refl

-- ---- names

past_filter : (p : Root → Bool) (x : Root) → p x ≡ false → (ys : List Root) → find p (filter (λ other. not (root_eq x other)) ys) ≡ find p ys
past_filter p x fails [] = refl
past_filter p x fails (y ∷ ys) = elim (cases_Bool (root_eq x y)) [
  | inl same ↦
      let fails_here : p y ≡ false = ap p (sym (root_eq-true x y same)) ∙ fails in
      rw (same, fails_here) (past_filter p x fails ys)
  | inr other ↦ rw other (ap (cond (p y) (Some y)) (past_filter p x fails ys))
]

find_once : (p : Root → Bool) (xs : List Root) → find p (each_once xs) ≡ find p xs
find_once p [] = refl
find_once p (x ∷ xs) = elim (cases_Bool (p x)) [
  | inl holds ↦ rw holds refl
  | inr fails ↦ rw fails (past_filter p x fails (each_once xs) ∙ find_once p xs)
]

pub named_find : (p : Root → Bool) (top : Root) (books : Books) → find p (names top books) ≡ cond (p top) (Some top) (find p (roots_known (book_at books top)))
unfolding names
named_find p top books = find_once p (top ∷ roots_known (book_at books top))

pub named_here : (p : Root → Bool) (top : Root) (books : Books) → p top ≡ true → find p (names top books) ≡ Some top
named_here p top books holds = named_find p top books ∙ ap (λ test. cond test (Some top) (find p (roots_known (book_at books top)))) holds

pub named_later : (p : Root → Bool) (top : Root) (books : Books) → p top ≡ false → find p (names top books) ≡ find p (roots_known (book_at books top))
named_later p top books fails = named_find p top books ∙ ap (λ test. cond test (Some top) (find p (roots_known (book_at books top)))) fails

-- what is known of a package gives it its names
pub names_known : (top : Root) (books others : Books) → book_at books top ≡ book_at others top → names top books ≡ names top others
unfolding names
names_known top books others same = ap (λ (meta : Option Meta). each_once (top ∷ roots_known meta)) same
