-- What is looked for among the names of a package is looked for at the package and among the roots that its
-- book lists.
use Rattle.std.proofs.Common.{◌≡◌, inl, inr, map, Bool, true, false, cond, not, ◌||◌, List, [], ◌∷◌, filter, Option, Some, None, is_some, refl, sym, ap, ◌∙◌}
use Rattle.std.specs.Prelude.{find, option_and_then}
use Rattle.std.specs.Str.{bytes_eq}
use Rattle.std.specs.List.{list_any, list_all}
use Rattle.std.proofs.lemmas.Bool.{cases_Bool}
use Rattle.pkg_names.specs.declared.root.Root.{Root}
use Rattle.pkg_names.specs.Root.{root_eq}
use Rattle.pkg_names.proofs.Roots.{root_eq-true}
use Rattle.std.specs.Prelude.{ℕ, Result, Ok, Err}
use Rattle.std.specs.Option.{option_map}
use Rattle.package_book.specs.Books.{Meta, Books, book_at}
use Rattle.package_book.specs.Books.Meta.{Read, Long}
use Rattle.package_book.specs.declared.fault.PackageFault.{PackageFault}
use Rattle.package_book.specs.declared.shelf.Shelved.TheVariants.{Good, Bad}
use Rattle.package_book.specs.Shelf.{shelved_as, shelved_of}
use Rattle.store_model.specs.State.{State, is_stored}
use Rattle.store_model.specs.Packages.{book_of, the_book, known_book, is_complete}
use Rattle.package_book.specs.Book.{MetaAndFiles, book, outer_at, outer_roots, each_once}
use Rattle.package_book.specs.Names.{names, roots_from, listed_roots, roots_known}

past_filter : (p : Root → Bool) (x : Root) → p x ≡ false → (ys : List Root) → find p (filter (λ other. not (root_eq x other)) ys) ≡ find p ys
past_filter p x fails [] = refl
past_filter p x fails (y ∷ ys) = elim (cases_Bool (root_eq x y)) [
  | inl same ↦
      let fails_here : p y ≡ false = ap p (sym (root_eq-true x y same)) ∙ fails in
      rw (same, fails_here) (past_filter p x fails ys)
  | inr other ↦ rw other (ap (cond (p y) (Some y)) (past_filter p x fails ys))
]

find_once : (p : Root → Bool) (xs : List Root) → find p (each_once xs) ≡ find p xs
find_once p [] = refl
find_once p (x ∷ xs) = elim (cases_Bool (p x)) [
  | inl holds ↦ rw holds refl
  | inr fails ↦ rw fails (past_filter p x fails (each_once xs) ∙ find_once p xs)
]

pub named_find : (p : Root → Bool) (top : Root) (books : Books) → find p (names top books) ≡ cond (p top) (Some top) (find p (roots_known (book_at books top)))
unfolding names
named_find p top books = find_once p (top ∷ roots_known (book_at books top))

pub named_here : (p : Root → Bool) (top : Root) (books : Books) → p top ≡ true → find p (names top books) ≡ Some top
named_here p top books holds = named_find p top books ∙ ap (λ test. cond test (Some top) (find p (roots_known (book_at books top)))) holds

pub named_later : (p : Root → Bool) (top : Root) (books : Books) → p top ≡ false → find p (names top books) ≡ find p (roots_known (book_at books top))
named_later p top books fails = named_find p top books ∙ ap (λ test. cond test (Some top) (find p (roots_known (book_at books top)))) fails

pub any_find : (p : Root → Bool) (xs : List Root) → list_any p xs ≡ is_some (find p xs)
any_find p [] = refl
any_find p (x ∷ xs) = elim (cases_Bool (p x)) [ inl holds ↦ rw holds refl | inr fails ↦ rw fails (any_find p xs) ]

pub all_find : (p : Root → Bool) (xs : List Root) → list_all p xs ≡ not (is_some (find (λ x. not (p x)) xs))
all_find p [] = refl
all_find p (x ∷ xs) = elim (cases_Bool (p x)) [ inl holds ↦ rw holds (all_find p xs) | inr fails ↦ rw fails refl ]

some_cond : (test : Bool) (x : Root) (rest : Option Root) → is_some (cond test (Some x) rest) ≡ (test || is_some rest)
some_cond true x rest = refl
some_cond false x rest = refl

pub named_any : (p : Root → Bool) (top : Root) (books : Books) → list_any p (names top books) ≡ (p top || list_any p (roots_known (book_at books top)))
named_any p top books =
    any_find p (names top books)
    ∙ ap (λ (found : Option Root). is_some found) (named_find p top books)
    ∙ some_cond (p top) top (find p (roots_known (book_at books top)))
    ∙ ap (λ rest. p top || rest) (sym (any_find p (roots_known (book_at books top))))

-- where all that a package names passes, each file that its book lists does
outer_fails : (p : Root → Bool) (path : List ℕ) (outer : List (List ℕ × Root)) (file : Root) → outer_at path outer ≡ Some file → find p (map (λ (pair : List ℕ × Root). pair.1) outer) ≡ None → p file ≡ false
outer_fails p path [] file at none = absurd cc
outer_fails p path (pair ∷ outer) file at none =
    elim (cases_Bool (p pair.1)) [
      | inl holds ↦ absurd (cc (rw holds at none))
      | inr fails ↦ first fails (bytes_eq pair.0 path) at (λ later. outer_fails p path outer file later (rw fails at none))
    ]
  where
    first : p pair.1 ≡ false → (test : Bool) → cond test (Some pair.1) (outer_at path outer) ≡ Some file → (outer_at path outer ≡ Some file → p file ≡ false) → p file ≡ false
    first fails true same later = let is : pair.1 ≡ file = cc in ap p (sym is) ∙ fails
    first fails false other later = later other

known_roots : (meta : Option Meta) (found : MetaAndFiles) → option_and_then (λ m. the_book (book_of m)) meta ≡ Some found → roots_known meta ≡ outer_roots found.outer
unfolding listed_roots
known_roots None found h = absurd cc
known_roots (Some (Long len)) found h = absurd cc
known_roots (Some (Read bytes)) found h = first (book bytes) h where
  first : (r : Result MetaAndFiles PackageFault) → the_book r ≡ Some found → roots_from r ≡ outer_roots found.outer
  first (Ok other) h = let same : other ≡ found = cc in ap (λ (f : MetaAndFiles). outer_roots f.outer) same
  first (Err fault) h = absurd cc

pub outer_passes : (p : Root → Bool) (top : Root) (books : Books) (found : MetaAndFiles) (path : List ℕ) (file : Root) → known_book books top ≡ Some found → outer_at path found.outer ≡ Some file → find p (names top books) ≡ None → p file ≡ false
outer_passes p top books found path file known at none =
    outer_fails p path found.outer file at
    (sym (find_once p (map (λ (pair : List ℕ × Root). pair.1) found.outer))
    ∙ ap (find p) (sym (known_roots (book_at books top) found known))
    ∙ past_top (p top) (sym (named_find p top books) ∙ none)) where
      past_top : (test : Bool) → cond test (Some top) (find p (roots_known (book_at books top))) ≡ None → find p (roots_known (book_at books top)) ≡ None
      past_top true h = absurd cc
      past_top false h = h

-- what a shelf has of a package tells the roots that its book lists
pub good_roots : (meta : Option Meta) (found : MetaAndFiles) → option_map shelved_of meta ≡ Some (Good found) → roots_known meta ≡ outer_roots found.outer
unfolding listed_roots
good_roots None found h = absurd cc
good_roots (Some (Long len)) found h = absurd cc
good_roots (Some (Read bytes)) found h = first (book bytes) h where
  first : (r : Result MetaAndFiles PackageFault) → Some (shelved_as bytes r) ≡ Some (Good found) → roots_from r ≡ outer_roots found.outer
  first (Ok other) h = let same : other ≡ found = cc in ap (λ (f : MetaAndFiles). outer_roots f.outer) same
  first (Err fault) h = absurd cc

pub bad_roots : (meta : Option Meta) (fault : PackageFault) (bytes : List ℕ) → option_map shelved_of meta ≡ Some (Bad fault bytes) → roots_known meta ≡ []
unfolding listed_roots
bad_roots None fault bytes h = absurd cc
bad_roots (Some (Long len)) fault bytes h = refl
bad_roots (Some (Read text)) fault bytes h = first (book text) h where
  first : (r : Result MetaAndFiles PackageFault) → Some (shelved_as text r) ≡ Some (Bad fault bytes) → roots_from r ≡ []
  first (Ok other) h = absurd cc
  first (Err why) h = refl

pub no_roots : (meta : Option Meta) → option_map shelved_of meta ≡ None → roots_known meta ≡ []
no_roots None h = refl
no_roots (Some meta) h = absurd cc

pub complete_by : (s : State) (root : Root) → is_some (known_book s.books root) ≡ true
    → is_complete s root ≡ not (is_some (find (λ name. not (is_stored s.stock name)) (names root s.books)))
complete_by s root known = rw known (all_find (is_stored s.stock) (names root s.books))
