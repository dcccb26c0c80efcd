-- The names of a package as a list, and the roots that some packages name.
use Rattle.std.proofs.Common.{◌≡◌, ℕ, ◌+◌, ◌<◌, Bool, true, false, not, ◌||◌, List, [], ◌∷◌, ◌++◌, length, get_or, take, Option, Some, None, Result, Ok, Err, refl, sym, ap, ◌∙◌, inl, inr}
use Rattle.std.specs.Prelude.{map, filter}
use Rattle.std.specs.Option.{option_map}
use Rattle.std.proofs.lemmas.Bool.{cases_Bool}
use Rattle.std.proofs.lemmas.List.{take_more}
use Rattle.pkg_names.specs.declared.root.Root.{Root}
use Rattle.pkg_names.specs.Root.{root_eq}
use Rattle.pkg_names.proofs.Roots.{root_eq-true}
use Rattle.package_book.specs.declared.shelf.Shelved.{Shelved}
use Rattle.package_book.specs.declared.shelf.Shelved.TheVariants.{Good, Bad}
use Rattle.package_book.specs.declared.fault.PackageFault.{PackageFault}
use Rattle.package_book.specs.Books.{Meta, Books, book_at}
use Rattle.package_book.specs.Books.Meta.{Read, Long}
use Rattle.package_book.specs.Book.{MetaAndFiles, book, each_once, outer_roots}
use Rattle.package_book.specs.Names.{roots_from, listed_roots, roots_known, names}
use Rattle.package_book.specs.Shelf.{shelved_as, shelved_of}
use Rattle.package_book.specs.Unprotected.{has_root, is_named}

-- ---- what a shelf lists

-- the roots that an entry of a shelf lists
abbrev pub listed_by : Option Shelved → List Root
listed_by (Some (Good found)) = outer_roots found.outer
listed_by (Some (Bad fault bytes)) = []
listed_by None = []

by_reading : (bytes : List ℕ) (found : Result MetaAndFiles PackageFault) → listed_by (Some (shelved_as bytes found)) ≡ roots_from found
by_reading bytes (Ok found) = refl
by_reading bytes (Err fault) = refl

pub listed_so : (meta : Option Meta) → listed_by (option_map shelved_of meta) ≡ roots_known meta
unfolding listed_roots
listed_so None = refl
listed_so (Some (Read bytes)) = by_reading bytes (book bytes)
listed_so (Some (Long len)) = refl

-- ---- each once

abbrev pub but : Root → List Root → List Root
but root roots = filter (λ other. not (root_eq root other)) roots

but_twice : (root : Root) (roots : List Root) → but root (but root roots) ≡ but root roots
but_twice root [] = refl
but_twice root (x ∷ roots) =
    elim (cases_Bool (root_eq root x)) [
      | inl same ↦ rw same (but_twice root roots)
      | inr differs ↦ rw (differs, differs) (ap (λ (l : List Root). x ∷ l) (but_twice root roots))
    ]

but_swap : (root other : Root) (roots : List Root) → but root (but other roots) ≡ but other (but root roots)
but_swap root other [] = refl
but_swap root other (x ∷ roots) =
    elim (cases_Bool (root_eq root x)) [
      | inl same ↦ elim (cases_Bool (root_eq other x)) [
        | inl too ↦ rw (same, too) (but_swap root other roots)
        | inr kept ↦ rw (same, kept, same) (but_swap root other roots)
      ]
      | inr differs ↦ elim (cases_Bool (root_eq other x)) [
        | inl too ↦ rw (differs, too) (but_swap root other roots)
        | inr kept ↦ rw (differs, kept, differs) (ap (λ (l : List Root). x ∷ l) (but_swap root other roots))
      ]
    ]

-- each once of a list without a root
each_once-but : (root : Root) (roots : List Root) → each_once (but root roots) ≡ but root (each_once roots)
each_once-but root [] = refl
each_once-but root (x ∷ roots) =
    elim (cases_Bool (root_eq root x)) [
      | inl same ↦
          rw same (each_once-but root roots ∙ sym (but_twice root (each_once roots)) ∙ ap (λ (r : Root). but root (but r (each_once roots))) (root_eq-true root x same))
      | inr differs ↦
          rw differs (ap (λ (l : List Root). x ∷ l) (ap (but x) (each_once-but root roots) ∙ but_swap x root (each_once roots)))
    ]

pub each_once-twice : (roots : List Root) → each_once (each_once roots) ≡ each_once roots
each_once-twice [] = refl
each_once-twice (x ∷ roots) =
    ap (λ (l : List Root). x ∷ l)
    (ap (but x) (each_once-but x (each_once roots)) ∙ but_twice x (each_once (each_once roots)) ∙ ap (but x) (each_once-twice roots))

once_known : (meta : Option Meta) → each_once (roots_known meta) ≡ roots_known meta
unfolding listed_roots
once_known None = refl
once_known (Some (Long len)) = refl
once_known (Some (Read bytes)) = once_read (book bytes)
  where
    once_read : (found : Result MetaAndFiles PackageFault) → each_once (roots_from found) ≡ roots_from found
    once_read (Ok found) = each_once-twice (map (λ pair. pair.1) found.outer)
    once_read (Err fault) = refl

-- the names of a package: itself, and what its book lists but itself
pub names_so : (top : Root) (books : Books) → names top books ≡ top ∷ but top (roots_known (book_at books top))
unfolding names
names_so top books = ap (λ (l : List Root). top ∷ but top l) (once_known (book_at books top))

-- ---- what packages name

is_named-append : (tops others : List Root) (books : Books) (root : Root) → is_named (tops ++ others) books root ≡ (is_named tops books root || is_named others books root)
is_named-append [] others books root = refl
is_named-append (top ∷ tops) others books root =
    elim (cases_Bool (has_root (names top books) root)) [
      | inl named ↦ rw named refl
      | inr unnamed ↦ rw unnamed (is_named-append tops others books root)
    ]

or_false : (b : Bool) → (b || false) ≡ b
or_false true = refl
or_false false = refl

pub named_more : (tops : List Root) (i : ℕ) (d : Root) (books : Books) (root : Root) → i < length tops
    → is_named (take (i + 1) tops) books root ≡ (is_named (take i tops) books root || has_root (names (get_or tops i d) books) root)
named_more tops i d books root lt =
    ap (λ (l : List Root). is_named l books root) (take_more tops i d lt)
    ∙ is_named-append (take i tops) (get_or tops i d ∷ []) books root
    ∙ ap (λ (b : Bool). is_named (take i tops) books root || b) (or_false (has_root (names (get_or tops i d) books) root))
