-- A shelf as a map, and the places of lines.
use Rattle.std.proofs.Common.{◌≡◌, ℕ, cond, List, [], ◌∷◌, Option, Some, Result, Ok, Err, refl, sym, ap, subst, ◌∙◌, inl, inr}
use Rattle.std.specs.Prelude.{map}
use Rattle.std.specs.Option.{option_map}
use Rattle.std.specs.Ordering.{is_eq}
use Rattle.std.specs.Map.{lookup}
use Rattle.std.specs.BTreeMap.{BTreeMap, get, is_at}
use Rattle.std.proofs.lemmas.Bool.{cases_Bool}
use Rattle.std.proofs.lemmas.Cmp.{nat_list_eq_equiv}
use Rattle.std.proofs.lemmas.Map.Text.{is_eq-slice_cmp}
use Rattle.pkg_names.specs.declared.root.Root.{Root}
use Rattle.pkg_names.specs.Root.{root_eq}
use Rattle.far_archive.specs.declared.fault.FarFault.TheVariants.{Magic}
use Rattle.far_archive.specs.Faults.{first_fault, index_fault}
use Rattle.package_book.specs.declared.shelf.Shelved.{Shelved}
use Rattle.package_book.specs.declared.shelf.Shelved.TheVariants.{Bad}
use Rattle.package_book.specs.declared.fault.PackageFault.{PackageFault}
use Rattle.package_book.specs.declared.fault.PackageFault.TheVariants.{Far}
use Rattle.package_book.specs.Books.{Meta, book_at, Sets}
use Rattle.package_book.specs.Books.Meta.{Read, Long}
use Rattle.package_book.specs.Book.{MetaAndFiles, book}
use Rattle.package_book.specs.Shelf.{shelved_as, shelved_of}
use Rattle.package_book.specs.Invariant.{root_cmp, meta_without, meta_of, known_by, books_in, IsShelf}
use Rattle.package_book.proofs.BookLaws.{meta_is}

-- ---- an entry stands for its meta blob

book_of_nothing : book [] ≡ Err (Far Magic)
unfolding book first_fault index_fault
book_of_nothing = refl

without_book : (bytes : List ℕ) (fault : PackageFault) → book bytes ≡ Err fault → meta_of (Bad fault bytes) ≡ Read bytes
without_book (byte ∷ bytes) fault e = refl
without_book [] fault e =
    let same : Far Magic ≡ fault = magic (sym book_of_nothing ∙ e) in
    subst (λ (f : PackageFault). meta_without f ≡ Read []) same refl
  where
    magic : {f g : PackageFault} → ◌≡◌ {A = Result MetaAndFiles PackageFault} (Err f) (Err g) → f ≡ g
    magic h = cc

read_back : (bytes : List ℕ) (found : Result MetaAndFiles PackageFault) → book bytes ≡ found → meta_of (shelved_as bytes found) ≡ Read bytes
read_back bytes (Ok found) e = ap Read (meta_is bytes found e)
read_back bytes (Err fault) e = without_book bytes fault e

pub meta_of-shelved_of : (meta : Meta) → meta_of (shelved_of meta) ≡ meta
meta_of-shelved_of (Read bytes) = read_back bytes (book bytes) refl
meta_of-shelved_of (Long len) = refl

-- ---- entries

pub is_eq-root_cmp : (a b : Root) → is_eq (root_cmp a b) ≡ root_eq a b
is_eq-root_cmp a b = is_eq-slice_cmp a.0 b.0

book_at-entries : (entries : List (Root × Shelved)) (root : Root)
    → book_at (map known_by entries) root ≡ option_map meta_of (lookup (is_at (root_cmp root)) entries)
book_at-entries [] root = refl
book_at-entries (entry ∷ entries) root =
    let test : is_eq (root_cmp root entry.0) ≡ root_eq entry.0 root = is_eq-root_cmp root entry.0 ∙ nat_list_eq_equiv.symm root.0 entry.0.0 in
    elim (cases_Bool (root_eq entry.0 root)) [
      | inl same ↦ rw (test ∙ same, same) refl
      | inr other ↦ rw (test ∙ other, other) (book_at-entries entries root)
    ]

-- the map has another value at this root, and the same elsewhere
abbrev pub Updated : Root → Option Shelved → BTreeMap Root Shelved → BTreeMap Root Shelved → Type 0
Updated root value old new = (other : Root) → get root_cmp new other ≡ cond (is_at (root_cmp root) other) value (get root_cmp old other)

pub sets : (root : Root) (value : Option Shelved) (old new : BTreeMap Root Shelved) → Updated root value old new → Sets root (option_map meta_of value) (books_in old) (books_in new)
sets root value old new updated other =
    book_at-entries new.entries other ∙ ap (option_map meta_of) (updated other) ∙
    elim (cases_Bool (root_eq root other)) [
      | inl same ↦ rw (is_eq-root_cmp root other ∙ same, same) refl
      | inr differs ↦ rw (is_eq-root_cmp root other ∙ differs, differs) (sym (book_at-entries old.entries other))
    ]

pub still_shelf : (root : Root) (value : Option Shelved) (old new : BTreeMap Root Shelved) → IsShelf old → Updated root value old new
    → value ≡ option_map shelved_of (option_map meta_of value) → IsShelf new
still_shelf root value old new is updated stands other =
    updated other ∙
    elim (cases_Bool (root_eq root other)) [
      | inl same ↦ rw (is_eq-root_cmp root other ∙ same) (stands ∙ ap (option_map shelved_of) (sym (sets root value old new updated other ∙ rw same refl)))
      | inr differs ↦ rw (is_eq-root_cmp root other ∙ differs) (is other ∙ ap (option_map shelved_of) (sym (sets root value old new updated other ∙ rw differs refl)))
    ]

-- an entry that was added
pub added_stands : (value : Shelved) (meta : Meta) → value ≡ shelved_of meta → Some value ≡ option_map shelved_of (option_map meta_of (Some value))
added_stands value meta is =
    ap (λ (v : Shelved). Some v) (is ∙ ap shelved_of (sym (ap meta_of is ∙ meta_of-shelved_of meta)))

pub added_sets : (root : Root) (value : Shelved) (meta : Meta) (old new : BTreeMap Root Shelved) → value ≡ shelved_of meta → Updated root (Some value) old new
    → Sets root (Some meta) (books_in old) (books_in new)
added_sets root value meta old new is updated =
    subst (λ (entry : Option Meta). Sets root entry (books_in old) (books_in new)) (ap (λ (m : Meta). Some m) (ap meta_of is ∙ meta_of-shelved_of meta)) (sets root (Some value) old new updated)
