-- What a book is, and what bytes say so.
use Rattle.std.proofs.Common.{◌≡◌, ℕ, ◌≤◌, ◌<◌, ◌^◌, Bool, true, false, cond, ltb, List, length, Option, Some, None, Result, Ok, Err, refl, sym, ap, subst, ◌∙◌, arith}
use Rattle.std.proofs.lemmas.Bool.{ltb-false, le-ltb}
use Rattle.far_archive.specs.declared.fault.FarFault.{FarFault}
use Rattle.far_archive.specs.Archive.{IsArchive}
use Rattle.far_archive.specs.Fields.{AreBytes, files}
use Rattle.far_archive.specs.Faults.{first_fault}
use Rattle.far_archive.specs.Named.{file_named}
use Rattle.meta_contents.specs.declared.fault.ContentsFault.{ContentsFault}
use Rattle.meta_contents.specs.declared.fault.PackageNameFault.{PackageNameFault}
use Rattle.meta_contents.specs.declared.package.PackageName.{PackageName}
use Rattle.meta_contents.specs.Contents.{Pair, StandsFor, contents_of}
use Rattle.meta_contents.specs.Package.{package_of}
use Rattle.package_book.specs.declared.book.TheConstants.{META_LIMIT}
use Rattle.package_book.specs.declared.fault.PackageFault.{PackageFault}
use Rattle.package_book.specs.declared.fault.PackageFault.TheVariants.{Long}
use Rattle.package_book.specs.Book.{Files, MetaAndFiles, contents_name, package_name, contents_or_fault, contents_from, contents_in, naming_fault, package_fault_from, package_fault, book_with, book_from, book, IsBook}

-- ---- from bytes with a book

record HasContents (inner : Files) (outer : List Pair) : Type 0 where
  text : List ℕ
  named : file_named contents_name inner ≡ Some text
  read : contents_of text ≡ Ok outer

read_so : (r : Result (List Pair) ContentsFault) (outer : List Pair) → contents_or_fault r ≡ Ok outer → r ≡ Ok outer
read_so (Ok list) outer e = let same : list ≡ outer = cc in ap (λ (l : List Pair). Ok l) same
read_so (Err fault) outer e = absurd cc

contents_so : (inner : Files) (found : Option (List ℕ)) (outer : List Pair) → file_named contents_name inner ≡ found → contents_from found ≡ Ok outer → HasContents inner outer
contents_so inner None outer is e = absurd cc
contents_so inner (Some text) outer is e = record { text = text; named = is; read = read_so (contents_of text) outer e }

record HasPackage (inner : Files) : Type 0 where
  text : List ℕ
  named : file_named package_name inner ≡ Some text
  naming : PackageName
  read : package_of text ≡ Ok naming

named_so : (r : Result PackageName PackageNameFault) → naming_fault r ≡ None → (naming : PackageName) × (r ≡ Ok naming)
named_so (Ok naming) e = (naming, refl)
named_so (Err fault) e = absurd cc

package_so : (inner : Files) (found : Option (List ℕ)) → file_named package_name inner ≡ found → package_fault_from found ≡ None → HasPackage inner
package_so inner None is e = absurd cc
package_so inner (Some text) is e = let named = named_so (package_of text) e in record { text = text; named = is; naming = named.0; read = named.1 }

-- the parts of a book
record Parts (bytes : List ℕ) (within : Files) (found : MetaAndFiles) : Type 0 where
  meta : found.meta ≡ bytes
  inner : found.inner ≡ within
  contents : HasContents within found.outer
  naming : HasPackage within

parts_with : (bytes : List ℕ) (inner : Files) (c : Result (List Pair) PackageFault) (p : Option PackageFault) (found : MetaAndFiles)
    → contents_in inner ≡ c → package_fault inner ≡ p → book_with bytes inner c p ≡ Ok found → Parts bytes inner found
parts_with bytes inner (Err fault) p found is named e = absurd cc
parts_with bytes inner (Ok outer) (Some fault) found is named e = absurd cc
parts_with bytes inner (Ok outer) None found is named e =
    let made : MetaAndFiles = record { meta = bytes; inner = inner; outer = outer } in
    let same : made ≡ found = cc in
    subst (Parts bytes inner) same (record {
      meta = refl;
      inner = refl;
      contents = contents_so inner (file_named contents_name inner) outer refl is;
      naming = package_so inner (file_named package_name inner) refl named;
    })

record IsRead (bytes : List ℕ) (found : MetaAndFiles) : Type 0 where
  sound : first_fault bytes ≡ None
  parts : Parts bytes (files bytes) found

from_archive : (bytes : List ℕ) (fault : Option FarFault) (found : MetaAndFiles) → first_fault bytes ≡ fault → book_from bytes fault ≡ Ok found → IsRead bytes found
from_archive bytes (Some fault) found is e = absurd cc
from_archive bytes None found is e = record { sound = is; parts = parts_with bytes (files bytes) (contents_in (files bytes)) (package_fault (files bytes)) found refl refl e }

record IsShort (bytes : List ℕ) (found : MetaAndFiles) : Type 0 where
  short : length bytes ≤ META_LIMIT
  read : IsRead bytes found

by_length : (bytes : List ℕ) (long : Bool) (found : MetaAndFiles) → ltb META_LIMIT (length bytes) ≡ long
    → cond long (Err (Long (length bytes))) (book_from bytes (first_fault bytes)) ≡ Ok found → IsShort bytes found
by_length bytes true found is e = absurd cc
by_length bytes false found is e = record { short = ltb-false META_LIMIT (length bytes) is; read = from_archive bytes (first_fault bytes) found refl e }

is_short : (bytes : List ℕ) (found : MetaAndFiles) → book bytes ≡ Ok found → IsShort bytes found
unfolding book
is_short bytes found e = by_length bytes (ltb META_LIMIT (length bytes)) found refl e

-- what a book has as its bytes
pub meta_is : (bytes : List ℕ) (found : MetaAndFiles) → book bytes ≡ Ok found → found.meta ≡ bytes
meta_is bytes found e = (is_short bytes found e).read.parts.meta

abbrev pub ArchivesStand : Type 0
ArchivesStand = (text : List ℕ) → AreBytes text → length text < 2 ^ 64 → first_fault text ≡ None → IsArchive text (files text)

abbrev pub ContentsStand : Type 0
ContentsStand = (text : List ℕ) (list : List Pair) → contents_of text ≡ Ok list → StandsFor text list

pub stands : ArchivesStand → ContentsStand → (bytes : List ℕ) (found : MetaAndFiles) → AreBytes bytes → book bytes ≡ Ok found → IsBook bytes found
stands archives texts bytes found are e =
    let so = is_short bytes found e in
    let parts = so.read.parts in
    record {
      meta = parts.meta;
      short = so.short;
      inner = subst (IsArchive bytes) (sym parts.inner) (archives bytes are (omega (arith, so.short)) so.read.sound);
      contents_text = parts.contents.text;
      has_contents = ap (file_named contents_name) parts.inner ∙ parts.contents.named;
      outer = texts parts.contents.text found.outer parts.contents.read;
      package_text = parts.naming.text;
      has_package = ap (file_named package_name) parts.inner ∙ parts.naming.named;
      naming = parts.naming.naming;
      named = parts.naming.read;
    }

-- ---- from a book

abbrev pub ArchivesAreOne : Type 0
ArchivesAreOne = (text : List ℕ) (list : Files) → IsArchive text list → list ≡ files text

abbrev pub ArchivesAreSound : Type 0
ArchivesAreSound = (text : List ℕ) (list : Files) → IsArchive text list → first_fault text ≡ None

abbrev pub ContentsAreRead : Type 0
ContentsAreRead = (text : List ℕ) (list : List Pair) → StandsFor text list → contents_of text ≡ Ok list

abbrev made : List ℕ → Files → List Pair → MetaAndFiles
made meta within outer = record { meta = meta; inner = within; outer = outer }

pub only : ArchivesAreOne → ArchivesAreSound → ContentsAreRead → (bytes : List ℕ) (found : MetaAndFiles) → IsBook bytes found → book bytes ≡ Ok found
unfolding book
only one sound texts bytes found is =
    let inner = one bytes found.inner is.inner in
    let short : ltb META_LIMIT (length bytes) ≡ false = le-ltb META_LIMIT (length bytes) is.short in
    let contents : file_named contents_name (files bytes) ≡ Some is.contents_text = ap (file_named contents_name) (sym inner) ∙ is.has_contents in
    let named : file_named package_name (files bytes) ≡ Some is.package_text = ap (file_named package_name) (sym inner) ∙ is.has_package in
    let same : made bytes (files bytes) found.outer ≡ found =
    ap (λ (meta : List ℕ). made meta (files bytes) found.outer) (sym is.meta) ∙ ap (λ (within : Files). made found.meta within found.outer) (sym inner) in
    rw (short, sound bytes found.inner is.inner, contents, named, texts is.contents_text found.outer is.outer, is.named) (ap (λ (b : MetaAndFiles). Ok b) same)
