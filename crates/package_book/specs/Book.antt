-- The book of a meta blob: the files within its archive, and the list of those outside.
use Rattle.std.specs.Prelude.{◌≡◌, ℕ, ◌≤◌, nat_lt, not, List, [], ◌∷◌, length, map, filter, codes, Option, Some, None, Result, Ok, Err, if◌then◌else◌}
use Rattle.std.specs.Str.{bytes_eq}
use Rattle.pkg_names.specs.declared.root.Root.{Root}
use Rattle.pkg_names.specs.Root.{root_eq}
use Rattle.far_archive.specs.declared.fault.FarFault.{FarFault}
use Rattle.far_archive.specs.Archive.{IsArchive}
use Rattle.far_archive.specs.Fields.{files}
use Rattle.far_archive.specs.Faults.{first_fault}
use Rattle.far_archive.specs.Named.{file_named}
use Rattle.meta_contents.specs.declared.fault.ContentsFault.{ContentsFault}
use Rattle.meta_contents.specs.declared.fault.PackageNameFault.{PackageNameFault}
use Rattle.meta_contents.specs.declared.package.PackageName.{PackageName}
use Rattle.meta_contents.specs.Contents.{Pair, StandsFor, contents_of}
use Rattle.meta_contents.specs.Package.{package_of}
use Rattle.package_book.specs.declared.book.TheConstants.{META_LIMIT}
use Rattle.package_book.specs.declared.fault.PackageFault.{PackageFault}
use Rattle.package_book.specs.declared.fault.PackageFault.TheVariants.{Long, Far, NoContents, Contents, NoPackage, Package}

-- files, each with its name and its bytes
abbrev pub Files : Type 0
Files = List (List ℕ × List ℕ)

-- what is seen of a book: the bytes of the meta blob, the files in its archive, and the list of those outside
pub record MetaAndFiles : Type 0 where
  pub meta : List ℕ
  pub inner : Files
  pub outer : List Pair

-- the names of the two files that each package has in its archive
abbrev pub contents_name : List ℕ
contents_name = codes "meta/contents"

abbrev pub package_name : List ℕ
package_name = codes "meta/package"

-- ---- reading

abbrev pub contents_or_fault : Result (List Pair) ContentsFault → Result (List Pair) PackageFault
contents_or_fault (Ok outer) = Ok outer
contents_or_fault (Err fault) = Err (Contents fault)

abbrev pub contents_from : Option (List ℕ) → Result (List Pair) PackageFault
contents_from None = Err NoContents
contents_from (Some text) = contents_or_fault (contents_of text)

-- the outer list of an archive: what its `meta/contents` stands for
abbrev pub contents_in : Files → Result (List Pair) PackageFault
contents_in inner = contents_from (file_named contents_name inner)

abbrev pub naming_fault : Result PackageName PackageNameFault → Option PackageFault
naming_fault (Ok name) = None
naming_fault (Err fault) = Some (Package fault)

abbrev pub package_fault_from : Option (List ℕ) → Option PackageFault
package_fault_from None = Some NoPackage
package_fault_from (Some text) = naming_fault (package_of text)

-- what is wrong with an archive's `meta/package`
abbrev pub package_fault : Files → Option PackageFault
package_fault inner = package_fault_from (file_named package_name inner)

abbrev pub book_with : List ℕ → Files → Result (List Pair) PackageFault → Option PackageFault
    → Result MetaAndFiles PackageFault
book_with bytes inner (Err fault) named = Err fault
book_with bytes inner (Ok outer) (Some fault) = Err fault
book_with bytes inner (Ok outer) None = Ok (record { meta = bytes; inner = inner; outer = outer })

abbrev pub book_from : List ℕ → Option FarFault → Result MetaAndFiles PackageFault
book_from bytes (Some fault) = Err (Far fault)
book_from bytes None = book_with bytes (files bytes) (contents_in (files bytes)) (package_fault (files bytes))

-- the book of a meta blob, or its first fault
unfoldable pub book : List ℕ → Result MetaAndFiles PackageFault
book bytes = if nat_lt META_LIMIT (length bytes) then Err (Long (length bytes)) else book_from bytes (first_fault bytes)

-- ---- what a book says

-- the root of the first outer file of this path
abbrev pub outer_at : List ℕ → List Pair → Option Root
outer_at path [] = None
outer_at path (pair ∷ outer) = if bytes_eq pair.0 path then Some pair.1 else outer_at path outer

-- each root once, at its first place
abbrev pub each_once : List Root → List Root
each_once [] = []
each_once (root ∷ roots) = root ∷ filter (λ other. not (root_eq root other)) (each_once roots)

-- the roots of the outer files in the order of their lines, each at its first line
abbrev pub outer_roots : List Pair → List Root
outer_roots outer = each_once (map (λ pair. pair.1) outer)

-- ---- what a book is

-- The bytes are at most so many and stand for these files, of which `meta/contents` stands for the outer
-- list and `meta/package` names a package.
pub record IsBook (bytes : List ℕ) (book : MetaAndFiles) : Type 0 where
  pub meta : book.meta ≡ bytes
  pub short : length bytes ≤ META_LIMIT
  pub inner : IsArchive bytes book.inner
  pub contents_text : List ℕ
  pub has_contents : file_named contents_name book.inner ≡ Some contents_text
  pub outer : StandsFor contents_text book.outer
  pub package_text : List ℕ
  pub has_package : file_named package_name book.inner ≡ Some package_text
  pub naming : PackageName
  pub named : package_of package_text ≡ Ok naming
