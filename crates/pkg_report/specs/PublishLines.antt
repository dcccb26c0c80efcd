-- The exit status of a publication, and its line on standard error.
use Rattle.std.specs.Prelude.{ℕ, List, [], ◌∷◌, ◌++◌, codes, Option, Some, None}
use Rattle.std.specs.Fmt.{decimal}
use Rattle.pkg_names.specs.Root.{root_text}
use Rattle.package_book.specs.declared.fault.PackageFault.{PackageFault}
use Rattle.package_book.specs.declared.fault.PackageFault.TheVariants.{Long, Package}
use Rattle.repo_publish.specs.declared.publishing.PublishEnd.{PublishEnd}
use Rattle.repo_publish.specs.declared.publishing.PublishEnd.TheVariants.{Published, Order, Reserved, TooLarge, TooMany, NotAPackage, FullListing, PostFault, TreeFault, SinkFault, NoMemory}
use Rattle.folder_publish.specs.declared.post.PostTrouble.{PostTrouble}
use Rattle.folder_publish.specs.declared.post.PostTrouble.TheVariants.{NoListing, BadListing, Blob, List as Listing}
use Rattle.pkg_report.specs.Lines.{shown, listing_text}

abbrev pub number_of_publication : PublishEnd → ℕ
number_of_publication (Published root) = 0
number_of_publication (Order file) = 3
number_of_publication (Reserved file) = 3
number_of_publication (TooLarge file len) = 3
number_of_publication TooMany = 3
number_of_publication (NotAPackage why) = 3
number_of_publication FullListing = 3
number_of_publication PostFault = 5
number_of_publication TreeFault = 6
number_of_publication SinkFault = 7
number_of_publication NoMemory = 8

-- a place below a folder, which itself has the empty place
abbrev pub below : List ℕ → List ℕ → List ℕ
below folder [] = shown folder
below folder (c ∷ cs) = shown folder ++ codes "/" ++ shown (c ∷ cs)

abbrev pub place_in : List ℕ → Option (List ℕ) → List ℕ
place_in folder (Some place) = below folder place
place_in folder None = shown folder

-- what is wrong with the file of this number, which stands there
abbrev pub file_text : List ℕ → Option (List ℕ) → ℕ → List ℕ → List ℕ
file_text folder place number after = place_in folder place ++ codes ": file " ++ decimal number ++ after

-- the meta blob would be too long
abbrev pub long_text : ℕ → List ℕ
long_text len = codes ": its meta blob would have " ++ decimal len ++ codes " bytes, more than 1,048,576"

-- why the files make no package
abbrev pub package_text : PackageFault → List ℕ → List ℕ
package_text (Long len) folder = shown folder ++ long_text len
package_text (Package why) folder =
    shown folder ++ codes "/meta/package must be a JSON object with the strings name and version"
package_text why folder = shown folder ++ codes ": its files make no package"

abbrev pub how_to_begin : List ℕ
how_to_begin = codes ": a repository begins as a folder blobs and an empty file listing"

-- what failed in the repository
abbrev pub post_text : Option PostTrouble → List ℕ → List ℕ
post_text (Some NoListing) repo = codes "cannot open " ++ shown repo ++ codes "/listing" ++ how_to_begin
post_text (Some (BadListing number)) repo =
    codes "cannot open " ++ shown repo ++ codes "/listing" ++ listing_text number
post_text (Some (Blob root)) repo =
    codes "cannot write " ++ shown repo ++ codes "/blobs/" ++ root_text root ++ how_to_begin
post_text (Some Listing) repo = codes "cannot write " ++ shown repo ++ codes "/listing"
post_text None repo = shown repo ++ codes " failed"

-- what was wrong with a publication of this folder, whose tree stands there, into this repository
abbrev pub publication_text : PublishEnd → Option (List ℕ) → Option PostTrouble → (folder repo : List ℕ) → List ℕ
publication_text (Published root) place trouble folder repo = []
publication_text (Order number) place trouble folder repo =
    file_text folder place number (codes " must have a greater path than the one before")
publication_text (Reserved number) place trouble folder repo =
    file_text folder place number (codes " is made by the publication, and must not be there")
publication_text (TooLarge number len) place trouble folder repo =
    file_text folder place number (codes " has more than 33,554,432 bytes")
publication_text TooMany place trouble folder repo =
    shown folder ++ codes " has more than 4096 files outside meta/, or below it"
publication_text (NotAPackage why) place trouble folder repo = package_text why folder
publication_text FullListing place trouble folder repo =
    shown repo ++ codes "/listing would have more than 4096 lines, or more than 1,048,576 bytes"
publication_text PostFault place trouble folder repo = post_text trouble repo
publication_text TreeFault place trouble folder repo = codes "cannot read " ++ place_in folder place
publication_text SinkFault place trouble folder repo = codes "the line could not be written whole"
publication_text NoMemory place trouble folder repo = codes "memory was short"

-- the line that tells it, with its line feed; none where all is well
abbrev pub line_of_publication : PublishEnd → Option (List ℕ) → Option PostTrouble → (folder repo : List ℕ) → List ℕ
line_of_publication (Published root) place trouble folder repo = []
line_of_publication end place trouble folder repo =
    publication_text end place trouble folder repo ++ codes "\n"
