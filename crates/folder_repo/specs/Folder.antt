-- What the files of a folder hold, and what is answered of them.
use Rattle.std.specs.Prelude.{◌≡◌, ℕ, ⊤, List, [], ◌++◌, length, take, codes, Option, Some, None, Result, Ok, Err, IfSome, IsSomeAnd}
use Rattle.pkg_names.specs.Root.{root_text}
use Rattle.pkg_names.specs.declared.root.Root.{Root}
use Rattle.pkg_names.specs.declared.pinned.Pinned.{Pinned}
use Rattle.repo_source.specs.declared.repo.FindReply.{FindReply}
use Rattle.repo_source.specs.declared.repo.FindReply.TheVariants as finds
use Rattle.repo_source.specs.declared.repo.FetchReply.{FetchReply}
use Rattle.repo_source.specs.declared.repo.FetchReply.TheVariants as fetches
use Rattle.repo_source.specs.declared.repo.NextReply.{NextReply}
use Rattle.repo_source.specs.declared.repo.NextReply.TheVariants as nexts
use Rattle.folder_repo.specs.Listing.{listing_in}
use Rattle.folder_repo.specs.declared.listing.DirFault.{DirFault}
use Rattle.folder_repo.specs.declared.listing.DirFault.TheVariants.{Unreadable, BadListing, NoMemory}

-- the names of the files of a folder
abbrev pub listing_name : List ℕ → List ℕ
listing_name folder = folder ++ codes "/listing"

abbrev pub blob_name : List ℕ → Root → List ℕ
blob_name folder root = folder ++ codes "/blobs/" ++ root_text root

-- where it is told what the file of each name holds, this is what one holds, if there is one
abbrev pub HasAt : Option (List ℕ → Option (List ℕ)) → List ℕ → Option (List ℕ) → Type 0
HasAt files name holds = IfSome files (λ at. at name ≡ holds)

-- a file that was opened is there, has so many bytes, and gives what it holds
pub record Opened (holds remaining : Option (List ℕ)) (len : ℕ) : Type 0 where
  pub bytes : List ℕ
  pub there : holds ≡ Some bytes
  pub whole : remaining ≡ Some bytes
  pub size : len ≡ length bytes

abbrev pub Opens : Option (List ℕ → Option (List ℕ)) → List ℕ → Option (List ℕ) → ℕ → Type 0
Opens files name remaining len = IfSome files (λ at. Opened (at name) remaining len)

-- What came of reading the listing is what the text of its file says. Why a file could not be read is
-- the host's to say.
abbrev pub SaysListing : Option (List ℕ) → Result (List Pinned) DirFault → Type 0
SaysListing holds (Ok list) = IsSomeAnd holds (λ text. listing_in text ≡ Ok list)
SaysListing holds (Err Unreadable) = ⊤
SaysListing holds (Err (BadListing line)) = IsSomeAnd holds (λ text. listing_in text ≡ Err (BadListing line))
SaysListing holds (Err NoMemory) = ⊤

abbrev pub ReadsListing : Option (List ℕ → Option (List ℕ)) → List ℕ → Result (List Pinned) DirFault → Type 0
ReadsListing files folder found = IfSome files (λ at. SaysListing (at (listing_name folder)) found)

-- the answer for what a listing has for a path
abbrev pub find_reply : Option Root → FindReply
find_reply None = finds.Absent
find_reply (Some root) = finds.Found root

-- what an answer for a root says of its file: its length is told where it is found, and only where there
-- is no such file it is absent
abbrev pub SaysFile : Option (List ℕ) → FetchReply → Type 0
SaysFile holds (fetches.Found len) = IsSomeAnd holds (λ bytes. len ≡ length bytes)
SaysFile holds fetches.Absent = holds ≡ None
SaysFile holds fetches.Failed = ⊤
SaysFile holds fetches.NoMemory = ⊤

abbrev pub FetchesFile : Option (List ℕ → Option (List ℕ)) → List ℕ → Root → FetchReply → Type 0
FetchesFile files folder root reply = IfSome files (λ at. SaysFile (at (blob_name folder root)) reply)

-- the file that was found is open, and all of it is left to be given
abbrev pub IsLeft : Option (List ℕ → Option (List ℕ)) → List ℕ → Root → FetchReply → Option (List ℕ) → Type 0
IsLeft files folder root (fetches.Found len) left = IfSome files (λ at. left ≡ at (blob_name folder root))
IsLeft files folder root reply left = ⊤

-- What is given is the front of what was left of a file, and the rest is left. The end comes where nothing was left.
abbrev pub Gives : (before after : Option (List ℕ)) → List ℕ → NextReply → Type 0
Gives before after out (nexts.Given count) =
    IfSome before (λ bytes. IsSomeAnd after (λ rest. bytes ≡ take count out ++ rest))
Gives before after out nexts.End = IfSome before (λ bytes. (bytes ≡ []) × (after ≡ before))
Gives before after out nexts.Failed = IfSome before (λ _. after ≡ before)
