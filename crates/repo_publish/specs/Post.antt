-- What a post tells, and what its answers say of that.
use Rattle.std.specs.Prelude.{◌≡◌, ℕ, ⊤, Bool, true, false, List, length, Option, Some, Ok, IfSome, if◌then◌else◌}
use Rattle.std.specs.List.{IsDistinct}
use Rattle.pkg_names.specs.declared.root.Root.{Root}
use Rattle.pkg_names.specs.Root.{root_eq}
use Rattle.pkg_names.specs.declared.pinned.Pinned.{Pinned}
use Rattle.system_lists.specs.Lists.{has_path_of}
use Rattle.system_lists.specs.Static.{static_of}
use Rattle.repo_source.specs.declared.file.RepoFile.{RepoFile}
use Rattle.repo_source.specs.Repo.{file_under}
use Rattle.repo_publish.specs.declared.post.PostListing.{PostListing}
use Rattle.repo_publish.specs.declared.post.PostListing.TheVariants as listings
use Rattle.repo_publish.specs.declared.post.PostReply.{PostReply}
use Rattle.repo_publish.specs.declared.post.PostReply.TheVariants as posts

-- a blob as a file of a repository: with its length and its bytes
abbrev pub file_of : Root → List ℕ → RepoFile
file_of root bytes = record { root = root; len = length bytes; bytes = bytes }

-- what is found under each root, once a blob stands under its root
abbrev pub with_blob : Root → List ℕ → (Root → Option RepoFile) → Root → Option RepoFile
with_blob root bytes found other = if root_eq root other then Some (file_of root bytes) else found other

-- a blob stands under its root, and all other files are as they were
abbrev pub Puts : Root → List ℕ → List RepoFile → List RepoFile → Type 0
Puts root bytes old new = (other : Root) → file_under new other ≡ with_blob root bytes (file_under old) other

-- no two of these have one path
abbrev pub NamesOnce : List Pinned → Type 0
NamesOnce listing = IsDistinct has_path_of listing

-- the bytes are a listing
abbrev pub IsListing : List ℕ → Type 0
IsListing bytes = (list : List Pinned) × (static_of bytes ≡ Ok list)

-- the listing that is answered is the one that is told, and names no path twice
abbrev pub Has : Option (List Pinned) → PostListing → Type 0
Has told (listings.Have list) = NamesOnce list × IfSome told (λ all. list ≡ all)
Has told listings.Failed = ⊤
Has told listings.NoMemory = ⊤

-- a listing was answered
abbrev pub had : PostListing → Bool
had (listings.Have list) = true
had listings.Failed = false
had listings.NoMemory = false

-- the answer says that the post failed
abbrev pub listing_failed : PostListing → Bool
listing_failed (listings.Have list) = false
listing_failed listings.Failed = true
listing_failed listings.NoMemory = false

abbrev pub post_failed : PostReply → Bool
post_failed posts.Posted = false
post_failed posts.Failed = true
post_failed posts.NoMemory = false
