-- What is put into a repository's folder, and what is told of what failed.
use Rattle.std.specs.Prelude.{◌≡◌, ◌≢◌, ℕ, Bool, true, false, List, ◌++◌, codes, Option, Some, None, Ok, Err, IfSome, if◌then◌else◌}
use Rattle.std.specs.Str.{bytes_eq}
use Rattle.folder_repo.specs.Folder.{ReadsListing}
use Rattle.folder_repo.specs.declared.listing.DirFault.TheVariants as faults
use Rattle.repo_publish.specs.declared.post.PostListing.{PostListing}
use Rattle.repo_publish.specs.declared.post.PostListing.TheVariants as listings
use Rattle.repo_publish.specs.declared.post.PostReply.{PostReply}
use Rattle.repo_publish.specs.declared.post.PostReply.TheVariants as posts
use Rattle.folder_publish.specs.declared.post.PostTrouble.{PostTrouble}
use Rattle.folder_publish.specs.declared.post.PostTrouble.TheVariants.{NoListing, BadListing, Blob, List as PutList}

-- the names beside
abbrev pub listing_beside : List ℕ → List ℕ
listing_beside folder = folder ++ codes "/listing.new"

abbrev pub blob_beside : List ℕ → List ℕ
blob_beside folder = folder ++ codes "/blobs/new"

-- what the files hold, once this one was put, or nothing was
abbrev pub after_put : Bool → List ℕ → List ℕ → Option (List ℕ) → List ℕ → Option (List ℕ)
after_put false name bytes held other = held
after_put true name bytes held other = if bytes_eq name other then Some bytes else held

-- A file was put, or not. All others stay but the one beside. What each file holds is told, or not.
abbrev pub PutsIf : Bool → (before : Option (List ℕ → Option (List ℕ))) → (beside name bytes : List ℕ)
    → (after : Option (List ℕ → Option (List ℕ))) → Type 0
PutsIf put before beside name bytes after = IfSome before (λ old. IfSome after (λ new.
    (other : List ℕ) → other ≢ beside → new other ≡ after_put put name bytes (old other) other))

abbrev pub is_posted : PostReply → Bool
is_posted posts.Posted = true
is_posted posts.Failed = false
is_posted posts.NoMemory = false

-- the listing that was read has this trouble
abbrev pub IsListingTrouble : Option (List ℕ → Option (List ℕ)) → List ℕ → Option PostTrouble → Type 0
IsListingTrouble files folder (Some NoListing) = ReadsListing files folder (Err faults.Unreadable)
IsListingTrouble files folder (Some (BadListing line)) = ReadsListing files folder (Err (faults.BadListing line))
IsListingTrouble files folder (Some (Blob root)) = ⊥
IsListingTrouble files folder (Some PutList) = ⊥
IsListingTrouble files folder None = ⊥

-- what came of reading the listing
abbrev pub AnswersListing : Option (List ℕ → Option (List ℕ)) → List ℕ → PostListing
    → (before after : Option PostTrouble) → Type 0
AnswersListing files folder (listings.Have list) before after = ReadsListing files folder (Ok list) × (after ≡ before)
AnswersListing files folder listings.Failed before after = IsListingTrouble files folder after
AnswersListing files folder listings.NoMemory before after = after ≡ before
