-- What a repository tells, and what its answers say of that.
use Rattle.std.specs.Prelude.{◌≡◌, ℕ, ◌+◌, ◌≤◌, Bool, true, false, List, length, take, slice_range, find, if◌then◌else◌, Option, Some, None, IfSome, IsSomeAnd}
use Rattle.std.specs.Option.{option_map}
use Rattle.pkg_names.specs.Streams.{RoseBy}
use Rattle.pkg_names.specs.declared.root.Root.{Root}
use Rattle.pkg_names.specs.Root.{root_eq}
use Rattle.pkg_names.specs.declared.pinned.Pinned.{Pinned}
use Rattle.pkg_names.specs.NameAndVariant.{NameAndVariant, path_eq}
use Rattle.pkg_merkle.specs.Merkle.{merkle_root}
use Rattle.repo_source.specs.declared.file.RepoFile.{RepoFile}
use Rattle.repo_source.specs.declared.repo.FindReply.{FindReply}
use Rattle.repo_source.specs.declared.repo.FindReply.TheVariants as finds
use Rattle.repo_source.specs.declared.repo.FetchReply.{FetchReply}
use Rattle.repo_source.specs.declared.repo.FetchReply.TheVariants as fetches
use Rattle.repo_source.specs.declared.repo.NextReply.{NextReply}
use Rattle.repo_source.specs.declared.repo.NextReply.TheVariants as nexts

-- the root that a listing has for a path: the first entry of the path counts
abbrev pub listed_root : List Pinned → NameAndVariant → Option Root
listed_root listing path =
    option_map (λ (entry : Pinned). entry.root) (find (λ (entry : Pinned). path_eq entry.path path) listing)

-- the file under a root: the first one counts
abbrev pub file_under : List RepoFile → Root → Option RepoFile
file_under files root = find (λ (file : RepoFile). root_eq file.root root) files

-- a file is what it is declared to be
pub record IsHonest (file : RepoFile) : Type 0 where
  pub len : file.len ≡ length file.bytes
  pub root : merkle_root file.bytes ≡ file.root

-- there is a file under this root, and it is honest
abbrev pub HasHonest : List RepoFile → Root → Type 0
HasHonest files root = IsSomeAnd (file_under files root) IsHonest

-- an open fetch: the root, and how many bytes were given since
pub record Reading : Type 0 where
  pub root : Root
  pub given : ℕ

-- what an answer to a path says of the listing
abbrev pub Finds : List Pinned → NameAndVariant → FindReply → Type 0
Finds listing path (finds.Found root) = listed_root listing path ≡ Some root
Finds listing path finds.Absent = listed_root listing path ≡ None
Finds listing path finds.Failed = Unit {0}

-- what an answer to a root says of the files
abbrev pub Fetches : List RepoFile → Root → FetchReply → Type 0
Fetches files root (fetches.Found len) = option_map (λ (file : RepoFile). file.len) (file_under files root) ≡ Some len
Fetches files root fetches.Absent = file_under files root ≡ None
Fetches files root fetches.Failed = Unit {0}
Fetches files root fetches.NoMemory = Unit {0}

-- a fetch is open after this answer
abbrev pub opens : FetchReply → Bool
opens (fetches.Found len) = true
opens fetches.Absent = false
opens fetches.Failed = false
opens fetches.NoMemory = false

-- what is read after this answer to a root; where no fetch is open that is as it was
abbrev pub begun : Reading → Root → FetchReply → Reading
begun reading root (fetches.Found len) = record { root = root; given = 0 }
begun reading root fetches.Absent = reading
begun reading root fetches.Failed = reading
begun reading root fetches.NoMemory = reading

-- A piece lies at the front of out, and is what comes next of the bytes.
pub record IsPiece (bytes : List ℕ) (given count : ℕ) (out : List ℕ) : Type 0 where
  pub within : given + count ≤ length bytes
  pub next : take count out ≡ slice_range bytes given (given + count)

-- what an answer says of the file that is read: the end comes after its last byte alone
abbrev pub Gives : List ℕ → ℕ → List ℕ → NextReply → Type 0
Gives bytes given out (nexts.Given count) = IsPiece bytes given count out
Gives bytes given out nexts.End = length bytes ≤ given
Gives bytes given out nexts.Failed = Unit {0}

abbrev pub Continues : List RepoFile → Reading → List ℕ → NextReply → Type 0
Continues files reading out reply =
    IfSome (file_under files reading.root) (λ file. Gives file.bytes reading.given out reply)

-- how many bytes an answer gave
abbrev pub count_of : NextReply → ℕ
count_of (nexts.Given count) = count
count_of nexts.End = 0
count_of nexts.Failed = 0

-- what is read after this answer
abbrev pub advanced : Reading → NextReply → Reading
advanced reading reply = record reading { given = reading.given + count_of reply }

-- a count of faults rose by just this much, or came to the last value of its type
abbrev pub FailedBy : ℕ → ℕ → ℕ → Type 0
FailedBy much before after = RoseBy much before after × (after ≤ before + much)

-- a call failed, or it didn't
abbrev pub Fails : Bool → ℕ → ℕ → Type 0
Fails failed before after = FailedBy (if failed then 1 else 0) before after

-- the answer says that the repository failed
abbrev pub find_failed : FindReply → Bool
find_failed (finds.Found root) = false
find_failed finds.Absent = false
find_failed finds.Failed = true

abbrev pub fetch_failed : FetchReply → Bool
fetch_failed (fetches.Found len) = false
fetch_failed fetches.Absent = false
fetch_failed fetches.Failed = true
fetch_failed fetches.NoMemory = false

abbrev pub next_failed : NextReply → Bool
next_failed (nexts.Given count) = false
next_failed nexts.End = false
next_failed nexts.Failed = true

-- a piece has at least one byte and fits
abbrev pub Fits : NextReply → ℕ → Type 0
Fits (nexts.Given count) room = (1 ≤ count) × (count ≤ room)
Fits nexts.End room = Unit {0}
Fits nexts.Failed room = Unit {0}
