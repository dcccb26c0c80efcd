-- What the events of a resolve say of the repository that served it.
use Rattle.std.specs.Prelude.{◌≡◌, ℕ, ◌<◌, Bool, true, false, List, length, Some, None, IsSomeAnd}
use Rattle.fetch_queue.specs.declared.FetchEnd.TheVariants as ends
use Rattle.package_indexes.specs.declared.Choice.{Choice}
use Rattle.package_indexes.specs.declared.Choice.TheVariants as choices
use Rattle.pkg_names.specs.NameAndVariant.{NameAndVariant}
use Rattle.pkg_names.specs.declared.pinned.Pinned.{Pinned}
use Rattle.pkg_names.specs.declared.root.Root.{Root}
use Rattle.pkg_merkle.specs.Merkle.{merkle_root}
use Rattle.repo_source.specs.declared.file.RepoFile.{RepoFile}
use Rattle.repo_source.specs.Repo.{listed_root, file_under}
use Rattle.store_model.specs.declared.ends.Miss.TheVariants as misses
use Rattle.store_model.specs.declared.events.Act.{Act}
use Rattle.store_model.specs.declared.events.Act.TheVariants as acts
use Rattle.store_model.specs.declared.events.LookedAt.{LookedAt}
use Rattle.store_model.specs.History.{Numbered}
use Rattle.store_model.specs.Calls.{Carries}

-- ---- the listing

-- what a choice says of it
abbrev pub IsListed : List Pinned → NameAndVariant → Choice → Type 0
IsListed listing path (choices.Listed root) = listed_root listing path ≡ Some root
IsListed listing path choices.Absent = listed_root listing path ≡ None
IsListed listing path choice = Unit {0}

abbrev pub ListsInAct : List Pinned → Act → Type 0
ListsInAct listing (acts.Begin path choice reply seen) = IsListed listing path choice
ListsInAct listing act = Unit {0}

-- the choice of a package that is asked for is the listing's
abbrev pub Lists : List Pinned → Numbered → Type 0
Lists listing e = ListsInAct listing e.event.act

-- ---- the files

-- there is a file under the root, of which this is so
abbrev pub HasFile : List RepoFile → Root → (RepoFile → Type 0) → Type 0
HasFile files root P = IsSomeAnd (file_under files root) P

-- the bytes of the file are the blob, and what the event carries of it is the file's
pub record IsBlob (root : Root) (len : ℕ) (seen : List LookedAt) (file : RepoFile) : Type 0 where
  pub size : length file.bytes ≡ len
  pub same : merkle_root file.bytes ≡ root
  pub carried : Carries root file.bytes seen

-- the file has the length, and another root
pub record IsOther (len : ℕ) (got : Root) (file : RepoFile) : Type 0 where
  pub size : length file.bytes ≡ len
  pub other : merkle_root file.bytes ≡ got

-- Room has the declared length. More than that came of a longer file; a shorter one, or one of another root,
-- does not land. A grant is missed as absent where there is no file.
abbrev pub TellsInAct : List RepoFile → Act → Type 0
TellsInAct files (acts.Room root len reply) = HasFile files root (λ file. file.len ≡ len)
TellsInAct files (acts.Put root (Some end)) = HasFile files root (λ file. file.len < length file.bytes)
TellsInAct files (acts.Land root len None seen) = HasFile files root (IsBlob root len seen)
TellsInAct files (acts.Land root len (Some (ends.Short have)) seen) =
    HasFile files root (λ file. length file.bytes ≡ have)
TellsInAct files (acts.Land root len (Some (ends.Wrong got)) seen) = HasFile files root (IsOther len got)
TellsInAct files (acts.Missed root misses.Absent) = file_under files root ≡ None
TellsInAct files act = Unit {0}

-- a call in which a write failed tells nothing
abbrev pub TellsUnless : Bool → List RepoFile → Act → Type 0
TellsUnless true files act = Unit {0}
TellsUnless false files act = TellsInAct files act

-- what an event says of the files
abbrev pub Tells : List RepoFile → Numbered → Type 0
Tells files e = TellsUnless e.event.broke files e.event.act
