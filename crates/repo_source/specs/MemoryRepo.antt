-- A repository in memory: what contracts see of it, and what a call leaves of it.
use Rattle.std.specs.Prelude.{ℕ, ◌≡◌, Bool, true, false, List, [], length, drop, replicate, min}
use Rattle.std.specs.Option.{option_map_or}
use Rattle.pkg_names.specs.Streams.{one_more}
use Rattle.pkg_names.specs.declared.root.Root.{Root}
use Rattle.pkg_names.specs.declared.pinned.Pinned.{Pinned}
use Rattle.repo_source.specs.declared.file.RepoFile.{RepoFile}
use Rattle.repo_source.specs.declared.repo.FindReply.{FindReply}
use Rattle.repo_source.specs.declared.repo.FetchReply.{FetchReply}
use Rattle.repo_source.specs.declared.repo.NextReply.{NextReply}
use Rattle.repo_source.specs.declared.repo.NextReply.TheVariants as nexts
use Rattle.repo_source.specs.Repo.{Reading, file_under, find_failed, fetch_failed, next_failed, opens, begun, advanced}

-- listing and files; the numbers of the calls that are to fail; how many calls came so far, how many of
-- them were fetches, and how many failed; whether a fetch is open, and what is read
pub record RepoInMemory : Type 0 where
  pub listing : List Pinned
  pub files : List RepoFile
  pub failing : List ℕ
  pub calls : ℕ
  pub fetches : ℕ
  pub faults : ℕ
  pub is_open : Bool
  pub reading : Reading

-- one that was not asked yet
abbrev pub new_repo : List Pinned → List RepoFile → List ℕ → RepoInMemory
new_repo listing files failing = record {
  listing = listing;
  files = files;
  failing = failing;
  calls = 0;
  fetches = 0;
  faults = 0;
  is_open = false;
  reading = record { root = record { 0 = replicate 32 0 }; given = 0 };
}

-- the call is counted, and, where it failed, the fault
abbrev pub counted : Bool → RepoInMemory → RepoInMemory
counted false repo = record repo { calls = one_more repo.calls }
counted true repo = record repo { calls = one_more repo.calls; faults = one_more repo.faults }

-- the repository after each call, by its answer
abbrev pub after_find : FindReply → RepoInMemory → RepoInMemory
after_find reply repo = counted (find_failed reply) repo

abbrev pub after_fetch : Root → FetchReply → RepoInMemory → RepoInMemory
after_fetch root reply repo = record (counted (fetch_failed reply) repo) {
  fetches = one_more repo.fetches;
  is_open = opens reply;
  reading = begun repo.reading root reply;
}

abbrev pub after_next : NextReply → RepoInMemory → RepoInMemory
after_next reply repo = record (counted (next_failed reply) repo) { reading = advanced repo.reading reply }

-- the bytes that are left of what is read
abbrev pub bytes_left : List RepoFile → Reading → List ℕ
bytes_left files reading =
    option_map_or (λ (file : RepoFile). drop reading.given file.bytes) (file_under files reading.root) []

-- a piece is as long as can be
abbrev pub IsLongest : NextReply → List ℕ → ℕ → Type 0
IsLongest (nexts.Given count) left room = count ≡ min (length left) room
IsLongest nexts.End left room = Unit {0}
IsLongest nexts.Failed left room = Unit {0}
