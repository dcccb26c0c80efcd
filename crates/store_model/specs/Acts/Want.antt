-- The holder of a ticket asks what is missing of its package.
use Rattle.std.specs.Prelude.{◌≡◌, ℕ, ◌||◌, not, Bool, true, false, List, [], ◌∷◌, ◌++◌, find, Option, Some, None, is_some, IsSomeAnd, if◌then◌else◌}
use Rattle.pkg_names.specs.declared.root.Root.{Root}
use Rattle.pkg_names.specs.declared.pinned.Pinned.{Pinned}
use Rattle.fetch_queue.specs.declared.FetchEnd.{FetchEnd}
use Rattle.fetch_queue.specs.declared.queue.ClaimEntry.{ClaimEntry}
use Rattle.fetch_queue.specs.Fetches.{is_claimed}
use Rattle.open_tracker.specs.declared.dirs.DirEntry.{DirEntry}
use Rattle.package_book.specs.declared.fault.PackageFault.{PackageFault}
use Rattle.package_book.specs.Names.{names}
use Rattle.package_indexes.specs.Indexes.{root_at, with_root}
use Rattle.store_model.specs.declared.ends.WantEnd.{WantEnd}
use Rattle.store_model.specs.declared.ends.WantEnd.TheVariants.{Fetch, Opened, Failed}
use Rattle.store_model.specs.declared.ends.Cause.TheVariants as causes
use Rattle.store_model.specs.State.{State, Arrival, is_stored, holds_claim, arrival_of, without_ticket}
use Rattle.store_model.specs.Packages.{known_fault, is_complete}

-- the blob is neither stored nor claimed
abbrev pub is_free : State → Root → Bool
is_free s root = not (is_stored s.stock root || is_claimed s.claims root)

-- the first blob of the package that nobody has or fetches
abbrev pub first_free : State → Root → Option Root
first_free s root = find (is_free s) (names root s.books)

-- a mark comes first, then that the package is none, then that all is there, then what is to be fetched
abbrev pub answer_for : Option FetchEnd → Option PackageFault → Bool → Option Root → Option WantEnd
answer_for (Some end) fault complete free = Some (Failed (causes.Fetch end))
answer_for None (Some why) complete free = Some (Failed (causes.NotAPackage why))
answer_for None None true free = Some Opened
answer_for None None false (Some root) = Some (Fetch root)
answer_for None None false None = None

-- The answer to the holder. There is none while others fetch all that is missing.
abbrev pub want_answer : State → Arrival → Option WantEnd
want_answer s arrival =
    answer_for arrival.mark (known_fault s.books arrival.root) (is_complete s arrival.root)
    (first_free s arrival.root)

pub record IsAnswered (s : State) (by : ℕ) (reply : WantEnd) (arrival : Arrival) : Type 0 where
  pub lane : arrival.lane ≡ by
  pub free : holds_claim s.claims by ≡ false
  pub answer : want_answer s arrival ≡ Some reply

abbrev pub IsDueWant : State → ℕ → ℕ → WantEnd → Type 0
IsDueWant s lane ticket reply = IsSomeAnd (arrival_of s.arriving ticket) (IsAnswered s lane reply)

abbrev pub claims_after_want : List ClaimEntry → ℕ → WantEnd → List ClaimEntry
claims_after_want claims lane (Fetch root) = claims ++ record { root = root; lane = lane; len = None } ∷ []
claims_after_want claims lane reply = claims

abbrev pub arriving_after_want : List Arrival → ℕ → WantEnd → List Arrival
arriving_after_want arriving ticket (Fetch root) = arriving
arriving_after_want arriving ticket reply = without_ticket arriving ticket

-- the directory of a package that is opened has the event's number
abbrev pub with_directory : List DirEntry → ℕ → ℕ → Option Arrival → List DirEntry
with_directory dirs number lane (Some arrival) =
    dirs ++ record { number = number; lane = lane; root = arrival.root } ∷ []
with_directory dirs number lane None = dirs

abbrev pub dirs_after_want : State → ℕ → ℕ → ℕ → WantEnd → List DirEntry
dirs_after_want s number lane ticket Opened = with_directory s.dirs number lane (arrival_of s.arriving ticket)
dirs_after_want s number lane ticket reply = s.dirs

-- a package that is opened is active under its path, unless the path is in the base
abbrev pub with_active : List Pinned → List Pinned → Option Arrival → List Pinned
with_active base active (Some arrival) =
    if is_some (root_at base arrival.path) then active else with_root active arrival.path arrival.root
with_active base active None = active

abbrev pub active_after_want : State → ℕ → WantEnd → List Pinned
active_after_want s ticket Opened = with_active s.base s.active (arrival_of s.arriving ticket)
active_after_want s ticket reply = s.active

abbrev pub next_want : State → ℕ → ℕ → ℕ → WantEnd → State
next_want s number lane ticket reply = record s {
  claims = claims_after_want s.claims lane reply;
  arriving = arriving_after_want s.arriving ticket reply;
  dirs = dirs_after_want s number lane ticket reply;
  active = active_after_want s ticket reply;
}
