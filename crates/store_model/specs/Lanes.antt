-- What a lane holds in a state, and the words of the laws on lanes, claims, marks and collections.
use Rattle.std.specs.Prelude.{◌≡◌, ◌≢◌, ◌<◌, ◌+◌, ℕ, ◌==◌, Bool, true, false, List, length, slice_index_or, map, filter, Option, Some, None, Contains, if◌then◌else◌}
use Rattle.std.specs.List.{All, AllPairs}
use Rattle.pkg_names.specs.declared.root.Root.{Root}
use Rattle.fetch_queue.specs.declared.FetchEnd.{FetchEnd}
use Rattle.fetch_queue.specs.declared.FetchEnd.TheVariants as ends
use Rattle.fetch_queue.specs.declared.queue.ClaimEntry.{ClaimEntry}
use Rattle.fetch_queue.specs.Fetches.{is_claimed, roomed}
use Rattle.open_tracker.specs.declared.dirs.DirEntry.{DirEntry}
use Rattle.package_book.specs.Books.{Books}
use Rattle.package_book.specs.Names.{names}
use Rattle.store_model.specs.declared.events.Event.{Event}
use Rattle.store_model.specs.declared.events.Act.{Act}
use Rattle.store_model.specs.declared.events.Act.TheVariants.{Boot, Room, Put, Land, Missed, Collect, Stage, Activate, Commit, Refused}
use Rattle.store_model.specs.declared.events.CallName.{CallName}
use Rattle.store_model.specs.declared.events.CallName.TheVariants as calls
use Rattle.store_model.specs.declared.ends.Miss.{Miss}
use Rattle.store_model.specs.declared.ends.Miss.TheVariants as misses
use Rattle.store_model.specs.declared.ends.StageEnd.TheVariants as stages
use Rattle.store_model.specs.declared.ends.ActivateEnd.TheVariants as activations
use Rattle.store_model.specs.State as states
use Rattle.store_model.specs.State.{State, Stored, Arrival, is_stored, arrival_of, holds_claim}
use Rattle.store_model.specs.Acts.Marking.{marked}

-- ---- what a lane holds

abbrev pub claims_of : ℕ → State → List ClaimEntry
claims_of lane s = filter (λ (claim : ClaimEntry). claim.lane == lane) s.claims

-- an arrival without its mark
abbrev pub unmarked : Arrival → Arrival
unmarked arrival = record arrival { mark = None }

-- the lane's tickets, whatever their marks
abbrev pub tickets_of : ℕ → State → List Arrival
tickets_of lane s = map unmarked (filter (λ (arrival : Arrival). arrival.lane == lane) s.arriving)

abbrev pub dirs_of : ℕ → State → List DirEntry
dirs_of lane s = filter (λ (dir : DirEntry). dir.lane == lane) s.dirs

abbrev pub if_of : ℕ → Option states.Stage → Option states.Stage
if_of lane None = None
if_of lane (Some stage) = if stage.lane == lane then Some stage else None

-- the update, if it is the lane's
abbrev pub stage_of : ℕ → State → Option states.Stage
stage_of lane s = if_of lane s.stage

-- in both states the lane holds the same
pub record HoldsSame (lane : ℕ) (old new : State) : Type 0 where
  pub claims : claims_of lane new ≡ claims_of lane old
  pub tickets : tickets_of lane new ≡ tickets_of lane old
  pub dirs : dirs_of lane new ≡ dirs_of lane old
  pub stage : stage_of lane new ≡ stage_of lane old

-- ---- what holds in each state that a legal history comes to, before the event of this number

-- No root is claimed twice, a lane has one claim at most, and no claimed root is stored.
pub record AreClaims (claims : List ClaimEntry) (stock : List Stored) : Type 0 where
  pub roots : AllPairs (λ (a b : ClaimEntry). a.root ≢ b.root) claims
  pub lanes : AllPairs (λ (a b : ClaimEntry). a.lane ≢ b.lane) claims
  pub missing : All (λ (claim : ClaimEntry). is_stored stock claim.root ≡ false) claims

-- No ticket stands twice, and each is the number of an event that came before.
pub record AreTickets (arriving : List Arrival) (number : ℕ) : Type 0 where
  pub apart : AllPairs (λ (a b : Arrival). a.ticket ≢ b.ticket) arriving
  pub before : All (λ (arrival : Arrival). arrival.ticket < number) arriving

-- No directory stands twice, and each has the number of an event that came before.
pub record AreDirs (dirs : List DirEntry) (number : ℕ) : Type 0 where
  pub apart : AllPairs (λ (a b : DirEntry). a.number ≢ b.number) dirs
  pub before : All (λ (dir : DirEntry). dir.number < number) dirs

pub record StandOnce (s : State) (number : ℕ) : Type 0 where
  pub claims : AreClaims s.claims s.stock
  pub tickets : AreTickets s.arriving number
  pub dirs : AreDirs s.dirs number

-- no root is stored twice
abbrev pub AreBlobs : List Stored → Type 0
AreBlobs stock = AllPairs (λ (a b : Stored). a.root ≢ b.root) stock

-- A blob that the ticket's package names is granted to the lane: the ticket is the lane's, nobody has the
-- blob or fetches it, and the lane fetches nothing else.
pub record IsGranted (s : State) (by ticket : ℕ) (root : Root) : Type 0 where
  pub arrival : Arrival
  pub found : arrival_of s.arriving ticket ≡ Some arrival
  pub lane : arrival.lane ≡ by
  pub named : Contains (names arrival.root s.books) root
  pub stored : is_stored s.stock root ≡ false
  pub claimed : is_claimed s.claims root ≡ false
  pub none : holds_claim s.claims by ≡ false

-- the root of the claim that a refused call was handed
abbrev ended_by_refusal : CallName → Option Root
ended_by_refusal (calls.Room root) = Some root
ended_by_refusal (calls.Put root) = Some root
ended_by_refusal (calls.Land root) = Some root
ended_by_refusal call = None

-- the root of the claim that an act ends
abbrev pub ended_by : Act → Option Root
ended_by (Room root len (Some end)) = Some root
ended_by (Put root (Some end)) = Some root
ended_by (Land root len reply seen) = Some root
ended_by (Missed root why) = Some root
ended_by (Refused call broken) = ended_by_refusal call
ended_by act = None

-- a write that fails ends the claim under which it was to be
abbrev pub ended_by_failure : Act → Option Root
ended_by_failure (Put root reply) = Some root
ended_by_failure (Land root len reply seen) = Some root
ended_by_failure act = None

-- the root of the claim that the event ends
abbrev pub ends_claim_of : Event → Option Root
ends_claim_of e = if e.broke then ended_by_failure e.act else ended_by e.act

abbrev pub with_room_by : Act → ClaimEntry → ClaimEntry
with_room_by (Room root len None) claim = roomed root len claim
with_room_by act claim = claim

-- the claim, with room if the event makes it
abbrev pub after_room : Event → ClaimEntry → ClaimEntry
after_room e claim = if e.broke then claim else with_room_by e.act claim

-- ---- marks

-- the end of a fetch, of this blob
pub record Told : Type 0 where
  pub root : Root
  pub end : FetchEnd

abbrev told_end : Root → Option FetchEnd → Option Told
told_end root None = None
told_end root (Some end) = Some (record { root = root; end = end })

abbrev told_miss : Root → Miss → Option Told
told_miss root misses.Absent = Some (record { root = root; end = ends.Absent })
told_miss root misses.Read = Some (record { root = root; end = ends.Read })
told_miss root misses.Memory = None

-- the end that an act tells
abbrev pub told_by : Act → Option Told
told_by (Room root len reply) = told_end root reply
told_by (Put root reply) = told_end root reply
told_by (Land root len reply seen) = told_end root reply
told_by (Missed root why) = told_miss root why
told_by act = None

-- a call in which a write failed tells none
abbrev pub told : Event → Option Told
told e = if e.broke then None else told_by e.act

-- the arrival after this is told
abbrev pub after_told : Books → Option Told → Arrival → Arrival
after_told books None arrival = arrival
after_told books (Some t) arrival = marked books t.root t.end arrival

-- the event tells this end, of a blob that the package names
pub record Marks (books : Books) (e : Event) (top : Root) (end : FetchEnd) : Type 0 where
  pub root : Root
  pub told : told e ≡ Some (record { root = root; end = end })
  pub named : Contains (names top books) root

-- ---- a write that failed

-- a write failed in the event at this place
abbrev pub BrokeAt : List Event → ℕ → Type 0
BrokeAt history place = (e : Event) → (slice_index_or history place e).broke ≡ true

-- a write failed in the event of this number
pub record BrokeIn (history : List Event) (named : ℕ) : Type 0 where
  pub place : ℕ
  pub number : named ≡ place + 1
  pub within : place < length history
  pub broke : BrokeAt history place

-- ---- what lasts

-- the acts that can change what lasts
abbrev pub can_change : Act → Bool
can_change (Boot slot seen) = true
can_change (Land root len None seen) = true
can_change (Collect (Some roots)) = true
can_change (Stage epoch (stages.Turn slot)) = true
can_change (Activate (activations.Active slot) seen) = true
can_change (Commit true) = true
can_change act = false

-- the event can change what lasts; one in which a write failed can't
abbrev pub can_change_what_lasts : Event → Bool
can_change_what_lasts e = if e.broke then false else can_change e.act
