-- How the lanes of a script are served: lane after lane, each by a repository of its own.
use Rattle.std.specs.Prelude.{◌≡◌, ℕ, ◌+◌, ◌<◌, ◌≤◌, Bool, true, false, ◌||◌, List, [], ◌∷◌, ◌++◌, length, Some, None, All}
use Rattle.pkg_names.specs.Streams.{RoseBy}
use Rattle.pkg_names.specs.declared.pinned.Pinned.{Pinned}
use Rattle.repo_source.specs.declared.file.RepoFile.{RepoFile}
use Rattle.script_lang.specs.declared.request.Ask.{Ask}
use Rattle.script_lang.specs.declared.request.Request.{Request}
use Rattle.store_model.specs.declared.events.Event.{Event}
use Rattle.store_model.specs.History.{Origin, Numbered, of_lane}
use Rattle.store_model.specs.Holding.{Held, held}
use Rattle.resolver.specs.Counting.{grants, failures, counted}
use Rattle.resolver.specs.Fetched.{Lists, Tells}
use Rattle.system_updater.specs.Viewing.{Told}
use Rattle.lane_server.specs.Serving.{Place, asks_of, ServesAll, ServesFront}
use Rattle.plain_desk.specs.Stores.{StoreOf}

-- The repository was asked once for each grant of these events, it failed at least as often as they say, and they fit
-- what it tells, which stays.
pub record Fetched (events : List Numbered) (repo repo_now : Told) : Type 0 where
  pub asked : repo_now.fetches ≡ counted (grants events) repo.fetches
  pub failed : RoseBy (failures events) repo.faults repo_now.faults
  pub lists : (all : List Pinned) → repo.listing ≡ Some all → All (Lists all) events
  pub tells : (all : List RepoFile) → repo.files ≡ Some all → All (Tells all) events
  pub listing : repo_now.listing ≡ repo.listing
  pub files : repo_now.files ≡ repo.files

-- The events serve all that is asked for, or, where the serving was cut for want of memory, the first of it. A desk at
-- a store in memory is firm.
abbrev pub ServesTo : Place → Bool → List Ask → List Numbered → Type 0
ServesTo place false asks events = ServesAll (Unit {0}) place asks events
ServesTo place true asks events = ServesFront (Unit {0}) place asks events

-- it claims nothing, has no ticket, and updates nothing
pub record IsAtRest (h : Held) : Type 0 where
  pub claim : h.claim ≡ None
  pub tickets : h.tickets ≡ []
  pub stage : h.stage ≡ None

-- What the lane did serves its requests, its repository was asked for just that, and it holds nothing but directories.
pub record IsServed (requests : List Request) (place : Place) (cut : Bool) (repo repo_now : Told)
    (events : List Numbered) : Type 0 where
  pub serves : ServesTo place cut (asks_of place.lane requests) events
  pub fetched : Fetched events repo repo_now
  pub rests : IsAtRest (held events)

abbrev pub place_at : Origin → List Event → ℕ → Place
place_at origin history lane = record { lane = lane; origin = origin; history = history }

-- The lanes behind so many are served, each by the repository at its place. Of repositories without a lane all
-- that is told stays.
abbrev pub AreServed : Origin → List Request → List Event → ℕ → List Bool → List Told → List Told → Type 0
AreServed origin requests history before [] repos repos_now = repos_now ≡ repos
AreServed origin requests history before (cut ∷ cuts) (repo ∷ repos) (repo_now ∷ repos_now) =
    IsServed requests (place_at origin history (before + 1)) cut repo repo_now (of_lane (before + 1) history)
    × AreServed origin requests history (before + 1) cuts repos repos_now
AreServed origin requests history before cuts repos repos_now = ⊥

-- the serving of some lane was cut
abbrev pub some_cut : List Bool → Bool
some_cut [] = false
some_cut (cut ∷ cuts) = cut || some_cut cuts

-- no lane behind so many has an event
abbrev pub AreFresh : ℕ → List Event → Type 0
AreFresh before history = (lane : ℕ) → before < lane → of_lane lane history ≡ []

-- So many lanes behind the first ones were served, and no other lane has an event more. Some serving was cut exactly
-- where memory was short.
pub record ServesLanes (requests : List Request) (before count : ℕ) (starved : Bool) (repos repos_now : List Told)
    (old new : StoreOf) : Type 0 where
  pub cuts : List Bool
  pub each : length cuts ≡ count
  pub some : starved ≡ some_cut cuts
  pub served : AreServed new.origin requests new.history before cuts repos repos_now
  pub first : (lane : ℕ) → lane ≤ before → of_lane lane new.history ≡ of_lane lane old.history
  pub fresh : AreFresh (before + count) new.history
  pub more : List Event
  pub grows : new.history ≡ old.history ++ more
  pub origin : new.origin ≡ old.origin
