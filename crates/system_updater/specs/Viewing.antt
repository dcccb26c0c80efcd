-- What an update leaves of what is seen of its desk and its repository.
use Rattle.std.specs.Prelude.{◌≡◌, ◌↔◌, ℕ, ◌++◌, List, Option, Some, All}
use Rattle.pkg_names.specs.NameAndVariant.{NameAndVariant}
use Rattle.pkg_names.specs.Streams.{RoseBy}
use Rattle.pkg_names.specs.declared.pinned.Pinned.{Pinned}
use Rattle.pkg_names.specs.declared.root.Root.{Root}
use Rattle.repo_source.specs.declared.file.RepoFile.{RepoFile}
use Rattle.store_model.specs.declared.events.Event.{Event}
use Rattle.store_model.specs.History.{Numbered}
use Rattle.store_model.specs.Desk.{View, Stays, held_by}
use Rattle.resolver.specs.Counting.{grants, failures, counted}
use Rattle.resolver.specs.Fetched.{Lists, Tells}
use Rattle.resolver.specs.Viewing.{Agrees}
use Rattle.system_updater.specs.Serving.{Serves, CanCome}
use Rattle.system_updater.specs.declared.reply.UpdateReply.{UpdateReply}

-- what is seen of a repository
pub record Told : Type 0 where
  pub listing : Option (List Pinned)
  pub files : Option (List RepoFile)
  pub faults : ℕ
  pub fetches : ℕ

abbrev pub told : Option (List Pinned) → Option (List RepoFile) → ℕ → ℕ → Told
told listing files faults fetches =
    record { listing = listing; files = files; faults = faults; fetches = fetches }

-- The lane did this between two moments. What it had seen is the front of what it has seen, and its claim stays. The
-- repository was asked once for each grant, it failed at least as often as the events say, and they fit what it tells,
-- which stays. Of the desk something else is so at both moments or at neither.
pub record Does (run : List Numbered) (old new : View) (repo repo_now : Told) (Before After : Type 0) : Type 0 where
  pub stays : Stays old new
  pub agrees : Agrees old → Agrees new
  pub more : List Event
  pub seen : new.seen ≡ old.seen ++ more
  pub mine : new.mine ≡ old.mine ++ run
  pub claim : (held_by new).claim ≡ (held_by old).claim
  pub asked : repo_now.fetches ≡ counted (grants run) repo.fetches
  pub failed : RoseBy (failures run) repo.faults repo_now.faults
  pub lists : (all : List Pinned) → repo.listing ≡ Some all → All (Lists all) run
  pub tells : (all : List RepoFile) → repo.files ≡ Some all → All (Tells all) run
  pub listing : repo_now.listing ≡ repo.listing
  pub files : repo_now.files ≡ repo.files
  pub firm : Before ↔ After

-- What the lane did is one run that updates to the package, and the reply is the run's. What it had seen is the front
-- of what it has seen, and it holds what it held. The repository was asked once for each grant of the run, it failed
-- at least as often as the run says, and the run fits what it tells, which stays.
pub record Updates (path : NameAndVariant) (pin : Option Root) (reply : UpdateReply) (old new : View)
    (repo repo_now : Told) : Type 0 where
  pub stays : Stays old new
  pub agrees : Agrees old → Agrees new
  pub more : List Event
  pub seen : new.seen ≡ old.seen ++ more
  pub run : List Numbered
  pub grows : new.mine ≡ old.mine ++ run
  pub serves : Serves path pin run reply
  pub comes : CanCome reply
  pub held : held_by new ≡ held_by old
  pub asked : repo_now.fetches ≡ counted (grants run) repo.fetches
  pub failed : RoseBy (failures run) repo.faults repo_now.faults
  pub lists : (all : List Pinned) → repo.listing ≡ Some all → All (Lists all) run
  pub tells : (all : List RepoFile) → repo.files ≡ Some all → All (Tells all) run
  pub listing : repo_now.listing ≡ repo.listing
  pub files : repo_now.files ≡ repo.files
