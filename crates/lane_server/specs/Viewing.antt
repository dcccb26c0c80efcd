-- What serving leaves of what is seen of a desk and of a repository.
use Rattle.std.specs.Prelude.{◌≡◌, List}
use Rattle.store_model.specs.History.{Numbered}
use Rattle.store_model.specs.Desk.{View, held_by}
use Rattle.system_updater.specs.Viewing.{Told}
use Rattle.system_updater.specs.Viewing as viewing

-- What the lane did is a run of which this is so. Of claims, tickets and stages it holds what it held. The repository
-- was asked once for each grant of the run, it failed at least as often as the run says, and the run fits what it
-- tells, which stays. The desk stays firm, or stays not.
pub record Does (IsIts : List Numbered → Type 0) (old new : View) (repo repo_now : Told) (Before After : Type 0)
    : Type 0 where
  pub run : List Numbered
  pub its : IsIts run
  pub does : viewing.Does run old new repo repo_now Before After
  pub tickets : (held_by new).tickets ≡ (held_by old).tickets
  pub stage : (held_by new).stage ≡ (held_by old).stage
