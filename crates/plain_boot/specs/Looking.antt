-- What the boot has looked at of a system, and how it judges it.
use Rattle.std.specs.Prelude.{◌≡◌, true, List, []}
use Rattle.pkg_names.specs.declared.root.Root.{Root}
use Rattle.system_lists.specs.Judging.{Verdict, judged}
use Rattle.system_judge.specs.Listed.{listed}
use Rattle.store_model.specs.declared.events.LookedAt.{LookedAt}
use Rattle.store_model.specs.State.{State}
use Rattle.store_model.specs.Systems.{at_hand}
use Rattle.plain_state.specs.Looking.{Sees, IsLearned, AreLearned}
use Rattle.plain_state.specs.Judged.{AreListsSeen, IsJudged}
use Rattle.plain_boot.specs.AllBooks.{all_at_hand}

-- From a state whose books are empty: the system's package, its two lists and the packages that they name were
-- looked at.
pub record HasLookedAt (contents : List LookedAt) (system : Root) (old : State) (seen : List LookedAt) (new : State)
    : Type 0 where
  pub sees : Sees contents [] seen old new
  pub known : IsLearned contents new system
  pub lists : AreListsSeen contents seen new system
  pub listed : AreLearned contents (listed (all_at_hand contents old) system) new

-- The verdict is the one by what was looked at, and the one by all that is stored. It asks for no list.
pub record WasJudged (contents : List LookedAt) (system : Root) (old : State) (seen : List LookedAt) (new : State)
    (verdict : Verdict) : Type 0 where
  pub looked : HasLookedAt contents system old seen new
  pub by_seen : verdict ≡ judged (at_hand old seen (λ root. true)) system
  pub by_all : verdict ≡ judged (all_at_hand contents old) system
  pub read : IsJudged verdict
