-- What the steps of serving come to. These definitions serve its proof; no public clause cites them.
use Rattle.std.specs.Prelude.{◌≡◌, Bool, true, false, List, [], Result, Ok, Err}
use Rattle.script_lang.specs.declared.request.Ask.{Ask}
use Rattle.store_model.specs.History.{Numbered}
use Rattle.store_model.specs.Desk.{View, held_by}
use Rattle.system_updater.specs.Serving.{joined}
use Rattle.system_updater.specs.Viewing as viewing
use Rattle.system_updater.specs.Viewing.{Told}
use Rattle.lane_server.specs.declared.names.Binding.{Binding}
use Rattle.lane_server.specs.Serving.{Place, place_of, Leads, ServesOne}

-- These requests were served, and led to these names.
pub record Served (done : List Ask) (names : List Binding) (old new : View) (repo repo_now : Told)
    (Before After : Type 0) : Type 0 where
  pub runs : List (List Numbered)
  pub leads : Leads Before (place_of new) [] done runs names
  pub does : viewing.Does (joined runs) old new repo repo_now Before After
  pub tickets : (held_by new).tickets ≡ (held_by old).tickets
  pub stage : (held_by new).stage ≡ (held_by old).stage

-- A request of the lane was served, or its run was cut; for one of another lane nothing was done.
abbrev pub ServesOwn : {A E : Type 0} → Type 0 → Place → Result A E → List Binding → Bool → Ask → List Numbered
    → List Binding → Type 0
ServesOwn firm place result names true ask run later = ServesOne firm place result names ask run later
ServesOwn firm place (Ok done) names false ask run later = (run ≡ []) × (later ≡ names)
ServesOwn firm place (Err fault) names false ask run later = ⊥
