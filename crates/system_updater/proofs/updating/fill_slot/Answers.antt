use Rattle.std.proofs.Common.{◌≡◌, List, [], Err, refl, sym, ap, rules}
use Rattle.pkg_names.specs.declared.pinned.Pinned.{Pinned}
use Rattle.store_model.specs.declared.replies.Dir.{Dir}
use Rattle.store_model.specs.Desk.{View}
use Rattle.system_updater.specs.declared.plan.Plan.{Plan}
use Rattle.system_updater.specs.Plan.{sys_of, tasks_of}
use Rattle.system_updater.specs.Serving.Point.{Retaining, Fetching, Filling, Activating}
use Rattle.system_updater.specs.Holding.{HoldsAt}
use Rattle.system_updater.specs.Viewing.{Told, told}
use Rattle.system_updater.specs.Steps.{Goes, or_left}
use Rattle.system_updater.proofs.Goes.{goes_then, goes_to, goes_pass}
use Rattle.system_updater.proofs.Wholes.{filling_stage, holds_then}
use Rattle.system_updater.proofs.Grown.{grew_goes, slot_sealed, slot_early, have_wider}
use Rattle.image_layout.specs.declared.ImageKind.TheVariants as kinds
use Rattle.image_layout.specs.declared.Sys.{Sys}
use Rattle.system_updater.proofs.updating.fill_slot.Goals as goal

module _ (plan : Plan) (ps : List Pinned) (v w : View) (r : Told) (F G : Type 0) (same : ps ≡ plan.packages) (retains : (dir : Dir) → Goes (Retaining dir plan) (Fetching dir plan plan.packages) v w r r F G) where
  -- the packages are retained
  retained : (dir : Dir) → Goes (Retaining dir plan) (Fetching dir plan ps) v w r r F G
  retained dir = goes_to (Retaining dir plan) (Fetching dir plan plan.packages) (Fetching dir plan ps) v w r r F G (ap (Fetching dir plan) (sym same)) (retains dir)

  retained_at : (dir : Dir) → HoldsAt (Retaining dir plan) v → HoldsAt (Fetching dir plan ps) w
  retained_at dir at = holds_then (Retaining dir plan) (Fetching dir plan ps) v w r r F G (retained dir) at

  -- and there
  fetched : (u : View) (s : Told) (H : Type 0) → ((dir : Dir) (plan : Plan) → HoldsAt (Fetching dir plan ps) w → Goes (Fetching dir plan ps) (Fetching dir plan []) w u r s G H)
      → (dir : Dir) → HoldsAt (Retaining dir plan) v → Goes (Retaining dir plan) (Filling dir plan (tasks_of plan.images)) v u r s F H
  fetched u s H fetches dir at =
      goes_then (Retaining dir plan) (Fetching dir plan []) (Filling dir plan (tasks_of plan.images)) v u u r s s F H H
      (goes_then (Retaining dir plan) (Fetching dir plan ps) (Fetching dir plan []) v w u r r s F G H (retained dir) (fetches dir plan (retained_at dir at)))
      (goes_pass (Fetching dir plan []) (Filling dir plan (tasks_of plan.images)) u s H (refl, refl) (λ base is. is))

  fetched_at : (u : View) (s : Told) (H : Type 0) → ((dir : Dir) (plan : Plan) → HoldsAt (Fetching dir plan ps) w → Goes (Fetching dir plan ps) (Fetching dir plan []) w u r s G H)
      → (dir : Dir) → HoldsAt (Retaining dir plan) v → HoldsAt (Filling dir plan (tasks_of plan.images)) u
  fetched_at u s H fetches dir at = holds_then (Retaining dir plan) (Filling dir plan (tasks_of plan.images)) v u r s F H (fetched u s H fetches dir at) at

pub fetch_all-requires : goal.fetch_all-requires
fetch_all-requires g c = (
  c.requires.at.0,
  c.args.plan,
  retained_at c.args.plan c.as_slice-2.result.now _ _ (told (g.R.Repo.listing c.args.repo.now) (g.R.Repo.files c.args.repo.now) (g.R.Repo.faults c.args.repo.now) (g.R.Repo.fetches c.args.repo.now)) _ _ c.as_slice-2.ensures.list
      (λ dir. c.in_ok-retain.ensures.goes dir c.args.plan _ (sym c.as_slice.ensures.list)) c.requires.at.0 c.requires.at.1,
)

pub fill_all-requires : goal.fill_all-requires
fill_all-requires g c = (
  c.requires.at.0,
  c.args.plan,
  fetched_at c.args.plan c.as_slice-2.result.now _ _ (told (g.R.Repo.listing c.args.repo.now) (g.R.Repo.files c.args.repo.now) (g.R.Repo.faults c.args.repo.now) (g.R.Repo.fetches c.args.repo.now)) _ _ c.as_slice-2.ensures.list
      (λ dir. c.in_ok-retain.ensures.goes dir c.args.plan _ (sym c.as_slice.ensures.list)) _ _ _ c.in_ok-fetch_all.ensures.goes c.requires.at.0 c.requires.at.1,
)

pub seal-requires : goal.seal-requires
seal-requires g c =
    let repo = told (g.R.Repo.listing c.args.repo.now) (g.R.Repo.files c.args.repo.now) (g.R.Repo.faults c.args.repo.now) (g.R.Repo.fetches c.args.repo.now) in
    let retains = λ (dir : Dir). c.in_ok-retain.ensures.goes dir c.args.plan repo (sym c.as_slice.ensures.list) in
    let at = fetched_at c.args.plan c.as_slice-2.result.now _ _ repo _ _ c.as_slice-2.ensures.list retains _ _ _ c.in_ok-fetch_all.ensures.goes c.requires.at.0 c.requires.at.1 in
    filling_stage _ _ _ _ (holds_then _ _ _ _ _ _ _ _ (c.in_ok-fill_all.ensures.goes c.requires.at.0 c.args.plan at) at)

pub returns-in_err-fetch_all-clause-goes : goal.returns-in_err-fetch_all-clause-goes
returns-in_err-fetch_all-clause-goes g c = λ dir at.
    let repo = told (g.R.Repo.listing c.args.repo.now) (g.R.Repo.files c.args.repo.now) (g.R.Repo.faults c.args.repo.now) (g.R.Repo.fetches c.args.repo.now) in
    let retains = λ (dir : Dir). c.in_ok-retain.ensures.goes dir c.args.plan repo (sym c.as_slice.ensures.list) in
    let same : Err c.in_err-fetch_all.field-0.0 ≡ c.from_residual-in_err-fetch_all.result = search rules in
    goes_to _ _ _ _ _ _ _ _ _ (ap (or_left (λ done. Activating dir (sys_of c.args.plan)) dir) same)
    (goes_then _ _ _ _ _ _ _ _ _ _ _ _ (retained c.args.plan c.as_slice-2.result.now _ _ repo _ _ c.as_slice-2.ensures.list retains dir)
    (c.in_err-fetch_all.ensures.goes dir c.args.plan (retained_at c.args.plan c.as_slice-2.result.now _ _ repo _ _ c.as_slice-2.ensures.list retains dir at)))

pub returns-in_err-fill_all-clause-goes : goal.returns-in_err-fill_all-clause-goes
returns-in_err-fill_all-clause-goes g c = λ dir at.
    let repo = told (g.R.Repo.listing c.args.repo.now) (g.R.Repo.files c.args.repo.now) (g.R.Repo.faults c.args.repo.now) (g.R.Repo.fetches c.args.repo.now) in
    let retains = λ (dir : Dir). c.in_ok-retain.ensures.goes dir c.args.plan repo (sym c.as_slice.ensures.list) in
    let same : Err c.in_err-fill_all.field-0.0 ≡ c.from_residual-in_err-fill_all.result = search rules in
    goes_to _ _ _ _ _ _ _ _ _ (ap (or_left (λ done. Activating dir (sys_of c.args.plan)) dir) same)
    (goes_then _ _ _ _ _ _ _ _ _ _ _ _ (fetched c.args.plan c.as_slice-2.result.now _ _ repo _ _ c.as_slice-2.ensures.list retains _ _ _ c.in_ok-fetch_all.ensures.goes dir at)
    (c.in_err-fill_all.ensures.goes dir c.args.plan (fetched_at c.args.plan c.as_slice-2.result.now _ _ repo _ _ c.as_slice-2.ensures.list retains _ _ _ c.in_ok-fetch_all.ensures.goes dir at)))

pub returns-clause-goes : goal.returns-clause-goes
returns-clause-goes g c = λ dir at.
    let repo = told (g.R.Repo.listing c.args.repo.now) (g.R.Repo.files c.args.repo.now) (g.R.Repo.faults c.args.repo.now) (g.R.Repo.fetches c.args.repo.now) in
    let retains = λ (dir : Dir). c.in_ok-retain.ensures.goes dir c.args.plan repo (sym c.as_slice.ensures.list) in
    goes_then _ _ _ _ _ _ _ _ _ _ _ _
    (goes_then _ _ _ _ _ _ _ _ _ _ _ _ (fetched c.args.plan c.as_slice-2.result.now _ _ repo _ _ c.as_slice-2.ensures.list retains _ _ _ c.in_ok-fetch_all.ensures.goes dir at)
    (c.in_ok-fill_all.ensures.goes dir c.args.plan (fetched_at c.args.plan c.as_slice-2.result.now _ _ repo _ _ c.as_slice-2.ensures.list retains _ _ _ c.in_ok-fetch_all.ensures.goes dir at)))
    (c.seal.ensures.goes dir c.args.plan _ (sym c.sys_of-sys.ensures))

pub returns-in_err-retain-clause-images : goal.returns-in_err-retain-clause-images
returns-in_err-retain-clause-images g c = λ dir at zbi vbmeta.
    let same : Err c.in_err-retain.field-0.0 ≡ c.from_residual.result = search rules in
    slot_early (g.K.Desk.firm c.args.desk.now) (g.K.Desk.view c.args.desk.now) (g.K.Desk.view c.retain.new.desk) c.args.plan.images c.in_err-retain.field-0.0 c.from_residual.result same c.in_err-retain.ensures.images

pub returns-in_err-fetch_all-clause-images : goal.returns-in_err-fetch_all-clause-images
returns-in_err-fetch_all-clause-images g c = λ dir at zbi vbmeta.
    let same : Err c.in_err-fetch_all.field-0.0 ≡ c.from_residual-in_err-fetch_all.result = search rules in
    slot_early (g.K.Desk.firm c.args.desk.now) (g.K.Desk.view c.args.desk.now) (g.K.Desk.view c.fetch_all.new.desk) c.args.plan.images c.in_err-fetch_all.field-0.0 c.from_residual-in_err-fetch_all.result same c.in_err-fetch_all.ensures.images

pub returns-in_err-fill_all-clause-images : goal.returns-in_err-fill_all-clause-images
returns-in_err-fill_all-clause-images g c = λ dir at zbi vbmeta.
    let repo = told (g.R.Repo.listing c.args.repo.now) (g.R.Repo.files c.args.repo.now) (g.R.Repo.faults c.args.repo.now) (g.R.Repo.fetches c.args.repo.now) in
    let retains = λ (dir : Dir). c.in_ok-retain.ensures.goes dir c.args.plan repo (sym c.as_slice.ensures.list) in
    let there = fetched_at c.args.plan c.as_slice-2.result.now _ _ repo _ _ c.as_slice-2.ensures.list retains _ _ _ c.in_ok-fetch_all.ensures.goes dir at in
    let same : Err c.in_err-fill_all.field-0.0 ≡ c.from_residual-in_err-fill_all.result = search rules in
    slot_early (g.K.Desk.firm c.args.desk.now) (g.K.Desk.view c.args.desk.now) (g.K.Desk.view c.fill_all.new.desk) c.args.plan.images c.in_err-fill_all.field-0.0 c.from_residual-in_err-fill_all.result same
    (c.in_err-fill_all.ensures.images dir c.args.plan there (c.in_ok-fetch_all.ensures.images kinds.Zbi [] (c.in_ok-retain.ensures.images kinds.Zbi [] zbi)) (c.in_ok-fetch_all.ensures.images kinds.Vbmeta [] (c.in_ok-retain.ensures.images kinds.Vbmeta [] vbmeta)))

pub returns-clause-images : goal.returns-clause-images
returns-clause-images g c = λ dir at zbi vbmeta.
    let plan = c.args.plan in
    let v = g.K.Desk.view c.args.desk.now in
    let u = g.K.Desk.view c.fetch_all.new.desk in
    let w = g.K.Desk.view c.fill_all.new.desk in
    let z = g.K.Desk.view c.seal.new.desk in
    let F = g.K.Desk.firm c.args.desk.now in
    let G = g.K.Desk.firm c.fetch_all.new.desk in
    let kept = g.K.Desk.kept c.fill_all.new.desk in
    let repo = told (g.R.Repo.listing c.args.repo.now) (g.R.Repo.files c.args.repo.now) (g.R.Repo.faults c.args.repo.now) (g.R.Repo.fetches c.args.repo.now) in
    let retains = λ (dir : Dir). c.in_ok-retain.ensures.goes dir plan repo (sym c.as_slice.ensures.list) in
    let before = fetched plan c.as_slice-2.result.now _ _ repo _ _ c.as_slice-2.ensures.list retains _ _ _ c.in_ok-fetch_all.ensures.goes dir at in
    let there = fetched_at plan c.as_slice-2.result.now _ _ repo _ _ c.as_slice-2.ensures.list retains _ _ _ c.in_ok-fetch_all.ensures.goes dir at in
    let filled = c.in_ok-fill_all.ensures.images dir plan there (c.in_ok-fetch_all.ensures.images kinds.Zbi [] (c.in_ok-retain.ensures.images kinds.Zbi [] zbi)) (c.in_ok-fetch_all.ensures.images kinds.Vbmeta [] (c.in_ok-retain.ensures.images kinds.Vbmeta [] vbmeta)) in
    let seals = c.seal.ensures.goes dir plan repo (sym c.sys_of-sys.ensures) in
    slot_sealed F kept v w z plan.images c.sys_of-sys.result c.seal.result (ap (λ (s : Sys). s.zbi) c.sys_of-sys.ensures) (ap (λ (s : Sys). s.vbmeta) c.sys_of-sys.ensures)
    (have_wider v u w F G kept plan.images (grew_goes _ _ v u _ _ F G before) before.does.firm.0 filled) (grew_goes _ _ w z _ _ _ _ seals) c.seal.ensures.images
