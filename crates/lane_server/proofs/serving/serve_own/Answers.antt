use Rattle.std.proofs.Common.{◌≡◌, Bool, false, List, [], Ok, refl, sym, subst, ne_eqb}
use Rattle.std.specs.declared.alloc.AllocError.{AllocError}
use Rattle.script_lang.specs.declared.request.Ask.{Ask}
use Rattle.store_model.specs.Desk.{View}
use Rattle.system_updater.specs.Viewing.{Told}
use Rattle.lane_server.specs.declared.names.Binding.{Binding}
use Rattle.lane_server.specs.Serving.{place_of}
use Rattle.lane_server.specs.Steps.{ServesOwn}
use Rattle.lane_server.specs.Viewing.{Does}
use Rattle.lane_server.proofs.Called.{none_does}
use Rattle.lane_server.proofs.serving.serve_own.Goals as goal

-- a request of another lane is passed over
passes : (A E : Type 0) (x : A) (names : List Binding) (own : Bool) (ask : Ask) (v : View) (repo : Told) (F : Type 0) → own ≡ false → Does (λ run. ServesOwn {A = A} {E = E} F (place_of v) (Ok x) names own ask run names) v v repo repo F F
passes A E x names own ask v repo F same =
    subst (λ (b : Bool). Does (λ run. ServesOwn {A = A} {E = E} F (place_of v) (Ok x) names b ask run names) v v repo repo F F) (sym same)
    (none_does (λ run. (run ≡ []) × (names ≡ names)) v repo F (refl, refl))

pub returns-then-request-lane : goal.returns-then-request-lane
returns-then-request-lane g c =
    passes (Unit {0}) AllocError tt _ _ _ _ _ _ (ne_eqb c.args.request.now.lane c.args.lane c.if-request-lane.true)
