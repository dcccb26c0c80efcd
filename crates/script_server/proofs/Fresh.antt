-- Lanes at a store that has just booted.
use Rattle.std.proofs.Common.{◌≡◌, ℕ, ◌<◌, ◌==◌, cond, Bool, true, false, List, [], ◌∷◌, refl, ap, ◌∙◌, arith}
use Rattle.std.proofs.lemmas.Bool.{eqb-true}
use Rattle.image_layout.specs.declared.geometry.Geometry.{Geometry}
use Rattle.store_model.specs.declared.events.Act.TheVariants as acts
use Rattle.store_model.specs.State.{Standing}
use Rattle.store_model.specs.History.{Numbered, of_lane}
use Rattle.plain_ledger.specs.Ledgers.{event_by}
use Rattle.plain_desk.specs.Stores.{StoreOf, ImagesOf}
use Rattle.plain_desk.specs.Opening.{HasBooted}
use Rattle.script_server.specs.Lanes.{AreFresh}

-- behind lane 0 no lane has an event after the boot
pub fresh_start : (i : ImagesOf) (g : Geometry) (d : Standing) (s : StoreOf) → HasBooted i g d s → AreFresh 0 s.history
fresh_start i g d s booted lane behind = ap (of_lane lane) booted.history ∙ go (0 == lane) refl where
  go : (own : Bool) → (0 == lane) ≡ own
      → ◌≡◌ {A = List Numbered} (cond own (record { number = 1; event = event_by 0 (acts.Boot booted.slot booted.seen) } ∷ []) []) []
  go true same = let zero_is : 0 ≡ lane = eqb-true 0 lane same in absurd (omega (arith, behind, zero_is))
  go false same = refl
