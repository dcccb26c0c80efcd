-- The lanes of a script that were served at the store of the start.
use Rattle.std.proofs.Common.{◌≡◌, ◌⊎◌, ℕ, zero, suc, ◌<◌, ◌≤◌, ◌==◌, cond, Bool, true, false, List, [], ◌∷◌, length, inl, inr, Option, refl, ap, subst, ◌∙◌, arith}
use Rattle.std.specs.Prelude.{IfSome}
use Rattle.std.proofs.lemmas.Bool.{cases_lt, eqb-true}
use Rattle.store_model.specs.declared.events.Event.{Event}
use Rattle.store_model.specs.declared.events.Act.TheVariants as acts
use Rattle.store_model.specs.State.{Standing}
use Rattle.store_model.specs.Holding.{held}
use Rattle.store_model.specs.History.{Origin, IsLegal, Numbered, of_lane}
use Rattle.plain_ledger.specs.Ledgers.{origin_of, event_by}
use Rattle.plain_desk.specs.Memory.{AreOfMemory}
use Rattle.plain_desk.specs.Stores.{StoreOf}
use Rattle.plain_drafts.specs.Images.{no_images}
use Rattle.plain_desk.specs.Opening.{HasBooted}
use Rattle.first_store.specs.Start.{IsStart, start_geometry}
use Rattle.script_lang.specs.declared.request.Request.{Request}
use Rattle.script_lang.specs.Scripts.{IsScript, IsGreatestLane}
use Rattle.system_updater.specs.Viewing.{Told}
use Rattle.script_server.specs.Lanes.{IsAtRest, AreServed, AreFresh, ServesLanes}
use Rattle.script_server.specs.Serving.{ServesScript}
use Rattle.script_server.proofs.Histories.{reads_files, collects_rest}
use Rattle.script_server.proofs.Turns.{idle, rest_served}
use Rattle.script_server.proofs.Resting.{at_rest}

-- ---- the lanes of a script, from the start on

module _ (d : Standing) (is_start : IsStart d) (s s1 : StoreOf) (booted : HasBooted no_images start_geometry d s) (requests : List Request) (lanes : ℕ) (starved : Bool)
    (repos repos_now : List Told) (serves : ServesLanes requests 0 lanes starved repos repos_now s s1) where
  boot : of_lane 0 s1.history ≡ record { number = 1; event = event_by 0 (acts.Boot booted.slot booted.seen) } ∷ []
  boot = serves.first 0 (omega arith) ∙ ap (of_lane 0) booted.history

  from : s1.origin ≡ origin_of start_geometry d
  from = serves.origin ∙ booted.origin

  rest : (lane : ℕ) → IsAtRest (held (of_lane lane s1.history))
  rest zero = rw boot (record { claim = refl; tickets = refl; stage = refl })
  rest (suc lane) = go (cases_lt lanes (suc lane)) where
    go : (lanes < suc lane) ⊎ (suc lane ≤ lanes) → IsAtRest (held (of_lane (suc lane) s1.history))
    go (inl behind) = idle (of_lane (suc lane) s1.history) (serves.fresh (suc lane) (omega (arith, behind)))
    go (inr within) = rest_served s1.origin requests s1.history 0 serves.cuts repos repos_now serves.served (suc lane) (omega arith) (omega (arith, within, serves.each))

  pub serves_script : IsLegal s1.origin s1.history → AreOfMemory s1.history → IsGreatestLane requests lanes → (text : Option (List ℕ)) → IfSome text (λ bytes. IsScript bytes requests)
      → ServesScript text starved s1.history repos repos_now
  serves_script legal steady greatest text asked =
      let lawful = subst (λ (o : Origin). IsLegal o s1.history) from legal in
      record {
        start = d;
        is_start = is_start;
        legal = lawful;
        steady = steady;
        boot = (booted.slot, booted.seen, boot);
        requests = requests;
        asked = asked;
        lanes = lanes;
        greatest = greatest;
        cuts = serves.cuts;
        each = serves.each;
        some = serves.some;
        served = subst (λ (o : Origin). AreServed o requests s1.history 0 serves.cuts repos repos_now) from serves.served;
        none = λ lane behind. serves.fresh lane (omega (arith, behind));
        reads = reads_files (origin_of start_geometry d) s1.history lawful;
        collects = collects_rest (origin_of start_geometry d) s1.history lawful;
        rests = λ lane. at_rest (origin_of start_geometry d) s1.history lane lawful (rest lane);
      }

  -- the history has the boot
  pub begun : 0 < length s1.history
  begun = go s1.history boot where
    go : (history : List Event) → of_lane 0 history ≡ record { number = 1; event = event_by 0 (acts.Boot booted.slot booted.seen) } ∷ [] → 0 < length history
    go [] wrong = absurd cc
    go (e ∷ es) right = omega arith
