-- What the run of each request is, in other words.
use Rattle.std.proofs.Common.{inl, inr, ◌≡◌, ◌≢◌, ℕ, ◌+◌, Bool, true, cond, List, [], ◌∷◌, length, Option, refl, ap, ◌∙◌}
use Rattle.std.specs.List.{AllZip}
use Rattle.std.proofs.lemmas.List.Sums.{sum_by-cons}
use Rattle.pkg_names.specs.NameAndVariant.{NameAndVariant}
use Rattle.pkg_names.specs.declared.root.Root.{Root}
use Rattle.script_lang.specs.declared.request.Ask.{Ask}
use Rattle.script_lang.specs.declared.request.Ask.TheVariants as asks
use Rattle.store_model.specs.declared.events.Event.{Event}
use Rattle.store_model.specs.History.{Numbered}
use Rattle.resolver.specs.declared.reply.ResolveReply.{ResolveReply}
use Rattle.resolver.specs.declared.reply.ResolveReply.TheVariants as resolved
use Rattle.resolver.specs.Serving as resolve
use Rattle.resolver.specs.Counting.{is_begin, begins}
use Rattle.resolver.specs.Laws.{AsksOnce, AreEnded, EndsAs}
use Rattle.system_updater.specs.declared.reply.UpdateReply.{UpdateReply}
use Rattle.system_updater.specs.Serving as update
use Rattle.system_updater.specs.Serving.{IsOne, joined}
use Rattle.system_updater.specs.Causes.{HasCause}
use Rattle.lane_server.specs.declared.names.Binding.{Binding}
use Rattle.lane_server.specs.Serving.{Place, IsCalled, Serves, IsCut, Leads, ServesAll, ServesFront}
use Rattle.lane_server.specs.Laws.{IsDone, IsGivenUp, AreDone, AreDoneTo}

-- one package is asked for, where anything is
begins_once : (path : NameAndVariant) (pin : Option Root) (run : List Numbered) (reply : ResolveReply) → AsksOnce path pin run → EndsAs reply run → reply ≢ resolved.NoMemory → begins run ≡ 1
begins_once path pin [] reply asks ends whole = absurd (whole ends)
begins_once path pin (e ∷ es) reply asks ends whole =
    let asked : is_begin e.event.act ≡ true = elim asks.asks [ inl begun ↦ ap is_begin begun.is | inr refused ↦ ap is_begin refused.is ] in
    sum_by-cons (λ (x : Numbered). cond (is_begin x.event.act) 1 0) e es ∙ ap (λ (b : Bool). cond b 1 0 + begins es) asked ∙ ap (λ (n : ℕ). 1 + n) asks.once

-- a call is one event
called : {A : Type 0} (IsIts : A → ℕ → Event → Type 0) (after : A → List Binding) (run : List Numbered) (later : List Binding) → IsCalled IsIts after run later → length run ≡ 1
called IsIts after run later is = ap (λ (es : List Numbered). length es) is.event.1

module _ (begin : (path : NameAndVariant) (pin : Option Root) (run : List Numbered) (reply : ResolveReply) → resolve.Serves path pin run reply → AsksOnce path pin run)
    (ended : (path : NameAndVariant) (pin : Option Root) (run : List Numbered) (reply : ResolveReply) → resolve.Serves path pin run reply → AreEnded run)
    (last : (path : NameAndVariant) (pin : Option Root) (run : List Numbered) (reply : ResolveReply) → resolve.Serves path pin run reply → EndsAs reply run)
    (causes : (path : NameAndVariant) (pin : Option Root) (run : List Numbered) (reply : UpdateReply) → update.Serves path pin run reply → HasCause reply run) where
  done : (firm : Type 0) (place : Place) (names : List Binding) (ask : Ask) (run : List Numbered) (later : List Binding) → Serves firm place names ask run later → IsDone ask run
  done firm place names (asks.Resolve name url) run later is =
      let asks = begin url.path url.pin run is.reply is.serves in
      (begins_once url.path url.pin run is.reply asks (last url.path url.pin run is.reply is.serves) is.whole, asks, ended url.path url.pin run is.reply is.serves)
  done firm place names (asks.OpenPath name path) run later is = called _ _ run later is
  done firm place names (asks.Cat name file) run later is = called _ _ run later is
  done firm place names (asks.Check name file) run later is = called _ _ run later is
  done firm place names (asks.Close name) run later is = called _ _ run later is
  done firm place names asks.Collect run later is = called _ _ run later is
  done firm place names (asks.Retain roots) run later is = called _ _ run later is
  done firm place names (asks.Update url) run later is = (is.reply, causes url.path url.pin run is.reply is.serves)
  done firm place names asks.Commit run later is = called _ _ run later is

  given_up : (ask : Ask) (run : List Numbered) → IsCut ask run → IsGivenUp ask run
  given_up (asks.Resolve name url) run is = (begin url.path url.pin run resolved.NoMemory is, ended url.path url.pin run resolved.NoMemory is)
  given_up (asks.OpenPath name path) run is = is
  given_up (asks.Cat name file) run is = is
  given_up (asks.Check name file) run is = is
  given_up (asks.Close name) run is = is
  given_up asks.Collect run is = is
  given_up (asks.Retain roots) run is = is
  given_up (asks.Update url) run is = tt
  given_up asks.Commit run is = is

  all_done : (firm : Type 0) (place : Place) (names : List Binding) (all : List Ask) (runs : List (List Numbered)) (later : List Binding) → Leads firm place names all runs later → AllZip IsDone all runs
  all_done firm place names [] [] later leads = tt
  all_done firm place names (ask ∷ others) (run ∷ runs) later leads = (done firm place names ask run leads.0 leads.1, all_done firm place leads.0 others runs later leads.2)
  all_done firm place names [] (run ∷ runs) later leads = absurd leads
  all_done firm place names (ask ∷ others) [] later leads = absurd leads

  pub are_done : (firm : Type 0) (place : Place) (all : List Ask) (events : List Numbered) → ServesAll firm place all events → AreDone all events
  are_done firm place all events is = record { runs = is.runs; each = all_done firm place [] all is.runs is.later is.leads; whole = is.whole }

  pub are_done_to : (firm : Type 0) (place : Place) (all : List Ask) (events : List Numbered) → ServesFront firm place all events → AreDoneTo all events
  are_done_to firm place all events is = record {
    first = is.first;
    next = is.next;
    rest = is.rest;
    split = is.split;
    done = joined is.runs;
    are = record { runs = is.runs; each = all_done firm place [] is.first is.runs is.later is.leads; whole = refl };
    last = is.last;
    given_up = given_up is.next is.last is.cut;
    whole = is.whole;
  }
