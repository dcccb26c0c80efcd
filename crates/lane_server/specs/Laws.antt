-- The words in which the law tells what is done for a lane.
use Rattle.std.specs.Prelude.{◌≡◌, List, [], ◌∷◌, ◌++◌, length}
use Rattle.std.specs.List.{AllZip}
use Rattle.script_lang.specs.declared.request.Ask.{Ask}
use Rattle.script_lang.specs.declared.request.Ask.TheVariants as asks
use Rattle.store_model.specs.History.{Numbered}
use Rattle.resolver.specs.Counting.{begins}
use Rattle.resolver.specs.Laws.{AsksOnce, AreEnded}
use Rattle.system_updater.specs.declared.reply.UpdateReply.{UpdateReply}
use Rattle.system_updater.specs.Causes.{HasCause}
use Rattle.system_updater.specs.Serving.{joined}

-- A resolve asks for one package, that of its URL, and asks first; each claim that is granted to it has its end. On a
-- part of an update its reply follows. Each other request is one event.
abbrev pub IsDone : Ask → List Numbered → Type 0
IsDone (asks.Resolve name url) run = (begins run ≡ 1) × AsksOnce url.path url.pin run × AreEnded run
IsDone (asks.Update url) run = (reply : UpdateReply) × HasCause reply run
IsDone ask run = length run ≡ 1

-- A resolve that was cut has asked for no other package, and each claim that was granted to it has its end. A call
-- that was cut has no event.
abbrev pub IsGivenUp : Ask → List Numbered → Type 0
IsGivenUp (asks.Resolve name url) run = AsksOnce url.path url.pin run × AreEnded run
IsGivenUp (asks.Update url) run = Unit {0}
IsGivenUp ask run = run ≡ []

-- The events are as many runs as there are requests, in the same order.
pub record AreDone (all : List Ask) (events : List Numbered) : Type 0 where
  pub runs : List (List Numbered)
  pub each : AllZip IsDone all runs
  pub whole : events ≡ joined runs

-- So it is of the first requests, and the next one was given up. Nothing is done of the rest.
pub record AreDoneTo (all : List Ask) (events : List Numbered) : Type 0 where
  pub first : List Ask
  pub next : Ask
  pub rest : List Ask
  pub split : all ≡ first ++ next ∷ rest
  pub done : List Numbered
  pub are : AreDone first done
  pub last : List Numbered
  pub given_up : IsGivenUp next last
  pub whole : events ≡ done ++ last
