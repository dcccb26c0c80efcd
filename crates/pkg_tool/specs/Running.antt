-- How a run ends, and what its history is to the script.
use Rattle.std.specs.Prelude.{◌≡◌, ℕ, ◌<◌, Bool, true, false, List, [], ◌⊎◌, Option, None, IfSome}
use Rattle.store_model.specs.declared.events.Event.{Event}
use Rattle.script_lang.specs.declared.request.Request.{Request}
use Rattle.script_lang.specs.declared.script.ScriptRefusal.{ScriptRefusal}
use Rattle.script_lang.specs.declared.script.ScriptRefusal.TheVariants as refusals
use Rattle.script_lang.specs.Scripts.{IsScript, IsGreatestLane}
use Rattle.system_updater.specs.Viewing.{Told}
use Rattle.pkg_tool.specs.declared.running.Status.{Status}
use Rattle.pkg_tool.specs.declared.running.Status.TheVariants.{Done, BadWords, BadScript, ScriptFault, SinkFault, NoMemory, FewRepos}
use Rattle.script_server.specs.Serving.{ServesScript}

-- the numbers that the program ends with
abbrev pub number_of : Status → ℕ
number_of Done = 0
number_of BadWords = 2
number_of (BadScript line) = 3
number_of ScriptFault = 6
number_of SinkFault = 7
number_of NoMemory = 8
number_of (FewRepos have need) = 9

-- nothing was begun
abbrev pub IsRefusal : Status → Type 0
IsRefusal BadWords = Unit {0}
IsRefusal (BadScript line) = Unit {0}
IsRefusal ScriptFault = Unit {0}
IsRefusal (FewRepos have need) = Unit {0}
IsRefusal status = ⊥

-- the line of a script that is refused; 0, where the script is too long
abbrev pub line_of_refusal : ScriptRefusal → ℕ
line_of_refusal refusals.TooLong = 0
line_of_refusal (refusals.Line number why) = number
line_of_refusal (refusals.TooMany number) = number
line_of_refusal refusals.NoMemory = 0

-- what is wrong with a script is told at `BadScript` alone
abbrev pub IsToldAtBadScript : Status → Option ScriptRefusal → Type 0
IsToldAtBadScript (BadScript line) why = Unit {0}
IsToldAtBadScript status why = why ≡ None

-- What a run with this end leaves. A history is empty where the run was refused, or where memory was short before the
-- store was opened.
abbrev pub Leaves : Status → Option (List ℕ) → Bool → List Event → List Told → List Told → Type 0
Leaves Done text starved history repos repos_now =
    (starved ≡ false) × ServesScript text starved history repos repos_now
Leaves SinkFault text starved history repos repos_now = ServesScript text starved history repos repos_now
Leaves NoMemory text starved history repos repos_now =
    ((starved ≡ true) × (history ≡ [])) ⊎ ServesScript text starved history repos repos_now
Leaves refusal text starved history repos repos_now = (starved ≡ false) × (history ≡ [])

-- the lanes of the script are more than the repositories
pub record IsShort (text : Option (List ℕ)) (have need repos : ℕ) : Type 0 where
  pub count : have ≡ repos
  pub few : have < need
  pub requests : List Request
  pub asked : IfSome text (λ bytes. IsScript bytes requests)
  pub greatest : IsGreatestLane requests need
