-- What the steps of a run come to. These definitions serve its proof; no clause of `run` cites them.
use Rattle.std.specs.Prelude.{◌≡◌, ℕ, Bool, true, List, ◌⊎◌, Option, Some, None, IfSome, IsSomeAnd}
use Rattle.script_lang.specs.declared.script.ScriptRefusal.{ScriptRefusal}
use Rattle.script_lang.specs.declared.script.ScriptRefusal.TheVariants as refusals
use Rattle.script_lang.specs.Scripts.{IsRefused}
use Rattle.pkg_tool.specs.declared.running.Status.{Status}
use Rattle.pkg_tool.specs.declared.running.Status.TheVariants.{Done, BadScript, ScriptFault, SinkFault, NoMemory}
use Rattle.pkg_tool.specs.declared.running.Refusal.{Refusal}
use Rattle.pkg_tool.specs.Running.{line_of_refusal}

-- ---- how a step ends

-- the reading of a script
abbrev pub IsReadEnd : Status → Type 0
IsReadEnd (BadScript line) = Unit {0}
IsReadEnd ScriptFault = Unit {0}
IsReadEnd NoMemory = Unit {0}
IsReadEnd status = ⊥

-- the printing of a history
abbrev pub IsPrintEnd : Status → Type 0
IsPrintEnd Done = Unit {0}
IsPrintEnd SinkFault = Unit {0}
IsPrintEnd NoMemory = Unit {0}
IsPrintEnd status = ⊥

-- the run: where a lane starved, that is told unless the printing failed
abbrev pub last_status : Status → Bool → Status
last_status Done true = NoMemory
last_status printed starved = printed

-- ---- a script that is refused

abbrev pub refusal_of : ScriptRefusal → Refusal
refusal_of refusals.NoMemory = record { status = NoMemory; why = None }
refusal_of why = record { status = BadScript (line_of_refusal why); why = Some why }

-- the text is refused so, or memory was short
abbrev pub IsRefusalOf : List ℕ → Refusal → Type 0
IsRefusalOf text refusal =
    (refusal ≡ refusal_of refusals.NoMemory)
    ⊎ ((why : ScriptRefusal) × (refusal ≡ refusal_of why) × IsRefused text why)

-- the line is that of what is wrong with the text
abbrev pub IsBadScript : Option (List ℕ) → Status → Option ScriptRefusal → Type 0
IsBadScript text status why =
    (line : ℕ) → status ≡ BadScript line
    → IsSomeAnd why (λ fault. (line ≡ line_of_refusal fault) × IfSome text (λ bytes. IsRefused bytes fault))
