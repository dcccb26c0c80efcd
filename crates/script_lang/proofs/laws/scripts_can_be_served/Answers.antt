use Rattle.std.proofs.Common.{◌≡◌, ℕ, ◌+◌, List, [], ◌∷◌, All, Some, Ok, inl, inr}
use Rattle.std.specs.Prelude.{◌↔◌, IsUtf8}
use Rattle.std.proofs.lemmas.List.Elements.{All-nil, All-cons}
use Rattle.pkg_names.specs.Text.{lines_of}
use Rattle.script_lang.specs.declared.request.Ask.{Ask}
use Rattle.script_lang.specs.declared.request.Ask.TheVariants as asks
use Rattle.script_lang.specs.declared.request.Request.{Request}
use Rattle.script_lang.specs.Requests.{line_in}
use Rattle.script_lang.specs.Scripts.{AskFor}
use Rattle.script_lang.specs.Servable.{IsServable}
use Rattle.script_lang.specs.Spelling.{Asks, Spells}
use Rattle.script_lang.proofs.laws.scripts_can_be_served.Goals as goal

-- what is spelled can be served
servable : (text : List ℕ) (ask : Ask) → Spells text ask → IsServable ask
servable text (asks.Resolve name url) s = s.2.1
servable text (asks.OpenPath name path) s = tt
servable text (asks.Cat name file) s = tt
servable text (asks.Check name file) s = tt
servable text (asks.Close name) s = tt
servable text asks.Collect s = tt
servable text (asks.Retain roots) s = s.2
servable text (asks.Update url) s = s.2.1
servable text asks.Commit s = tt

abbrev IsFine : Request → Type 0
IsFine r = IsServable r.ask

abbrev LinesAreSpelled : Type 0
LinesAreSpelled = (number : ℕ) (line : List ℕ) (request : Request) → (line_in number line ≡ Ok (Some request)) ↔ (IsUtf8 line × (request.line ≡ number) × Asks line request)

all : LinesAreSpelled → (number : ℕ) (lines : List (List ℕ)) (requests : List Request) → AskFor number lines requests → All IsFine requests
all spelled number [] [] h = All-nil IsFine
all spelled number [] (r ∷ requests) h = absurd h
all spelled number (line ∷ lines) requests (inl h) = all spelled (number + 1) lines requests h.1
all spelled number (line ∷ lines) [] (inr h) = absurd h
all spelled number (line ∷ lines) (r ∷ requests) (inr h) =
    let is = ((spelled number line r).0 h.0).2 in
    All-cons IsFine r requests (servable is.text r.ask is.ask) (all spelled (number + 1) lines requests h.1)

pub returns : goal.returns
returns c text requests script = all c.lines_are_spelled.ensures 1 (lines_of text) requests script.lines
