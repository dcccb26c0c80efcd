-- A script: the requests that its lines ask for, in order.
use Rattle.std.specs.Prelude.{◌≡◌, ℕ, ◌+◌, ◌<◌, ◌≤◌, List, [], ◌∷◌, ◌++◌, length, Some, None, Ok, Err, ◌⊎◌, All, Contains}
use Rattle.pkg_names.specs.Text.{lines_of}
use Rattle.script_lang.specs.declared.request.Request.{Request}
use Rattle.script_lang.specs.declared.request.LineFault.{LineFault}
use Rattle.script_lang.specs.declared.script.ScriptRefusal.{ScriptRefusal}
use Rattle.script_lang.specs.declared.script.ScriptRefusal.TheVariants.{TooLong, Line, TooMany, NoMemory}
use Rattle.script_lang.specs.declared.script.TheConstants.{SCRIPT_LIMIT, REQUEST_LIMIT}
use Rattle.script_lang.specs.Requests.{line_in}

-- the line with this number asks for the first request
abbrev pub AsksFirst : (List Request → Type 0) → ℕ → List ℕ → List Request → Type 0
AsksFirst rest number line [] = ⊥
AsksFirst rest number line (request ∷ requests) = (line_in number line ≡ Ok (Some request)) × rest requests

-- the lines, the first of which has this number, ask for these requests, in order
abbrev pub AskFor : ℕ → List (List ℕ) → List Request → Type 0
AskFor number [] [] = Unit {0}
AskFor number [] (request ∷ requests) = ⊥
AskFor number (line ∷ lines) requests =
    ((line_in number line ≡ Ok None) × AskFor (number + 1) lines requests)
    ⊎ AsksFirst (AskFor (number + 1) lines) number line requests

-- the text is a script that asks for these requests
pub record IsScript (text : List ℕ) (requests : List Request) : Type 0 where
  pub short : length text ≤ SCRIPT_LIMIT
  pub lines : AskFor 1 (lines_of text) requests
  pub few : length requests ≤ REQUEST_LIMIT

-- The line with this number is bad for this behind good ones, which ask for so many requests.
pub record IsFirstBad (IsBad : List ℕ → List Request → Type 0) (text : List ℕ) (at : ℕ) : Type 0 where
  pub short : length text ≤ SCRIPT_LIMIT
  pub before : List (List ℕ)
  pub line : List ℕ
  pub after : List (List ℕ)
  pub requests : List Request
  pub lines : lines_of text ≡ before ++ line ∷ after
  pub number : at ≡ length before + 1
  pub good : AskFor 1 before requests
  pub few : length requests ≤ REQUEST_LIMIT
  pub bad : IsBad line requests

-- the line is bad for this
abbrev pub HasFault : ℕ → LineFault → List ℕ → List Request → Type 0
HasFault number why line requests = line_in number line ≡ Err why

-- the line asks for one request too many
abbrev pub IsPastLimit : ℕ → List ℕ → List Request → Type 0
IsPastLimit number line requests =
    (length requests ≡ REQUEST_LIMIT) × (request : Request) × (line_in number line ≡ Ok (Some request))

-- why the text is no script
abbrev pub IsRefused : List ℕ → ScriptRefusal → Type 0
IsRefused text TooLong = SCRIPT_LIMIT < length text
IsRefused text (Line number why) = IsFirstBad (HasFault number why) text number
IsRefused text (TooMany number) = IsFirstBad (IsPastLimit number) text number
IsRefused text NoMemory = ⊥

-- This is the greatest lane of the requests, and 0 where there is none.
pub record IsGreatestLane (requests : List Request) (lane : ℕ) : Type 0 where
  pub bound : All (λ (r : Request). r.lane ≤ lane) requests
  pub met : (lane ≡ 0) ⊎ ((request : Request) × Contains requests request × (request.lane ≡ lane))
