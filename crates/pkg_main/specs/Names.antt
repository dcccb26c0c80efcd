-- What the words of a `run` command name.
use Rattle.std.specs.Prelude.{ℕ, List, [], ◌∷◌}

-- `run IMAGE REPO SCRIPT`
abbrev pub script_in : List (List ℕ) → List ℕ
script_in (command ∷ image ∷ repo ∷ script ∷ []) = script
script_in words = []
