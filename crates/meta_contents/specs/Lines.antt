-- What a line of contents says.
use Rattle.std.specs.Prelude.{ℕ, ◌==◌, List, [], ◌∷◌, Option, Some, None, option_and_then, if◌then◌else◌}
use Rattle.std.specs.Option.{option_map}
use Rattle.pkg_names.specs.declared.root.Root.{Root}
use Rattle.pkg_names.specs.Root.{root_in}
use Rattle.pkg_names.specs.FileText.{is_file_text}
use Rattle.pkg_names.specs.Text.{equals_sign}

-- the parts before and behind the last `=`: it stands in the rest, or else it is the first byte
abbrev pub longer : ℕ → List ℕ → Option (List ℕ × List ℕ) → Option (List ℕ × List ℕ)
longer c rest (Some cut) = Some (c ∷ cut.0, cut.1)
longer c rest None = if c == equals_sign then Some ([], rest) else None

unfoldable pub last_cut : List ℕ → Option (List ℕ × List ℕ)
last_cut [] = None
last_cut (c ∷ rest) = longer c rest (last_cut rest)

-- the file and the root of a line: a file path before its last `=`, and a root behind it
abbrev pub pair_of : List ℕ × List ℕ → Option (List ℕ × Root)
pair_of cut = if is_file_text cut.0 then option_map (λ root. (cut.0, root)) (root_in cut.1) else None

abbrev pub pair_in : List ℕ → Option (List ℕ × Root)
pair_in line = option_and_then pair_of (last_cut line)
