-- Words on texts: bytes with names, and lines.
use Rattle.std.specs.Prelude.{◌≢◌, ℕ, ◌==◌, ◌&&◌, nat_le, Bool, List, [], ◌∷◌, ◌++◌, All, if◌then◌else◌}
use Rattle.std.specs.List.{onto_first}

-- bytes by their names in ASCII
abbrev pub nul : ℕ
nul = 0

abbrev pub line_feed : ℕ
line_feed = 10

abbrev pub space : ℕ
space = 32

abbrev pub hash_sign : ℕ
hash_sign = 35

abbrev pub hyphen : ℕ
hyphen = 45

abbrev pub full_stop : ℕ
full_stop = 46

abbrev pub slash : ℕ
slash = 47

abbrev pub equals_sign : ℕ
equals_sign = 61

abbrev pub question_mark : ℕ
question_mark = 63

abbrev pub underscore : ℕ
underscore = 95

-- a byte from the one to the other, both among them
abbrev pub is_between : ℕ → ℕ → ℕ → Bool
is_between low high c = nat_le low c && nat_le c high

-- `0` to `9`
abbrev pub is_digit : ℕ → Bool
is_digit c = is_between 48 57 c

-- `a` to `z`
abbrev pub is_lower_letter : ℕ → Bool
is_lower_letter c = is_between 97 122 c

-- no byte of the text is this one
abbrev pub HasNo : ℕ → List ℕ → Type 0
HasNo byte text = All (λ c. c ≢ byte) text

-- the lines of a text, each ended by a line feed, which the last one may lack
abbrev pub lines_of : List ℕ → List (List ℕ)
lines_of [] = []
lines_of (c ∷ cs) = if c == line_feed then [] ∷ lines_of cs else onto_first c (lines_of cs)

-- the text of lines, each with a line feed behind it
abbrev pub text_of_lines : List (List ℕ) → List ℕ
text_of_lines [] = []
text_of_lines (line ∷ lines) = line ++ line_feed ∷ text_of_lines lines
