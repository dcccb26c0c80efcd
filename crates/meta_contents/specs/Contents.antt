-- What contents are, their text, and how a text is read.
use Rattle.std.specs.Prelude.{◌≡◌, ℕ, ◌+◌, ◌≤◌, ◌⊎◌, nat_eq, nat_lt, Bool, false, List, [], ◌∷◌, ◌++◌, length, map, codes, All, Option, Some, None, Result, Ok, Err, if◌then◌else◌}
use Rattle.std.specs.List.{flat_map, starts_with, list_any, IsDistinct}
use Rattle.std.specs.Str.{bytes_eq, is_utf8}
use Rattle.pkg_names.specs.declared.root.Root.{Root}
use Rattle.pkg_names.specs.Root.{IsRoot, root_text}
use Rattle.pkg_names.specs.FileText.{IsFile}
use Rattle.pkg_names.specs.Text.{line_feed, equals_sign, lines_of}
use Rattle.meta_contents.specs.declared.contents.ContentsLine.{ContentsLine}
use Rattle.meta_contents.specs.declared.contents.TheConstants.{LINE_LIMIT}
use Rattle.meta_contents.specs.declared.fault.ContentsFault.{ContentsFault}
use Rattle.meta_contents.specs.declared.fault.ContentsFault.TheVariants.{Utf8, Line, InMeta, Repeat, TooMany}
use Rattle.meta_contents.specs.Lines.{pair_in}

-- a file and its root
abbrev pub Pair : Type 0
Pair = List ℕ × Root

abbrev pub pairs : List ContentsLine → List Pair
pairs ls = map (λ line. (line.file, line.root)) ls

-- the path begins with `meta/`
abbrev pub is_in_meta : List ℕ → Bool
is_in_meta path = starts_with nat_eq path (codes "meta/")

-- the path is among these
abbrev pub is_among : List ℕ → List (List ℕ) → Bool
is_among path paths = list_any (λ other. bytes_eq other path) paths

abbrev pub paths : List Pair → List (List ℕ)
paths list = map (λ pair. pair.0) list

-- so many different file paths outside `meta/` at most, each with a root
pub record IsContents (list : List Pair) : Type 0 where
  pub few : length list ≤ LINE_LIMIT
  pub files : All (λ pair. IsFile pair.0) list
  pub roots : All (λ pair. IsRoot pair.1) list
  pub outer : All (λ pair. is_in_meta pair.0 ≡ false) list
  pub distinct : IsDistinct bytes_eq (paths list)

-- a line, and the text: each line with a line feed behind it
abbrev pub line_text : Pair → List ℕ
line_text pair = pair.0 ++ equals_sign ∷ root_text pair.1

abbrev pub text_of : List Pair → List ℕ
text_of list = flat_map (λ pair. line_text pair ++ line_feed ∷ []) list

-- the text stands for these pairs: it is theirs, whose last line feed may be missing
pub record StandsFor (text : List ℕ) (list : List Pair) : Type 0 where
  pub valid : IsContents list
  pub written : (text ≡ text_of list) ⊎ (text ++ line_feed ∷ [] ≡ text_of list)

-- ---- reading

-- the pair of line n, behind lines of these paths, or what is wrong with it
abbrev pub placed : ℕ → List (List ℕ) → Option Pair → Result Pair ContentsFault
placed n seen None = Err (Line n)
placed n seen (Some pair) =
    if is_in_meta pair.0 then Err (InMeta n) else (if is_among pair.0 seen then Err (Repeat n) else Ok pair)

infixl 10 ◌>>=◌
abbrev pub ◌>>=◌ : {A B : Type 0} → Result A ContentsFault → (A → Result B ContentsFault)
    → Result B ContentsFault
(Ok x) >>= f = f x
(Err e) >>= f = Err e

-- the pairs of these lines, of which the first is line n behind lines of these paths, or the first fault
unfoldable pub reading : List (List ℕ) → ℕ → List (List ℕ) → Result (List Pair) ContentsFault
reading seen n [] = Ok []
reading seen n (line ∷ rest) =
    if nat_lt LINE_LIMIT n then Err TooMany
    else (placed n seen (pair_in line) >>= λ pair. reading (seen ++ pair.0 ∷ []) (n + 1) rest
    >>= λ others. Ok (pair ∷ others))

-- the contents in a text, or its first fault
unfoldable pub contents_of : List ℕ → Result (List Pair) ContentsFault
contents_of text = if is_utf8 text then reading [] 1 (lines_of text) else Err Utf8
