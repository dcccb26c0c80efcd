-- Roots of blobs, and their texts.
use Rattle.std.specs.Prelude.{◌≡◌, ℕ, ◌<◌, ◌==◌, ◌&&◌, ◌||◌, Bool, List, [], length, slice_index, Option, Some, None, if◌then◌else◌}
use Rattle.std.specs.List.{AllPass, list_all}
use Rattle.std.specs.Str.{bytes_eq}
use Rattle.std.specs.Result.{result_unwrap_or}
use Rattle.pkg_names.specs.Text.{is_between, is_digit}
use Rattle.hex.specs.Hex.{encode_lower, decode_sized}
use Rattle.pkg_names.specs.declared.root.Root.{Root}

-- a digit `0` to `9` or `a` to `f`
abbrev pub is_lower_digit : ℕ → Bool
is_lower_digit c = is_digit c || is_between 97 102 c

-- 64 lower-case hexadecimal digits
pub record IsRootText (text : List ℕ) : Type 0 where
  pub length : length text ≡ 64
  pub digits : AllPass is_lower_digit text

-- the text of a root: two digits a byte, the high four bits first
abbrev pub root_text : Root → List ℕ
root_text root = encode_lower root.0

-- a list of 32 bytes, as each root of a program is
pub record IsRoot (root : Root) : Type 0 where
  pub length : length root.0 ≡ 32
  pub bytes : (i : ℕ) → slice_index root.0 i < 256

-- the root that a text is the text of, if it is one's
abbrev pub root_in : List ℕ → Option Root
root_in text =
    if (length text == 64) && list_all is_lower_digit text
    then Some (record { 0 = result_unwrap_or (decode_sized text 32) [] }) else None

-- two roots are one
abbrev pub root_eq : Root → Root → Bool
root_eq a b = bytes_eq a.0 b.0
