-- Package paths, and their texts.
use Rattle.std.specs.Prelude.{◌≡◌, ◌≢◌, ℕ, ◌<◌, ◌≤◌, ◌==◌, ◌&&◌, ◌||◌, ◌⊎◌, Bool, List, ◌∷◌, ◌++◌, length, codes}
use Rattle.std.specs.List.{AllPass}
use Rattle.std.specs.Str.{bytes_eq}
use Rattle.pkg_names.specs.declared.path.TheConstants.{NAME_LIMIT}
use Rattle.pkg_names.specs.Text.{hyphen, underscore, full_stop, slash, is_lower_letter, is_digit}

-- `a` to `z`, `0` to `9`, `-`, `_` and `.`
abbrev pub byte_in_name : ℕ → Bool
byte_in_name c = is_lower_letter c || is_digit c || c == hyphen || c == underscore || c == full_stop

-- a name or a variant: 1 to 255 such bytes, and neither `.` nor `..`
pub record IsName (text : List ℕ) : Type 0 where
  pub not_empty : 0 < length text
  pub not_long : length text ≤ NAME_LIMIT
  pub bytes : AllPass byte_in_name text
  pub not_dot : text ≢ codes "."
  pub not_dots : text ≢ codes ".."

-- what contracts see of a package path
pub record NameAndVariant : Type 0 where
  pub name : List ℕ
  pub variant : List ℕ

-- both parts are names
abbrev pub IsPath : NameAndVariant → Type 0
IsPath path = IsName path.name × IsName path.variant

-- the text of a path, with its variant
abbrev pub path_text : NameAndVariant → List ℕ
path_text path = path.name ++ slash ∷ path.variant

-- a text of a path: with its variant, or the name alone where the variant is `0`
abbrev pub Spells : List ℕ → NameAndVariant → Type 0
Spells text path = IsPath path × ((text ≡ path_text path) ⊎ ((text ≡ path.name) × (path.variant ≡ codes "0")))

-- two paths are one
abbrev pub path_eq : NameAndVariant → NameAndVariant → Bool
path_eq a b = bytes_eq a.name b.name && bytes_eq a.variant b.variant
