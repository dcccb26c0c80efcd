-- What a package URL is, and its text.
use Rattle.std.specs.Prelude.{◌≡◌, ℕ, ◌<◌, ◌≤◌, ◌==◌, ◌||◌, ◌⊎◌, Bool, List, [], ◌∷◌, ◌++◌, length, codes, Option, Some, None, IfSome}
use Rattle.std.specs.List.{AllPass}
use Rattle.pkg_names.specs.declared.root.Root.{Root}
use Rattle.pkg_names.specs.Root.{IsRoot, root_text}
use Rattle.pkg_names.specs.NameAndVariant.{IsPath, path_text}
use Rattle.pkg_names.specs.FileText.{IsFile}
use Rattle.pkg_names.specs.Text.{hyphen, full_stop, hash_sign, question_mark, slash, is_digit, is_lower_letter, HasNo}
use Rattle.package_url.specs.declared.url.Url.{Url}
use Rattle.package_url.specs.declared.url.TheConstants.{HOST_LIMIT}

-- what each package URL begins with
abbrev pub scheme : List ℕ
scheme = codes "fuchsia-pkg://"

-- what stands before the root in a query
abbrev pub hash_key : List ℕ
hash_key = codes "hash="

abbrev pub percent_sign : ℕ
percent_sign = 37

-- `a` to `z`, `0` to `9`, `-` and `.`
abbrev pub byte_in_host : ℕ → Bool
byte_in_host c = is_lower_letter c || is_digit c || c == hyphen || c == full_stop

-- a host: 1 to 255 such bytes
pub record IsHost (text : List ℕ) : Type 0 where
  pub not_empty : 0 < length text
  pub not_long : length text ≤ HOST_LIMIT
  pub bytes : AllPass byte_in_host text

-- the file of a URL: a path of a file without percent sign
pub record IsUrlFile (text : List ℕ) : Type 0 where
  pub path : IsFile text
  pub plain : HasNo percent_sign text

-- what a URL has to be so that it can be written; its type says the rest
pub record IsWritable (url : Url) : Type 0 where
  pub host : IsHost url.host
  pub file : IfSome url.file (HasNo percent_sign)

-- each part is what it is to be
pub record IsUrl (url : Url) : Type 0 where
  pub host : IsHost url.host
  pub path : IsPath url.path
  pub pin : IfSome url.pin IsRoot
  pub file : IfSome url.file IsUrlFile

-- `?hash=<root>`, or nothing
abbrev pub query_text : Option Root → List ℕ
query_text None = []
query_text (Some root) = question_mark ∷ (hash_key ++ root_text root)

-- `#<path of the file>`, or nothing
abbrev pub fragment_text : Option (List ℕ) → List ℕ
fragment_text None = []
fragment_text (Some file) = hash_sign ∷ file

-- the text of a URL around this text of its path
abbrev pub text_around : List ℕ → Url → List ℕ
text_around path url = scheme ++ (((url.host ++ slash ∷ path) ++ query_text url.pin) ++ fragment_text url.file)

-- the text of a URL, with its variant
abbrev pub url_text : Url → List ℕ
url_text url = text_around (path_text url.path) url

-- the text spells the URL: it is written with its variant, or without it where that is `0`
pub record Spells (text : List ℕ) (url : Url) : Type 0 where
  pub valid : IsUrl url
  pub written : (text ≡ url_text url) ⊎ ((text ≡ text_around url.path.name url) × (url.path.variant ≡ codes "0"))
