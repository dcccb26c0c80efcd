-- What the first rule that fits makes of a URL.
use Rattle.std.specs.Prelude.{◌≡◌, ◌⊎◌, ℕ, ◌+◌, ◌&&◌, nat_eq, Bool, List, [], ◌∷◌, ◌++◌, length, drop, find, Option, Some, None, option_and_then, Result, Ok, Err, if◌then◌else◌}
use Rattle.std.specs.List.{starts_with, position_or_len, AllByRecursion}
use Rattle.std.specs.Str.{bytes_eq}
use Rattle.pkg_names.specs.NameAndVariant.{NameAndVariant, path_text}
use Rattle.pkg_names.specs.NameAndVariant as names
use Rattle.pkg_names.specs.Text.{slash}
use Rattle.package_url.specs.declared.url.Url.{Url}
use Rattle.package_url.specs.Reading.{behind, path_in}
use Rattle.rewrite_rules.specs.declared.fault.RouteFault.{RouteFault}
use Rattle.rewrite_rules.specs.declared.fault.RouteFault.TheVariants.{BadResult, NoMemory}
use Rattle.rewrite_rules.specs.declared.rule.Rule.{Rule}
use Rattle.rewrite_rules.specs.Rule.{EndsWithSlash, ends_with_slash}

-- `/<name>/<variant>`
abbrev pub target : NameAndVariant → List ℕ
target path = slash ∷ path_text path

-- a prefix that ends with a slash stands before the text, or another one is the text
abbrev pub is_front : List ℕ → List ℕ → Bool
is_front prefix text = if ends_with_slash prefix then starts_with nat_eq text prefix else bytes_eq text prefix

-- the rule is for this host, and its prefix for this text
abbrev pub is_match : List ℕ → List ℕ → Rule → Bool
is_match host text rule = bytes_eq rule.host_match host && is_front rule.path_prefix_match text

abbrev pub is_for : Url → Rule → Bool
is_for url rule = is_match url.host (target url.path) rule

-- the replacement prefix, and what follows the prefix in the text
abbrev pub replaced : Rule → List ℕ → List ℕ
replaced rule text = rule.path_prefix_replacement ++ drop (length rule.path_prefix_match) text

-- the path behind a slash
abbrev pub path_behind_slash : List ℕ → Option NameAndVariant
path_behind_slash text = option_and_then path_in (behind (slash ∷ []) text)

-- the URL at another host and path, if that is one
abbrev pub moved : ℕ → List ℕ → Url → Option NameAndVariant → Result Url RouteFault
moved number host url None = Err (BadResult number)
moved number host url (Some path) = Ok (record { host = host; path = path; pin = url.pin; file = url.file })

abbrev pub by_rule : ℕ → Url → Option Rule → Result Url RouteFault
by_rule number url None = Ok url
by_rule number url (Some rule) =
    moved number rule.host_replacement url (path_behind_slash (replaced rule (target url.path)))

-- The URL by the first rule that is for it, or itself where none is. No second rule is looked for.
abbrev pub routed : List Rule → Url → Result Url RouteFault
routed rules url =
    by_rule (position_or_len (is_for url) rules + 1) url (find (is_for url) rules)

-- ---- the same in other words

-- The rule fits the URL: its host is the URL's, and the URL's path is its prefix and this rest. Nothing is left
-- unless the prefix ends with a slash.
pub record Fits (rule : Rule) (url : Url) (rest : List ℕ) : Type 0 where
  pub host : rule.host_match ≡ url.host
  pub whole : target url.path ≡ rule.path_prefix_match ++ rest
  pub segment : EndsWithSlash rule.path_prefix_match ⊎ (rest ≡ [])

-- none of these rules fits the URL
abbrev pub NoneFits : List Rule → Url → Type 0
NoneFits rules url = AllByRecursion (λ (rule : Rule). (rest : List ℕ) → ¬ Fits rule url rest) rules

-- the rule of this number fits the URL, with this rest, and none before it does
pub record IsFirst (rules : List Rule) (url : Url) (n : ℕ) (rule : Rule) (rest : List ℕ) : Type 0 where
  pub front : List Rule
  pub others : List Rule
  pub whole : rules ≡ front ++ rule ∷ others
  pub number : n ≡ length front + 1
  pub before : NoneFits front url
  pub fits : Fits rule url rest

-- the text is a slash and a package path
abbrev pub SpellsPath : List ℕ → NameAndVariant → Type 0
SpellsPath text path = (behind_it : List ℕ) × (text ≡ slash ∷ behind_it) × names.Spells behind_it path

-- The first rule that fits moves the URL: to its replacement host, and to the path that its replacement prefix
-- and the rest spell. Pin and file stay.
pub record Moves (rules : List Rule) (url new : Url) : Type 0 where
  pub number : ℕ
  pub rule : Rule
  pub rest : List ℕ
  pub first : IsFirst rules url number rule rest
  pub host : new.host ≡ rule.host_replacement
  pub path : SpellsPath (rule.path_prefix_replacement ++ rest) new.path
  pub pin : new.pin ≡ url.pin
  pub file : new.file ≡ url.file

-- The first rule that fits has this number, and its replacement prefix and the rest spell no path.
pub record Strays (rules : List Rule) (url : Url) (number : ℕ) : Type 0 where
  pub rule : Rule
  pub rest : List ℕ
  pub first : IsFirst rules url number rule rest
  pub none : (path : NameAndVariant) → ¬ SpellsPath (rule.path_prefix_replacement ++ rest) path

-- what the rules make of the URL
abbrev pub IsRouted : List Rule → Url → Result Url RouteFault → Type 0
IsRouted rules url (Ok new) = (NoneFits rules url × (new ≡ url)) ⊎ Moves rules url new
IsRouted rules url (Err (BadResult number)) = Strays rules url number
IsRouted rules url (Err NoMemory) = ⊥
