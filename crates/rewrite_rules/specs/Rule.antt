-- What a rule is, and when it fits a package path.
use Rattle.std.specs.Prelude.{◌≡◌, ◌↔◌, ◌⊎◌, ℕ, ◌&&◌, ◌||◌, not, nat_eq, Bool, List, [], ◌∷◌, ◌++◌, length, drop, if◌then◌else◌}
use Rattle.std.specs.List.{starts_with, ends_with}
use Rattle.std.specs.Str.{bytes_eq}
use Rattle.pkg_names.specs.Text.{slash}
use Rattle.package_url.specs.Url.{IsHost}
use Rattle.package_url.specs.Reading.{is_host_text}
use Rattle.rewrite_rules.specs.declared.rule.Rule.{Rule}

abbrev pub BeginsWithSlash : List ℕ → Type 0
BeginsWithSlash text = (rest : List ℕ) × (text ≡ slash ∷ rest)

abbrev pub EndsWithSlash : List ℕ → Type 0
EndsWithSlash text = (front : List ℕ) × (text ≡ front ++ slash ∷ [])

-- A rule has two hosts and two prefixes. Each prefix begins with a slash, and both end with one or neither does.
pub record IsRule (rule : Rule) : Type 0 where
  pub host_match : IsHost rule.host_match
  pub host_replacement : IsHost rule.host_replacement
  pub path_prefix_match : BeginsWithSlash rule.path_prefix_match
  pub path_prefix_replacement : BeginsWithSlash rule.path_prefix_replacement
  pub ends : EndsWithSlash rule.path_prefix_match ↔ EndsWithSlash rule.path_prefix_replacement

-- ---- the same as tests

abbrev pub begins_with_slash : List ℕ → Bool
begins_with_slash text = starts_with nat_eq text (slash ∷ [])

abbrev pub ends_with_slash : List ℕ → Bool
ends_with_slash text = ends_with nat_eq text (slash ∷ [])

abbrev pub both_or_neither : Bool → Bool → Bool
both_or_neither a b = if a then b else not b

-- both begin with a slash, and both end with one or neither does
abbrev pub are_prefixes : List ℕ → List ℕ → Bool
are_prefixes prefix other =
    begins_with_slash prefix && begins_with_slash other
    && both_or_neither (ends_with_slash prefix) (ends_with_slash other)

abbrev pub is_rule : Rule → Bool
is_rule rule =
    is_host_text rule.host_match && is_host_text rule.host_replacement
    && are_prefixes rule.path_prefix_match rule.path_prefix_replacement
