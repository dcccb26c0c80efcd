-- The rules that entries of a document say.
use Rattle.std.specs.Prelude.{◌≡◌, ◌⊎◌, ℕ, ◌+◌, ◌≤◌, nat_lt, min, Bool, List, [], ◌∷◌, ◌++◌, length, map, codes, Option, Some, None, option_and_then, Result, Ok, Err, if◌then◌else◌}
use Rattle.serde_json.specs.Data.{Data}
use Rattle.serde_json.specs.Find.{get, as_str}
use Rattle.rewrite_rules.specs.declared.fault.RulesFault.{RulesFault}
use Rattle.rewrite_rules.specs.declared.fault.RulesFault.TheVariants.{Entry}
use Rattle.rewrite_rules.specs.declared.rule.Rule.{Rule}
use Rattle.rewrite_rules.specs.declared.rules.TheConstants.{RULE_LIMIT}
use Rattle.rewrite_rules.specs.Rule.{IsRule, is_rule}

-- ---- one entry

-- the string at a member
abbrev pub text_at : List ℕ → Data → Option (List ℕ)
text_at name value = option_and_then as_str (get name value)

abbrev pub rule_of : Option (List ℕ) → Option (List ℕ) → Option (List ℕ) → Option (List ℕ) → Option Rule
rule_of None replacement prefix other = None
rule_of (Some host) None prefix other = None
rule_of (Some host) (Some replacement) None other = None
rule_of (Some host) (Some replacement) (Some prefix) None = None
rule_of (Some host) (Some replacement) (Some prefix) (Some other) = Some (record {
  host_match = host;
  host_replacement = replacement;
  path_prefix_match = prefix;
  path_prefix_replacement = other;
})

-- the four strings of an entry
abbrev pub strings_in : Data → Option Rule
strings_in value =
    rule_of (text_at (codes "host_match") value) (text_at (codes "host_replacement") value)
    (text_at (codes "path_prefix_match") value) (text_at (codes "path_prefix_replacement") value)

abbrev pub if_rule : Rule → Option Rule
if_rule rule = if is_rule rule then Some rule else None

-- the rule of an entry: all four strings are there, and they make a rule
abbrev pub rule_in : Data → Option Rule
rule_in value = option_and_then if_rule (strings_in value)

-- ---- all entries

-- the rules before the first entry that says none
abbrev pub said : List (Option Rule) → List Rule
said [] = []
said (None ∷ entries) = []
said (Some rule ∷ entries) = rule ∷ said entries

-- how many entries stand before the first bad one: one that says no rule, or is one too many
abbrev pub good_count : List (Option Rule) → ℕ
good_count entries = min (length (said entries)) RULE_LIMIT

-- the rules of the entries, or the number of the first bad one
abbrev pub rules_of : List (Option Rule) → Result (List Rule) RulesFault
rules_of entries =
    if nat_lt (good_count entries) (length entries) then Err (Entry (good_count entries + 1)) else Ok (said entries)

-- each entry says one of these rules, in order, and they are few enough
pub record Say (entries : List (Option Rule)) (rules : List Rule) : Type 0 where
  pub said : entries ≡ map (λ rule. Some rule) rules
  pub few : length rules ≤ RULE_LIMIT

-- the entries before that of this number say rules, and it says none or is one too many
pub record IsFirstBad (entries : List (Option Rule)) (n : ℕ) : Type 0 where
  pub front : List Rule
  pub entry : Option Rule
  pub rest : List (Option Rule)
  pub whole : entries ≡ map (λ rule. Some rule) front ++ entry ∷ rest
  pub number : n ≡ length front + 1
  pub few : length front ≤ RULE_LIMIT
  pub bad : (entry ≡ None) ⊎ (length front ≡ RULE_LIMIT)

-- the entry says a rule, and the rules grew by it
pub record Puts (entry : Option Rule) (old new : List Rule) : Type 0 where
  pub rule : Rule
  pub said : entry ≡ Some rule
  pub grown : new ≡ old ++ rule ∷ []

-- the entry behind these rules says none or is one too many
pub record IsBad (entry : Option Rule) (front : List Rule) (why : RulesFault) : Type 0 where
  pub fault : why ≡ Entry (length front + 1)
  pub bad : (entry ≡ None) ⊎ (length front ≡ RULE_LIMIT)
