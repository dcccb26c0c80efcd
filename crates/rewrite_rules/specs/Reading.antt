-- The rules in a text, or its first fault.
use Rattle.std.specs.Prelude.{◌≡◌, ◌⊎◌, ℕ, ◌<◌, ◌≤◌, nat_lt, List, length, codes, Option, Some, None, option_and_then, Result, Ok, Err, All, if◌then◌else◌}
use Rattle.serde_json.specs.Data.{Data, Items}
use Rattle.serde_json.specs.Find.{get, as_array}
use Rattle.system_lists.specs.declared.document.DocumentFault.{DocumentFault}
use Rattle.system_lists.specs.declared.document.DocumentFault.TheVariants as document
use Rattle.system_lists.specs.Document.{document_in, entries}
use Rattle.rewrite_rules.specs.declared.fault.RulesFault.{RulesFault}
use Rattle.rewrite_rules.specs.declared.fault.RulesFault.TheVariants.{TooLong, Json, Version, Entry, NoMemory}
use Rattle.rewrite_rules.specs.declared.rule.Rule.{Rule}
use Rattle.rewrite_rules.specs.declared.rules.TheConstants.{RULES_LIMIT, RULE_LIMIT}
use Rattle.rewrite_rules.specs.Rule.{IsRule}
use Rattle.rewrite_rules.specs.Content.{rule_in, rules_of, Say, IsFirstBad}

abbrev pub rules_fault : DocumentFault → RulesFault
rules_fault document.Json = Json
rules_fault document.Version = Version
rules_fault document.NoMemory = NoMemory

-- the array `content`
abbrev pub content_in : Data → Option Items
content_in value = option_and_then as_array (get (codes "content") value)

abbrev pub content_rules : Option Items → Result (List Rule) RulesFault
content_rules None = Err Json
content_rules (Some items) = rules_of (entries rule_in items)

abbrev pub document_rules : Result Data DocumentFault → Result (List Rule) RulesFault
document_rules (Ok value) = content_rules (content_in value)
document_rules (Err fault) = Err (rules_fault fault)

-- the rules in a text, or its first fault
abbrev pub rules_in : List ℕ → Result (List Rule) RulesFault
rules_in text = if nat_lt RULES_LIMIT (length text) then Err TooLong else document_rules (document_in text)

-- what rules are: each is one, and they are few enough
pub record AreRules (rules : List Rule) : Type 0 where
  pub each : All IsRule rules
  pub few : length rules ≤ RULE_LIMIT

-- ---- the same in other words

-- the text is short enough, and a document with these entries
pub record HasEntries (text : List ℕ) (items : Items) : Type 0 where
  pub short : length text ≤ RULES_LIMIT
  pub value : Data
  pub document : document_in text ≡ Ok value
  pub content : content_in value ≡ Some items

-- the entries of the text say these rules
abbrev pub Holds : List ℕ → List Rule → Type 0
Holds text rules = (items : Items) × HasEntries text items × Say (entries rule_in items) rules

-- the text is a document without entries
pub record HasNoEntries (text : List ℕ) : Type 0 where
  pub value : Data
  pub document : document_in text ≡ Ok value
  pub content : content_in value ≡ None

-- the first fault of a text
abbrev pub HasFirstFault : List ℕ → RulesFault → Type 0
HasFirstFault text TooLong = RULES_LIMIT < length text
HasFirstFault text Json =
    (length text ≤ RULES_LIMIT) × ((document_in text ≡ Err document.Json) ⊎ HasNoEntries text)
HasFirstFault text Version = (length text ≤ RULES_LIMIT) × (document_in text ≡ Err document.Version)
HasFirstFault text (Entry number) =
    (items : Items) × HasEntries text items × IsFirstBad (entries rule_in items) number
HasFirstFault text NoMemory = ⊥
