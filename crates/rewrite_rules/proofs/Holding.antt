-- A text is read as rules exactly where its entries say them, and refused exactly by its first fault.
use Rattle.std.proofs.Common.{◌≡◌, ◌⊎◌, ℕ, ◌<◌, ◌≤◌, Bool, true, false, cond, List, length, Option, Some, None, Result, Ok, Err, inl, inr, refl, sym, ap, subst, ◌∙◌}
use Rattle.std.specs.Prelude.{◌↔◌, nat_lt, IfOk}
use Rattle.std.proofs.lemmas.Bool.{ltb-true, ltb-false, lt-ltb, le-ltb}
use Rattle.serde_json.specs.Data.{Data, Items}
use Rattle.system_lists.specs.declared.document.DocumentFault.{DocumentFault}
use Rattle.system_lists.specs.declared.document.DocumentFault.TheVariants as document
use Rattle.system_lists.specs.Document.{document_in, entries}
use Rattle.system_lists.proofs.Documents.{never_starved}
use Rattle.rewrite_rules.specs.declared.fault.RulesFault.{RulesFault}
use Rattle.rewrite_rules.specs.declared.fault.RulesFault.TheVariants.{TooLong, Json, Version, Entry, NoMemory}
use Rattle.rewrite_rules.specs.declared.rule.Rule.{Rule}
use Rattle.rewrite_rules.specs.Content.{rule_in, rules_of}
use Rattle.rewrite_rules.specs.Reading.{content_in, content_rules, document_rules, rules_in, Holds, HasFirstFault}
use Rattle.rewrite_rules.proofs.Entries.{all_good, one_bad, says, is_bad}

abbrev Limit : ℕ
Limit = 1048576

-- ---- rules

content_holds : (text : List ℕ) (rules : List Rule) (value : Data) (items : Option Items) → length text ≤ Limit → document_in text ≡ Ok value → content_in value ≡ items → content_rules items ≡ Ok rules → Holds text rules
content_holds text rules value None short is at e = absurd cc
content_holds text rules value (Some items) short is at e =
    (items, record { short = short; value = value; document = is; content = at }, says (entries rule_in items) rules e)

document_holds : (text : List ℕ) (rules : List Rule) (found : Result Data DocumentFault) → length text ≤ Limit → document_in text ≡ found → document_rules found ≡ Ok rules → Holds text rules
document_holds text rules (Err fault) short is e = absurd cc
document_holds text rules (Ok value) short is e = content_holds text rules value (content_in value) short is refl e

text_holds : (text : List ℕ) (rules : List Rule) (long : Bool) → nat_lt Limit (length text) ≡ long → cond long (Err TooLong) (document_rules (document_in text)) ≡ Ok rules → Holds text rules
text_holds text rules true is e = absurd cc
text_holds text rules false is e = document_holds text rules (document_in text) (ltb-false Limit (length text) is) refl e

-- what a text that isn't too long comes to
short_text : (text : List ℕ) → length text ≤ Limit → rules_in text ≡ document_rules (document_in text)
short_text text short = rw (le-ltb Limit (length text) short) refl

read_when : (text : List ℕ) (rules : List Rule) → Holds text rules → rules_in text ≡ Ok rules
read_when text rules is =
    let has = is.1 in
    short_text text has.short ∙ ap document_rules has.document ∙ ap content_rules has.content ∙ all_good (entries rule_in is.0) rules is.2

pub holds : (text : List ℕ) (rules : List Rule) → (rules_in text ≡ Ok rules) ↔ Holds text rules
holds text rules = (text_holds text rules (nat_lt Limit (length text)) refl, read_when text rules)

-- ---- faults

content_fault : (text : List ℕ) (fault : RulesFault) (value : Data) (items : Option Items) → length text ≤ Limit → document_in text ≡ Ok value → content_in value ≡ items → content_rules items ≡ Err fault → HasFirstFault text fault
content_fault text fault value None short is at e =
    let same : Json ≡ fault = cc in
    subst (HasFirstFault text) same (short, inr (record { value = value; document = is; content = at }))
content_fault text fault value (Some items) short is at e =
    let bad = is_bad (entries rule_in items) fault e in
    subst (HasFirstFault text) bad.1 (items, record { short = short; value = value; document = is; content = at }, bad.2)

document_fault : (text : List ℕ) (fault : RulesFault) (found : Result Data DocumentFault) → length text ≤ Limit → document_in text ≡ found → document_rules found ≡ Err fault → HasFirstFault text fault
document_fault text fault (Ok value) short is e = content_fault text fault value (content_in value) short is refl e
document_fault text fault (Err document.Json) short is e =
    let same : Json ≡ fault = cc in
    subst (HasFirstFault text) same (short, inl is)
document_fault text fault (Err document.Version) short is e =
    let same : Version ≡ fault = cc in
    subst (HasFirstFault text) same (short, is)
document_fault text fault (Err document.NoMemory) short is e = absurd (never_starved text is)

text_fault : (text : List ℕ) (fault : RulesFault) (long : Bool) → nat_lt Limit (length text) ≡ long → cond long (Err TooLong) (document_rules (document_in text)) ≡ Err fault → HasFirstFault text fault
text_fault text fault true is e =
    let same : TooLong ≡ fault = cc in
    subst (HasFirstFault text) same (ltb-true Limit (length text) is)
text_fault text fault false is e = document_fault text fault (document_in text) (ltb-false Limit (length text) is) refl e

refused_when : (text : List ℕ) (fault : RulesFault) → HasFirstFault text fault → rules_in text ≡ Err fault
refused_when text TooLong long = rw (lt-ltb Limit (length text) long) refl
refused_when text Json (short, inl is) = short_text text short ∙ ap document_rules is
refused_when text Json (short, inr is) = short_text text short ∙ ap document_rules is.document ∙ ap content_rules is.content
refused_when text Version (short, is) = short_text text short ∙ ap document_rules is
refused_when text (Entry number) (items, has, bad) =
    short_text text has.short ∙ ap document_rules has.document ∙ ap content_rules has.content ∙ one_bad (entries rule_in items) number bad
refused_when text NoMemory is = absurd is

pub first_fault : (text : List ℕ) (fault : RulesFault) → (rules_in text ≡ Err fault) ↔ HasFirstFault text fault
first_fault text fault = (text_fault text fault (nat_lt Limit (length text)) refl, refused_when text fault)

-- ---- what a reader gives

abbrev Read : Type 0
Read = Result (List Rule) RulesFault

pub read_holds : (text : List ℕ) (read : Read) → (read ≡ rules_in text) ⊎ (read ≡ Err NoMemory) → IfOk read (λ rules. Holds text rules)
read_holds text (Ok rules) (inl e) = (holds text rules).0 (sym e)
read_holds text (Ok rules) (inr e) = absurd cc
read_holds text (Err fault) e = tt
