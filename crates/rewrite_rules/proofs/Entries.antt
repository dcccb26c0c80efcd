-- Entries say rules, or one of them is the first bad one.
use Rattle.std.proofs.Common.{◌≡◌, ◌⊎◌, ℕ, ◌+◌, ◌<◌, ◌≤◌, Bool, true, false, cond, List, [], ◌∷◌, ◌++◌, length, map, All, Option, Some, None, Result, Ok, Err, inl, inr, refl, sym, ap, subst, ◌∙◌, arith}
use Rattle.std.specs.Prelude.{nat_lt, min}
use Rattle.std.proofs.lemmas.Bool.{le-ltb, lt-ltb, cases_lt}
use Rattle.std.proofs.lemmas.List.{append-nil, length-append}
use Rattle.std.proofs.lemmas.List.Elements.{All-nil, All-cons, All-head, All-tail}
use Rattle.rewrite_rules.specs.declared.fault.RulesFault.{RulesFault}
use Rattle.rewrite_rules.specs.declared.fault.RulesFault.TheVariants.{Entry}
use Rattle.rewrite_rules.specs.declared.rule.Rule.{Rule}
use Rattle.rewrite_rules.specs.Rule.{IsRule}
use Rattle.rewrite_rules.specs.Content.{said, good_count, rules_of, Say, IsFirstBad, Puts, IsBad}
use Rattle.rewrite_rules.specs.Reading.{AreRules}

abbrev all_say : List Rule → List (Option Rule)
all_say rules = map (λ (rule : Rule). Some rule) rules

said_front : (front : List Rule) (rest : List (Option Rule)) → said (all_say front ++ rest) ≡ front ++ said rest
said_front [] rest = refl
said_front (rule ∷ front) rest = ap (λ (rules : List Rule). rule ∷ rules) (said_front front rest)

say_len : (rules : List Rule) → length (all_say rules) ≡ length rules
say_len [] = refl
say_len (rule ∷ rules) = omega (arith, say_len rules)

pub all_good : (entries : List (Option Rule)) (rules : List Rule) → Say entries rules → rules_of entries ≡ Ok rules
all_good entries rules is =
    let these : said entries ≡ rules = ap said (is.said ∙ sym (append-nil (all_say rules))) ∙ said_front rules [] ∙ append-nil rules in
    let few = is.few in
    let len : length entries ≡ length rules = ap (λ (es : List (Option Rule)). length es) is.said ∙ say_len rules in
    let said_len : length (said entries) ≡ length rules = ap (λ (rs : List Rule). length rs) these in
    let off : nat_lt (good_count entries) (length entries) ≡ false = le-ltb (good_count entries) (length entries) (omega arith) in
    rw off (ap (λ (rs : List Rule). let r : Result (List Rule) RulesFault = Ok rs in r) these)

pub one_bad : (entries : List (Option Rule)) (number : ℕ) → IsFirstBad entries number → rules_of entries ≡ Err (Entry number)
one_bad entries number is =
    let few = is.few in
    let said_len : length (said entries) ≡ length is.front + length (said (is.entry ∷ is.rest)) =
    ap (λ (es : List (Option Rule)). length (said es)) is.whole ∙ ap (λ (rs : List Rule). length rs) (said_front is.front (is.entry ∷ is.rest)) ∙ length-append is.front (said (is.entry ∷ is.rest)) in
    let count : good_count entries ≡ length is.front = counted said_len few in
    let len : length entries ≡ length is.front + length (is.entry ∷ is.rest) =
    ap (λ (es : List (Option Rule)). length es) is.whole ∙ length-append (all_say is.front) (is.entry ∷ is.rest) ∙ ap (λ (n : ℕ). n + length (is.entry ∷ is.rest)) (say_len is.front) in
    let on : nat_lt (good_count entries) (length entries) ≡ true = lt-ltb (good_count entries) (length entries) (omega arith) in
    let same : good_count entries + 1 ≡ number = ap (λ (n : ℕ). n + 1) count ∙ sym is.number in
    rw on (ap (λ (n : ℕ). let r : Result (List Rule) RulesFault = Err (Entry n) in r) same) where
      counted : length (said entries) ≡ length is.front + length (said (is.entry ∷ is.rest)) → length is.front ≤ 256 → good_count entries ≡ length is.front
      counted len few = elim is.bad [
        | inl none ↦
            let nothing : length (said (is.entry ∷ is.rest)) ≡ 0 = rw none refl in
            omega arith
        | inr many ↦ omega arith
      ]

-- one rule more in front
say_more : (front : List Rule) (rule : Rule) (rest : List (Option Rule)) → all_say front ++ Some rule ∷ rest ≡ all_say (front ++ rule ∷ []) ++ rest
say_more [] rule rest = refl
say_more (other ∷ front) rule rest = ap (λ (es : List (Option Rule)). Some other ∷ es) (say_more front rule rest)

-- ---- each list of entries is one or the other

abbrev pub Judged : List (Option Rule) → Type 0
Judged entries = ((rules : List Rule) × Say entries rules) ⊎ ((number : ℕ) × IsFirstBad entries number)

judged_from : (front : List Rule) (entries rest : List (Option Rule)) → length front ≤ 256 → entries ≡ all_say front ++ rest → Judged entries
judged_from front entries [] few whole = inl (front, record { said = whole ∙ append-nil (all_say front); few = few })
judged_from front entries (None ∷ rest) few whole =
    inr (length front + 1, record { front = front; entry = None; rest = rest; whole = whole; number = refl; few = few; bad = inl refl })
judged_from front entries (Some rule ∷ rest) few whole =
    elim (cases_lt (length front) 256) [
      | inl below ↦
          let longer : length (front ++ rule ∷ []) ≤ 256 = omega (arith, length-append front (rule ∷ [])) in
          judged_from (front ++ rule ∷ []) entries rest longer (whole ∙ say_more front rule rest)
      | inr above ↦
          let many : length front ≡ 256 = omega arith in
          inr (length front + 1, record { front = front; entry = Some rule; rest = rest; whole = whole; number = refl; few = few; bad = inr many })
    ]

judged : (entries : List (Option Rule)) → Judged entries
judged entries = judged_from [] entries entries (omega arith) refl

pub says : (entries : List (Option Rule)) (rules : List Rule) → rules_of entries ≡ Ok rules → Say entries rules
says entries rules e = elim (judged entries) [
  | inl good ↦
      let found : rules_of entries ≡ Ok good.0 = all_good entries good.0 good.1 in
      let same : good.0 ≡ rules = cc in
      subst (Say entries) same good.1
  | inr bad ↦
      let found : rules_of entries ≡ Err (Entry bad.0) = one_bad entries bad.0 bad.1 in
      absurd cc
]

pub is_bad : (entries : List (Option Rule)) (fault : RulesFault) → rules_of entries ≡ Err fault → (number : ℕ) × (Entry number ≡ fault) × IsFirstBad entries number
is_bad entries fault e = elim (judged entries) [
  | inl good ↦
      let found : rules_of entries ≡ Ok good.0 = all_good entries good.0 good.1 in
      absurd cc
  | inr bad ↦
      let found : rules_of entries ≡ Err (Entry bad.0) = one_bad entries bad.0 bad.1 in
      let same : Entry bad.0 ≡ fault = cc in
      (bad.0, same, bad.1)
]

-- ---- entries one after the other

-- the entries before these say the rules so far
pub record Reached (rules : List Rule) (rest all : List (Option Rule)) : Type 0 where
  pub valid : AreRules rules
  pub whole : all ≡ all_say rules ++ rest

pub begun : (all : List (Option Rule)) → Reached [] all all
begun all = record { valid = record { each = All-nil IsRule; few = omega arith }; whole = refl }

pub advanced : (rules new : List Rule) (entry : Option Rule) (rest all : List (Option Rule)) → Reached rules (entry ∷ rest) all → Puts entry rules new → AreRules new → Reached new rest all
advanced rules new entry rest all so_far puts valid = record {
  valid = valid;
  whole =
      so_far.whole ∙ ap (λ (e : Option Rule). all_say rules ++ e ∷ rest) puts.said ∙ say_more rules puts.rule rest
      ∙ ap (λ (rs : List Rule). all_say rs ++ rest) (sym puts.grown);
}

pub stopped : (rules : List Rule) (entry : Option Rule) (rest all : List (Option Rule)) (fault : RulesFault) → Reached rules (entry ∷ rest) all → IsBad entry rules fault → rules_of all ≡ Err fault
stopped rules entry rest all fault so_far is =
    one_bad all (length rules + 1) (record { front = rules; entry = entry; rest = rest; whole = so_far.whole; number = refl; few = so_far.valid.few; bad = is.bad })
    ∙ ap (λ (f : RulesFault). let r : Result (List Rule) RulesFault = Err f in r) (sym is.fault)

pub all_read : (rules : List Rule) (all : List (Option Rule)) → Reached rules [] all → rules_of all ≡ Ok rules
all_read rules all so_far = all_good all rules (record { said = so_far.whole ∙ append-nil (all_say rules); few = so_far.valid.few })

all_more : (rules : List Rule) (rule : Rule) → All IsRule rules → IsRule rule → All IsRule (rules ++ rule ∷ [])
all_more [] rule all is = All-cons IsRule rule [] is (All-nil IsRule)
all_more (r ∷ rules) rule all is = All-cons IsRule r (rules ++ rule ∷ []) (All-head IsRule r rules all) (all_more rules rule (All-tail IsRule r rules all) is)

pub grows : (rules : List Rule) (rule : Rule) → AreRules rules → length rules < 256 → IsRule rule → AreRules (rules ++ rule ∷ [])
grows rules rule valid below is = record { each = all_more rules rule valid.each is; few = omega (arith, length-append rules (rule ∷ [])) }
