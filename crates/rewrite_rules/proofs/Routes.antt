-- What rules make of a URL, in two words.
use Rattle.std.proofs.Common.{◌≡◌, ◌⊎◌, ℕ, ◌+◌, ◌≤◌, true, false, List, [], ◌∷◌, ◌++◌, length, get_or, drop, All, Option, Some, None, Result, Ok, Err, inl, inr, refl, sym, ap, subst, ◌∙◌, arith}
use Rattle.std.specs.Prelude.{◌↔◌, find, option_and_then, IfOk, IfSome}
use Rattle.std.specs.List.{position, position_or_len}
use Rattle.std.proofs.lemmas.Bool.{cases_Bool, true≢false}
use Rattle.std.proofs.lemmas.List.Elements.{All-head, All-tail}
use Rattle.std.proofs.lemmas.List.Quantifiers.{position-Some}
use Rattle.pkg_names.specs.declared.root.Root.{Root}
use Rattle.pkg_names.specs.NameAndVariant.{NameAndVariant}
use Rattle.pkg_names.specs.Text.{slash, HasNo}
use Rattle.package_url.specs.declared.url.Url.{Url}
use Rattle.package_url.specs.Reading.{behind, path_in}
use Rattle.package_url.specs.Url.{percent_sign, IsHost, IsWritable}
use Rattle.package_url.proofs.Places.{behind_is, behind_there}
use Rattle.package_url.proofs.PathTests.{path_in_spells, path_in_only}
use Rattle.rewrite_rules.specs.declared.fault.RouteFault.{RouteFault}
use Rattle.rewrite_rules.specs.declared.fault.RouteFault.TheVariants.{BadResult, NoMemory}
use Rattle.rewrite_rules.specs.declared.rule.Rule.{Rule}
use Rattle.rewrite_rules.specs.Rule.{IsRule}
use Rattle.rewrite_rules.specs.Reading.{AreRules}
use Rattle.rewrite_rules.specs.Routing.{target, is_for, replaced, path_behind_slash, moved, by_rule, routed, Fits, NoneFits, IsFirst, SpellsPath, Moves, Strays, IsRouted}
use Rattle.rewrite_rules.proofs.Fitting.{left, fits, is_for_when, within}
use Rattle.rewrite_rules.proofs.Firsts.{placed, found_as, not_found}

-- ---- the path

spells_by : (text : List ℕ) (path : NameAndVariant) (rest : Option (List ℕ)) → behind (slash ∷ []) text ≡ rest → option_and_then path_in rest ≡ Some path → SpellsPath text path
spells_by text path None is e = absurd cc
spells_by text path (Some rest) is e = (rest, (behind_is (slash ∷ []) text rest is).0, path_in_spells rest path e)

spells : (text : List ℕ) (path : NameAndVariant) → path_behind_slash text ≡ Some path → SpellsPath text path
spells text path e = spells_by text path (behind (slash ∷ []) text) refl e

spelled : (text : List ℕ) (path : NameAndVariant) → SpellsPath text path → path_behind_slash text ≡ Some path
spelled text path is =
    ap (option_and_then path_in) (ap (behind (slash ∷ [])) is.1 ∙ behind_there (slash ∷ []) is.0) ∙ path_in_only is.0 path is.2

none_spelled : (text : List ℕ) → path_behind_slash text ≡ None → (path : NameAndVariant) → ¬ SpellsPath text path
none_spelled text none path is =
    let found : path_behind_slash text ≡ Some path = spelled text path is in
    cc

no_path : (text : List ℕ) → ((path : NameAndVariant) → ¬ SpellsPath text path) → path_behind_slash text ≡ None
no_path text never = go (path_behind_slash text) refl where
  go : (found : Option NameAndVariant) → path_behind_slash text ≡ found → path_behind_slash text ≡ None
  go None e = e
  go (Some path) e = absurd (never path (spells text path e))

-- ---- the first rule

unfit : (rule : Rule) (url : Url) → is_for url rule ≡ false → (rest : List ℕ) → ¬ Fits rule url rest
unfit rule url off rest is = true≢false (sym (is_for_when rule url rest is) ∙ off)

-- where the first rule that is for the URL stands
record Split (rules : List Rule) (url : Url) (rule : Rule) : Type 0 where
  front : List Rule
  others : List Rule
  whole : rules ≡ front ++ rule ∷ others
  place : position_or_len (is_for url) rules ≡ length front
  before : NoneFits front url
  here : is_for url rule ≡ true

split : (rules : List Rule) (url : Url) (rule : Rule) → find (is_for url) rules ≡ Some rule → Split rules url rule
split [] url rule e = absurd cc
split (r ∷ rules) url rule e =
    elim (cases_Bool (is_for url r)) [
      | inl on ↦
          let found : Some r ≡ Some rule = rw on at e in
          let same : r ≡ rule = cc in
          record {
            front = [];
            others = rules;
            whole = ap (λ (x : Rule). x ∷ rules) same;
            place = rw on refl;
            before = tt;
            here = subst (λ (x : Rule). is_for url x ≡ true) same on;
          }
      | inr off ↦
          let rest = split rules url rule (rw off at e) in
          record {
            front = r ∷ rest.front;
            others = rest.others;
            whole = ap (λ (rs : List Rule). r ∷ rs) rest.whole;
            place = rw off (omega (arith, rest.place));
            before = (unfit r url off, rest.before);
            here = rest.here;
          }
    ]

none_fits : (rules : List Rule) (url : Url) → find (is_for url) rules ≡ None → NoneFits rules url
none_fits [] url e = tt
none_fits (r ∷ rules) url e =
    elim (cases_Bool (is_for url r)) [
      | inl on ↦ absurd (cc (rw on at e))
      | inr off ↦ (unfit r url off, none_fits rules url (rw off at e))
    ]

none_found : (rules : List Rule) (url : Url) → NoneFits rules url → find (is_for url) rules ≡ None
none_found [] url none = refl
none_found (r ∷ rules) url none =
    elim (cases_Bool (is_for url r)) [
      | inl on ↦ absurd (none.0 (drop (length r.path_prefix_match) (target url.path)) (fits r url on))
      | inr off ↦ rw off (none_found rules url none.1)
    ]

record Found (rules : List Rule) (url : Url) (rule : Rule) (place : ℕ) : Type 0 where
  is : find (is_for url) rules ≡ Some rule
  at : position_or_len (is_for url) rules ≡ place

found : (front others : List Rule) (url : Url) (rule : Rule) → NoneFits front url → is_for url rule ≡ true → Found (front ++ rule ∷ others) url rule (length front)
found [] others url rule none here = record { is = rw here refl; at = rw here refl }
found (r ∷ front) others url rule none here =
    elim (cases_Bool (is_for url r)) [
      | inl on ↦ absurd (none.0 (drop (length r.path_prefix_match) (target url.path)) (fits r url on))
      | inr off ↦
          let rest = found front others url rule none.1 here in
          record { is = rw off rest.is; at = rw off (omega (arith, rest.at)) }
    ]

-- ---- from the function to the relation

by_path : (rules : List Rule) (url : Url) (rule : Rule) (path : Option NameAndVariant) → Split rules url rule → path_behind_slash (replaced rule (target url.path)) ≡ path
    → IsRouted rules url (moved (position_or_len (is_for url) rules + 1) rule.host_replacement url path)
by_path rules url rule path s e = go path e where
  first : IsFirst rules url (position_or_len (is_for url) rules + 1) rule (drop (length rule.path_prefix_match) (target url.path))
  first = record {
    front = s.front;
    others = s.others;
    whole = s.whole;
    number = ap (λ (n : ℕ). n + 1) s.place;
    before = s.before;
    fits = fits rule url s.here;
  }

  go : (p : Option NameAndVariant) → path_behind_slash (replaced rule (target url.path)) ≡ p → IsRouted rules url (moved (position_or_len (is_for url) rules + 1) rule.host_replacement url p)
  go None at = record {
    rule = rule;
    rest = drop (length rule.path_prefix_match) (target url.path);
    first = first;
    none = none_spelled (replaced rule (target url.path)) at;
  }
  go (Some p) at = inr (record {
    number = position_or_len (is_for url) rules + 1;
    rule = rule;
    rest = drop (length rule.path_prefix_match) (target url.path);
    first = first;
    host = refl;
    path = spells (replaced rule (target url.path)) p at;
    pin = refl;
    file = refl;
  })

by_find : (rules : List Rule) (url : Url) (rule : Option Rule) → find (is_for url) rules ≡ rule → IsRouted rules url (by_rule (position_or_len (is_for url) rules + 1) url rule)
by_find rules url None e = inl (none_fits rules url e, refl)
by_find rules url (Some rule) e = by_path rules url rule (path_behind_slash (replaced rule (target url.path))) (split rules url rule e) refl

route : (rules : List Rule) (url : Url) → IsRouted rules url (routed rules url)
route rules url = by_find rules url (find (is_for url) rules) refl

-- ---- and back

-- what is asked for where this rule is the first that fits
by_first : (rules : List Rule) (url : Url) (number : ℕ) (rule : Rule) (rest : List ℕ) → IsFirst rules url number rule rest
    → routed rules url ≡ moved number rule.host_replacement url (path_behind_slash (rule.path_prefix_replacement ++ rest))
by_first rules url number rule rest is =
    let at = found is.front is.others url rule is.before (is_for_when rule url rest is.fits) in
    let here : find (is_for url) rules ≡ Some rule = ap (find (is_for url)) is.whole ∙ at.is in
    let numbered : position_or_len (is_for url) rules + 1 ≡ number = ap (λ (n : ℕ). n + 1) (ap (position_or_len (is_for url)) is.whole ∙ at.at) ∙ sym is.number in
    ap (by_rule (position_or_len (is_for url) rules + 1) url) here
    ∙ ap (λ (n : ℕ). moved n rule.host_replacement url (path_behind_slash (replaced rule (target url.path)))) numbered
    ∙ ap (λ (r : List ℕ). moved number rule.host_replacement url (path_behind_slash (rule.path_prefix_replacement ++ r))) (left rule.path_prefix_match (target url.path) rest is.fits.whole)

abbrev url_with : List ℕ → NameAndVariant → Option Root → Option (List ℕ) → Result Url RouteFault
url_with host path pin file = Ok (record { host = host; path = path; pin = pin; file = file })

back : (rules : List Rule) (url : Url) (answer : Result Url RouteFault) → IsRouted rules url answer → routed rules url ≡ answer
back rules url (Ok new) (inl (none, same)) =
    ap (by_rule (position_or_len (is_for url) rules + 1) url) (none_found rules url none) ∙ ap (λ (u : Url). let r : Result Url RouteFault = Ok u in r) (sym same)
back rules url (Ok new) (inr is) =
    by_first rules url is.number is.rule is.rest is.first
    ∙ ap (moved is.number is.rule.host_replacement url) (spelled (is.rule.path_prefix_replacement ++ is.rest) new.path is.path)
    ∙ ap (λ (h : List ℕ). url_with h new.path url.pin url.file) (sym is.host)
    ∙ ap (λ (p : Option Root). url_with new.host new.path p url.file) (sym is.pin)
    ∙ ap (λ (f : Option (List ℕ)). url_with new.host new.path new.pin f) (sym is.file)
back rules url (Err (BadResult number)) is =
    by_first rules url number is.rule is.rest is.first
    ∙ ap (moved number is.rule.host_replacement url) (no_path (is.rule.path_prefix_replacement ++ is.rest) is.none)
back rules url (Err NoMemory) is = absurd is

pub one_route : (rules : List Rule) (url : Url) (answer : Result Url RouteFault) → (routed rules url ≡ answer) ↔ IsRouted rules url answer
one_route rules url answer = (λ e. subst (IsRouted rules url) e (route rules url), back rules url answer)

-- ---- by the place of the first rule

pub route_at : (rules : List Rule) (url : Url) (place : ℕ) (rule : Rule) → position (is_for url) rules ≡ Some place → rule ≡ get_or rules place rule
    → routed rules url ≡ moved (place + 1) rule.host_replacement url (path_behind_slash (replaced rule (target url.path)))
route_at rules url place rule e is =
    ap (by_rule (position_or_len (is_for url) rules + 1) url) (found_as (is_for url) rules place rule e is)
    ∙ ap (λ (n : ℕ). moved (n + 1) rule.host_replacement url (path_behind_slash (replaced rule (target url.path)))) (placed (is_for url) rules place e).0

pub no_route : (rules : List Rule) (url : Url) → position (is_for url) rules ≡ None → routed rules url ≡ Ok url
no_route rules url e = ap (by_rule (position_or_len (is_for url) rules + 1) url) (not_found (is_for url) rules e)

-- its prefix is no longer than the path
pub first_within : (rules : List Rule) (url : Url) (place : ℕ) (rule : Rule) → position (is_for url) rules ≡ Some place → rule ≡ get_or rules place rule → length rule.path_prefix_match ≤ length (target url.path)
first_within rules url place rule e is =
    within url.host (target url.path) rule (ap (is_for url) is ∙ (position-Some (is_for url) rules place rule e).1)

-- ---- what can be written

rule_among : (front others : List Rule) (rule : Rule) → All IsRule (front ++ rule ∷ others) → IsRule rule
rule_among [] others rule all = All-head IsRule rule others all
rule_among (r ∷ front) others rule all = rule_among front others rule (All-tail IsRule r (front ++ rule ∷ others) all)

stays_writable : (rules : List Rule) (url new : Url) → AreRules rules → IsWritable url → IsRouted rules url (Ok new) → IsWritable new
stays_writable rules url new valid can (inl (none, same)) = subst IsWritable (sym same) can
stays_writable rules url new valid can (inr is) =
    let first = is.first in
    let rule = rule_among first.front first.others is.rule (subst (All IsRule) first.whole valid.each) in
    record {
      host = subst IsHost (sym is.host) rule.host_replacement;
      file = subst (λ (f : Option (List ℕ)). IfSome f (HasNo percent_sign)) (sym is.file) can.file;
    }

-- an answer that is routed, or want of memory
abbrev Answer : Type 0
Answer = Result Url RouteFault

pub answers_writable : (rules : List Rule) (url : Url) (answer : Answer) → AreRules rules → (answer ≡ routed rules url) ⊎ (answer ≡ Err NoMemory) → IsWritable url → IfOk answer IsWritable
answers_writable rules url (Ok new) valid (inl e) can = stays_writable rules url new valid can (subst (IsRouted rules url) (sym e) (route rules url))
answers_writable rules url (Ok new) valid (inr e) can = absurd cc
answers_writable rules url (Err fault) valid e can = tt

pub answers_routed : (rules : List Rule) (url : Url) (answer : Answer) → (answer ≡ routed rules url) ⊎ (answer ≡ Err NoMemory) → (answer ≡ Err NoMemory) ⊎ IsRouted rules url answer
answers_routed rules url answer (inl e) = inr (subst (IsRouted rules url) (sym e) (route rules url))
answers_routed rules url answer (inr e) = inl e
