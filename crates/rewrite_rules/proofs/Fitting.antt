-- A rule is for a URL exactly where it fits it.
use Rattle.std.proofs.Common.{◌≡◌, ◌⊎◌, ℕ, ◌+◌, ◌≤◌, Bool, true, false, cond, ◌&&◌, List, [], ◌∷◌, ◌++◌, length, drop, inl, inr, refl, sym, ap, subst, ◌∙◌, arith}
use Rattle.std.specs.Prelude.{nat_eq}
use Rattle.std.specs.List.{starts_with}
use Rattle.std.specs.Str.{bytes_eq}
use Rattle.std.proofs.Math.Seq.{drop-append_seam}
use Rattle.std.proofs.lemmas.Bool.{and_parts, and_from, true≢false}
use Rattle.std.proofs.lemmas.List.{append-nil, length-append}
use Rattle.std.proofs.lemmas.Slice.Eq.{bytes_eq-Decides}
use Rattle.package_url.specs.declared.url.Url.{Url}
use Rattle.rewrite_rules.specs.declared.rule.Rule.{Rule}
use Rattle.rewrite_rules.specs.Rule.{EndsWithSlash, ends_with_slash}
use Rattle.rewrite_rules.specs.Routing.{target, is_front, is_match, is_for, Fits}
use Rattle.rewrite_rules.proofs.Slashes.{starts_with-Decides, ends-Decides}

-- the text is the prefix and this rest, of which nothing is left unless the prefix ends with a slash
record Front (prefix text : List ℕ) : Type 0 where
  rest : List ℕ
  whole : text ≡ prefix ++ rest
  segment : EndsWithSlash prefix ⊎ (rest ≡ [])

front_by : (prefix text : List ℕ) (test : Bool) → ends_with_slash prefix ≡ test → cond test (starts_with nat_eq text prefix) (bytes_eq text prefix) ≡ true → Front prefix text
front_by prefix text true is e =
    let begins = (starts_with-Decides text prefix).0 e in
    record { rest = begins.0; whole = begins.1; segment = inl ((ends-Decides prefix).0 is) }
front_by prefix text false is e =
    record { rest = []; whole = (bytes_eq-Decides text prefix).0 e ∙ sym (append-nil prefix); segment = inr refl }

front_of : (prefix text : List ℕ) → is_front prefix text ≡ true → Front prefix text
front_of prefix text e = front_by prefix text (ends_with_slash prefix) refl e

test_by : (prefix text rest : List ℕ) (test : Bool) → ends_with_slash prefix ≡ test → text ≡ prefix ++ rest → EndsWithSlash prefix ⊎ (rest ≡ []) → cond test (starts_with nat_eq text prefix) (bytes_eq text prefix) ≡ true
test_by prefix text rest true is whole segment = (starts_with-Decides text prefix).1 (rest, whole)
test_by prefix text rest false is whole (inl ends) = absurd (true≢false (sym ((ends-Decides prefix).1 ends) ∙ is))
test_by prefix text rest false is whole (inr none) =
    (bytes_eq-Decides text prefix).1 (whole ∙ ap (λ (r : List ℕ). prefix ++ r) none ∙ append-nil prefix)

-- what follows the prefix
pub left : (prefix text rest : List ℕ) → text ≡ prefix ++ rest → drop (length prefix) text ≡ rest
left prefix text rest whole = ap (drop (length prefix)) whole ∙ drop-append_seam prefix rest

pub fits : (rule : Rule) (url : Url) → is_for url rule ≡ true → Fits rule url (drop (length rule.path_prefix_match) (target url.path))
fits rule url e =
    let both = and_parts (bytes_eq rule.host_match url.host) (is_front rule.path_prefix_match (target url.path)) e in
    let front = front_of rule.path_prefix_match (target url.path) both.1 in
    subst (Fits rule url) (sym (left rule.path_prefix_match (target url.path) front.rest front.whole))
    (record { host = (bytes_eq-Decides rule.host_match url.host).0 both.0; whole = front.whole; segment = front.segment })

pub is_for_when : (rule : Rule) (url : Url) (rest : List ℕ) → Fits rule url rest → is_for url rule ≡ true
is_for_when rule url rest is =
    and_from (bytes_eq rule.host_match url.host) (is_front rule.path_prefix_match (target url.path)) ((bytes_eq-Decides rule.host_match url.host).1 is.host)
    (test_by rule.path_prefix_match (target url.path) rest (ends_with_slash rule.path_prefix_match) refl is.whole is.segment)

-- a prefix that fits is no longer than the text
pub within : (host text : List ℕ) (rule : Rule) → is_match host text rule ≡ true → length rule.path_prefix_match ≤ length text
within host text rule e =
    let both = and_parts (bytes_eq rule.host_match host) (is_front rule.path_prefix_match text) e in
    let front = front_of rule.path_prefix_match text both.1 in
    omega (arith, ap (λ (t : List ℕ). length t) front.whole, length-append rule.path_prefix_match front.rest)
