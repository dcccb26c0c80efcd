-- The tests of slashes and of rules decide the rules.
use Rattle.std.proofs.Common.{◌≡◌, ℕ, ◌+◌, ◌-◌, Bool, true, false, List, [], ◌∷◌, ◌++◌, length, take, drop, refl, sym, ap, ◌∙◌, arith}
use Rattle.std.specs.Prelude.{◌↔◌, nat_eq, not, ◌&&◌}
use Rattle.std.specs.Bool.{Decides}
use Rattle.std.specs.List.{starts_with}
use Rattle.std.proofs.Math.Seq.{take-append_seam, drop-append_seam}
use Rattle.std.proofs.lemmas.Bool.Decides.{Decides-like, Decides-and}
use Rattle.std.proofs.lemmas.List.{take-append-drop, length-append}
use Rattle.std.proofs.lemmas.Slice.Eq.{bytes_eq-Decides}
use Rattle.pkg_names.specs.Text.{slash}
use Rattle.package_url.specs.Url.{IsHost}
use Rattle.package_url.specs.Reading.{is_host_text}
use Rattle.package_url.proofs.PathTests.{is_host_text-Decides}
use Rattle.rewrite_rules.specs.declared.rule.Rule.{Rule}
use Rattle.rewrite_rules.specs.Rule.{BeginsWithSlash, EndsWithSlash, IsRule, begins_with_slash, ends_with_slash, both_or_neither, is_rule}

-- the text is this front and something behind it
abbrev pub BeginsWith : List ℕ → List ℕ → Type 0
BeginsWith text front = (rest : List ℕ) × (text ≡ front ++ rest)

pub starts_with-Decides : (text front : List ℕ) → Decides (starts_with nat_eq text front) (BeginsWith text front)
starts_with-Decides text front =
    let same = bytes_eq-Decides front (take (length front) text) in (
      λ e. (drop (length front) text, sym (take-append-drop (length front) text) ∙ ap (λ (t : List ℕ). t ++ drop (length front) text) (sym (same.0 e))),
      λ h. same.1 (sym (ap (take (length front)) h.1 ∙ take-append_seam front h.0)),
    )

pub begins-Decides : (text : List ℕ) → Decides (begins_with_slash text) (BeginsWithSlash text)
begins-Decides text = starts_with-Decides text (slash ∷ [])

pub ends-Decides : (text : List ℕ) → Decides (ends_with_slash text) (EndsWithSlash text)
ends-Decides text =
    let same = bytes_eq-Decides (slash ∷ []) (drop (length text - 1) text) in (
      λ e. (take (length text - 1) text, sym (take-append-drop (length text - 1) text) ∙ ap (λ (t : List ℕ). take (length text - 1) text ++ t) (sym (same.0 e))),
      λ h. same.1 (sym (ap (λ (n : ℕ). drop n text) (one_less h.0 h.1) ∙ ap (drop (length h.0)) h.1 ∙ drop-append_seam h.0 (slash ∷ []))),
    ) where
      one_less : (front : List ℕ) → text ≡ front ++ slash ∷ [] → length text - 1 ≡ length front
      one_less front e = omega (arith, ap (λ (t : List ℕ). length t) e, length-append front (slash ∷ []))

both-Decides : (x y : Bool) (P Q : Type 0) → Decides x P → Decides y Q → Decides (both_or_neither x y) (P ↔ Q)
both-Decides true y P Q p q = (λ e. (λ _. q.0 e, λ _. p.0 refl), λ h. q.1 (h.0 (p.0 refl)))
both-Decides false true P Q p q = (λ e. absurd cc, λ h. p.1 (h.1 (q.0 refl)))
both-Decides false false P Q p q = (λ e. (λ is. absurd (off (p.1 is)), λ is. absurd (off (q.1 is))), λ h. refl) where
  off : false ≡ true → ⊥
  off e = cc

pub is_rule-Decides : (rule : Rule) → Decides (is_rule rule) (IsRule rule)
is_rule-Decides rule =
    let a = Decides-and _ _ (is_host_text-Decides rule.host_match) (is_host_text-Decides rule.host_replacement) in
    let b = Decides-and _ _ (begins-Decides rule.path_prefix_match) (begins-Decides rule.path_prefix_replacement) in
    let both = both-Decides (ends_with_slash rule.path_prefix_match) (ends_with_slash rule.path_prefix_replacement) (EndsWithSlash rule.path_prefix_match) (EndsWithSlash rule.path_prefix_replacement) (ends-Decides rule.path_prefix_match) (ends-Decides rule.path_prefix_replacement) in
    let prefixes = Decides-and _ _ b both in
    let all = Decides-and _ _ a prefixes in
    Decides-like (is_rule rule)
    (λ h. record { host_match = h.0.0; host_replacement = h.0.1; path_prefix_match = h.1.0.0; path_prefix_replacement = h.1.0.1; ends = h.1.1 })
    (λ (is : IsRule rule). ((is.host_match, is.host_replacement), ((is.path_prefix_match, is.path_prefix_replacement), is.ends))) all

-- what is judged to be a rule is one
pub rule_valid : (rule : Rule) → is_rule rule ≡ true → IsRule rule
rule_valid rule e = (is_rule-Decides rule).0 e
