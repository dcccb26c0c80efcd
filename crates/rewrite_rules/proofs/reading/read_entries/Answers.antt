use Rattle.std.proofs.Common.{◌≡◌, ◌∷◌, [], List, ℕ, ◌+◌, ◌<◌, length, get_or, drop, Option, Result, Ok, Err, sym, ap, subst, ◌∙◌, inl, inr}
use Rattle.std.proofs.lemmas.Result.{err_from_is_err_and}
use Rattle.serde_json.specs.declared.value.Value.{Value}
use Rattle.serde_json.specs.View.{view, items_view}
use Rattle.system_lists.specs.Document.{entries}
use Rattle.system_lists.proofs.Arrays.{first_entry, no_entries}
use Rattle.rewrite_rules.specs.declared.fault.RulesFault.{RulesFault}
use Rattle.rewrite_rules.specs.declared.rule.Rule.{Rule}
use Rattle.rewrite_rules.specs.Content.{rule_in, rules_of}
use Rattle.rewrite_rules.proofs.Entries.{Reached, begun, advanced, stopped, all_read}
use Rattle.rewrite_rules.proofs.reading.read_entries.Goals as goal

abbrev all_of : List Value → List (Option Rule)
all_of values = entries rule_in (items_view values)

head_reached : (values : List Value) (i : ℕ) (item : Value) (rules : List Rule) → i < length values → item ≡ get_or values i item → Reached rules (all_of (drop i values)) (all_of values)
    → Reached rules (rule_in (view item) ∷ all_of (drop (i + 1) values)) (all_of values)
head_reached values i item rules lt is so_far =
    subst (λ (rest : List (Option Rule)). Reached rules rest (all_of values)) (first_entry rule_in values i item lt is) so_far

pub loop-value-init : goal.loop-value-init
loop-value-init c =
    let all = all_of c.args.values.now in
    subst (λ (rules : List Rule). Reached rules all all) (sym c.new-rules.ensures.items) (begun all)

pub returns-clause-exact : goal.returns-clause-exact
returns-clause-exact c =
    let values = c.args.values.now in
    let rules = c.loop-value.rules.items in
    let read = all_read rules (all_of values) (subst (λ (rest : List (Option Rule)). Reached rules rest (all_of values)) (no_entries rule_in values c.loop-value.value-index c.loop-value-test.false c.loop-value.auto.value-index-end) c.loop-value.invariant) in
    inl (ap (λ (rs : List Rule). let r : Result (List Rule) RulesFault = Ok rs in r) c.make.ensures ∙ sym read)

pub returns-in_err-put_rule-clause-exact : goal.returns-in_err-put_rule-clause-exact
returns-in_err-put_rule-clause-exact c =
    let p = err_from_is_err_and c.from_residual.result c.from_residual.ensures.1 in
    let values = c.args.values.now in
    let rules = c.loop-value.rules.items in
    let here = head_reached values c.loop-value.value-index c.value-item.result rules c.loop-value-test.true c.value-item.is c.loop-value.invariant in
    rw (p.1, p.2) (elim c.in_err-put_rule.ensures.fault [
      | inl memory ↦ inr (ap (λ (e : RulesFault). let r : Result (List Rule) RulesFault = Err e in r) memory)
      | inr bad ↦ inl (sym (stopped rules (rule_in (view c.value-item.result)) (all_of (drop (c.loop-value.value-index + 1) values)) (all_of values) c.in_err-put_rule.field-0.0 here bad))
    ])

pub loop-value-preserved : goal.loop-value-preserved
loop-value-preserved c =
    let values = c.args.values.now in
    let rules = c.loop-value.rules.items in
    let here = head_reached values c.loop-value.value-index c.value-item.result rules c.loop-value-test.true c.value-item.is c.loop-value.invariant in
    advanced rules c.put_rule.new.rules.items (rule_in (view c.value-item.result)) (all_of (drop (c.loop-value.value-index + 1) values)) (all_of values) here c.in_ok-put_rule.ensures.ok c.in_ok-put_rule.ensures.valid
