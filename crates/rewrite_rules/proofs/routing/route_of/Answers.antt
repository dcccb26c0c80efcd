use Rattle.std.proofs.Common.{◌≡◌, ◌≤◌, ◌+◌, ℕ, List, length, Option, Some, None, Result, Ok, inl, inr, sym, ap, subst, ◌∙◌}
use Rattle.std.specs.List.{position}
use Rattle.package_url.specs.declared.url.Url.{Url}
use Rattle.rewrite_rules.specs.declared.fault.RouteFault.{RouteFault}
use Rattle.rewrite_rules.specs.Routing.{target, is_match, is_for, replaced, path_behind_slash, moved}
use Rattle.rewrite_rules.proofs.Routes.{route_at, no_route, first_within}
use Rattle.rewrite_rules.proofs.routing.route_of.Goals as goal

pub moved-requires-clause-within : goal.moved-requires-clause-within
moved-requires-clause-within c =
    let rules = c.args.rules.now in
    let url = c.args.url.now in
    let rule = c.index-rules-place.result in
    let at : position (is_for url) rules ≡ Some c.in-Some.place =
    sym (c.in-Some.ensures ∙ ap (λ (h : List ℕ). position (is_match h c.as_slice-2.result.now) rules) c.as_slice.ensures.bytes ∙ ap (λ (t : List ℕ). position (is_match url.host t) rules) (c.as_slice-2.ensures.list ∙ c.in_ok-target.ensures)) in
    subst (λ (t : List ℕ). length rule.path_prefix_match ≤ length t) (sym (c.as_slice-in-Some.ensures.list ∙ c.in_ok-target.ensures)) (first_within rules url c.in-Some.place rule at c.index-rules-place.is)

pub returns-in-Some : goal.returns-in-Some
returns-in-Some c =
    let rules = c.args.rules.now in
    let url = c.args.url.now in
    let rule = c.index-rules-place.result in
    let at : position (is_for url) rules ≡ Some c.in-Some.place =
    sym (c.in-Some.ensures ∙ ap (λ (h : List ℕ). position (is_match h c.as_slice-2.result.now) rules) c.as_slice.ensures.bytes ∙ ap (λ (t : List ℕ). position (is_match url.host t) rules) (c.as_slice-2.ensures.list ∙ c.in_ok-target.ensures)) in
    elim c.moved.ensures [
      | inl e ↦ inl (e ∙ ap (λ (t : List ℕ). moved (c.in-Some.place + 1) rule.host_replacement url (path_behind_slash (replaced rule t))) (c.as_slice-in-Some.ensures.list ∙ c.in_ok-target.ensures) ∙ sym (route_at rules url c.in-Some.place rule at c.index-rules-place.is))
      | inr memory ↦ inr memory
    ]

pub returns : goal.returns
returns c =
    let rules = c.args.rules.now in
    let url = c.args.url.now in
    let at : position (is_for url) rules ≡ None =
    sym (c.in-None.ensures ∙ ap (λ (h : List ℕ). position (is_match h c.as_slice-2.result.now) rules) c.as_slice.ensures.bytes ∙ ap (λ (t : List ℕ). position (is_match url.host t) rules) (c.as_slice-2.ensures.list ∙ c.in_ok-target.ensures)) in
    inl (ap (λ (u : Url). let r : Result Url RouteFault = Ok u in r) c.in_ok-copied-in-None.ensures ∙ sym (no_route rules url at))
