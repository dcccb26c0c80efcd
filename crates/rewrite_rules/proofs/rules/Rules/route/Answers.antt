use Rattle.std.proofs.Common.{◌≡◌, ◌⊎◌, List, Err, subst, ◌∙◌}
use Rattle.rewrite_rules.specs.declared.fault.RouteFault.TheVariants.{NoMemory}
use Rattle.rewrite_rules.specs.declared.rule.Rule.{Rule}
use Rattle.rewrite_rules.specs.Reading.{AreRules}
use Rattle.rewrite_rules.specs.Routing.{routed}
use Rattle.rewrite_rules.proofs.Routes.{answers_routed, answers_writable}
use Rattle.rewrite_rules.proofs.rules.Rules.route.Goals as goal

pub returns-clause-routed : goal.returns-clause-routed
returns-clause-routed c =
    let exact = subst (λ (rs : List Rule). (c.route_of.result ≡ routed rs c.args.url.now) ⊎ (c.route_of.result ≡ Err NoMemory)) (c.deref.ensures.value ∙ c.self.view_is) c.route_of.ensures in
    answers_routed c.args.self.now c.args.url.now c.route_of.result exact

pub returns-clause-writable : goal.returns-clause-writable
returns-clause-writable c =
    let exact = subst (λ (rs : List Rule). (c.route_of.result ≡ routed rs c.args.url.now) ⊎ (c.route_of.result ≡ Err NoMemory)) (c.deref.ensures.value ∙ c.self.view_is) c.route_of.ensures in
    answers_writable c.args.self.now c.args.url.now c.route_of.result (subst AreRules c.self.view_is c.self.invariant) exact
