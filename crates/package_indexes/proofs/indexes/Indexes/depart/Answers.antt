use Rattle.std.proofs.Common.{rules, arith, ◌≡◌, ◌≢◌, List, ap, ◌∙◌}
use Rattle.std.proofs.lemmas.Fn.{filter_same}
use Rattle.std.proofs.lemmas.Grind.{common_steps}
use Rattle.std.proofs.lemmas.List.Kept.{AllPairs-filter}
use Rattle.package_indexes.specs.declared.Arriving.{Arriving}
use Rattle.package_indexes.specs.Sets.{Sets, without_ticket}
use Rattle.package_indexes.proofs.indexes.Indexes.depart.Goals as goal

pub invariant_of-self : goal.invariant_of-self
invariant_of-self c =
    let kept : c.retain.new.self.items ≡ without_ticket c.self.inside.arriving.items c.args.ticket =
    filter_same _ _ _ (λ x b f' k. search rules) _ _ c.retain.ensures.filtered in
    record {
      tickets = rw kept (AllPairs-filter (λ (a b : Arriving). a.ticket ≢ b.ticket) _ c.self.inside.arriving.items c.self.invariant.tickets);
      room = grind (arith, common_steps, c.self.invariant.room, c.retain.ensures.bound);
    }

pub returns : goal.returns
returns c =
    let kept : c.retain.new.self.items ≡ without_ticket c.self.inside.arriving.items c.args.ticket =
    filter_same _ _ _ (λ x b f' k. search rules) _ _ c.retain.ensures.filtered in
    ap (λ (arriving : List Arriving). let v : Sets = record { base = c.self.inside.base.items; cached = c.self.inside.cached.items; active = c.self.inside.active.items; retained = c.self.inside.retained.items; arriving = arriving } in v) kept
    ∙ ap (λ (v : Sets). record v { arriving = without_ticket v.arriving c.args.ticket }) c.self.view_is
