use Rattle.std.proofs.Common.{rules, ◌≡◌, ◌≢◌, List, ap, ◌∙◌}
use Rattle.std.proofs.lemmas.Fn.{filter_same}
use Rattle.std.proofs.lemmas.List.Kept.{AllPairs-filter}
use Rattle.fetch_queue.specs.declared.queue.MarkEntry.{MarkEntry}
use Rattle.fetch_queue.specs.Fetches.{Fetches, without_ticket}
use Rattle.fetch_queue.proofs.queue.Queue.delist.Goals as goal

pub invariant_of-self : goal.invariant_of-self
invariant_of-self c =
    let kept : c.retain.new.self.items ≡ without_ticket c.self.inside.marks.items c.args.ticket =
    filter_same _ _ _ (λ x b f' k. search rules) _ _ c.retain.ensures.filtered in
    record {
      roots = c.self.invariant.roots;
      tickets = rw kept (AllPairs-filter (λ (a b : MarkEntry). a.ticket ≢ b.ticket) _ c.self.inside.marks.items c.self.invariant.tickets);
    }

pub returns : goal.returns
returns c =
    let kept : c.retain.new.self.items ≡ without_ticket c.self.inside.marks.items c.args.ticket =
    filter_same _ _ _ (λ x b f' k. search rules) _ _ c.retain.ensures.filtered in
    ap (λ (marks : List MarkEntry). let v : Fetches = record { claims = c.self.inside.claims.items; marks = marks } in v) kept
    ∙ ap (λ (v : Fetches). record v { marks = without_ticket v.marks c.args.ticket }) c.self.view_is
