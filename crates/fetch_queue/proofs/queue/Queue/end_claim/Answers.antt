use Rattle.std.proofs.Common.{rules, ◌≡◌, ◌≢◌, List, ap, ◌∙◌}
use Rattle.std.proofs.lemmas.Fn.{filter_same}
use Rattle.std.proofs.lemmas.List.Kept.{AllPairs-filter}
use Rattle.fetch_queue.specs.declared.queue.ClaimEntry.{ClaimEntry}
use Rattle.fetch_queue.specs.Fetches.{Fetches, without_claim}
use Rattle.fetch_queue.proofs.queue.Queue.end_claim.Goals as goal

pub invariant_of-self : goal.invariant_of-self
invariant_of-self c =
    let kept : c.retain.new.self.items ≡ without_claim c.self.inside.claims.items c.args.root.now =
    filter_same _ _ _ (λ x b f' k. search rules) _ _ c.retain.ensures.filtered in
    record {
      roots = rw kept (AllPairs-filter (λ (a b : ClaimEntry). a.root ≢ b.root) _ c.self.inside.claims.items c.self.invariant.roots);
      tickets = c.self.invariant.tickets;
    }

pub returns : goal.returns
returns c =
    let kept : c.retain.new.self.items ≡ without_claim c.self.inside.claims.items c.args.root.now =
    filter_same _ _ _ (λ x b f' k. search rules) _ _ c.retain.ensures.filtered in
    ap (λ (claims : List ClaimEntry). let v : Fetches = record { claims = claims; marks = c.self.inside.marks.items } in v) kept
    ∙ ap (λ (v : Fetches). record v { claims = without_claim v.claims c.args.root.now }) c.self.view_is
