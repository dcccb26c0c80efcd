use Rattle.std.proofs.Common.{◌≡◌, ◌≢◌, false, ap, ◌∙◌}
use Rattle.std.proofs.lemmas.List.Quantifiers.{all_pairs_push}
use Rattle.fetch_queue.specs.declared.queue.ClaimEntry.{ClaimEntry}
use Rattle.fetch_queue.specs.Fetches.{Fetches, is_claimed}
use Rattle.fetch_queue.proofs.Claims.{apart_from}
use Rattle.fetch_queue.proofs.queue.Queue.claim.Goals as goal

pub invariant_of-self-2 : goal.invariant_of-self-2
invariant_of-self-2 c =
    let free : is_claimed c.self.inside.claims.items c.args.root ≡ false =
    ap (λ (v : Fetches). is_claimed v.claims c.args.root) c.self.view_is ∙ c.requires in
    record {
      roots = rw c.in_ok-push.ensures.items
          (all_pairs_push (λ (a b : ClaimEntry). a.root ≢ b.root) c.self.inside.claims.items _ c.self.invariant.roots
          (apart_from c.self.inside.claims.items c.args.root free));
      tickets = c.self.invariant.tickets;
    }
