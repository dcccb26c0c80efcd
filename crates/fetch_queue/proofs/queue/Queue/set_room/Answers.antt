use Rattle.std.proofs.Common.{arith, ◌≡◌, ◌++◌, length, take, drop}
use Rattle.std.proofs.lemmas.Grind.{common_steps}
use Rattle.fetch_queue.specs.declared.queue.ClaimEntry.{ClaimEntry}
use Rattle.fetch_queue.specs.Fetches.{roomed}
use Rattle.fetch_queue.proofs.Finds.{AllPairs-map}
use Rattle.fetch_queue.proofs.Claims.{keeps_root}
use Rattle.fetch_queue.proofs.queue.Queue.set_room.Goals as goal

pub invariant_of-self : goal.invariant_of-self
invariant_of-self c =
    let whole : take c.self.inside.claims.len (c.make_room.new.claims ++ drop (length c.make_room.new.claims) c.self.inside.claims.items) ≡ c.make_room.new.claims = grind (arith, common_steps) in
    record {
      roots = rw (whole, c.make_room.ensures, c.deref_mut.ensures.value)
          (AllPairs-map (λ (m : ClaimEntry). m.root) (roomed c.args.root.now c.args.len) (keeps_root c.args.root.now c.args.len) c.self.inside.claims.items c.self.invariant.roots);
      tickets = c.self.invariant.tickets;
    }
