use Rattle.std.proofs.Common.{arith, ◌≡◌, ◌++◌, length, take, drop}
use Rattle.std.proofs.lemmas.Grind.{common_steps}
use Rattle.fetch_queue.specs.declared.queue.MarkEntry.{MarkEntry}
use Rattle.fetch_queue.specs.Fetches.{marked}
use Rattle.fetch_queue.proofs.Finds.{AllPairs-map}
use Rattle.fetch_queue.proofs.Marks.{keeps_ticket}
use Rattle.fetch_queue.proofs.queue.Queue.mark.Goals as goal

pub invariant_of-self : goal.invariant_of-self
invariant_of-self c =
    let whole : take c.self.inside.marks.len (c.put_mark.new.marks ++ drop (length c.put_mark.new.marks) c.self.inside.marks.items) ≡ c.put_mark.new.marks = grind (arith, common_steps) in
    record {
      roots = c.self.invariant.roots;
      tickets = rw (whole, c.put_mark.ensures, c.deref_mut.ensures.value)
          (AllPairs-map (λ (m : MarkEntry). m.ticket) (marked c.args.ticket c.args.end) (keeps_ticket c.args.ticket c.args.end) c.self.inside.marks.items c.self.invariant.tickets);
    }
