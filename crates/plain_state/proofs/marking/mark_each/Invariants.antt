use Rattle.std.proofs.Common.{◌≡◌, drop}
use Rattle.plain_state.specs.Marks.{marks_after}
use Rattle.plain_state.proofs.marking.mark_each.Given as goal

abbrev pub invariant-loop-arrival : goal.invariant-loop-arrival
invariant-loop-arrival l = record {
  claims : l.queue.claims ≡ l.fn.queue.claims;
  marks : marks_after l.books l.root l.end (drop l.arrival-index l.arriving) l.queue.marks ≡ marks_after l.books l.root l.end l.arriving l.fn.queue.marks;
}
