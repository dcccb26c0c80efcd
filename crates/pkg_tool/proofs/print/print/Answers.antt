use Rattle.std.proofs.Common.{ℕ, ◌+◌, List, rules, arith, subst}
use Rattle.pkg_tool.specs.Written.{WroteFront}
use Rattle.pkg_tool.proofs.Printing.{front, front_of_text, text_more}
use Rattle.pkg_tool.proofs.print.print.Goals as goal

pub returns-in-Err-clause-front : goal.returns-in-Err-clause-front
returns-in-Err-clause-front g c =
    let more = text_more c.args.history.now c.loop-place.place _ (search rules) (search rules) in
    let ends = c.in-Err.ensures.goes _ _ c.loop-place.invariant.prints in
    front_of_text _ _ c.args.history.now (c.loop-place.place + 1) (rw more ends.front)

pub returns-in-Err-clause-lines : goal.returns-in-Err-clause-lines
returns-in-Err-clause-lines g c = λ short.
    let ends = c.in-Err.ensures.goes _ _ c.loop-place.invariant.prints in
    (c.loop-place.place, search rules, ends.lines short)

pub loop-place-preserved : goal.loop-place-preserved
loop-place-preserved g c = record {
  prints = let more = text_more c.args.history.now c.loop-place.place _ (search rules) (search rules) in
      rw more (c.in-Ok.ensures.goes _ _ c.loop-place.invariant.prints);
  faults = omega (arith, c.loop-place.invariant.faults, c.gather.ensures.faults);
}

pub returns-clause-front : goal.returns-clause-front
returns-clause-front g c = front_of_text _ _ c.args.history.now c.loop-place.place
    (front _ _ _ _ c.loop-place.invariant.prints _ (subst (λ (xs : List ℕ). WroteFront (g.W.Sink.written c.loop-place.out) xs (g.W.Sink.written c.close.new.out)) c.deref.ensures.value c.close.ensures.front))
