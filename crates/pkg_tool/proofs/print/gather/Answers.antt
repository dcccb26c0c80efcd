use Rattle.std.proofs.Common.{List, ℕ, subst, ◌∙◌}
use Rattle.pkg_tool.specs.declared.running.Status.TheVariants.{NoMemory}
use Rattle.pkg_tool.specs.Printing.{IsClosed}
use Rattle.pkg_tool.specs.Written.{Wrote, WroteFront}
use Rattle.pkg_tool.proofs.Printing.{ends_early, flush, front, push}
use Rattle.pkg_tool.proofs.print.gather.Goals as goal

pub returns-in-Err-clause-goes : goal.returns-in-Err-clause-goes
returns-in-Err-clause-goes g c = λ first bytes p.
    let same = c.deref.ensures.value ∙ c.in-Err.ensures.err in
    ends_early first _ _ _ bytes _ p c.close.result _ _
    (subst (λ (xs : List ℕ). IsClosed c.close.result NoMemory (g.W.Sink.written c.args.out.now) xs (g.W.Sink.written c.close.new.out) (g.W.Sink.faults c.args.out.now) (g.W.Sink.faults c.close.new.out)) same c.close.ensures.closed)
    (subst (λ (xs : List ℕ). WroteFront (g.W.Sink.written c.args.out.now) xs (g.W.Sink.written c.close.new.out)) same c.close.ensures.front)

pub returns-in-Ok-write_all-clause-goes : goal.returns-in-Ok-write_all-clause-goes
returns-in-Ok-write_all-clause-goes g c = λ first bytes p.
    rw c.clear.ensures.items
    (flush first _ _ _ (push first _ _ bytes p _) _ (subst (λ (xs : List ℕ). Wrote (g.W.Sink.written c.args.out.now) xs (g.W.Sink.written c.write_all.new.out)) (c.deref-2.ensures.value ∙ c.in-Ok.ensures.ok) c.in-Ok-write_all.ensures.ok))

pub returns-in-Err-write_all-clause-goes : goal.returns-in-Err-write_all-clause-goes
returns-in-Err-write_all-clause-goes g c = λ first bytes p. record {
  front = front first _ _ _ (push first _ _ bytes p _) _ (subst (λ (xs : List ℕ). WroteFront (g.W.Sink.written c.args.out.now) xs (g.W.Sink.written c.write_all.new.out)) (c.deref-2.ensures.value ∙ c.in-Ok.ensures.ok) c.in-Err-write_all.ensures.err);
  lines = λ is. absurd (cc is);
}
