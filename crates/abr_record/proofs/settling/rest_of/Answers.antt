use Rattle.std.proofs.Common.{◌+◌, subst, sym, ◌∙◌, arith}
use Rattle.std.proofs.lemmas.Bool.{both_ways}
use Rattle.abr_record.specs.declared.Record.{Record}
use Rattle.abr_record.proofs.SettlingLemmas.{IsOnTheWay, on_the_way_first, on_the_way_more, on_the_way_end}
use Rattle.abr_record.proofs.settling.rest_of.Goals as goal

pub loop-next-init : goal.loop-next-init
loop-next-init c = on_the_way_first c.args.first (omega arith)

pub loop-next-preserved : goal.loop-next-preserved
loop-next-preserved c =
    subst (λ (q : Record). IsOnTheWay c.args.first q (c.loop-next.boots + 1)) (sym c.boot-slot.ensures.after)
    (on_the_way_more c.args.first c.loop-next.current c.loop-next.boots c.loop-next.invariant
    (λ same. both_ways _ c.if-is_same.false (c.is_same.ensures.1 (c.boot-slot.ensures.after ∙ same))))

pub returns-then-is_same-clause-settled : goal.returns-then-is_same-clause-settled
returns-then-is_same-clause-settled c =
    on_the_way_end c.args.first c.loop-next.current _ c.loop-next.invariant
    (sym c.boot-slot.ensures.after ∙ c.is_same.ensures.0 c.if-is_same.true) c.boot-slot.ensures.slot
