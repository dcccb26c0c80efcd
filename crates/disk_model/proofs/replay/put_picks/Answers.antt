use Rattle.std.proofs.Common.{List, get_or, take, sym, subst, arith, ap, length, false}
use Rattle.std.proofs.lemmas.List.{take_more, length-replicate}
use Rattle.disk_model.specs.declared.power_loss.Pick.{Pick}
use Rattle.disk_model.specs.Picks.{AreGood, Takes}
use Rattle.disk_model.proofs.PickLemmas.{Marks, Puts, good_more, takes_more, marks_more, bad_more}
use Rattle.disk_model.proofs.replay.put_picks.Goals as goal

pub loop-n-preserved : goal.loop-n-preserved
loop-n-preserved c =
    let d : Pick = record { page = 0; act = 0 } in
    let so_far = take c.loop-n.n c.args.picks.now in
    let pick = get_or c.args.picks.now c.loop-n.n d in
    let more = sym (take_more c.args.picks.now c.loop-n.n d c.loop-n-test.true) in
    let inv = c.loop-n.invariant in
    let e = c.put_pick.ensures in
    let is = c.if-not-put_pick.false in
    let puts : Puts c.args.acts.now pick c.loop-n.pages c.loop-n.marks c.put_pick.new.pages c.put_pick.new.marks = record { inside = e.inside is; free = e.free is; value = e.put is; mark = e.marked is } in
    record {
      good = subst (λ (l : List Pick). AreGood c.args.acts.now l) more (good_more c.args.acts.now so_far pick c.args.pages.now c.loop-n.pages c.put_pick.new.pages c.loop-n.marks c.put_pick.new.marks inv.good inv.takes inv.marks puts);
      takes = subst (λ (l : List Pick). Takes c.args.acts.now l c.args.pages.now c.put_pick.new.pages) more (takes_more c.args.acts.now so_far pick c.args.pages.now c.loop-n.pages c.put_pick.new.pages c.loop-n.marks c.put_pick.new.marks inv.good inv.takes inv.marks puts);
      marks = subst (λ (l : List Pick). Marks l c.put_pick.new.marks) more (marks_more c.args.acts.now so_far pick c.args.pages.now c.loop-n.pages c.put_pick.new.pages c.loop-n.marks c.put_pick.new.marks inv.good inv.takes inv.marks (omega (arith, ap length c.requires.unmarked, length-replicate (length c.args.pages.now) false)) puts);
    }

pub returns-then-not-put_pick-clause-cause : goal.returns-then-not-put_pick-clause-cause
returns-then-not-put_pick-clause-cause c =
    let d : Pick = record { page = 0; act = 0 } in
    let so_far = take c.loop-n.n c.args.picks.now in
    let pick = get_or c.args.picks.now c.loop-n.n d in
    let inv = c.loop-n.invariant in
    record {
      before = inv.good;
      bad = λ all. bad_more c.args.acts.now so_far pick c.args.pages.now c.loop-n.pages c.put_pick.new.pages c.loop-n.marks c.put_pick.new.marks inv.good inv.takes inv.marks
          (c.put_pick.ensures.bad c.if-not-put_pick.true) (subst (λ (l : List Pick). AreGood c.args.acts.now l) (take_more c.args.picks.now c.loop-n.n d c.loop-n-test.true) all);
    }
