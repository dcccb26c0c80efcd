use Rattle.std.proofs.Common.{List, sym, ap, subst, ◌∙◌}
use Rattle.system_judge.specs.declared.judging.Judgement.{Judgement}
use Rattle.system_judge.specs.Judgement.{verdict_of}
use Rattle.system_lists.specs.Judging.Verdict.{Whole}
use Rattle.abr_record.specs.Boot.{boot_slot}
use Rattle.store_model.specs.declared.events.LookedAt.{LookedAt}
use Rattle.store_model.specs.State.{State, opened, sys_of}
use Rattle.plain_stock.specs.Contents.{AreBytesOf}
use Rattle.plain_boot.specs.Looking.{WasJudged}
use Rattle.plain_boot.specs.Starting.{HasBooted, HasSettled}
use Rattle.plain_boot.proofs.Booted.{apart_so, boots_system}
use Rattle.plain_boot.proofs.starting.start_system.Goals as goal

pub returns-in_ok-state-in-Whole : goal.returns-in_ok-state-in-Whole
returns-in_ok-state-in-Whole c g d e =
    let seen = c.judge_booted.new.seen.items in
    let u = c.judge_booted.new.state in
    let was : WasJudged c.args.contents.now c.args.sys.system c.args.state seen u (Whole c.in-Whole.base c.in-Whole.cached) =
    subst (λ (found : Judgement). WasJudged c.args.contents.now c.args.sys.system c.args.state seen u (verdict_of found)) c.in-Whole.is c.in_ok-base.ensures in
    subst (λ (s : State). HasBooted s c.args.slot c.make.result c.in_ok-state-in-Whole.state) (sym e)
    (subst (λ (items : List LookedAt). HasBooted (opened g d) c.args.slot items c.in_ok-state-in-Whole.state) (sym c.make.ensures.list)
    (boots_system c.args.contents.now seen g d u c.booted.result c.in_ok-state-in-Whole.state c.args.slot c.args.sys c.in-Whole.base c.in-Whole.cached
    (subst (λ (s : State). AreBytesOf c.args.contents.now s.stock) e c.requires.bytes)
    (c.requires.chosen ∙ ap (λ (s : State). boot_slot s.abr) e)
    (apart_so c.args.slot c.requires.apart)
    (sym (ap (λ (s : State). sys_of s c.args.slot) e) ∙ c.requires.sealed)
    (subst (λ (s : State). WasJudged c.args.contents.now c.args.sys.system s seen u (Whole c.in-Whole.base c.in-Whole.cached)) e was)
    c.booted.ensures
    (subst (λ (items : List LookedAt). HasSettled items c.booted.result c.in_ok-state-in-Whole.state) c.deref.ensures.value c.in_ok-state-in-Whole.ensures)))
