use Rattle.std.proofs.Common.{◌≡◌, List, ap, ◌∙◌, false}
use Rattle.std.proofs.lemmas.Result.{IfOk-weaker}
use Rattle.system_lists.specs.Judging.{judged}
use Rattle.system_judge.specs.declared.judging.Judgement.{Judgement}
use Rattle.system_judge.specs.Judgement.{verdict_of}
use Rattle.store_model.specs.declared.events.LookedAt.{LookedAt}
use Rattle.plain_state.specs.Judged.{hand_of}
use Rattle.plain_boot.specs.Looking.{WasJudged}
use Rattle.plain_boot.proofs.Looked.{judged_so}
use Rattle.plain_boot.proofs.looking.judge_booted.Goals as goal

pub returns : goal.returns
returns c =
    IfOk-weaker c.judge_by.result (λ (found : Judgement). verdict_of found ≡ judged (hand_of c.look_at_system.new.state c.deref.result.now false) c.args.system.now)
    (λ (found : Judgement). WasJudged c.args.contents.now c.args.system.now c.args.state.now c.look_at_system.new.seen.items c.look_at_system.new.state (verdict_of found))
    (λ found is. judged_so c.args.contents.now c.look_at_system.new.seen.items c.args.state.now c.look_at_system.new.state c.args.system.now (verdict_of found)
    c.requires.unknown c.requires.bytes c.in_ok-look_at_system.ensures
    (is ∙ ap (λ (items : List LookedAt). judged (hand_of c.look_at_system.new.state items false) c.args.system.now) c.deref.ensures.value)) c.judge_by.ensures
