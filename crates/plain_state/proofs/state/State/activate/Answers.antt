use Rattle.std.proofs.Common.{List, sym, subst}
use Rattle.system_judge.specs.Judgement.{verdict_of}
use Rattle.store_model.specs.declared.events.LookedAt.{LookedAt}
use Rattle.store_model.specs.Settling.{IsSeen}
use Rattle.store_model.specs.Acts.Activate.{IsDueActivate, next_activate}
use Rattle.plain_state.specs.Learning.{Forgets, IsSettled}
use Rattle.plain_state.specs.Looking.{roots_seen}
use Rattle.plain_state.proofs.Looking.{seen_from}
use Rattle.plain_state.proofs.Activating.{answered, activated_by}
use Rattle.plain_state.proofs.Learned.{restored}
use Rattle.plain_state.proofs.state.State.activate.Goals as goal

pub returns-in-Ok-clause-due : goal.returns-in-Ok-clause-due
returns-in-Ok-clause-due c =
    subst (λ (seen : List LookedAt). IsDueActivate c.args.self.now c.args.lane seen c.take_verdict-reply.result) (sym c.make-seen.ensures.list)
    (record {
      sys = c.args.sys;
      stage = c.requires.stage;
      answer = answered c.args.self.now c.judge_staged.new.self c.judge_staged.new.seen.items c.args.sys (verdict_of c.in-Ok.judgement) c.take_verdict-reply.result c.judge_staged.ensures.learns c.in-Ok.ensures.verdict
          c.take_verdict-reply.ensures.answer;
    })

pub returns-in-Ok-clause-seen : goal.returns-in-Ok-clause-seen
returns-in-Ok-clause-seen c =
    subst (λ (seen : List LookedAt). IsSeen seen c.args.self.now.stock) (sym c.make-seen.ensures.list)
    (seen_from c.args.contents.now c.judge_staged.new.seen.items c.args.self.now.stock c.requires.bytes c.judge_staged.ensures.from)

pub returns-in-Ok-clause-settled : goal.returns-in-Ok-clause-settled
returns-in-Ok-clause-settled c =
    subst (λ (seen : List LookedAt). IsSettled seen (next_activate c.args.self.now c.args.lane seen c.take_verdict-reply.result) c.forget_seen.new.self) (sym c.make-seen.ensures.list)
    (activated_by c.args.self.now c.judge_staged.new.self c.take_verdict-reply.new.self c.forget_seen.new.self c.args.lane c.judge_staged.new.seen.items c.args.sys (verdict_of c.in-Ok.judgement) c.take_verdict-reply.result
    c.requires.ready (seen_from c.args.contents.now c.judge_staged.new.seen.items c.args.self.now.stock c.requires.bytes c.judge_staged.ensures.from) c.requires.stage c.judge_staged.ensures.learns c.in-Ok.ensures.verdict
    c.take_verdict-reply.ensures.state c.take_verdict-reply.ensures.answer
    (subst (λ (seen : List LookedAt). Forgets (roots_seen seen) c.take_verdict-reply.new.self c.forget_seen.new.self) c.deref.ensures.value c.forget_seen.ensures))

pub returns-in-Err-clause-err : goal.returns-in-Err-clause-err
returns-in-Err-clause-err c =
    restored c.args.self.now c.judge_staged.new.self c.forget_seen-in-Err.new.self c.judge_staged.new.seen.items c.requires.ready
    (seen_from c.args.contents.now c.judge_staged.new.seen.items c.args.self.now.stock c.requires.bytes c.judge_staged.ensures.from) c.judge_staged.ensures.learns
    (subst (λ (seen : List LookedAt). Forgets (roots_seen seen) c.judge_staged.new.self c.forget_seen-in-Err.new.self) c.deref-in-Err.ensures.value c.forget_seen-in-Err.ensures)
