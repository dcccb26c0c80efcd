use Rattle.std.proofs.Common.{◌≡◌, List, [], Result, Ok, Err, refl, sym, ap, subst, ◌∙◌, true}
use Rattle.std.specs.Prelude.{IfOk}
use Rattle.system_lists.specs.Judging.{AtHand, Verdict, judged}
use Rattle.system_judge.specs.declared.judging.Judgement.{Judgement}
use Rattle.system_judge.specs.Judgement.{verdict_of}
use Rattle.store_model.specs.declared.events.LookedAt.{LookedAt}
use Rattle.store_model.specs.State.{State, has_root}
use Rattle.plain_state.specs.Looking.{LearnsAll, AreFrom, Sees}
use Rattle.plain_state.specs.Judged.{hand_of, IsJudged}
use Rattle.plain_state.proofs.Learned.{learns_seen}
use Rattle.plain_state.proofs.Hands.{hand_so}
use Rattle.plain_state.proofs.Verdicts.{judged_by, lists_read, retained_known}
use Rattle.plain_state.proofs.state.State.judge_staged.Goals as goal

starts : (contents seen more : List LookedAt) (t u : State) → seen ≡ [] → Sees contents seen more t u → LearnsAll more t u
starts contents seen more t u none sees = learns_seen contents more t u (subst (λ (items : List LookedAt). Sees contents items more t u) none sees)

starts_from : (contents seen more : List LookedAt) (t u : State) → seen ≡ [] → Sees contents seen more t u → AreFrom contents more
starts_from contents seen more t u none sees = (subst (λ (items : List LookedAt). Sees contents items more t u) none sees).from tt

pub returns-in_err-look_at_lists-clause-learns : goal.returns-in_err-look_at_lists-clause-learns
returns-in_err-look_at_lists-clause-learns c = starts c.args.contents.now c.args.seen.now.items c.look_at_lists.new.seen.items c.args.self.now c.look_at_lists.new.self c.requires.nothing c.look_at_lists.ensures.sees

pub returns-in_err-look_at_lists-clause-from : goal.returns-in_err-look_at_lists-clause-from
returns-in_err-look_at_lists-clause-from c = starts_from c.args.contents.now c.args.seen.now.items c.look_at_lists.new.seen.items c.args.self.now c.look_at_lists.new.self c.requires.nothing c.look_at_lists.ensures.sees

pub returns-clause-learns : goal.returns-clause-learns
returns-clause-learns c = starts c.args.contents.now c.args.seen.now.items c.look_at_lists.new.seen.items c.args.self.now c.look_at_lists.new.self c.requires.nothing c.look_at_lists.ensures.sees

pub returns-clause-from : goal.returns-clause-from
returns-clause-from c = starts_from c.args.contents.now c.args.seen.now.items c.look_at_lists.new.seen.items c.args.self.now c.look_at_lists.new.self c.requires.nothing c.look_at_lists.ensures.sees

pub returns-clause-verdict : goal.returns-clause-verdict
returns-clause-verdict c =
    let learned = starts c.args.contents.now c.args.seen.now.items c.look_at_lists.new.seen.items c.args.self.now c.look_at_lists.new.self c.requires.nothing c.look_at_lists.ensures.sees in
    subst (λ (verdict : Verdict). IfOk c.judge.result (λ (found : Judgement). verdict_of found ≡ verdict))
    (ap (λ (at : AtHand). judged at c.args.sys.now.system)
    (ap (λ (seen : List LookedAt). hand_of c.look_at_lists.new.self seen true) c.deref.ensures.value
    ∙ hand_so c.args.self.now c.look_at_lists.new.self c.look_at_lists.new.seen.items true (has_root c.args.self.now.retained) learned (λ root. refl)))
    c.judge.ensures

if_judged : {E : Type 0} (r : Result Judgement E) (verdict : Verdict) → IsJudged verdict → IfOk r (λ (found : Judgement). verdict_of found ≡ verdict) → IfOk r (λ (found : Judgement). IsJudged (verdict_of found))
if_judged (Ok found) verdict h is = subst IsJudged (sym is) h
if_judged (Err fault) verdict h is = is

pub returns-clause-judged : goal.returns-clause-judged
returns-clause-judged c =
    let t = c.args.self.now in
    let u = c.look_at_lists.new.self in
    let seen = c.look_at_lists.new.seen.items in
    let learned = starts c.args.contents.now c.args.seen.now.items seen t u c.requires.nothing c.look_at_lists.ensures.sees in
    if_judged c.judge.result (judged (hand_of u c.deref.result.now true) c.args.sys.now.system)
    (subst (λ (items : List LookedAt). IsJudged (judged (hand_of u items true) c.args.sys.now.system)) (sym c.deref.ensures.value)
    (judged_by (hand_of u seen true) c.args.sys.now.system
    (lists_read c.args.contents.now seen t u true c.args.sys.now.system c.requires.bytes (ap (λ (s : State). s.stock) learned.rest)
    (retained_known seen t u c.args.sys.now.system c.requires.ready learned) c.in_ok-look_at_lists.ensures.lists)))
    c.judge.ensures
