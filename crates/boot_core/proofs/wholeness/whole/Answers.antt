use Rattle.std.proofs.Common.{refl, ◌∙◌, ap, subst, List, false}
use Rattle.std.specs.Prelude.{◌≡◌}
use Rattle.system_lists.specs.Judging.{Verdict, judged}
use Rattle.boot_core.specs.Look.{Stocked}
use Rattle.boot_core.specs.Seen.{hand}
use Rattle.boot_core.specs.Whole.{is_open}
use Rattle.boot_core.proofs.Told.{seen_verdict, answer_seen, answer_judged, answer_told}
use Rattle.boot_core.proofs.wholeness.whole.Goals as goal

pub returns-in-None-clause-seen : goal.returns-in-None-clause-seen
returns-in-None-clause-seen g c =
    let system = c.args.sys.now.system in
    let is = c.in_ok-judgement.ensures ∙ ap (λ (s : List Stocked). judged (hand s c.loop.seen.books c.loop.seen.blobs.items) system) c.loop.invariant.1 in
    answer_seen (g.L.Look.stock c.args.look.now) c.loop.seen system _ c.answer.result is c.answer.ensures.said c.loop.invariant.0.entries c.answer.ensures.seen

pub returns-in-None-clause-judged : goal.returns-in-None-clause-judged
returns-in-None-clause-judged g c =
    let system = c.args.sys.now.system in
    let is = c.in_ok-judgement.ensures ∙ ap (λ (s : List Stocked). judged (hand s c.loop.seen.books c.loop.seen.blobs.items) system) c.loop.invariant.1 in
    answer_judged (g.L.Look.stock c.args.look.now) c.loop.seen system _ c.answer.result is c.answer.ensures.said c.loop.invariant.0.entries

pub returns-in-None-clause-told : goal.returns-in-None-clause-told
returns-in-None-clause-told g c =
    let stock = g.L.Look.stock c.args.look.now in
    let seen = c.loop.seen in
    let system = c.args.sys.now.system in
    let is = c.in_ok-judgement.ensures ∙ ap (λ (s : List Stocked). judged (hand s seen.books seen.blobs.items) system) c.loop.invariant.1 in
    let closed = subst (λ (s : List Stocked). is_open s seen.books system (judged (hand s seen.books seen.blobs.items) system) ≡ false) c.loop.invariant.1
    (subst (λ (v : Verdict). is_open (g.L.Look.stock c.loop.look) seen.books system v ≡ false) c.in_ok-judgement.ensures (c.in-None.ensures refl)) in
    answer_told stock seen system _ c.answer.result is c.answer.ensures.said (g.L.Look.blobs c.args.look.now)
    (seen_verdict stock (g.L.Look.blobs c.args.look.now) seen system c.len-len.ensures.agree c.loop.invariant.0 closed)
