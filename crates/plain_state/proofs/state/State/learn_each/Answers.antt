use Rattle.std.proofs.Common.{◌≡◌, List, [], subst}
use Rattle.pkg_names.specs.declared.root.Root.{Root}
use Rattle.store_model.specs.declared.events.LookedAt.{LookedAt}
use Rattle.store_model.specs.State.{State}
use Rattle.plain_state.specs.Looking.{Sees, AreAmong}
use Rattle.plain_state.proofs.Looking.{on_ok, on_err, at_err}
use Rattle.plain_state.proofs.Learned.{among_sees, among_next, learns_of}
use Rattle.plain_state.proofs.state.State.learn_each.Goals as goal

sees_first : (contents seen more : List LookedAt) (t u : State) → seen ≡ [] → Sees contents seen more t u → Sees contents [] more t u
sees_first contents seen more t u none sees = subst (λ (items : List LookedAt). Sees contents items more t u) none sees

among_first : (roots : List Root) (seen more : List LookedAt) → seen ≡ [] → AreAmong roots seen more → AreAmong roots [] more
among_first roots seen more none among = subst (λ (items : List LookedAt). AreAmong roots items more) none among

pub returns-in_err-look_at_each-clause-err : goal.returns-in_err-look_at_each-clause-err
returns-in_err-look_at_each-clause-err c =
    at_err c.from_residual.result _
    (among_sees c.args.contents.now c.look_at_each.new.seen.items c.args.roots.now c.args.self.now c.look_at_each.new.self c.requires.bytes
    (sees_first c.args.contents.now c.args.seen.now.items c.look_at_each.new.seen.items c.args.self.now c.look_at_each.new.self c.requires.nothing c.look_at_each.ensures.sees)
    (among_first c.args.roots.now c.args.seen.now.items c.look_at_each.new.seen.items c.requires.nothing c.look_at_each.ensures.among))

pub returns-clause-ok : goal.returns-clause-ok
returns-clause-ok c =
    on_ok c.learn_lengths.result _ _ c.learn_lengths.ensures.ok
    (λ lengths. learns_of c.args.contents.now c.look_at_each.new.seen.items c.args.roots.now c.args.self.now c.look_at_each.new.self c.learn_lengths.new.self c.requires.bytes
    (sees_first c.args.contents.now c.args.seen.now.items c.look_at_each.new.seen.items c.args.self.now c.look_at_each.new.self c.requires.nothing c.look_at_each.ensures.sees)
    (among_first c.args.roots.now c.args.seen.now.items c.look_at_each.new.seen.items c.requires.nothing c.look_at_each.ensures.among)
    c.in_ok-look_at_each.ensures.learned lengths)

pub returns-clause-err : goal.returns-clause-err
returns-clause-err c =
    on_err c.learn_lengths.result _ _ c.learn_lengths.ensures.err
    (λ lengths. among_next c.args.roots.now c.args.self.now c.look_at_each.new.self c.learn_lengths.new.self
    (among_sees c.args.contents.now c.look_at_each.new.seen.items c.args.roots.now c.args.self.now c.look_at_each.new.self c.requires.bytes
    (sees_first c.args.contents.now c.args.seen.now.items c.look_at_each.new.seen.items c.args.self.now c.look_at_each.new.self c.requires.nothing c.look_at_each.ensures.sees)
    (among_first c.args.roots.now c.args.seen.now.items c.look_at_each.new.seen.items c.requires.nothing c.look_at_each.ensures.among))
    lengths)
