use Rattle.std.proofs.Common.{◌≡◌, List, [], ap, subst, ◌∙◌, false}
use Rattle.system_judge.specs.Listed.{listed}
use Rattle.store_model.specs.declared.events.LookedAt.{LookedAt}
use Rattle.store_model.specs.State.{State}
use Rattle.plain_state.specs.Looking.{Sees}
use Rattle.plain_state.specs.Judged.{hand_of}
use Rattle.plain_state.proofs.Looking.{on_ok}
use Rattle.plain_boot.proofs.Looked.{looked_so}
use Rattle.plain_boot.proofs.looking.look_at_system.Goals as goal

sees_first : (contents seen more : List LookedAt) (t u : State) → seen ≡ [] → Sees contents seen more t u → Sees contents [] more t u
sees_first contents seen more t u none sees = subst (λ (items : List LookedAt). Sees contents items more t u) none sees

pub returns : goal.returns
returns c =
    on_ok c.look_at_each.result _ _ c.look_at_each.ensures.learned
    (λ learned. looked_so c.args.contents.now c.look.new.seen.items c.look_at_lists.new.seen.items c.look_at_each.new.seen.items c.args.state.now c.look.new.self c.look_at_lists.new.self c.look_at_each.new.self c.args.system.now c.as_slice.result.now
    c.requires.unknown c.requires.bytes
    (sees_first c.args.contents.now c.args.seen.now.items c.look.new.seen.items c.args.state.now c.look.new.self c.requires.nothing c.look.ensures.sees)
    c.in_ok-look.ensures.learned c.look_at_lists.ensures.sees c.in_ok-look_at_lists.ensures.lists
    (c.as_slice.ensures.list ∙ c.in_ok-packages.ensures ∙ ap (λ (items : List LookedAt). listed (hand_of c.look_at_lists.new.self items false) c.args.system.now) c.deref.ensures.value)
    c.look_at_each.ensures.sees learned)
