use Rattle.plain_state.proofs.Looking.{on_ok, sees_then}
use Rattle.plain_state.proofs.Verdicts.{lists_seen}
use Rattle.plain_state.proofs.state.State.look_at_lists.Goals as goal

pub returns-clause-sees : goal.returns-clause-sees
returns-clause-sees c =
    sees_then c.args.contents.now c.args.seen.now.items c.look_at_list.new.seen.items c.look_at_list-2.new.seen.items c.args.self.now c.look_at_list.new.self c.look_at_list-2.new.self c.look_at_list.ensures.sees c.look_at_list-2.ensures.sees

pub returns-clause-lists : goal.returns-clause-lists
returns-clause-lists c =
    on_ok c.look_at_list-2.result _ _ c.look_at_list-2.ensures.list
    (λ two. lists_seen c.args.contents.now c.look_at_list.new.seen.items c.look_at_list-2.new.seen.items c.args.self.now c.look_at_list.new.self c.look_at_list-2.new.self c.args.system.now
    c.in_ok-look_at_list.ensures.list c.look_at_list.ensures.sees.known c.look_at_list-2.ensures.sees two)
