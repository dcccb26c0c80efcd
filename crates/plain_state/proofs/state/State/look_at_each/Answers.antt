use Rattle.std.proofs.Common.{◌+◌, ◌<◌, length, arith}
use Rattle.plain_state.proofs.Looking.{sees_none, sees_then, among_more, among_front, learned_more}
use Rattle.plain_state.proofs.state.State.look_at_each.Goals as goal

pub loop-root-init : goal.loop-root-init
loop-root-init c = record {
  sees = sees_none c.args.contents.now c.args.seen.now.items c.args.self.now;
  among = λ root found. found;
  learned = λ root none. absurd cc;
}

pub loop-root-preserved : goal.loop-root-preserved
loop-root-preserved c =
    let within : c.loop-root.root-index < length c.args.roots.now = omega arith in
    record {
      sees = sees_then c.args.contents.now c.args.seen.now.items c.loop-root.seen.items c.look_unless_known.new.seen.items c.args.self.now c.loop-root.self c.look_unless_known.new.self c.loop-root.invariant.sees c.look_unless_known.ensures.sees;
      among = among_more c.args.roots.now c.loop-root.root-index _ c.args.seen.now.items c.loop-root.seen.items c.look_unless_known.new.seen.items within c.loop-root.invariant.among c.look_unless_known.ensures.among;
      learned = learned_more c.args.contents.now c.loop-root.seen.items c.look_unless_known.new.seen.items c.args.roots.now c.loop-root.root-index _ c.loop-root.self c.look_unless_known.new.self within c.loop-root.invariant.learned c.look_unless_known.ensures.sees
          c.in_ok-look_unless_known.ensures.learned;
    }

pub returns-in_err-look_unless_known-clause-sees : goal.returns-in_err-look_unless_known-clause-sees
returns-in_err-look_unless_known-clause-sees c =
    sees_then c.args.contents.now c.args.seen.now.items c.loop-root.seen.items c.look_unless_known.new.seen.items c.args.self.now c.loop-root.self c.look_unless_known.new.self c.loop-root.invariant.sees c.look_unless_known.ensures.sees

pub returns-in_err-look_unless_known-clause-among : goal.returns-in_err-look_unless_known-clause-among
returns-in_err-look_unless_known-clause-among c =
    let within : c.loop-root.root-index < length c.args.roots.now = omega arith in
    among_front c.args.roots.now (c.loop-root.root-index + 1) c.args.seen.now.items c.look_unless_known.new.seen.items
    (among_more c.args.roots.now c.loop-root.root-index _ c.args.seen.now.items c.loop-root.seen.items c.look_unless_known.new.seen.items within c.loop-root.invariant.among c.look_unless_known.ensures.among)
