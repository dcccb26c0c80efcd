use Rattle.std.proofs.Common.{◌≡◌, ◌+◌, ◌-◌, ◌*◌, sym, arith}
use Rattle.pkg_merkle.proofs.Levels.{block-drop}
use Rattle.pkg_merkle.proofs.tree.Tree.add_blocks.Goals as goal

pub loop-i-preserved : goal.loop-i-preserved
loop-i-preserved c = λ bytes is held.
    let before = c.loop-i.invariant bytes is held in
    let width : 8192 * (c.loop-i.i + 1) - 8192 * c.loop-i.i ≡ 8192 = omega arith in
    let part = block-drop bytes c.args.blocks.now c.args.index c.loop-i.i is in
    let next : c.args.index + c.loop-i.i + 1 ≡ c.args.index + (c.loop-i.i + 1) = omega arith in
    rw (← next) (c.add_block.ensures bytes (rw width (sym part)) before)
