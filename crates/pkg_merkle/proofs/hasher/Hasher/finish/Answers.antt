use Rattle.std.proofs.Common.{◌≡◌, ◌≤◌, ◌+◌, ◌/◌, arith}
use Rattle.pkg_merkle.specs.Merkle.{block_count}
use Rattle.pkg_merkle.proofs.Feeding.{block-last}
use Rattle.pkg_merkle.proofs.hasher.Hasher.finish.Goals as goal
use Rattle.pkg_merkle.proofs.hasher.Hasher.finish.Goals.{else-used-eq0-via-then-used-eq0+else-index-gt0, else-used-eq0-via-else-used-eq0}

pub returns : goal.returns
returns c = record {
  root = λ blob held.
      let count = held.count in
      let within = held.within in
      let blocks : block_count blob ≡ c.args.self.length / 8192 + 1 =
      elim c.else-used-eq0.branch [
        | else-used-eq0-via-then-used-eq0+else-index-gt0 w ↦ omega arith
        | else-used-eq0-via-else-used-eq0 w ↦ omega arith
      ] in
      let few : c.args.self.length / 8192 + 1 ≤ 4096 = omega arith in
      let contents = block-last c.args.self blob held in
      let after = c.add_block.ensures blob (rw count contents) (rw count held.tree) in
      c.root-2.ensures blob blocks few after;
}
