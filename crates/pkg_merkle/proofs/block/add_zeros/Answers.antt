use Rattle.std.proofs.Common.{◌≡◌, ℕ, ◌+◌, ◌-◌, ◌≤◌, ◌++◌, replicate, take, arith}
use Rattle.std.proofs.lemmas.List.{append_assoc, replicate-append-replicate, take-replicate}
use Rattle.pkg_merkle.proofs.block.add_zeros.Goals as goal

pub loop-left-preserved : goal.loop-left-preserved
loop-left-preserved c =
    let done = c.args.count - c.loop-left.left in
    let part = c.min-part.result in
    let small : part ≤ 64 = omega arith in
    let zeros : take part (replicate {A = ℕ} 64 0) ≡ replicate part 0 = take-replicate {X = ℕ} part 64 0 small in
    let sum : c.args.count - (c.loop-left.left - part) ≡ done + part = omega arith in
    record {
      within = omega arith;
      added = λ m held.
          let step = c.update.ensures (m ++ replicate done 0) (c.loop-left.invariant.added m held) in
          rw (sum, ← replicate-append-replicate {A = ℕ} done part 0, ← append_assoc) (rw zeros at step);
    }
