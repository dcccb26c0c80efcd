use Rattle.std.proofs.Common.{◌≡◌, vec_len}
use Rattle.formats_tests.proofs.roots.sample.Given as goal

abbrev pub invariant-loop-i : goal.invariant-loop-i
invariant-loop-i l = vec_len l.bytes ≡ l.i
