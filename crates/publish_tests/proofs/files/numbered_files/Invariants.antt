use Rattle.std.proofs.Common.{◌≡◌, vec_len}
use Rattle.publish_tests.proofs.files.numbered_files.Given as goal

abbrev pub invariant-loop-number : goal.invariant-loop-number
invariant-loop-number l = vec_len l.files ≡ l.number
