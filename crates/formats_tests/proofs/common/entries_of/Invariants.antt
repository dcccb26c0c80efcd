use Rattle.std.proofs.Common.{◌≡◌, vec_len}
use Rattle.formats_tests.proofs.common.entries_of.Given as goal

abbrev pub invariant-loop-name : goal.invariant-loop-name
invariant-loop-name l = vec_len l.entries ≡ l.name-index
