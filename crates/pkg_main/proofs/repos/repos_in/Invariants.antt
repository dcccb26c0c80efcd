use Rattle.std.proofs.Common.{◌≡◌, vec_len}
use Rattle.pkg_main.proofs.repos.repos_in.Given as goal

abbrev pub invariant-loop : goal.invariant-loop
invariant-loop g l = vec_len l.repos ≡ l.counter
