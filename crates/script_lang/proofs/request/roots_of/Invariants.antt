use Rattle.std.proofs.Common.{◌≡◌, ℕ, ◌+◌, ◌≤◌, length}
use Rattle.package_url.specs.Reading.{lent}
use Rattle.script_lang.specs.Requests.{roots_in, words_in}
use Rattle.script_lang.specs.declared.request.TheConstants.{RETAIN_LIMIT}
use Rattle.script_lang.proofs.RootWords.{size_of, roots_at, put_all}
use Rattle.script_lang.proofs.request.roots_of.Given as goal

abbrev pub invariant-loop-rest : goal.invariant-loop-rest
invariant-loop-rest l = record {
  roots : put_all l.roots.items (roots_at l.number (lent l.rest)) ≡ roots_in 1 (words_in l.fn.text);
  few : l.number ≤ RETAIN_LIMIT + 1;
}

abbrev pub decreases-loop-rest : goal.decreases-loop-rest
decreases-loop-rest l = size_of (lent l.rest)
