use Rattle.std.proofs.Common.{◌≡◌, ◌<◌, ◌≤◌, ℕ, false, length, get_or}
use Rattle.page_pool.specs.Flags.{IsTaken}
use Rattle.blob_disk.proofs.marks.give_unmarked.Given as goal

abbrev pub invariant-loop-page : goal.invariant-loop-page
invariant-loop-page l = record {
  size : length l.pool ≡ l.count;
  done : (page : ℕ) → page < l.page → get_or l.pool page false ≡ get_or l.marks page false;
  rest : (page : ℕ) → l.page ≤ page → page < l.count → IsTaken l.pool page;
}
