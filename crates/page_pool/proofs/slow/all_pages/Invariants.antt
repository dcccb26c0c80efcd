use Rattle.std.proofs.Common.{◌≡◌, ℕ, ◌-◌, ◌<◌, ◌≤◌, length, get_or, vec_capacity}
use Rattle.page_pool.proofs.slow.all_pages.Given as goal

abbrev pub invariant-loop-page : goal.invariant-loop-page
invariant-loop-page l = record {
  size : length l.free.items ≡ l.pages - l.page;
  each : (k d : ℕ) → k < length l.free.items → get_or l.free.items k d ≡ l.pages - 1 - k;
  room : l.pages ≤ vec_capacity l.free;
}
