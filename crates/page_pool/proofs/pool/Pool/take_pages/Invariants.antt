use Rattle.std.proofs.Common.{◌≡◌, ◌+◌, ◌*◌, length, true, All, vec_capacity}
use Rattle.page_pool.specs.Flags.{IsFree, free_count, AreDistinct, with_flags}
use Rattle.page_pool.specs.Words.{NoneFreeBelow}
use Rattle.page_pool.proofs.pool.Pool.take_pages.Given as goal

abbrev pub invariant-loop-i : goal.invariant-loop-i
invariant-loop-i l = record {
  given : length l.out.items ≡ l._i;
  were_free : All (IsFree l.fn.self) l.out.items;
  apart : AreDistinct l.out.items;
  taken : l.self ≡ with_flags true l.out.items l.fn.self;
  left : free_count l.self + l._i ≡ free_count l.fn.self;
  passed : NoneFreeBelow l.self (64 * l.from);
  space : vec_capacity l.out ≡ vec_capacity l.fn.out;
}
