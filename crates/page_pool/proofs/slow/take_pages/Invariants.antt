use Rattle.std.proofs.Common.{◌≡◌, ◌+◌, length, true, All, vec_len, vec_capacity}
use Rattle.page_pool.specs.Flags.{IsFree, AreDistinct, with_flags}
use Rattle.page_pool.specs.FreeList.{IsFreeList}
use Rattle.page_pool.proofs.slow.take_pages.Given as goal

abbrev pub invariant-loop-i : goal.invariant-loop-i
invariant-loop-i l = record {
  given : length l.out.items ≡ l._i;
  were_free : All (IsFree l.fn.taken) l.out.items;
  apart : AreDistinct l.out.items;
  taken : l.taken ≡ with_flags true l.out.items l.fn.taken;
  list : IsFreeList l.free.items l.taken;
  left : vec_len l.free + l._i ≡ vec_len l.fn.free;
  room : vec_capacity l.free ≡ vec_capacity l.fn.free;
  space : vec_capacity l.out ≡ vec_capacity l.fn.out;
}
