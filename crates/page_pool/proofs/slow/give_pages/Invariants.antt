use Rattle.std.proofs.Common.{◌≡◌, false, take, vec_capacity}
use Rattle.page_pool.specs.Flags.{with_flags}
use Rattle.page_pool.specs.FreeList.{IsFreeList}
use Rattle.page_pool.proofs.slow.give_pages.Given as goal

abbrev pub invariant-loop-page : goal.invariant-loop-page
invariant-loop-page l = record {
  given : l.taken ≡ with_flags false (take l.page-index l.pages) l.fn.taken;
  list : IsFreeList l.free.items l.taken;
  room : vec_capacity l.free ≡ vec_capacity l.fn.free;
}
