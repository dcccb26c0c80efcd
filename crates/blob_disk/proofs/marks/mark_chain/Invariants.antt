use Rattle.std.proofs.Common.{◌≡◌, true, take}
use Rattle.page_pool.specs.Flags.{with_flags}
use Rattle.blob_disk.proofs.marks.mark_chain.Given as goal

abbrev pub invariant-loop-page : goal.invariant-loop-page
invariant-loop-page l = record {
  marked : l.marks ≡ with_flags true (take l.page-index l.chain) l.fn.marks;
}
