use Rattle.std.proofs.Common.{◌≡◌, false, take}
use Rattle.page_pool.specs.Flags.{with_flags}
use Rattle.page_pool.proofs.pool.Pool.give.Given as goal

abbrev pub invariant-loop-page : goal.invariant-loop-page
invariant-loop-page l = l.self ≡ with_flags false (take l.page-index l.pages) l.fn.self
