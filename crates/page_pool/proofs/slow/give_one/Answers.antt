use Rattle.std.proofs.Common.{arith}
use Rattle.page_pool.proofs.FlagLemmas.{list_give, free_count-lt}
use Rattle.page_pool.proofs.slow.give_one.Goals as goal

pub push_reserved-requires : goal.push_reserved-requires
push_reserved-requires c = omega (arith, free_count-lt c.args.taken.now c.args.page c.requires.taken, c.requires.list.count, c.args.free.now.ok.0)

pub returns-clause-list : goal.returns-clause-list
returns-clause-list c = rw c.push_reserved.ensures.items (list_give c.args.free.now.items c.args.page c.args.taken.now c.requires.list c.requires.taken)
