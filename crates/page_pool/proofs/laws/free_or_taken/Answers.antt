use Rattle.page_pool.proofs.FlagLemmas.{either, not_both, all_counted, none_free, none_counted, same_flags}
use Rattle.page_pool.proofs.laws.free_or_taken.Goals as goal

pub returns-clause-each : goal.returns-clause-each
returns-clause-each c = either

pub returns-clause-apart : goal.returns-clause-apart
returns-clause-apart c = not_both

pub returns-clause-counts : goal.returns-clause-counts
returns-clause-counts c = all_counted

pub returns-clause-none : goal.returns-clause-none
returns-clause-none c = λ flags. (none_free flags, none_counted flags)

pub returns-clause-same : goal.returns-clause-same
returns-clause-same c = same_flags
