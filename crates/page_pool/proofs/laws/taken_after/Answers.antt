use Rattle.page_pool.proofs.FlagLemmas.{length-with_flags, taken_then, taken_before, still_taken, given_before, take_counted, give_counted}
use Rattle.page_pool.proofs.laws.taken_after.Goals as goal

pub returns-clause-length : goal.returns-clause-length
returns-clause-length c = λ flag flags pages. length-with_flags flag pages flags

pub returns-clause-take : goal.returns-clause-take
returns-clause-take c = λ flags pages page lt. (taken_before pages flags page, taken_then pages flags page lt)

pub returns-clause-give : goal.returns-clause-give
returns-clause-give c = λ flags pages page. (given_before pages flags page, λ h. still_taken pages flags page h.1 h.0)

pub returns-clause-take_count : goal.returns-clause-take_count
returns-clause-take_count c = λ flags pages. take_counted pages flags

pub returns-clause-give_count : goal.returns-clause-give_count
returns-clause-give_count c = λ flags pages. give_counted pages flags
