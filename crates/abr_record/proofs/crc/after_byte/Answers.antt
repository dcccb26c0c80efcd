use Rattle.std.proofs.Common.{◌≡◌, ◌∙◌, ap, arith, rules}
use Rattle.abr_record.specs.Crc.{shifted, shifted_times, after_byte}
use Rattle.abr_record.proofs.CrcLemmas.{shifted_times_more}
use Rattle.abr_record.proofs.crc.after_byte.Goals as goal

pub loop-init : goal.loop-init
unfolding shifted_times
loop-init c = search rules

pub loop-preserved : goal.loop-preserved
loop-preserved c = c.shifted-register.ensures ∙ ap shifted c.loop.invariant ∙ shifted_times_more c.loop.counter _

pub returns : goal.returns
unfolding after_byte
returns c = let e : c.loop.counter ≡ 8 = omega arith in rw e at c.loop.invariant
