use Rattle.std.proofs.Common.{◌≡◌, bit_xor}
use Rattle.abr_record.specs.Crc.{shifted_times}
use Rattle.abr_record.proofs.crc.after_byte.Given as goal

abbrev pub invariant-loop : goal.invariant-loop
invariant-loop l = l.register ≡ shifted_times l.counter (bit_xor l.before l.byte)
