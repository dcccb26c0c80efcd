use Rattle.std.proofs.Common.{◌≡◌, take, fold}
use Rattle.abr_record.specs.Crc.{after_byte, all_ones}
use Rattle.abr_record.proofs.crc.crc32.Given as goal

abbrev pub invariant-loop-byte : goal.invariant-loop-byte
invariant-loop-byte l = l.register ≡ fold after_byte all_ones (take l.byte-index l.bytes)
