use Rattle.std.proofs.Common.{sym, arith}
use Rattle.abr_record.proofs.CrcLemmas.{shifted-even, shifted-odd}
use Rattle.abr_record.proofs.crc.shifted.Goals as goal

pub returns-then-register-eq1 : goal.returns-then-register-eq1
returns-then-register-eq1 c = sym (shifted-odd c.args.register c.if-register-eq1.true)

pub returns-else-register-eq1 : goal.returns-else-register-eq1
returns-else-register-eq1 c = sym (shifted-even c.args.register (omega arith))
