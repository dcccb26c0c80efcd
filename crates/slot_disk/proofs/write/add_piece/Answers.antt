use Rattle.std.proofs.Common.{sym}
use Rattle.slot_disk.proofs.write.add_piece.Goals as goal

pub returns-clause-written : goal.returns-clause-written
returns-clause-written g c = λ bytes holds w. c.in_ok-write_piece.ensures.written bytes (sym holds.count) holds.next w
