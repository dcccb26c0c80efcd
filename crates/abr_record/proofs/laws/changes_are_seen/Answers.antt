use Rattle.abr_record.proofs.CrcLemmas.{crc_seen, crc_of_digits}
use Rattle.abr_record.proofs.ByteLemmas.{changed_record}
use Rattle.abr_record.proofs.laws.changes_are_seen.Goals as goal

pub returns-clause-check : goal.returns-clause-check
returns-clause-check c = crc_of_digits

pub returns-clause-crc : goal.returns-clause-crc
returns-clause-crc c = λ bytes i byte all small within other same. other (crc_seen bytes i byte all small within same)

pub returns-clause-read : goal.returns-clause-read
returns-clause-read c = changed_record
