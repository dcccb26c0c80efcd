use Rattle.std.proofs.Common.{ap, ◌∙◌}
use Rattle.abr_record.specs.Bytes.{decoded}
use Rattle.abr_record.proofs.ByteLemmas.{decoded-written}
use Rattle.abr_record.proofs.bytes.encode.Goals as goal

pub returns-clause-back : goal.returns-clause-back
returns-clause-back c = ap decoded c.record_bytes.ensures ∙ decoded-written c.args.value.now
