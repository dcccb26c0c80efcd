use Rattle.plain_desk.proofs.Filled.{staged_by}
use Rattle.plain_desk.proofs.filling.stage.Goals as goal

pub returns-in-Ok : goal.returns-in-Ok
returns-in-Ok c = staged_by c.args.lane c.args.epoch c.in-Ok.reply c.args.ledger.now c.try_stage.new.ledger c.in-Ok.ensures.ok
