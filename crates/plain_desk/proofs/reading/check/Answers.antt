use Rattle.plain_desk.proofs.Stores.{file_there}
use Rattle.plain_desk.proofs.reading.check.Goals as goal

pub check_end-requires : goal.check_end-requires
check_end-requires c = rw c.state.ensures (file_there c.args.ledger.now c.args.lane c.args.dir c.args.file.now c.requires)
