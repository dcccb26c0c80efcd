use Rattle.plain_desk.proofs.Stores.{file_there}
use Rattle.plain_desk.proofs.reading.read.Goals as goal

pub read_end-requires-clause-there : goal.read_end-requires-clause-there
read_end-requires-clause-there c = rw c.state.ensures (file_there c.args.ledger.now c.args.lane c.args.dir c.args.file.now c.requires.agrees)
