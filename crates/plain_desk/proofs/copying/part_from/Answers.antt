use Rattle.plain_desk.proofs.Copied.{part_as}
use Rattle.plain_desk.proofs.copying.part_from.Goals as goal

pub returns : goal.returns
returns c = part_as c.args.place c.args.bytes.now _ c.min-len.ensures
