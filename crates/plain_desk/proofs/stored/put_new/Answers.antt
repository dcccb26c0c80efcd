use Rattle.plain_stock.proofs.KeptBytes.{bytes_landed}
use Rattle.plain_desk.proofs.stored.put_new.Goals as goal

pub returns-in-Ok-clause-bytes : goal.returns-in-Ok-clause-bytes
returns-in-Ok-clause-bytes c =
    rw (c.in-Ok.ensures.ok, c.as_slice.ensures.list) (bytes_landed c.args.root c.args.bytes c.requires.bytes c.requires.missing c.requires.is c.in_ok-put.ensures.ok)
