use Rattle.folder_publish.proofs.Reading.{front_read}
use Rattle.folder_publish.proofs.read.read_front.Goals as goal

pub returns : goal.returns
returns g c =
    let limited = rw c.take.ensures.limit at c.in_ok-read_to_end.ensures.bytes in
    let given = rw c.take.ensures.inner at limited in
    let after = rw c.in_ok-bytes.ensures.items at given in
    front_read (g.F.Read.remaining c.args.file) _ after
