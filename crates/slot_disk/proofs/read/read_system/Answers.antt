use Rattle.disk_model.specs.Past.{Page}
use Rattle.slot_disk.specs.Steps.{Heads}
use Rattle.slot_disk.proofs.Joined.{some_page}
use Rattle.slot_disk.proofs.read.read_system.Goals as goal

pub returns-clause-read : goal.returns-clause-read
returns-clause-read g c =
    some_page (λ (page : Page). Heads page c.read_header.result) c.args.number (g.D.Disk.pages c.args.disk.now) c.read.new.out (g.D.Disk.past c.args.disk.now) c.requires c.read.ensures.told_before c.in_ok-read.ensures.value c.read_header.ensures
