use Rattle.std.proofs.Common.{◌≡◌, sym}
use Rattle.disk_model.specs.Past.{Page}
use Rattle.image_layout.specs.declared.geometry.TheConstants.{RECORD_PAGE}
use Rattle.slot_disk.specs.Header.{record_on}
use Rattle.slot_disk.proofs.Joined.{some_page}
use Rattle.slot_disk.proofs.read.read_record.Goals as goal

pub returns-clause-read : goal.returns-clause-read
returns-clause-read g c =
    some_page (λ (page : Page). record_on page ≡ c.read_record.result) RECORD_PAGE (g.D.Disk.pages c.args.disk.now) c.read.new.out (g.D.Disk.past c.args.disk.now) c.requires c.read.ensures.told_before c.in_ok-read.ensures.value (sym c.read_record.ensures)
