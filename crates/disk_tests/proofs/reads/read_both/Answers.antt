use Rattle.std.proofs.Common.{◌≡◌, length}
use Rattle.disk_model.specs.Past.{Pages, page_at}
use Rattle.disk_model.proofs.Regions.{lasts_page}
use Rattle.disk_model.proofs.ReadPages.{each_size, read_more, some_weaker}
use Rattle.disk_model.proofs.Moments.{read_image}
use Rattle.disk_tests.proofs.reads.read_both.Goals as goal

pub returns : goal.returns
returns g c =
    let told = g.D.Disk.past c.args.disk.now in
    let count = g.D.Disk.pages c.args.disk.now in
    let First : Pages → Type 0 = λ image. page_at image c.args.a ≡ c.read.new.out in
    let Sized : Pages → Type 0 = λ image. length image ≡ count in
    let fits = c.read.ensures.told_before in
    let one = some_weaker (λ image. Sized image × First image) First told (λ image p. p.1) (read_image Sized c.args.a c.read.new.out count told c.requires.a fits (each_size count told fits) c.in_ok-read.ensures.value) in
    read_more First c.args.b c.read-2.new.out count told c.requires.b fits (lasts_page (λ k. k ≡ c.args.b) c.args.a (λ p. p ≡ c.read.new.out) c.requires.apart) one (rw c.read.ensures.past_stays at c.in_ok-read-2.ensures.value)
