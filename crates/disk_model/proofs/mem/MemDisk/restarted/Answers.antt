use Rattle.std.proofs.Common.{length, ap, subst, arith}
use Rattle.disk_model.specs.Images.{IsImage}
use Rattle.disk_model.specs.Disks.{Mem}
use Rattle.disk_model.proofs.ImageLemmas.{image-are_pages}
use Rattle.disk_model.proofs.PickLemmas.{takes_image_at}
use Rattle.disk_model.proofs.mem.MemDisk.restarted.Goals as goal

pub with_pages-requires-clause-pages : goal.with_pages-requires-clause-pages
with_pages-requires-clause-pages c =
    image-are_pages (length c.self.inside.start.items) _ c.in_ok-start.start.items c.self.invariant.told
    (takes_image_at _ _ _ _ c.args.picks.now c.in_ok-start.start.items c.deref.ensures.value c.deref-2.ensures.value c.in_ok-start.ensures.taken)

pub with_pages-requires-clause-small : goal.with_pages-requires-clause-small
with_pages-requires-clause-small c =
    let image = takes_image_at _ _ _ _ c.args.picks.now c.in_ok-start.start.items c.deref.ensures.value c.deref-2.ensures.value c.in_ok-start.ensures.taken in
    omega (arith, image.size, c.self.invariant.small, c.in_ok-start.start.ok.0)

pub returns-clause-image : goal.returns-clause-image
returns-clause-image c =
    let image = takes_image_at _ _ _ _ c.args.picks.now c.in_ok-start.start.items c.deref.ensures.value c.deref-2.ensures.value c.in_ok-start.ensures.taken in
    let begins = ap (λ (m : Mem). m.past.start) c.in_ok-with_pages.ensures in
    subst (λ (m : Mem). IsImage m.past c.in_ok-with_pages.field-0.past.start) c.self.view_is (rw begins image)
