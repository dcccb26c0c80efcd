use Rattle.std.proofs.Common.{sym, ◌∙◌}
use Rattle.image_layout.specs.declared.geometry.Geometry.{Geometry}
use Rattle.std.specs.Int.{w32}
use Rattle.pkg_names.specs.Numbers.{number_at}
use Rattle.image_layout.proofs.SuperLemmas.{spelled, numbers, same}
use Rattle.image_layout.proofs.super_page.read_super.Goals as goal

pub returns-then-not-is_marked-clause-only : goal.returns-then-not-is_marked-clause-only
returns-then-not-is_marked-clause-only c = λ g is room.
    let true_then = c.is_marked.ensures.1 (numbers c.args.page.now g is room.limits).0 in
    let false_now = c.if-not-is_marked.true in
    absurd (cc (true_then, false_now))

pub returns-clause-found : goal.returns-clause-found
returns-clause-found c =
    let page = c.args.page.now in
    let g : Geometry = record { blobs = c.u32_at.result; data_pages = c.u32_at-2.result; slot_pages = c.u32_at-3.result } in
    spelled page c.told-page c.fits-page (c.is_marked.ensures.0 c.if-not-is_marked.false) (sym c.u32_at-layout.ensures ∙ c.if-layout-ne1.false) g
    (same g (number_at w32 page 12) (number_at w32 page 16) (number_at w32 page 20) c.u32_at.ensures c.u32_at-2.ensures c.u32_at-3.ensures)
