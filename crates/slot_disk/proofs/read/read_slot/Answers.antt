use Rattle.std.proofs.Common.{ℕ, Bool, Option, ◌∙◌, subst}
use Rattle.disk_model.specs.Past.{page_at, Past}
use Rattle.disk_model.specs.Images.{SomeImage}
use Rattle.image_layout.specs.declared.Sys.{Sys}
use Rattle.image_layout.specs.declared.ImageKind.TheVariants.{Zbi, Vbmeta}
use Rattle.slot_disk.specs.Areas.{header_page}
use Rattle.slot_disk.specs.Slots.{HasImage}
use Rattle.slot_disk.specs.Steps.{Heads, Says}
use Rattle.slot_disk.proofs.ReadSteps.{no_header, bad_image, good_slot}
use Rattle.slot_disk.proofs.read.read_slot.Goals as goal

pub returns-in_default-clause-read : goal.returns-in_default-clause-read
returns-in_default-clause-read g c =
    let told = g.D.Disk.past c.args.disk.now in
    let read : SomeImage told (λ image. Heads (page_at image c.slot_start.result) c.in_ok-sys.field-0) = c.in_ok-sys.ensures.read in
    let at = subst (λ (n : ℕ). SomeImage told (λ image. Heads (page_at image n) c.in_ok-sys.field-0)) c.slot_start.ensures read in
    no_header c.args.geometry.now c.args.slot told (subst (λ (o : Option Sys). SomeImage told (λ image. Heads (page_at image (header_page c.args.geometry.now c.args.slot)) o)) c.in_default.is at)

pub returns-then-not-branch-clause-read : goal.returns-then-not-branch-clause-read
returns-then-not-branch-clause-read g c =
    let told = g.D.Disk.past c.args.disk.now in
    let geometry = c.args.geometry.now in
    let slot = c.args.slot in
    let sys = c.in-Some.sys in
    let read : SomeImage told (λ image. Heads (page_at image c.slot_start.result) c.in_ok-sys.field-0) = c.in_ok-sys.ensures.read in
    let at = subst (λ (n : ℕ). SomeImage told (λ image. Heads (page_at image n) c.in_ok-sys.field-0)) c.slot_start.ensures read in
    let head = subst (λ (o : Option Sys). SomeImage told (λ image. Heads (page_at image (header_page geometry slot)) o)) c.in-Some.is at in
    let bad = subst (λ (b : Bool). SomeImage told (Says b (HasImage geometry slot Zbi sys.zbi))) c.if-not-branch.true
    (subst (λ (t : Option Past). SomeImage t (Says c.in_ok-has_image.field-0 (HasImage geometry slot Zbi sys.zbi))) c.read_system.ensures.past_stays c.in_ok-has_image.ensures.read) in
    bad_image geometry slot sys Zbi (λ (s : Sys). s.zbi) told (g.D.Disk.pages c.args.disk.now) (λ s image has. has.zbi) c.pages-count.ensures.told head bad

pub returns-then-not-branch-2-clause-read : goal.returns-then-not-branch-2-clause-read
returns-then-not-branch-2-clause-read g c =
    let told = g.D.Disk.past c.args.disk.now in
    let geometry = c.args.geometry.now in
    let slot = c.args.slot in
    let sys = c.in-Some.sys in
    let read : SomeImage told (λ image. Heads (page_at image c.slot_start.result) c.in_ok-sys.field-0) = c.in_ok-sys.ensures.read in
    let at = subst (λ (n : ℕ). SomeImage told (λ image. Heads (page_at image n) c.in_ok-sys.field-0)) c.slot_start.ensures read in
    let head = subst (λ (o : Option Sys). SomeImage told (λ image. Heads (page_at image (header_page geometry slot)) o)) c.in-Some.is at in
    let bad = subst (λ (b : Bool). SomeImage told (Says b (HasImage geometry slot Vbmeta sys.vbmeta))) c.if-not-branch-2.true
    (subst (λ (t : Option Past). SomeImage t (Says c.in_ok-has_image-2.field-0 (HasImage geometry slot Vbmeta sys.vbmeta))) (c.has_image.ensures.past_stays ∙ c.read_system.ensures.past_stays) c.in_ok-has_image-2.ensures.read) in
    bad_image geometry slot sys Vbmeta (λ (s : Sys). s.vbmeta) told (g.D.Disk.pages c.args.disk.now) (λ s image has. has.vbmeta) c.pages-count.ensures.told head bad

pub returns-clause-read : goal.returns-clause-read
returns-clause-read g c =
    let told = g.D.Disk.past c.args.disk.now in
    let geometry = c.args.geometry.now in
    let slot = c.args.slot in
    let sys = c.in-Some.sys in
    let read : SomeImage told (λ image. Heads (page_at image c.slot_start.result) c.in_ok-sys.field-0) = c.in_ok-sys.ensures.read in
    let at = subst (λ (n : ℕ). SomeImage told (λ image. Heads (page_at image n) c.in_ok-sys.field-0)) c.slot_start.ensures read in
    let head = subst (λ (o : Option Sys). SomeImage told (λ image. Heads (page_at image (header_page geometry slot)) o)) c.in-Some.is at in
    let zbi = subst (λ (b : Bool). SomeImage told (Says b (HasImage geometry slot Zbi sys.zbi))) c.if-not-branch.false
    (subst (λ (t : Option Past). SomeImage t (Says c.in_ok-has_image.field-0 (HasImage geometry slot Zbi sys.zbi))) c.read_system.ensures.past_stays c.in_ok-has_image.ensures.read) in
    let vbmeta = subst (λ (b : Bool). SomeImage told (Says b (HasImage geometry slot Vbmeta sys.vbmeta))) c.if-not-branch-2.false
    (subst (λ (t : Option Past). SomeImage t (Says c.in_ok-has_image-2.field-0 (HasImage geometry slot Vbmeta sys.vbmeta))) (c.has_image.ensures.past_stays ∙ c.read_system.ensures.past_stays) c.in_ok-has_image-2.ensures.read) in
    good_slot geometry slot sys told (g.D.Disk.pages c.args.disk.now) c.pages-count.ensures.told head zbi vbmeta
