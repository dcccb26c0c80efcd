use Rattle.std.proofs.Common.{◌≡◌, ℕ, ◌<◌, ◌≤◌, Bool, true, false, take, subst, arith}
use Rattle.std.proofs.lemmas.Slice.Eq.{slice_eq-Decides}
use Rattle.std.proofs.lemmas.Bool.Decides.{Decides-eqb}
use Rattle.sha2.specs.Sha256.{sha256}
use Rattle.disk_model.specs.Images.{SomeImage}
use Rattle.slot_disk.specs.Areas.{area_pages, area_size, row_bytes}
use Rattle.slot_disk.proofs.ReadSteps.{says_longer, says_sha}
use Rattle.slot_disk.proofs.read.has_image.Goals as goal

clash : (b : Bool) → b ≡ false → b ≡ true → ⊥
clash b f t = cc

pub returns-then-sum-from-clause-read : goal.returns-then-sum-from-clause-read
returns-then-sum-from-clause-read g c =
    let long : area_size c.args.geometry.now c.args.kind < c.args.sum.now.len = omega (arith, c.if-sum-from.true, c.from.ensures, c.area_pages.ensures.pages) in
    says_longer c.args.geometry.now c.args.slot c.args.kind c.args.sum.now (g.D.Disk.past c.args.disk.now) long

pub returns-clause-read : goal.returns-clause-read
returns-clause-read g c =
    let told = g.D.Disk.past c.args.disk.now in
    let geometry = c.args.geometry.now in
    let len : ℕ = c.args.sum.now.len in
    let pages : ℕ = area_pages geometry c.args.kind in
    let room : len ≤ area_size geometry c.args.kind = omega (arith, c.if-sum-from.false, c.from.ensures, c.area_pages.ensures.pages) in
    let read = subst (λ (n : ℕ). SomeImage told (λ image. c.in_ok-sha.sha ≡ sha256 (take len (row_bytes n pages image)))) c.area_start.ensures.start (c.in_ok-sha.ensures.read pages room) in
    let test = slice_eq-Decides Decides-eqb c.in_ok-sha.sha c.args.sum.now.sha c.eq.result c.eq.ensures in
    says_sha geometry c.args.slot c.args.kind c.args.sum.now c.in_ok-sha.sha c.eq.result told room (λ t. test.0 t) (λ f e. clash c.eq.result f (test.1 e)) read
