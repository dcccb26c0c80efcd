use Rattle.std.proofs.Common.{◌≡◌, ℕ, ◌+◌, ◌-◌, ◌*◌, ◌<◌, min, refl, ◌∙◌, ap, subst, arith, Option, IfSome}
use Rattle.disk_model.specs.Past.{Past, state_of, MayRead}
use Rattle.disk_model.specs.Images.{SomeImage}
use Rattle.slot_disk.proofs.ReadSteps.{HoldsRow, row_none, row_more, row_end}
use Rattle.slot_disk.proofs.read.sha_of_row.Goals as goal

pub loop-rest-init : goal.loop-rest-init
loop-rest-init g c =
    let told = g.D.Disk.past c.args.disk.now in
    record {
      from = omega arith;
      within = omega arith;
      rest = omega arith;
      read = subst (λ (k : ℕ). SomeImage told (HoldsRow c.new-hasher.result c.args.len c.args.first k)) {x = 0} {y = c.args.first - c.args.first} (omega arith) (row_none c.new-hasher.result c.args.len c.args.first told c.new-hasher.ensures);
      past_stays = refl;
      pages_stay = refl;
      tie_stays = refl;
      faults_never_fall = omega arith;
      told = c.pages-count.ensures.told;
    }

pub loop-rest-preserved : goal.loop-rest-preserved
loop-rest-preserved g c =
    let disk = g.D.Disk in
    let inv = c.loop-rest.invariant in
    let step = c.read.ensures in
    let told = disk.past c.args.disk.now in
    let first : ℕ = c.args.first in
    let len : ℕ = c.args.len in
    let k : ℕ = c.loop-rest.number - first in
    let page = c.read.new.out in
    let at : c.loop-rest.number ≡ first + k = omega (arith, inv.from) in
    let inside : first + k < disk.pages c.args.disk.now = omega (arith, inv.from, inv.rest, c.loop-rest-test.true, c.requires) in
    let may : IfSome told (λ (past : Past). MayRead (state_of past (first + k)) page) =
    subst (λ (n : ℕ). IfSome told (λ (past : Past). MayRead (state_of past n) page)) at
    (subst (λ (t : Option Past). IfSome t (λ (past : Past). MayRead (state_of past c.loop-rest.number) page)) inv.past_stays c.in_ok-read.ensures.value) in
    let part_is : c.min-part.result ≡ min (len - 4096 * k) 4096 = c.min-part.ensures ∙ ap (λ (r : ℕ). min r 4096) inv.rest in
    let more = row_more c.loop-rest.hasher c.update.new.self len first k c.min-part.result (disk.pages c.args.disk.now) page told inside c.pages-count.ensures.told c.read.array_long (omega (arith, inv.rest, c.loop-rest-test.true)) part_is c.update.ensures may inv.read in
    record {
      from = omega (arith, inv.from);
      within = omega (arith, inv.from, inv.rest, c.loop-rest-test.true);
      rest = omega (arith, inv.from, inv.rest, c.min-part.ensures);
      read = subst (λ (j : ℕ). SomeImage told (HoldsRow c.update.new.self len first j)) {x = k + 1} {y = c.loop-rest.number + 1 - first} (omega (arith, inv.from)) more;
      past_stays = step.past_stays ∙ inv.past_stays;
      pages_stay = step.pages_stay ∙ inv.pages_stay;
      tie_stays = step.tie_stays ∙ inv.tie_stays;
      faults_never_fall = omega (arith, step.faults_never_fall, inv.faults_never_fall);
      told = step.told;
    }

pub returns-clause-read : goal.returns-clause-read
returns-clause-read g c = λ count enough.
    let inv = c.loop-rest.invariant in
    let k : ℕ = c.loop-rest.number - c.args.first in
    row_end c.loop-rest.hasher c.finalize.result c.args.len c.args.first k count (g.D.Disk.past c.args.disk.now) (omega (arith, inv.rest, c.loop-rest-test.false)) (omega (arith, inv.within, inv.from, enough)) c.finalize.ensures inv.read
