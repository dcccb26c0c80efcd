use Rattle.std.proofs.Common.{◌≡◌, ℕ, ◌+◌, ◌*◌, ◌<◌, ◌≤◌, ◌++◌, List, length, take, sym, subst, ◌∙◌, arith, IsOk}
use Rattle.std.proofs.lemmas.List.{length-take}
use Rattle.blob_pages.specs.Chains.{AreRead}
use Rattle.blob_pages.proofs.Adding.{ok_items}
use Rattle.blob_pages.proofs.Reading.{AreRead-step, length-AreRead, in_range}
use Rattle.blob_pages.proofs.read.read_blob.Goals as goal

pub overflow_add-start : goal.overflow_add-start
overflow_add-start g c =
    omega (arith, in_range c.args.start (g.D.Disk.pages c.args.disk.now) c.div_ceil.result c.loop-number.number-index c.args.chain.now c.requires.range c.loop-number-test.true, c.pages-count.ensures.count, c.pages-count.type_inv)

pub read-requires : goal.read-requires
read-requires g c =
    omega (arith, in_range c.args.start (g.D.Disk.pages c.args.disk.now) c.div_ceil.result c.loop-number.number-index c.args.chain.now c.requires.range c.loop-number-test.true, c.loop-number.invariant.pages_stay)

pub loop-number-preserved : goal.loop-number-preserved
loop-number-preserved g c =
    let disk = g.D.Disk in
    let inv = c.loop-number.invariant in
    let step = c.read.ensures in
    let i : ℕ = c.loop-number.number-index in
    let chain : List ℕ = c.args.chain.now in
    let page : List ℕ = c.read.new.out in
    let few : i < c.div_ceil.result = omega (arith, c.loop-number-test.true, length-take c.div_ceil.result chain) in
    let within : 4096 * i ≤ c.args.len = omega (arith, few, c.div_ceil.ensures) in
    let full : length page ≡ 4096 = c.read.array_long in
    let bytes : List ℕ = c.loop-number.out.items in
    let are : AreRead (disk.past c.args.disk.now) c.args.start chain c.args.len i bytes = inv.read in
    let size : length bytes ≡ 4096 * i = omega (arith, length-AreRead (disk.past c.args.disk.now) c.args.start chain c.args.len i bytes are, within) in
    let more = AreRead-step (disk.past c.args.disk.now) (disk.past c.loop-number.disk) c.args.start chain c.args.len c.div_ceil.result i c.loop-number.rest c.min-part.result bytes page inv.past_stays are full c.loop-number-test.true within inv.rest c.min-part.ensures c.in_ok-read.ensures.value in
    let front : length (take c.min-part.result page) ≡ c.min-part.result = omega (arith, length-take c.min-part.result page, full, c.min-part.ensures) in
    let roomy : IsOk c.extend_from_slice.result = c.extend_from_slice.ensures.succeeds (omega (arith, inv.room, size, front, c.min-part.ensures, inv.rest, c.loop-number.out.ok.0)) in
    let added = c.extend_from_slice.ensures.items ∙ ok_items c.extend_from_slice.result (bytes ++ take c.min-part.result page) bytes roomy in
    record {
      rest = omega (arith, inv.rest, c.min-part.ensures);
      read = subst (AreRead (disk.past c.args.disk.now) c.args.start chain c.args.len (i + 1)) (sym added) more;
      room = omega (arith, inv.room, c.extend_from_slice.ensures.capacity);
      past_stays = step.past_stays ∙ inv.past_stays;
      pages_stay = step.pages_stay ∙ inv.pages_stay;
      tie_stays = step.tie_stays ∙ inv.tie_stays;
      reads = omega (arith, step.counted, inv.reads);
      few = omega (arith, step.counted, inv.few);
      faults_never_fall = omega (arith, step.faults_never_fall, inv.faults_never_fall);
    }
