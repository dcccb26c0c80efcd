use Rattle.std.proofs.Common.{◌≡◌, ℕ, ◌+◌, ◌*◌, ◌<◌, ◌≤◌, ◌++◌, min, List, length, take, Option, sym, ◌∙◌, ap, subst, arith, IsOk}
use Rattle.std.proofs.lemmas.List.{length-take, length-take-le, get_or-take}
use Rattle.pkg_merkle.specs.Hasher.{StandsFor}
use Rattle.disk_model.specs.Past.{Past, Pages}
use Rattle.blob_pages.specs.Chains.{joined, AreRead}
use Rattle.blob_pages.proofs.Adding.{ok_part}
use Rattle.blob_pages.proofs.Reading.{AreRead-two, length-AreRead}
use Rattle.blob_pages.proofs.read.root_of_blob.Goals as goal

pub read_two-requires-clause-range : goal.read_two-requires-clause-range
read_two-requires-clause-range g c = λ i d below.
    let chain : List ℕ = c.args.chain.now in
    let n : ℕ = c.div_ceil-count.result in
    let size = length-take n chain in
    subst (λ (page : ℕ). c.args.start + page < g.D.Disk.pages c.loop-k.disk) (sym (get_or-take n chain i d (omega (arith, below, size))))
    (omega (arith, c.requires.range i d (omega (arith, below, size)), c.loop-k.invariant.pages_stay))

pub loop-k-preserved : goal.loop-k-preserved
loop-k-preserved g c =
    let disk = g.D.Disk in
    let inv = c.loop-k.invariant in
    let step = c.read_two.ensures in
    let ok = c.in_ok-read_two.ensures in
    let told : Option Past = disk.past c.args.disk.now in
    let start : ℕ = c.args.start in
    let chain : List ℕ = c.args.chain.now in
    let len : ℕ = c.args.len in
    let k : ℕ = c.loop-k.k in
    let n : ℕ = c.div_ceil-count.result in
    let part : ℕ = c.min-part.result in
    let pages : Pages = c.read_two.new.out in
    let bytes : List ℕ = inv.read.0 in
    let piece : List ℕ = take part c.as_flattened.result.now in
    let below : 2 * k < n = omega (arith, c.loop-k-test.true, c.div_ceil-k-end.ensures) in
    let inside : n ≤ length chain = omega (arith, c.requires.whole, c.div_ceil-count.ensures) in
    let size : length (take n chain) ≡ n = length-take-le n chain inside in
    let read : AreRead told start chain len (2 * k) bytes = subst (λ (i : ℕ). AreRead told start chain len i bytes) {x = min (2 * k) n} {y = 2 * k} (omega (arith, below)) inv.read.2 in
    let two = AreRead-two told (disk.past c.loop-k.disk) start chain len n k c.loop-k.rest part bytes pages inv.past_stays read c.read_two.array_long (omega (arith, below, size)) inside (omega (arith, c.div_ceil-count.ensures)) (omega (arith, c.div_ceil-count.ensures)) inv.rest c.min-part.ensures ok.first ok.second in
    let flat : take part (joined pages) ≡ piece = ap (take part) (sym c.as_flattened.ensures.value) in
    let more : AreRead told start chain len (min (2 * k + 2) n) (bytes ++ piece) = subst (λ (l : List ℕ). AreRead told start chain len (min (2 * k + 2) n) (bytes ++ l)) flat two in
    let came : length bytes ≡ 8192 * k = omega (arith, length-AreRead told start chain len (2 * k) bytes read, below, c.div_ceil-count.ensures) in
    let front : length piece ≡ part = omega (arith, length-take part c.as_flattened.result.now, c.as_flattened.ensures.len, c.read_two.array_long, c.min-part.ensures) in
    let hashable : IsOk c.update.result = c.update.ensures.exact.1 (omega (arith, inv.read.1.count, came, front, c.min-part.ensures, inv.rest, below, c.div_ceil-count.ensures, c.requires.limit)) in
    let hashed = ok_part c.update.result ((b : List ℕ) → StandsFor c.loop-k.hasher b → StandsFor c.update.new.self (b ++ piece)) hashable c.update.ensures.ok bytes inv.read.1 in
    record {
      rest = omega (arith, inv.rest, c.min-part.ensures);
      read = (bytes ++ piece, hashed, subst (λ (i : ℕ). AreRead told start chain len i (bytes ++ piece)) {x = min (2 * k + 2) n} {y = min (2 * (k + 1)) n} (omega arith) more);
      past_stays = step.past_stays ∙ inv.past_stays;
      pages_stay = step.pages_stay ∙ inv.pages_stay;
      tie_stays = step.tie_stays ∙ inv.tie_stays;
      reads = omega (arith, ok.reads, inv.reads, below, size);
      few = omega (arith, step.few, inv.few, below, size);
      faults_never_fall = omega (arith, step.faults_never_fall, inv.faults_never_fall);
    }
