use Rattle.std.proofs.Common.{◌≡◌, ℕ, ◌+◌, ◌-◌, ◌/◌, ◌%◌, ◌<◌, ◌≤◌, List, ◌++◌, min, length, take, drop, refl, sym, ◌∙◌, ap, subst, arith, length-append, length-drop}
use Rattle.std.proofs.lemmas.List.{append-nil, take_all, length-take-le}
use Rattle.disk_model.specs.Images.{IsInRow}
use Rattle.disk_model.proofs.Regions.{writes_start}
use Rattle.slot_disk.specs.Filling.{page_of, page_count, AreWritten}
use Rattle.slot_disk.proofs.WriteSteps.{piece_written, piece_only, more_taken}
use Rattle.slot_disk.proofs.write.write_piece.Goals as goal

omega_all : (bytes piece : List ℕ) (done len : ℕ) → length bytes ≡ len → done ≤ length piece → length (bytes ++ take done piece) ≡ len + done
omega_all bytes piece done len size within = omega (arith, length-append bytes (take done piece), length-take-le done piece within, size)

pub loop-done-init : goal.loop-done-init
loop-done-init g c =
    let told = g.D.Disk.past c.args.disk.now in
    record {
      within = omega arith;
      next = λ bytes size is. subst (λ (l : List ℕ). c.args.next.now ≡ page_of l (length l / 4096)) (sym (append-nil bytes)) is;
      written = λ bytes size is w. subst (λ (l : List ℕ). AreWritten told c.args.first l) (sym (append-nil bytes)) w;
      only = writes_start (IsInRow c.args.first (page_count (c.args.len + length c.args.piece.now))) told;
      pages_stay = refl;
      tie_stays = refl;
      reads_stay = refl;
      faults_never_fall = omega arith;
      told = c.pages-count.ensures.told;
    }

pub returns-in_err-done-clause-only : goal.returns-in_err-done-clause-only
returns-in_err-done-clause-only g c =
    let past = g.D.Disk.past in
    piece_only c.args.first c.args.len c.loop-done.done (length c.args.piece.now) (past c.args.disk.now) (past c.loop-done.disk) (past c.write_next.new.disk) c.loop-done-test.true c.loop-done.invariant.only c.write_next.ensures.only

pub loop-done-preserved : goal.loop-done-preserved
loop-done-preserved g c =
    let past = g.D.Disk.past in
    let inv = c.loop-done.invariant in
    let step = c.write_next.ensures in
    let first : ℕ = c.args.first in
    let piece : List ℕ = c.args.piece.now in
    let done : ℕ = c.loop-done.done in
    let count : ℕ = c.in_ok-done.field-0 in
    let rest : List ℕ = take (length piece - done) (drop done piece) in
    let front : List ℕ = take count rest in
    let left_drop : length (drop done piece) ≡ length piece - done = length-drop done piece in
    let is_rest : rest ≡ drop done piece = take_all (length piece - done) (drop done piece) (omega (arith, left_drop)) in
    let left : length rest ≡ length piece - done = ap length is_rest ∙ left_drop in
    let lt : done < length piece = c.loop-done-test.true in
    let few : count ≡ min (length rest) (4096 - (c.args.len + done) % 4096) = c.in_ok-done.ensures.count in
    let more : count ≤ length rest = omega (arith, few) in
    let size_front : length front ≡ count = length-take-le count rest more in
    let size_all = λ (bytes : List ℕ) (size : length bytes ≡ c.args.len). omega_all bytes piece done c.args.len size inv.within in
    record {
      within = omega (arith, more, left, lt);
      next = λ bytes size is.
          let all : List ℕ = bytes ++ take done piece in
          subst (λ (l : List ℕ). c.write_next.new.next ≡ page_of l (length l / 4096)) (more_taken bytes piece rest done count is_rest)
          (c.in_ok-done.ensures.next all (size_all bytes size) (inv.next bytes size is));
      written = λ bytes size is w.
          let all : List ℕ = bytes ++ take done piece in
          let long : length all ≡ c.args.len + done = size_all bytes size in
          subst (λ (l : List ℕ). AreWritten (past c.write_next.new.disk) first l) (more_taken bytes piece rest done count is_rest)
          (piece_written first all front (past c.loop-done.disk) (past c.write_next.new.disk)
          (omega (arith, size_front, few, left, lt)) (omega (arith, size_front, few, long))
          (c.in_ok-done.ensures.wrote all long (inv.next bytes size is)) (inv.written bytes size is w));
      only = piece_only first c.args.len done (length piece) (past c.args.disk.now) (past c.loop-done.disk) (past c.write_next.new.disk) lt inv.only step.only;
      pages_stay = step.pages_stay ∙ inv.pages_stay;
      tie_stays = step.tie_stays ∙ inv.tie_stays;
      reads_stay = step.reads_stay ∙ inv.reads_stay;
      faults_never_fall = omega (arith, step.faults_never_fall, inv.faults_never_fall);
      told = step.told;
    }

pub returns-clause-written : goal.returns-clause-written
returns-clause-written g c = λ bytes size is w.
    let inv = c.loop-done.invariant in
    let piece : List ℕ = c.args.piece.now in
    subst (λ (l : List ℕ). AreWritten (g.D.Disk.past c.loop-done.disk) c.args.first (bytes ++ l)) (take_all c.loop-done.done piece (omega (arith, c.loop-done-test.false))) (inv.written bytes size is w)
