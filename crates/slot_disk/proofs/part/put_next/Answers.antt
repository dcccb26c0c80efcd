use Rattle.std.proofs.Common.{ℕ, List, ◌++◌, ◌+◌, ◌-◌, ap, ◌∙◌, arith, length}
use Rattle.std.proofs.lemmas.List.{length-take}
use borrow.Rule.Slice.PartMut.{put_mid}
use Rattle.slot_disk.specs.Filling.{filled}
use Rattle.slot_disk.proofs.PageLemmas.{put_filled}
use Rattle.slot_disk.proofs.part.put_next.Goals as goal

pub returns-clause-put : goal.returns-clause-put
returns-clause-put c = λ tail size is.
    let used = c.args.used in
    let count = c.min-count.result in
    let piece : List ℕ = c.copy_from_slice.new.self in
    let long = length-take count c.args.piece.now in
    ap (λ (k : ℕ). put_mid used k c.args.next.now piece) {x = used + count - used} {y = count} (omega arith)
    ∙ put_filled tail piece c.args.next.now used count size (omega (arith, c.min-count.ensures, c.requires)) (omega (arith, ap length c.copy_from_slice.ensures.after, long, c.min-count.ensures)) is
    ∙ ap (λ (l : List ℕ). filled (tail ++ l)) c.copy_from_slice.ensures.after
