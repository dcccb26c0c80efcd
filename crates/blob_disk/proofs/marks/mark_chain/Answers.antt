use Rattle.std.proofs.Common.{ℕ, Bool, true, List, get_or, set, take, sym, ap, ◌∙◌}
use Rattle.std.proofs.lemmas.List.{take_more}
use Rattle.page_pool.specs.Flags.{with_flags}
use Rattle.blob_disk.proofs.Marking.{marks_push}
use Rattle.blob_disk.proofs.marks.mark_chain.Goals as goal

pub loop-page-preserved : goal.loop-page-preserved
loop-page-preserved c =
    let pages = c.args.chain.now in
    let i = c.loop-page.page-index in
    let first = c.args.marks.now in
    let page = get_or pages i 0 in
    record {
      marked = ap (λ (l : List Bool). set l page true) c.loop-page.invariant.marked ∙ sym (marks_push true (take i pages) page first)
          ∙ ap (λ (l : List ℕ). with_flags true l first) (sym (take_more pages i 0 c.loop-page-test.true));
    }
