use Rattle.std.proofs.Common.{◌≡◌, ℕ, ◌+◌, Bool, true, List, ◌++◌, length, get_or, take, drop, sym, ap, subst, ◌∙◌, arith}
use Rattle.std.proofs.Math.Seq.{take-append_seam}
use Rattle.std.proofs.lemmas.List.{get_or_read}
use Rattle.node_table.specs.declared.entry.Entry.{Entry}
use Rattle.page_pool.specs.Flags.{with_flags}
use Rattle.blob_disk.specs.Pooled.{IsPooled}
use Rattle.blob_disk.proofs.Marking.{length-marks, pooled_next}
use Rattle.blob_disk.proofs.marks.marks_of.Goals as goal

pub loop-entry-preserved : goal.loop-entry-preserved
loop-entry-preserved c =
    let entries : List Entry = c.args.entries.now in
    let g0 = c.args.geometry.now in
    let i : ℕ = c.loop-entry.entry-index in
    let entry : Entry = c.entry-item.result in
    let here : (d : Entry) → get_or entries i d ≡ entry = λ d. sym (get_or_read entries i entry c.loop-entry-test.true c.entry-item.is d) in
    let flags : List Bool = c.loop-entry.marks.items in
    let new : List Bool = c.mark_chain.new.marks in
    let new_is : new ≡ with_flags true entry.pages flags = c.mark_chain.ensures ∙ ap (λ (f : List Bool). with_flags true c.as_slice.result.now f) c.deref_mut.ensures.value ∙ ap (λ (l : List ℕ). with_flags true l flags) c.as_slice.ensures.list in
    let size : length new ≡ c.loop-entry.marks.len = omega (arith, ap length new_is, length-marks true entry.pages flags, c.loop-entry.marks.ok.0) in
    let back : take c.loop-entry.marks.len (new ++ drop (length new) flags) ≡ new = ap (λ (n : ℕ). take n (new ++ drop (length new) flags)) (sym size) ∙ take-append_seam new (drop (length new) flags) in
    record {
      pooled = subst (λ (f : List Bool). IsPooled (take (i + 1) entries) f g0.data_pages) (sym (back ∙ new_is))
          (pooled_next g0 entries i entry flags c.requires c.loop-entry-test.true here c.loop-entry.invariant.pooled c.taken_after.ensures.take c.taken_after.ensures.take_count);
    }
