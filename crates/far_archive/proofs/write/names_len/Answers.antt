use Rattle.std.proofs.Common.{◌+◌, length, List, ℕ, ap, ◌∙◌}
use Rattle.far_archive.proofs.Lists.{paths_more, names_more}
use Rattle.far_archive.proofs.write.names_len.Goals as goal

pub loop-entry-preserved : goal.loop-entry-preserved
loop-entry-preserved c =
    let path = c.as_slice.ensures.valid in
    record {
      value = c.in_ok-len.ensures.1 ∙ ap (λ (l : List ℕ). c.loop-entry.len + length l) c.as_slice.ensures.text ∙ names_more c.args.entries.now c.loop-entry.entry-index c.loop-entry.len c.entry-item.result c.loop-entry-test.true c.entry-item.is c.loop-entry.invariant.value;
      paths = paths_more c.args.entries.now c.loop-entry.entry-index c.entry-item.result c.loop-entry-test.true c.entry-item.is path c.loop-entry.invariant.paths;
    }
