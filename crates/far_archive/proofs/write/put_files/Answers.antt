use Rattle.std.proofs.Common.{ℕ, ◌++◌, List, ap, ◌∙◌}
use Rattle.far_archive.specs.declared.write.FarEntry.{FarEntry}
use Rattle.far_archive.specs.Written.{filled}
use Rattle.far_archive.proofs.Lists.{one_more_page}
use Rattle.far_archive.proofs.write.put_files.Goals as goal

pub loop-entry-preserved : goal.loop-entry-preserved
loop-entry-preserved c =
    let same = ap (λ (e : FarEntry). filled 4096 (c.loop-entry.out.items ++ e.bytes)) c.entry-item.is in
    let put = c.in_ok-put.ensures ∙ ap (λ (l : List ℕ). c.loop-entry.out.items ++ l) c.as_slice.ensures.list in
    c.in_ok-fill.ensures ∙ ap (filled 4096) put ∙ same
    ∙ one_more_page c.args.out.now.items c.loop-entry.out.items c.args.entries.now c.loop-entry.entry-index c.entry-item.result c.loop-entry-test.true c.requires c.loop-entry.invariant
