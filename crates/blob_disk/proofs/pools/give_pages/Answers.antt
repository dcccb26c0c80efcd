use Rattle.std.proofs.Common.{ℕ, false, Bool, List, ◌++◌, All, sym, subst, ap, ◌∙◌}
use Rattle.page_pool.specs.Flags.{with_flags, IsTaken, AreDistinct}
use Rattle.blob_disk.specs.Pooled.{IsPooled}
use Rattle.blob_disk.proofs.Pooling.{pooled_give}
use Rattle.blob_disk.proofs.pools.give_pages.Goals as goal

pub returns : goal.returns
returns c = λ before behind entry count pages_are apart pooled.
    let flags : List Bool = c.args.pool.now in
    let taken = subst (λ (l : List ℕ). All (IsTaken flags) l) (sym pages_are) c.requires.taken in
    let distinct = subst (λ (l : List ℕ). AreDistinct l) (sym pages_are) c.requires.apart in
    subst (λ (f : List Bool). IsPooled (before ++ behind) f count) (ap (λ (l : List ℕ). with_flags false l flags) pages_are ∙ sym c.give.ensures.given)
    (pooled_give before behind entry flags count (λ page. c.taken_after.ensures.give flags entry.pages page) (c.taken_after.ensures.length false flags entry.pages) (c.taken_after.ensures.give_count flags entry.pages taken distinct) apart pooled)
