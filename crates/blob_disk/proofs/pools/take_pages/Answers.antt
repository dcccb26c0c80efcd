use Rattle.std.proofs.Common.{ℕ, true, Bool, List, ◌++◌, ◌∷◌, [], All, sym, subst, ap, ◌∙◌, arith}
use Rattle.page_pool.specs.Flags.{IsFree, AreDistinct, with_flags}
use Rattle.blob_disk.specs.Pooled.{IsPooled}
use Rattle.blob_disk.proofs.Pooling.{pooled_take}
use Rattle.blob_disk.proofs.SoundLists.{free_below}
use Rattle.blob_disk.proofs.pools.take_pages.Goals as goal

pub returns-clause-pooled : goal.returns-clause-pooled
returns-clause-pooled c = λ entries entry count pages_are pooled.
    let flags : List Bool = c.args.pool.now in
    let step = c.in-Ok.ensures in
    let free = subst (λ (l : List ℕ). All (IsFree flags) l) (sym pages_are) step.were_free in
    let distinct = subst (λ (l : List ℕ). AreDistinct l) (sym pages_are) step.apart in
    subst (λ (f : List Bool). IsPooled (entries ++ entry ∷ []) f count) (ap (λ (l : List ℕ). with_flags true l flags) pages_are ∙ sym step.taken)
    (pooled_take entries entry flags count (λ page below. c.taken_after.ensures.take flags entry.pages page below) (c.taken_after.ensures.length true flags entry.pages) (c.taken_after.ensures.take_count flags entry.pages free distinct)
    (λ k d inside. omega (arith, free_below flags _ (free k d inside), pooled.size)) pooled)
