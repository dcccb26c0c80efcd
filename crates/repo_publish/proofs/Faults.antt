-- How often tree and post have failed, once steps follow one another.
use Rattle.std.proofs.Common.{◌≡◌, inl, inr, Bool, false, ℕ, ◌+◌, List, refl, sym, ap, subst, arith}
use Rattle.std.specs.Prelude.{if◌then◌else◌}
use Rattle.far_archive.specs.declared.write.FarEntry.{FarEntry}
use Rattle.repo_source.specs.Repo.{FailedBy, Fails}
use Rattle.repo_source.proofs.Faults.{failed_then}
use Rattle.repo_publish.specs.declared.publishing.PublishEnd.{PublishEnd}
use Rattle.repo_publish.specs.declared.publishing.PublishEnd.TheVariants.{Published, Order, Reserved, TooLarge, TooMany, NotAPackage, FullListing, PostFault, TreeFault, SinkFault, NoMemory}
use Rattle.repo_publish.specs.Steps.{IsRefusal, EndsAt, IsNoBook, is_post_fault, is_tree_fault}
use Rattle.repo_publish.proofs.Gathered.{not_tree}

-- a step after steps that did not fail
pub fails_then : (failed : Bool) (x y z : ℕ) → FailedBy 0 x y → Fails failed y z → Fails failed x z
fails_then failed x y z h k =
    let much : ℕ = if failed then 1 else 0 in
    let same : 0 + much ≡ much = omega arith in
    subst (λ (n : ℕ). FailedBy n x z) same (failed_then 0 much x y z h k)

-- a step that did not fail after others
pub none_then : (failed : Bool) (x y z : ℕ) → FailedBy 0 x y → failed ≡ false → FailedBy 0 y z → Fails failed x z
none_then failed x y z h lacks k = subst (λ (b : Bool). Fails b x z) (sym lacks) (failed_then 0 0 x y z h k)

-- a refusal is no failure of the post
pub refusal_is_no_fault : (end : PublishEnd) → IsRefusal end → is_post_fault end ≡ false
refusal_is_no_fault (Published root) is = refl
refusal_is_no_fault (Order file) is = refl
refusal_is_no_fault (Reserved file) is = refl
refusal_is_no_fault (TooLarge file len) is = refl
refusal_is_no_fault TooMany is = refl
refusal_is_no_fault (NotAPackage why) is = refl
refusal_is_no_fault FullListing is = refl
refusal_is_no_fault PostFault is = absurd is
refusal_is_no_fault TreeFault is = refl
refusal_is_no_fault SinkFault is = refl
refusal_is_no_fault NoMemory is = refl

no_tree_fault : (end : PublishEnd) → (end ≡ TreeFault → ⊥) → is_tree_fault end ≡ false
no_tree_fault (Published root) is = refl
no_tree_fault (Order file) is = refl
no_tree_fault (Reserved file) is = refl
no_tree_fault (TooLarge file len) is = refl
no_tree_fault TooMany is = refl
no_tree_fault (NotAPackage why) is = refl
no_tree_fault FullListing is = refl
no_tree_fault PostFault is = refl
no_tree_fault TreeFault is = absurd (is refl)
no_tree_fault SinkFault is = refl
no_tree_fault NoMemory is = refl

-- nor is what ends it at a file one of the tree
pub file_is_no_fault : (done : List FarEntry) (file : FarEntry) (end : PublishEnd) → EndsAt done file end → is_tree_fault end ≡ false
file_is_no_fault done file end ends = no_tree_fault end (not_tree done file end ends)

-- bytes that are no book are no failure of either
pub no_book_is_no_fault : (meta : List ℕ) (end : PublishEnd) → IsNoBook meta end → (is_post_fault end ≡ false) × (is_tree_fault end ≡ false)
no_book_is_no_fault meta end (inl is) = (ap is_post_fault is.1, ap is_tree_fault is.1)
no_book_is_no_fault meta end (inr is) = (ap is_post_fault is, ap is_tree_fault is)
