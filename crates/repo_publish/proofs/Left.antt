-- What is left of the files, and what was posted, where a publication ends early.
use Rattle.std.proofs.Common.{inl, inr, ◌≡◌, ℕ, List, Option, Some, sym, subst}
use Rattle.far_archive.specs.declared.write.FarEntry.{FarEntry}
use Rattle.meta_contents.specs.Contents.{Pair}
use Rattle.repo_source.specs.declared.file.RepoFile.{RepoFile}
use Rattle.repo_publish.specs.declared.publishing.PublishEnd.{PublishEnd}
use Rattle.repo_publish.specs.declared.publishing.PublishEnd.TheVariants.{Published, Order, Reserved, TooLarge, TooMany, NotAPackage, FullListing, PostFault, TreeFault, SinkFault, NoMemory}
use Rattle.repo_publish.specs.declared.tree.TreeReply.TheVariants.{File}
use Rattle.repo_publish.specs.Tree.{Takes}
use Rattle.repo_publish.specs.Published.{outer_blobs, Posts}
use Rattle.repo_publish.specs.Refusals.{file_refusal}
use Rattle.repo_publish.specs.Steps.{IsTaken, IsRefusal, IsPostCut, EndsAt, IsUnderWay}
use Rattle.repo_publish.specs.Ends.{IfRefused, IsRefused, IfUnfit}
use Rattle.repo_publish.proofs.Fine.{is_refusal}
use Rattle.repo_publish.proofs.Gathered.{one_taken}

if_refused : (end : PublishEnd) (P Q : Type 0) → (IsRefusal end → P → Q) → IfRefused end P → IfRefused end Q
if_refused (Published root) P Q so p = tt
if_refused (Order file) P Q so p = so tt p
if_refused (Reserved file) P Q so p = so tt p
if_refused (TooLarge file len) P Q so p = so tt p
if_refused TooMany P Q so p = so tt p
if_refused (NotAPackage why) P Q so p = tt
if_refused FullListing P Q so p = tt
if_refused PostFault P Q so p = tt
if_refused TreeFault P Q so p = tt
if_refused SinkFault P Q so p = tt
if_refused NoMemory P Q so p = tt

refusal_fits : (end : PublishEnd) → IsRefusal end → IfUnfit end ⊥
refusal_fits (Published root) is = tt
refusal_fits (Order file) is = tt
refusal_fits (Reserved file) is = tt
refusal_fits (TooLarge file len) is = tt
refusal_fits TooMany is = tt
refusal_fits (NotAPackage why) is = is
refusal_fits FullListing is = is
refusal_fits PostFault is = tt
refusal_fits TreeFault is = tt
refusal_fits SinkFault is = tt
refusal_fits NoMemory is = tt

no_refusal : (end : PublishEnd) → IsRefusal end → IsPostCut end → ⊥
no_refusal end is (inl fault) = subst IsRefusal fault is
no_refusal end is (inr memory) = subst IsRefusal memory is

cut_fits : (end : PublishEnd) → IsPostCut end → IfUnfit end ⊥
cut_fits end (inl fault) = subst (λ (e : PublishEnd). IfUnfit e ⊥) (sym fault) tt
cut_fits end (inr memory) = subst (λ (e : PublishEnd). IfUnfit e ⊥) (sym memory) tt

-- what ends it at a file is no judgement of the whole
pub fits_here : (done : List FarEntry) (file : FarEntry) (end : PublishEnd) → EndsAt done file end → IfUnfit end ⊥
fits_here done file end (inl refused) = refusal_fits end (is_refusal done file end refused)
fits_here done file end (inr cut) = cut_fits end cut.1

why_refused : (done : List FarEntry) (file : FarEntry) (end : PublishEnd) → IsRefusal end → EndsAt done file end → file_refusal done file ≡ Some end
why_refused done file end is (inl refused) = refused
why_refused done file end is (inr cut) = absurd (no_refusal end is cut.1)

-- the refused file is the last that was taken, and nothing but the files before it was posted
pub refused_here : (count : ℕ) (left mid next : Option (List FarEntry)) (before after now : Option (List RepoFile)) (files : List FarEntry) (pairs : List Pair) (name : Option (List ℕ))
    → IsUnderWay count left mid before after files pairs name → (file : FarEntry) (end : PublishEnd) → Takes mid (File file) next
    → ((done : List FarEntry) → IsTaken done files pairs name → EndsAt done file end) → IfRefused end (now ≡ after) → IfRefused end (IsRefused left next before now end)
refused_here count left mid next before after now files pairs name way file end took ends =
    if_refused end (now ≡ after) (IsRefused left next before now end) (λ is same. record {
      done = way.done;
      file = file;
      all = one_taken way.done file left mid next way.all took;
      fine = way.taken.fine.refused;
      refused = why_refused way.done file end is (ends way.done way.taken);
      posts = subst (λ (o : Option (List RepoFile)). Posts (outer_blobs way.done) before o) (sym same) way.posts;
    })
