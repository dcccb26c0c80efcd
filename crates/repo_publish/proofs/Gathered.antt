-- The files of a tree, taken one after another.
use Rattle.std.proofs.Common.{inl, inr, ◌≡◌, ℕ, ◌+◌, List, [], ◌∷◌, ◌++◌, map, Option, Some, None, IfSome, sym, ap, subst, ◌∙◌, arith, append_assoc}
use Rattle.std.specs.Prelude.{is_some}
use Rattle.std.specs.Option.{option_map}
use Rattle.std.proofs.lemmas.List.{length_push, map-append}
use Rattle.std.proofs.lemmas.List.Elements.{filter-append}
use Rattle.far_archive.specs.declared.write.FarEntry.{FarEntry}
use Rattle.meta_contents.specs.Contents.{Pair}
use Rattle.repo_source.specs.declared.file.RepoFile.{RepoFile}
use Rattle.repo_publish.specs.declared.publishing.PublishEnd.{PublishEnd}
use Rattle.repo_publish.specs.declared.publishing.PublishEnd.TheVariants.{PostFault, TreeFault, SinkFault, NoMemory}
use Rattle.repo_publish.specs.declared.tree.TreeReply.TheVariants.{File}
use Rattle.repo_publish.specs.Tree.{Takes}
use Rattle.repo_publish.specs.Published.{outer_blobs, Posts}
use Rattle.repo_publish.specs.Refusals.{is_outer, outer_of, file_refusal, or_else, refusal_behind, refusal}
use Rattle.repo_publish.specs.Steps.{IsTaken, IsRefusal, IsPostCut, EndsAt, IsUnderWay, EndsFiles}
use Rattle.repo_publish.proofs.Counts.{same_count}
use Rattle.repo_publish.proofs.Fine.{refusal_then, is_refusal}
use Rattle.repo_publish.proofs.Posted.{posts_then}

pub one_taken : (done : List FarEntry) (file : FarEntry) (left mid next : Option (List FarEntry)) → left ≡ option_map (λ rest. done ++ rest) mid → mid ≡ option_map (λ rest. file ∷ rest) next → left ≡ option_map (λ rest. (done ++ file ∷ []) ++ rest) next
one_taken done file left mid None is took = is ∙ ap (option_map (λ (rest : List FarEntry). done ++ rest)) took
one_taken done file left mid (Some rest) is took =
    is ∙ ap (option_map (λ (rest : List FarEntry). done ++ rest)) took ∙ ap Some (sym (append_assoc done (file ∷ []) rest))

blobs_more : (done : List FarEntry) (file : FarEntry) → outer_blobs (done ++ file ∷ []) ≡ outer_blobs done ++ outer_blobs (file ∷ [])
blobs_more done file =
    ap (map (λ (f : FarEntry). f.bytes)) (filter-append is_outer done (file ∷ [])) ∙ map-append (λ (f : FarEntry). f.bytes) (outer_of done) (outer_of (file ∷ []))

first_refused : (done : List FarEntry) (file : FarEntry) (end : PublishEnd) (left mid next : Option (List FarEntry)) → refusal done ≡ None → file_refusal done file ≡ Some end
    → left ≡ option_map (λ rest. done ++ rest) mid → mid ≡ option_map (λ rest. file ∷ rest) next → IfSome left (λ list. refusal list ≡ Some end)
first_refused done file end left mid None fine refused is took =
    subst (λ (o : Option (List FarEntry)). IfSome o (λ list. refusal list ≡ Some end)) (sym (is ∙ ap (option_map (λ (rest : List FarEntry). done ++ rest)) took)) tt
first_refused done file end left mid (Some rest) fine refused is took =
    subst (λ (o : Option (List FarEntry)). IfSome o (λ list. refusal list ≡ Some end)) (sym (is ∙ ap (option_map (λ (rest : List FarEntry). done ++ rest)) took))
    (refusal_then [] done file rest fine ∙ ap (λ (o : Option PublishEnd). or_else o (refusal_behind (done ++ file ∷ []) rest)) refused)

other_end : (done : List FarEntry) (file : FarEntry) (end other : PublishEnd) → (IsRefusal other → ⊥) → (IsPostCut other → ⊥) → EndsAt done file end → end ≡ other → ⊥
other_end done file end other refusal cut (inl refused) is = refusal (subst IsRefusal is (is_refusal done file end refused))
other_end done file end other refusal cut (inr ended) is = cut (subst IsPostCut is ended.1)

no_cut : (end : PublishEnd) → ((end ≡ PostFault) → ⊥) → ((end ≡ NoMemory) → ⊥) → IsPostCut end → ⊥
no_cut end post memory (inl is) = post is
no_cut end post memory (inr is) = memory is

pub not_tree : (done : List FarEntry) (file : FarEntry) (end : PublishEnd) → EndsAt done file end → end ≡ TreeFault → ⊥
not_tree done file end = other_end done file end TreeFault (λ is. is) (no_cut TreeFault (λ is. cc) (λ is. cc))

pub not_sink : (done : List FarEntry) (file : FarEntry) (end : PublishEnd) → EndsAt done file end → end ≡ SinkFault → ⊥
not_sink done file end = other_end done file end SinkFault (λ is. is) (no_cut SinkFault (λ is. cc) (λ is. cc))

module _ (count : ℕ) (left mid next : Option (List FarEntry)) (before after : Option (List RepoFile)) (files : List FarEntry) (pairs : List Pair) (name : Option (List ℕ)) (way : IsUnderWay count left mid before after files pairs name) where
  pub more_gathered : (file : FarEntry) (now : Option (List RepoFile)) (files_now : List FarEntry) (pairs_now : List Pair) (name_now : Option (List ℕ)) → Takes mid (File file) next
      → ((done : List FarEntry) → IsTaken done files pairs name → IsTaken (done ++ file ∷ []) files_now pairs_now name_now) → is_some after ≡ is_some before
      → Posts (outer_blobs (file ∷ [])) after now → IsUnderWay (count + 1) left next before now files_now pairs_now name_now
  more_gathered file now files_now pairs_now name_now took taken told posts = record {
    done = way.done ++ file ∷ [];
    taken = taken way.done way.taken;
    size = length_push way.done file ∙ ap (λ (n : ℕ). n + 1) way.size;
    all = one_taken way.done file left mid next way.all took;
    posts = subst (λ (blobs : List (List ℕ)). Posts blobs before now) (sym (blobs_more way.done file))
        (posts_then (outer_blobs way.done) (outer_blobs (file ∷ [])) before after now told way.posts posts);
  }

  pub ends_here : (file : FarEntry) (end : PublishEnd) → Takes mid (File file) next → ((done : List FarEntry) → IsTaken done files pairs name → EndsAt done file end) → EndsFiles left end
  ends_here file end took ends = either (ends way.done way.taken) where
    either : EndsAt way.done file end → EndsFiles left end
    either (inl refused) =
        inl (is_refusal way.done file end refused, first_refused way.done file end left mid next way.taken.fine.refused refused way.all took)
    either (inr cut) = inr (inl cut.1)

  pub never_so_many : count ≡ 8193 → ⊥
  never_so_many is =
      let total = same_count way.done files pairs name way.taken in
      omega (arith, total, way.size, is, way.taken.few_inner, way.taken.few_outer)
