-- How a publication ends, by its steps.
use Rattle.std.proofs.Common.{inl, inr, ◌≡◌, ◌⊎◌, ℕ, false, List, [], ◌∷◌, Option, Some, None, Ok, IfSome, refl, sym, ap, subst, ◌∙◌}
use Rattle.std.specs.Prelude.{is_some, Result}
use Rattle.std.proofs.lemmas.Bool.{false≢true}
use Rattle.far_archive.specs.declared.write.FarEntry.{FarEntry}
use Rattle.package_book.specs.declared.fault.PackageFault.{PackageFault}
use Rattle.package_book.specs.Book.{MetaAndFiles, book}
use Rattle.pkg_merkle.specs.Merkle.{merkle_root}
use Rattle.pkg_names.specs.declared.root.Root.{Root}
use Rattle.pkg_names.specs.declared.pinned.Pinned.{Pinned}
use Rattle.pkg_names.specs.NameAndVariant.{NameAndVariant}
use Rattle.repo_source.specs.declared.file.RepoFile.{RepoFile}
use Rattle.repo_source.specs.Repo.{file_under}
use Rattle.system_lists.specs.Static.{static_of}
use Rattle.repo_publish.specs.declared.publishing.PublishEnd.{PublishEnd}
use Rattle.repo_publish.specs.declared.publishing.PublishEnd.TheVariants.{Published}
use Rattle.repo_publish.specs.Post.{with_blob, Puts}
use Rattle.repo_publish.specs.Refusals.{refusal}
use Rattle.repo_publish.specs.Published.{outer_blobs, meta_bytes, inner_files, outer_pairs, package_root, set_pair, is_over, published, listing_end, package_end, end_behind, end_of, Posts, IsPublished}
use Rattle.repo_publish.specs.Steps.{IsCut, IsMade, EndsPackage, IsNext}
use Rattle.repo_publish.specs.Ends.{EndsEarly, IsAllPosted}
use Rattle.repo_publish.proofs.Posted.{posts_then}

told_so : {X : Type 0} (P Q : X → Type 0) (told : Option X) → ((x : X) → P x → Q x) → IfSome told P → IfSome told Q
told_so P Q None each so = tt
told_so P Q (Some x) each so = each x so

-- ---- the package

pub package_ends : (left : Option (List FarEntry)) (path : NameAndVariant) (done : List FarEntry) (end : PublishEnd) → IfSome left (λ list. list ≡ done) → refusal done ≡ None → EndsPackage path done end → EndsEarly left path end
package_ends left path done end all fine (inl bad) =
    inl (told_so (λ files. files ≡ done) (λ files. (old : List Pinned) → end ≡ end_of path files old) left
    (λ files same old. bad.1 ∙ sym (ap (λ (f : List FarEntry). end_of path f old) same ∙ ap (λ (r : Option PublishEnd). end_behind path done r old) fine
    ∙ ap (λ (b : Result MetaAndFiles PackageFault). package_end path (package_root path done) b old) bad.2)) all)
package_ends left path done end all fine (inr memory) = inr (inl (inr memory))

-- ---- the whole

one_posted : (root : Root) (meta : List ℕ) (mid after : Option (List RepoFile)) → root ≡ merkle_root meta → IfSome mid (λ before. IfSome after (Puts root meta before)) → Posts (meta ∷ []) mid after
one_posted root meta None after is puts = tt
one_posted root meta (Some old) None is puts = tt
one_posted root meta (Some old) (Some new) is puts = λ other. puts other ∙ ap (λ (r : Root). with_blob r meta (file_under old) other) is

listing_now : (path : NameAndVariant) (root : Root) (old : List Pinned) (bytes : List ℕ) (told new : Option (List Pinned)) → is_some new ≡ is_some told → IfSome told (λ list. list ≡ old)
    → IfSome new (λ list. static_of bytes ≡ Ok list) → static_of bytes ≡ Ok (set_pair path root old) → IfSome told (λ list. new ≡ Some (set_pair path root list))
listing_now path root old bytes None new both is listed read = tt
listing_now path root old bytes (Some list) None both is listed read = absurd (false≢true both)
listing_now path root old bytes (Some list) (Some now) both is listed read =
    let same : now ≡ set_pair path root old = cc in
    ap (λ (l : List Pinned). Some l) (same ∙ ap (set_pair path root) (sym is))

module _ (left : Option (List FarEntry)) (path : NameAndVariant) (told : Option (List Pinned)) (before mid : Option (List RepoFile)) (meta : List ℕ) (made : IsMade left path before mid meta) (root : Root) (root_is : root ≡ merkle_root meta) where
  root_here : root ≡ package_root path made.done
  root_here = root_is ∙ ap merkle_root made.is_package.0

  book_here : book (meta_bytes path made.done) ≡ Ok (record { meta = meta_bytes path made.done; inner = inner_files path made.done; outer = outer_pairs made.done })
  book_here = ap book (sym made.is_package.0) ∙ made.is_package.1

  end_here : (files : List FarEntry) → files ≡ made.done → (old : List Pinned) → end_of path files old ≡ listing_end path root old
  end_here files same old =
      ap (λ (f : List FarEntry). end_of path f old) same
      ∙ ap (λ (r : Option PublishEnd). end_behind path made.done r old) made.fine
      ∙ ap (λ (b : Result MetaAndFiles PackageFault). package_end path (package_root path made.done) b old) book_here
      ∙ ap (λ (r : Root). listing_end path r old) (sym root_here)

  good_end : (old : List Pinned) → is_over (set_pair path root old) ≡ false → listing_end path root old ≡ Published root
  good_end old short = rw short refl

  module _ (bytes : List ℕ) (next : IsNext told path root bytes) where
    module _ (new : Option (List Pinned)) (after : Option (List RepoFile)) (both : is_some mid ≡ is_some before) (both_lists : is_some new ≡ is_some told)
        (puts : IfSome mid (λ old. IfSome after (Puts root meta old))) (listed : IfSome new (λ list. static_of bytes ≡ Ok list)) where
      is_published : IsPublished path made.done told new before after
      is_published = record {
        blobs = posts_then (outer_blobs made.done) (meta_bytes path made.done ∷ []) before mid after both made.posts
            (subst (λ (m : List ℕ). Posts (m ∷ []) mid after) made.is_package.0 (one_posted root meta mid after root_is puts));
        listing = told_so (λ list. new ≡ Some (set_pair path root list)) (λ list. new ≡ Some (published path made.done list)) told
            (λ list is. is ∙ ap (λ (r : Root). Some (set_pair path r list)) root_here)
            (listing_now path root next.old bytes told new both_lists next.is listed next.made.read);
        is_package = book_here;
      }

      pub all_posted : IsAllPosted left path told new before after root
      all_posted = record {
        posted = told_so (λ files. files ≡ made.done) (λ files. IsPublished path files told new before after) left
            (λ files same. subst (λ (f : List FarEntry). IsPublished path f told new before after) (sym same) is_published) made.all;
        exact = told_so (λ files. files ≡ made.done) (λ files. IfSome told (λ old. (Published root ≡ end_of path files old) ⊎ IsCut (Published root))) left
            (λ files same. told_so (λ list. list ≡ next.old) (λ old. (Published root ≡ end_of path files old) ⊎ IsCut (Published root)) told
            (λ list is. inl (sym (end_here files same list ∙ good_end list (ap (λ (l : List Pinned). is_over (set_pair path root l)) is ∙ next.made.short)))) next.is) made.all;
        root_is = told_so (λ files. files ≡ made.done) (λ files. root ≡ package_root path files) left
            (λ files same. root_here ∙ ap (package_root path) (sym same)) made.all;
      }
