-- A meta blob that is a book is the package of the files that were taken.
use Rattle.std.proofs.Common.{◌≡◌, List, ℕ, Option, Ok, sym, ap, subst, ◌∙◌}
use Rattle.far_archive.specs.declared.write.FarEntry.{FarEntry}
use Rattle.far_archive.specs.Archive.{IsArchive}
use Rattle.far_archive.specs.Fields as far
use Rattle.far_archive.specs.Named.{file_named}
use Rattle.far_archive.specs.Written.{listed, written, IsFirstUnordered}
use Rattle.meta_contents.specs.Contents.{Pair, StandsFor, text_of}
use Rattle.package_book.specs.Book.{Files, MetaAndFiles, package_name, book, IsBook}
use Rattle.pkg_names.specs.NameAndVariant.{NameAndVariant}
use Rattle.repo_publish.specs.declared.publishing.PublishEnd.{PublishEnd}
use Rattle.repo_publish.specs.Published.{outer_pairs, inner_with, inner_files, meta_bytes}
use Rattle.repo_publish.specs.Refusals.{inner_of}
use Rattle.repo_publish.specs.Steps.{IsTaken, IsPackage, IsNoBook, EndsPackage}
use Rattle.repo_publish.proofs.Inner.{Ascend, all_ascend, contents_found, none_unordered}

module _ (path : NameAndVariant) (done files : List FarEntry) (pairs : List Pair) (name : Option (List ℕ)) (taken : IsTaken done files pairs name) where
  same_inner : inner_with path (listed files) (text_of pairs) ≡ inner_files path done
  same_inner =
      ap (λ (l : List FarEntry). inner_with path (listed l) (text_of pairs)) taken.inner
      ∙ ap (λ (l : List Pair). inner_with path (listed (inner_of done)) (text_of l)) taken.contents

  module _ (entries : List FarEntry) (made : listed entries ≡ inner_with path (listed files) (text_of pairs)) where
    pub in_order : (k : ℕ) → IsFirstUnordered (listed entries) k → ⊥
    in_order k = none_unordered (listed entries) k (subst Ascend (sym (made ∙ same_inner)) (all_ascend path done taken.fine (text_of (outer_pairs done))))

    module _ (meta : List ℕ) (text : meta ≡ written (listed entries)) where
      meta_is : meta ≡ meta_bytes path done
      meta_is = text ∙ ap written (made ∙ same_inner)

      pub is_package : ((t : List ℕ) (l : Files) → IsArchive t l → l ≡ far.files t) → ((b : List ℕ) (f : MetaAndFiles) → IsBook b f → book b ≡ Ok f)
          → IsArchive meta (listed entries) → StandsFor (text_of pairs) pairs → (found : MetaAndFiles) → IsBook meta found → IsPackage path done meta
      is_package one read archive stands found is =
          let here : IsArchive meta (inner_files path done) = subst (IsArchive meta) (made ∙ same_inner) archive in
          let inner : found.inner ≡ inner_files path done = one meta found.inner is.inner ∙ sym (one meta (inner_files path done) here) in
          let wanted : MetaAndFiles = record { meta = meta_bytes path done; inner = inner_files path done; outer = outer_pairs done } in
          let book_is : IsBook meta wanted = record {
            meta = sym meta_is;
            short = is.short;
            inner = here;
            contents_text = text_of (outer_pairs done);
            has_contents = contents_found path done taken.fine (text_of (outer_pairs done));
            outer = subst (λ (l : List Pair). StandsFor (text_of l) l) taken.contents stands;
            package_text = is.package_text;
            has_package = ap (file_named package_name) (sym inner) ∙ is.has_package;
            naming = is.naming;
            named = is.named;
          } in
          (meta_is, read meta wanted book_is)

      pub is_no_package : (end : PublishEnd) → IsNoBook meta end → EndsPackage path done end
      is_no_package end is = subst (λ (m : List ℕ). IsNoBook m end) meta_is is
