-- How many files were taken, and which refusal a file has by its number.
use Rattle.std.proofs.Common.{◌≡◌, ℕ, ◌+◌, ◌<◌, true, false, List, length, Option, Some, refl, sym, ap, ◌∙◌, arith}
use Rattle.std.specs.Prelude.{nat_lt}
use Rattle.std.specs.Str.{bytes_eq}
use Rattle.std.proofs.lemmas.Bool.{lt-ltb}
use Rattle.std.proofs.lemmas.List.{length-map}
use Rattle.std.proofs.lemmas.List.Filters.{length-filter_both}
use Rattle.far_archive.specs.declared.write.FarEntry.{FarEntry}
use Rattle.meta_contents.specs.Contents.{Pair}
use Rattle.package_book.specs.Book.{contents_name}
use Rattle.pkg_merkle.specs.declared.hasher.TheConstants.{BYTES_LIMIT}
use Rattle.pkg_merkle.specs.Merkle.{merkle_root}
use Rattle.repo_publish.specs.declared.publishing.PublishEnd.TheVariants.{Order, Reserved, TooLarge}
use Rattle.repo_publish.specs.Refusals.{is_inner, is_outer, outer_of, is_behind, file_refusal}
use Rattle.repo_publish.specs.Steps.{IsTaken}

module _ (done files : List FarEntry) (pairs : List Pair) (name : Option (List ℕ)) (taken : IsTaken done files pairs name) where
  pub same_count : length files + length pairs ≡ length done
  same_count =
      let both = length-filter_both is_inner is_outer (λ file. refl) done in
      omega (arith, both, ap length taken.inner, ap length taken.contents ∙ length-map {B = Pair} (outer_of done) (λ (file : FarEntry). (file.name, merkle_root file.bytes)))

  module _ (file : FarEntry) (count : ℕ) (is : count ≡ length files + length pairs) where
    number : {X : Type 0} (f : ℕ → X) → f (count + 1) ≡ f (length done + 1)
    number f = ap (λ (n : ℕ). f (n + 1)) (is ∙ same_count)

    pub order_refused : is_behind name file.name ≡ false → Some (Order (count + 1)) ≡ file_refusal done file
    order_refused behind =
        let e = ap (λ (l : Option (List ℕ)). is_behind l file.name) (sym taken.last) ∙ behind in
        rw e (number (λ n. Some (Order n)))

    pub reserved_refused : is_behind name file.name ≡ true → bytes_eq file.name contents_name ≡ true → Some (Reserved (count + 1)) ≡ file_refusal done file
    reserved_refused behind reserved =
        let e = ap (λ (l : Option (List ℕ)). is_behind l file.name) (sym taken.last) ∙ behind in
        rw (e, reserved) (number (λ n. Some (Reserved n)))

    pub large_refused : is_behind name file.name ≡ true → bytes_eq file.name contents_name ≡ false → BYTES_LIMIT < length file.bytes → Some (TooLarge (count + 1) (length file.bytes)) ≡ file_refusal done file
    large_refused behind free large =
        let e = ap (λ (l : Option (List ℕ)). is_behind l file.name) (sym taken.last) ∙ behind in
        let over : nat_lt BYTES_LIMIT (length file.bytes) ≡ true = lt-ltb BYTES_LIMIT (length file.bytes) large in
        rw (e, free, over) (number (λ n. Some (TooLarge n (length file.bytes))))
