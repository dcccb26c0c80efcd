-- Blobs that are posted one after another.
use Rattle.std.proofs.Common.{◌≡◌, ℕ, cond, List, [], ◌∷◌, ◌++◌, Option, Some, None, refl, sym, ap, ◌∙◌}
use Rattle.std.specs.Prelude.{is_some}
use Rattle.std.proofs.lemmas.Bool.{false≢true}
use Rattle.pkg_names.specs.declared.root.Root.{Root}
use Rattle.pkg_names.specs.Root.{root_eq}
use Rattle.pkg_merkle.specs.Merkle.{merkle_root}
use Rattle.repo_source.specs.declared.file.RepoFile.{RepoFile}
use Rattle.repo_source.specs.Repo.{file_under}
use Rattle.repo_publish.specs.Post.{file_of, with_blob}
use Rattle.repo_publish.specs.Published.{with_blobs, Posts}

same_blobs : (blobs : List (List ℕ)) (f g : Root → Option RepoFile) → ((r : Root) → f r ≡ g r) → (r : Root) → with_blobs blobs f r ≡ with_blobs blobs g r
same_blobs [] f g same r = same r
same_blobs (b ∷ blobs) f g same r =
    same_blobs blobs (with_blob (merkle_root b) b f) (with_blob (merkle_root b) b g)
    (λ other. ap (λ (o : Option RepoFile). cond (root_eq (merkle_root b) other) (Some (file_of (merkle_root b) b)) o) (same other)) r

blobs_joined : (a b : List (List ℕ)) (f : Root → Option RepoFile) (r : Root) → with_blobs (a ++ b) f r ≡ with_blobs b (with_blobs a f) r
blobs_joined [] b f r = refl
blobs_joined (x ∷ a) b f r = blobs_joined a b (with_blob (merkle_root x) x f) r

pub posts_then : (a b : List (List ℕ)) (first second third : Option (List RepoFile)) → is_some second ≡ is_some first → Posts a first second → Posts b second third → Posts (a ++ b) first third
posts_then a b None second third told before after = tt
posts_then a b (Some old) None third told before after = absurd (false≢true told)
posts_then a b (Some old) (Some mid) None told before after = tt
posts_then a b (Some old) (Some mid) (Some new) told before after =
    λ root. after root ∙ same_blobs b (file_under mid) (with_blobs a (file_under old)) before root ∙ sym (blobs_joined a b (file_under old) root)
