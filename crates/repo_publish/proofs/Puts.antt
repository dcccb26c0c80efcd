-- A blob that is put in the place of the first one under its root, or last, is found under its root.
use Rattle.std.proofs.Common.{inl, inr, ◌≡◌, ℕ, true, false, cond, List, [], ◌∷◌, Option, Some, refl, sym, ap, ◌∙◌}
use Rattle.std.proofs.lemmas.Bool.{cases_Bool, false≢true}
use Rattle.pkg_names.specs.declared.root.Root.{Root}
use Rattle.pkg_names.specs.Root.{root_eq}
use Rattle.pkg_names.proofs.Roots.{root_eq-true, root_eq-same}
use Rattle.repo_source.specs.declared.file.RepoFile.{RepoFile}
use Rattle.repo_source.specs.Repo.{file_under}
use Rattle.repo_publish.specs.Memory.{put_blob}
use Rattle.repo_publish.specs.Post.{file_of, Puts}

same_root : (root other : Root) (file x : RepoFile) (rest : Option RepoFile) → x.root ≡ root → cond (root_eq root other) (Some file) rest ≡ cond (root_eq root other) (Some file) (cond (root_eq x.root other) (Some x) rest)
same_root root other file x rest e =
    elim (cases_Bool (root_eq root other)) [
      | inl holds ↦ rw holds refl
      | inr lacks ↦
          let none : root_eq x.root other ≡ false = ap (λ (r : Root). root_eq r other) e ∙ lacks in
          rw (lacks, none) refl
    ]

not_other : (root other : Root) (x : RepoFile) → root_eq x.root root ≡ false → root_eq x.root other ≡ true → root_eq root other ≡ false
not_other root other x differs here =
    elim (cases_Bool (root_eq root other)) [
      | inl holds ↦
          let e : x.root ≡ root = root_eq-true x.root other here ∙ sym (root_eq-true root other holds) in
          absurd (false≢true (sym differs ∙ root_eq-same x.root root e))
      | inr lacks ↦ lacks
    ]

other_root : (root other : Root) (file x : RepoFile) (old new : Option RepoFile) → root_eq x.root root ≡ false → new ≡ cond (root_eq root other) (Some file) old → cond (root_eq x.root other) (Some x) new ≡ cond (root_eq root other) (Some file) (cond (root_eq x.root other) (Some x) old)
other_root root other file x old new differs is =
    elim (cases_Bool (root_eq x.root other)) [
      | inl here ↦
          let lacks = not_other root other x differs here in
          rw (here, lacks) refl
      | inr there ↦ rw there is
    ]

pub puts : (root : Root) (bytes : List ℕ) (files : List RepoFile) → Puts root bytes files (put_blob root bytes files)
puts root bytes [] other = refl
puts root bytes (x ∷ files) other =
    elim (cases_Bool (root_eq x.root root)) [
      | inl same ↦ rw same (same_root root other (file_of root bytes) x (file_under files other) (root_eq-true x.root root same))
      | inr differs ↦ rw differs (other_root root other (file_of root bytes) x (file_under files other) (file_under (put_blob root bytes files) other) differs (puts root bytes files other))
    ]
