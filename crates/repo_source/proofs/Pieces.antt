-- The pieces of a fetch make up the file, and an honest file has the length and the root that were told.
use Rattle.std.proofs.Common.{ℕ, ◌≡◌, ◌+◌, ◌-◌, ◌≤◌, Bool, true, List, [], ◌∷◌, ◌++◌, length, take, drop, find, Option, Some, None, IfSome, IsSomeAnd, sym, refl, ap, ◌∙◌, subst, inl, inr, arith}
use Rattle.std.specs.Option.{option_map}
use Rattle.std.proofs.Math.Seq.{take-add}
use Rattle.std.proofs.lemmas.List.{take_all}
use Rattle.std.proofs.lemmas.Bool.{cases_Bool, cond-true, cond-false}
use Rattle.pkg_names.specs.declared.root.Root.{Root}
use Rattle.pkg_names.specs.Root.{root_eq}
use Rattle.pkg_names.proofs.Roots.{root_eq-true}
use Rattle.pkg_merkle.specs.Merkle.{merkle_root}
use Rattle.repo_source.specs.declared.file.RepoFile.{RepoFile}
use Rattle.repo_source.specs.declared.repo.FetchReply.TheVariants.{Found}
use Rattle.repo_source.specs.Repo.{file_under, IsHonest, HasHonest, IsPiece, Fetches}

-- what was given, and a piece
pub take-piece : (bytes out : List ℕ) (given count : ℕ) → IsPiece bytes given count out → take (given + count) bytes ≡ take given bytes ++ take count out
take-piece bytes out given count is =
    let size : given + count - given ≡ count = omega arith in
    take-add given count bytes ∙ ap (λ (xs : List ℕ). take given bytes ++ xs) (sym (is.next ∙ ap (λ (n : ℕ). take n (drop given bytes)) size))

-- at the end all was given
pub take-end : (bytes : List ℕ) (given : ℕ) → length bytes ≤ given → take given bytes ≡ bytes
take-end bytes given all = take_all given bytes all

-- the file under a root stands under it
found_passes : (p : RepoFile → Bool) (files : List RepoFile) (file : RepoFile) → find p files ≡ Some file → p file ≡ true
found_passes p [] file e = absurd (let none : None ≡ Some file = e in cc)
found_passes p (first ∷ files) file e = elim (cases_Bool (p first)) [
  | inl passes ↦
      let same : Some first ≡ Some file = sym (cond-true (p first) (Some first) (find p files) passes) ∙ e in
      let it : first ≡ file = cc in
      subst (λ (f : RepoFile). p f ≡ true) it passes
  | inr fails ↦ found_passes p files file (sym (cond-false (p first) (Some first) (find p files) fails) ∙ e)
]

pub file_under-root : (files : List RepoFile) (root : Root) (file : RepoFile) → file_under files root ≡ Some file → file.root ≡ root
file_under-root files root file e = root_eq-true file.root root (found_passes (λ (f : RepoFile). root_eq f.root root) files file e)

-- a fetch of an honest file declares the length of bytes that have this root
honest_found : (files : List RepoFile) (root : Root) (len : ℕ) (found : Option RepoFile) → found ≡ file_under files root → IsSomeAnd found IsHonest
    → option_map (λ (file : RepoFile). file.len) found ≡ Some len → IfSome found (λ file. (length file.bytes ≡ len) × (merkle_root file.bytes ≡ root))
honest_found files root len None at honest told = absurd honest
honest_found files root len (Some file) at honest told =
    let declared : file.len ≡ len = let e : Some file.len ≡ Some len = told in cc in
    (sym honest.len ∙ declared, honest.root ∙ file_under-root files root file (sym at))

pub honest_file : (files : List RepoFile) (root : Root) (len : ℕ) → HasHonest files root → Fetches files root (Found len)
    → IfSome (file_under files root) (λ file. (length file.bytes ≡ len) × (merkle_root file.bytes ≡ root))
honest_file files root len honest told = honest_found files root len (file_under files root) refl honest told
