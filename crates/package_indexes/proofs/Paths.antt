-- The root of a path in a list of pairs, and the list in which it has another.
use Rattle.std.proofs.Common.{inl, inr, ◌≡◌, ℕ, zero, suc, ◌<◌, Bool, true, false, List, [], ◌∷◌, ◌++◌, length, get_or, set, Option, Some, None, All, refl, ap, arith}
use Rattle.std.specs.Prelude.{find}
use Rattle.std.specs.Option.{option_map}
use Rattle.std.proofs.lemmas.Bool.{cases_Bool}
use Rattle.std.proofs.lemmas.List.Elements.{All-head, All-tail}
use Rattle.pkg_names.specs.NameAndVariant.{NameAndVariant, path_eq}
use Rattle.pkg_names.specs.declared.root.Root.{Root}
use Rattle.pkg_names.specs.declared.pinned.Pinned.{Pinned}
use Rattle.package_indexes.specs.Indexes.{root_at, with_root}

abbrev pub has_path : NameAndVariant → Pinned → Bool
has_path path pair = path_eq pair.path path

pub root_at-find : (pairs : List Pinned) (path : NameAndVariant) → root_at pairs path ≡ option_map (λ (pair : Pinned). pair.root) (find (has_path path) pairs)
root_at-find [] path = refl
root_at-find (pair ∷ pairs) path =
    elim (cases_Bool (path_eq pair.path path)) [ inl holds ↦ rw holds refl | inr lacks ↦ rw lacks (root_at-find pairs path) ]

-- the pair with another root
abbrev pub rooted : Pinned → Root → Pinned
rooted pair root = record { path = pair.path; root = root }

-- where no pair has the path, the new one is last
pub with_root_last : (pairs : List Pinned) (path : NameAndVariant) (root : Root) → All (λ (pair : Pinned). has_path path pair ≡ false) pairs → with_root pairs path root ≡ pairs ++ record { path = path; root = root } ∷ []
with_root_last [] path root none = refl
with_root_last (pair ∷ pairs) path root none =
    rw (All-head (λ (p : Pinned). has_path path p ≡ false) pair pairs none)
    (ap (λ (rest : List Pinned). pair ∷ rest) (with_root_last pairs path root (All-tail (λ (p : Pinned). has_path path p ≡ false) pair pairs none)))

-- else the first pair with the path has the root
pub with_root_first : (pairs : List Pinned) (path : NameAndVariant) (root : Root) (i : ℕ) (d : Pinned) → i < length pairs → has_path path (get_or pairs i d) ≡ true → ((k : ℕ) → k < i → has_path path (get_or pairs k d) ≡ false) → set pairs i (rooted (get_or pairs i d) root) ≡ with_root pairs path root
with_root_first [] path root i d lt at before = absurd (omega arith)
with_root_first (pair ∷ pairs) path root zero d lt at before = rw at refl
with_root_first (pair ∷ pairs) path root (suc i) d lt at before =
    rw (before 0 (omega arith))
    (ap (λ (rest : List Pinned). pair ∷ rest)
    (with_root_first pairs path root i d (omega arith) at (λ k below. before (suc k) (omega arith))))
