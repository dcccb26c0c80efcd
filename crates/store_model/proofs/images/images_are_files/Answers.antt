use Rattle.std.proofs.Common.{◌≡◌, ◌<◌, ◌≤◌, suc, ℕ, List, [], ◌∷◌, length, arith, ap, ◌∙◌, subst}
use Rattle.std.specs.Prelude.{slice_index}
use Rattle.std.proofs.lemmas.List.{ext_get_or}
use Rattle.pkg_names.specs.declared.root.Root.{Root}
use Rattle.pkg_merkle.specs.Merkle.{merkle_root}
use Rattle.store_model.specs.Calls.{IsMadeOf}
use Rattle.store_model.proofs.images.images_are_files.Goals as goal

no_longer : (bytes file : List ℕ) → ((place : ℕ) → place < length bytes → place < length file) → length bytes ≤ length file
no_longer [] file within = omega arith
no_longer (b ∷ bytes) file within = omega (arith, within (length bytes) (omega arith))

is_file : (root : Root) (bytes : List ℕ) (made : IsMadeOf root bytes)
    → ((place : ℕ) (within : place < length bytes) → (made.each place within).file ≡ made.file) → bytes ≡ made.file
is_file root bytes made same =
    let short = no_longer bytes made.file (λ place within. subst (λ (f : List ℕ). place < length f) (same place within) (made.each place within).within) in
    ext_get_or 0 bytes made.file (omega (arith, short, made.enough))
    (λ place within. (made.each place within).byte ∙ ap (λ (f : List ℕ). slice_index f place) (same place within))

pub returns : goal.returns
returns c = λ root bytes made same. (is_file root bytes made same, ap merkle_root (is_file root bytes made same) ∙ made.is_root)
