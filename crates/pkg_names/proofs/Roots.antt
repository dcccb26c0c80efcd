-- Two roots are one, and two paths, where the test says so. A text has a root where it is that root's text.
use Rattle.std.proofs.Common.{◌≡◌, ℕ, true, List, refl, ap, ◌∙◌}
use Rattle.std.specs.Bool.{Decides}
use Rattle.std.proofs.lemmas.Bool.Decides.{Decides-like, Decides-and}
use Rattle.std.proofs.lemmas.Slice.Eq.{bytes_eq-Decides}
use Rattle.pkg_names.specs.declared.root.Root.{Root}
use Rattle.pkg_names.specs.Root.{root_eq}
use Rattle.pkg_names.specs.NameAndVariant.{NameAndVariant, path_eq}
pub use Rattle.pkg_names.proofs.RootTexts.{is_text, root_once, root_in-root_text, root_in_text, root_in_spells, root_in-IsSome}

pub root_eq-true : (a b : Root) → root_eq a b ≡ true → a ≡ b
root_eq-true a b same = ap (λ (bytes : List ℕ). let root : Root = record { 0 = bytes } in root) ((bytes_eq-Decides a.0 b.0).0 same)

pub root_eq-same : (a b : Root) → a ≡ b → root_eq a b ≡ true
root_eq-same a b same = (bytes_eq-Decides a.0 b.0).1 (ap (λ (r : Root). r.0) same)

pub root_eq-refl : (a : Root) → root_eq a a ≡ true
root_eq-refl a = root_eq-same a a refl

pub root_eq-Decides : (a b : Root) → Decides (root_eq a b) (a ≡ b)
root_eq-Decides a b = (root_eq-true a b, root_eq-same a b)

as_path : List ℕ → List ℕ → NameAndVariant
as_path name variant = record { name = name; variant = variant }

pub path_eq-Decides : (a b : NameAndVariant) → Decides (path_eq a b) (a ≡ b)
path_eq-Decides a b =
    Decides-like (path_eq a b)
    (λ h. ap (λ (n : List ℕ). let p : NameAndVariant = record { name = n; variant = a.variant } in p) h.0 ∙ ap (λ (v : List ℕ). let p : NameAndVariant = record { name = b.name; variant = v } in p) h.1)
    (λ (e : a ≡ b). (ap (λ (p : NameAndVariant). p.name) e, ap (λ (p : NameAndVariant). p.variant) e))
    (Decides-and _ _ (bytes_eq-Decides a.name b.name) (bytes_eq-Decides a.variant b.variant))

pub path_eq-true : (a b : NameAndVariant) → path_eq a b ≡ true → a ≡ b
path_eq-true a b same = (path_eq-Decides a b).0 same

pub path_eq-same : (a b : NameAndVariant) → a ≡ b → path_eq a b ≡ true
path_eq-same a b same = (path_eq-Decides a b).1 same

pub path_eq-refl : (a : NameAndVariant) → path_eq a a ≡ true
path_eq-refl a = path_eq-same a a refl
