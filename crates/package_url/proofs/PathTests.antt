-- The tests of hosts, paths and files decide the rules.
use Rattle.std.proofs.Common.{◌≡◌, ◌≢◌, ℕ, ◌≤◌, Bool, true, false, not, ◌&&◌, cond, leb, eqb, List, length, All, Option, Some, None, inl, inr, refl, ap, subst, ◌∙◌, arith}
use Rattle.std.specs.Prelude.{codes}
use Rattle.std.specs.Bool.{Decides}
use Rattle.std.specs.List.{AllPass, list_all}
use Rattle.std.specs.Str.{bytes_eq}
use Rattle.std.proofs.lemmas.Bool.{and_parts}
use Rattle.std.proofs.lemmas.Bool.Decides.{Decides-like, Decides-not, Decides-and, Decides-ltb, Decides-eqb, Decides-by_and, nat_tests}
use Rattle.std.proofs.lemmas.List.Sums.{AllPass-from_list_all, list_all-from_AllPass}
use Rattle.std.proofs.lemmas.Slice.Eq.{bytes_eq-Decides}
use Rattle.pkg_names.specs.NameAndVariant.{NameAndVariant, byte_in_name, IsName, IsPath, path_text, Spells}
use Rattle.pkg_names.specs.Text.{slash, HasNo}
use Rattle.pkg_names.proofs.FileTests.{is_file_text-Decides}
use Rattle.pkg_names.proofs.PathTexts.{name_has_none}
use Rattle.package_url.specs.Url.{byte_in_host, IsHost, IsUrlFile}
use Rattle.package_url.specs.Reading.{first_cut, IsCut, is_host_text, is_name_text, path_of, path_cut, path_in, is_url_file_text}
use Rattle.package_url.proofs.Places.{no_cut, cut_there, is_cut}

Decides-leb : (a b : ℕ) → Decides (leb a b) (a ≤ b)
Decides-leb a b = (λ h. grind (arith, nat_tests), λ h. grind (arith, nat_tests))

Decides-passes : (p : ℕ → Bool) (text : List ℕ) → Decides (list_all p text) (AllPass p text)
Decides-passes p text = (AllPass-from_list_all p text, list_all-from_AllPass p text)

pub is_host_text-Decides : (text : List ℕ) → Decides (is_host_text text) (IsHost text)
is_host_text-Decides text =
    let a = Decides-and _ _ (Decides-ltb 0 (length text)) (Decides-leb (length text) 255) in
    let b = Decides-and _ _ a (Decides-passes byte_in_host text) in
    Decides-like (is_host_text text) (λ h. record { not_empty = h.0.0; not_long = h.0.1; bytes = h.1 })
    (λ (is : IsHost text). ((is.not_empty, is.not_long), is.bytes)) b

Decides-other : (text other : List ℕ) → Decides (not (bytes_eq text other)) (text ≢ other)
Decides-other text other = Decides-not (bytes_eq text other) (bytes_eq-Decides text other)

pub is_name_text-Decides : (text : List ℕ) → Decides (is_name_text text) (IsName text)
is_name_text-Decides text =
    let a = Decides-and _ _ (Decides-ltb 0 (length text)) (Decides-leb (length text) 255) in
    let b = Decides-and _ _ a (Decides-passes byte_in_name text) in
    let d = Decides-and _ _ b (Decides-other text (codes ".")) in
    let e = Decides-and _ _ d (Decides-other text (codes "..")) in
    Decides-like (is_name_text text) (λ h. record { not_empty = h.0.0.0.0; not_long = h.0.0.0.1; bytes = h.0.0.1; not_dot = h.0.1; not_dots = h.1 })
    (λ (is : IsName text). ((((is.not_empty, is.not_long), is.bytes), is.not_dot), is.not_dots)) e

Decides-not_byte : (byte c : ℕ) → Decides (not (eqb c byte)) (c ≢ byte)
Decides-not_byte byte c = Decides-not (eqb c byte) (Decides-eqb c byte)

Decides-all : {X : Type 0} (p : X → Bool) (P : X → Type 0) → ((x : X) → Decides (p x) (P x)) → (xs : List X) → Decides (list_all p xs) (All P xs)
Decides-all p P each xs = Decides-by_and p P (list_all p) each refl (λ _ _. refl) xs

pub has_no-Decides : (byte : ℕ) (text : List ℕ) → Decides (list_all (λ c. not (eqb c byte)) text) (HasNo byte text)
has_no-Decides byte text = Decides-all (λ c. not (eqb c byte)) (λ c. c ≢ byte) (Decides-not_byte byte) text

pub is_url_file_text-Decides : (text : List ℕ) → Decides (is_url_file_text text) (IsUrlFile text)
is_url_file_text-Decides text =
    Decides-like (is_url_file_text text) (λ h. record { path = h.0; plain = h.1 }) (λ (is : IsUrlFile text). (is.path, is.plain))
    (Decides-and _ _ (is_file_text-Decides text) (has_no-Decides 37 text))

-- ---- paths

abbrev as_path : List ℕ → List ℕ → NameAndVariant
as_path name variant = record { name = name; variant = variant }

named : (name variant : List ℕ) → IsName name → IsName variant → path_of name variant ≡ Some (as_path name variant)
named name variant n v = rw ((is_name_text-Decides name).1 n, (is_name_text-Decides variant).1 v) refl

are_names : (name variant : List ℕ) (path : NameAndVariant) (test : Bool) → is_name_text name && is_name_text variant ≡ test → cond test (Some (as_path name variant)) None ≡ Some path
    → IsPath (as_path name variant) × (as_path name variant ≡ path)
are_names name variant path true is e =
    let both = and_parts (is_name_text name) (is_name_text variant) is in
    (((is_name_text-Decides name).0 both.0, (is_name_text-Decides variant).0 both.1), cc)
are_names name variant path false is e = absurd cc

cut_spells : (text name : List ℕ) (variant : Option (List ℕ)) (path : NameAndVariant) → IsCut slash text name variant → path_cut name variant ≡ Some path → Spells text path
cut_spells text name None path cut e =
    let n = are_names name (codes "0") path (is_name_text name && is_name_text (codes "0")) refl e in
    subst (Spells text) n.1 (n.0, inr (cut.1, refl))
cut_spells text name (Some variant) path cut e =
    let n = are_names name variant path (is_name_text name && is_name_text variant) refl e in
    subst (Spells text) n.1 (n.0, inl cut.1)

pub path_in_spells : (text : List ℕ) (path : NameAndVariant) → path_in text ≡ Some path → Spells text path
unfolding path_in
path_in_spells text path e = cut_spells text (first_cut slash text).0 (first_cut slash text).1 path (is_cut slash text) e

pub path_in-path_text : (path : NameAndVariant) → IsPath path → path_in (path_text path) ≡ Some path
unfolding path_in
path_in-path_text path is = rw (cut_there slash path.name path.variant (name_has_none path.name is.0)) (named path.name path.variant is.0 is.1)

pub path_in-name : (path : NameAndVariant) → IsPath path → path.variant ≡ codes "0" → path_in path.name ≡ Some path
unfolding path_in
path_in-name path is zero =
    rw (no_cut slash path.name (name_has_none path.name is.0)) (subst (λ (v : List ℕ). path_of path.name v ≡ Some path) zero (named path.name path.variant is.0 is.1))

pub path_in_only : (text : List ℕ) (path : NameAndVariant) → Spells text path → path_in text ≡ Some path
path_in_only text path spells =
    elim spells.1 [
      | inl whole ↦ ap path_in whole ∙ path_in-path_text path spells.0
      | inr alone ↦ ap path_in alone.0 ∙ path_in-name path spells.0 alone.1
    ]

pub path_in_none : (text : List ℕ) → ((path : NameAndVariant) → Spells text path → ⊥) → path_in text ≡ None
path_in_none text unmet = go (path_in text) refl where
  go : (found : Option NameAndVariant) → path_in text ≡ found → path_in text ≡ None
  go (Some path) e = absurd (unmet path (path_in_spells text path e))
  go None e = e
