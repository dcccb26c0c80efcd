-- A text has one path at most, since no name has a slash.
use Rattle.std.proofs.Common.{◌≡◌, ℕ, List, ◌∷◌, ◌++◌, ◌⊎◌, inl, inr, get_or, true, refl, sym, ap, subst, ◌∙◌}
use Rattle.std.specs.Prelude.{codes, Result, Ok, Err, IfOk, IsErrOf}
use Rattle.pkg_names.specs.declared.path.PathFault.{PathFault}
use Rattle.pkg_names.specs.declared.path.PathFault.TheVariants.{BadName, NoMemory}
use Rattle.pkg_names.proofs.Cuts.{same_halves, has_the_byte}
use Rattle.pkg_names.specs.Text.{slash, HasNo}
use Rattle.pkg_names.specs.NameAndVariant.{NameAndVariant, byte_in_name, IsName, IsPath, Spells}

pub name_has_none : (text : List ℕ) → IsName text → HasNo slash text
name_has_none text name k d lt e =
    let pass : byte_in_name (get_or text k d) ≡ true = name.bytes k d lt in
    let found : byte_in_name slash ≡ true = subst (λ c. byte_in_name c ≡ true) e pass in
    cc

-- the path of a text with a slash
pub spelled_with : (text name variant : List ℕ) → text ≡ name ++ slash ∷ variant → HasNo slash name
    → (path : NameAndVariant) → Spells text path → (path.name ≡ name) × (path.variant ≡ variant)
spelled_with text name variant cut first path spells =
    elim spells.1 [
      | inl whole ↦ same_halves slash path.name path.variant name variant (name_has_none path.name spells.0.0) first (sym whole ∙ cut)
      | inr alone ↦ absurd (has_the_byte slash path.name name variant (name_has_none path.name spells.0.0) (sym alone.0 ∙ cut))
    ]

-- the path of a text without a slash
pub spelled_alone : (text : List ℕ) → HasNo slash text → (path : NameAndVariant) → Spells text path → (path.name ≡ text) × (path.variant ≡ codes "0")
spelled_alone text none path spells =
    elim spells.1 [
      | inl whole ↦ absurd (has_the_byte slash text path.name path.variant none whole)
      | inr alone ↦ (sym alone.0, alone.1)
    ]

rebuilt : (name variant : List ℕ) (path : NameAndVariant) → (path.name ≡ name) × (path.variant ≡ variant) → record { name = name; variant = variant } ≡ path
rebuilt name variant path same =
    let as_path : List ℕ → List ℕ → NameAndVariant = λ n v. record { name = n; variant = v } in
    ap (λ (n : List ℕ). as_path n variant) (sym same.0) ∙ ap (λ (v : List ℕ). as_path path.name v) (sym same.1)

-- what `path_of` answers for the parts of a path
made : (r : Result NameAndVariant PathFault) (name variant : List ℕ) (path : NameAndVariant) → (path.name ≡ name) × (path.variant ≡ variant) → IsPath path
    → IfOk r (λ p. p ≡ record { name = name; variant = variant }) → (IsErrOf r BadName → IsName name × IsName variant → ⊥)
    → (r ≡ Ok path) ⊎ (r ≡ Err NoMemory)
made (Ok p) name variant path same is found bad = inl (ap Ok (found ∙ rebuilt name variant path same))
made (Err BadName) name variant path same is found bad = absurd (bad refl (subst IsName same.0 is.0, subst IsName same.1 is.1))
made (Err NoMemory) name variant path same is found bad = inr refl

refused : (r : Result NameAndVariant PathFault) (path : NameAndVariant) → (r ≡ Ok path) ⊎ (r ≡ Err NoMemory) → r ≡ Err BadName → ⊥
refused r path answer e = elim answer [ inl ok ↦ cc | inr full ↦ cc ]

module _ (r : Result NameAndVariant PathFault) (text name variant : List ℕ) (path : NameAndVariant) (parts : (path.name ≡ name) × (path.variant ≡ variant)) (spells : Spells text path)
    (found : IfOk r (λ p. p ≡ record { name = name; variant = variant })) (bad : IsErrOf r BadName → IsName name × IsName variant → ⊥) where
  pub is_read : (r ≡ Ok path) ⊎ (r ≡ Err NoMemory)
  is_read = made r name variant path parts spells.0 found bad

  pub is_not_bad : IsErrOf r BadName → ⊥
  is_not_bad = refused r path is_read
