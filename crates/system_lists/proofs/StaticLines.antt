-- A line says the package whose text it is.
use Rattle.std.proofs.Common.{◌≡◌, ◌≢◌, ℕ, ◌<◌, length, arith, Bool, true, false, cond, eqb, List, [], ◌∷◌, ◌++◌, Option, Some, None, inl, inr, refl, sym, ap, subst, ◌∙◌}
use Rattle.std.specs.Prelude.{◌||◌, Result, Ok, Err}
use Rattle.std.specs.Result.{result_ok}
use Rattle.std.specs.List.{list_any, onto_first}
use Rattle.std.proofs.lemmas.Bool.{ne_eqb}
use Rattle.std.proofs.lemmas.List.Elements.{All-head, All-tail, All-append, All-cons}
use Rattle.pkg_names.specs.declared.root.Root.{Root}
use Rattle.pkg_names.specs.declared.root.RootFault.{RootFault}
use Rattle.pkg_names.specs.declared.pinned.Pinned.{Pinned}
use Rattle.pkg_names.specs.Root.{root_in, root_text}
use Rattle.pkg_names.specs.NameAndVariant.{NameAndVariant, byte_in_name, IsPath, path_text, Spells}
use Rattle.pkg_names.specs.Text.{line_feed, slash, equals_sign, HasNo, lines_of}
use Rattle.pkg_names.proofs.Roots.{root_in_spells, root_in-root_text}
use Rattle.pkg_names.proofs.PathTexts.{name_has_none}
use Rattle.package_url.specs.Reading.{first_cut, IsCut, path_in}
use Rattle.package_url.proofs.Places.{no_cut, cut_there, is_cut, none_passes}
use Rattle.package_url.proofs.PathTests.{path_in_spells, path_in_only, path_in_none, path_in-path_text}
use Rattle.system_lists.specs.Lists.{IsPinned}
use Rattle.system_lists.specs.Static.{line_text, whole_path_in, pinned_of, pinned_cut, pinned_line}

either_true : (a b : Bool) → b ≡ true → (a || b) ≡ true
either_true true b e = refl
either_true false b e = e

has_slash : (name variant : List ℕ) → list_any (λ c. eqb c slash) (name ++ slash ∷ variant) ≡ true
has_slash [] variant = refl
has_slash (c ∷ name) variant = either_true (eqb c slash) (list_any (λ c. eqb c slash) (name ++ slash ∷ variant)) (has_slash name variant)

has_no_slash : (text : List ℕ) → HasNo slash text → list_any (λ c. eqb c slash) text ≡ false
has_no_slash [] none = refl
has_no_slash (c ∷ text) none =
    rw (ne_eqb c slash (All-head (λ x. x ≢ slash) c text none)) (has_no_slash text (All-tail (λ x. x ≢ slash) c text none))

whole_path_text : (path : NameAndVariant) → IsPath path → whole_path_in (path_text path) ≡ Some path
whole_path_text path is = rw (has_slash path.name path.variant) (path_in-path_text path is)

no_equals : (path : NameAndVariant) → IsPath path → HasNo equals_sign (path_text path)
no_equals path is =
    All-append (λ x. x ≢ equals_sign) path.name (slash ∷ path.variant) (none_passes byte_in_name equals_sign path.name refl is.0.bytes)
    (All-cons (λ x. x ≢ equals_sign) slash path.variant (λ e. cc) (none_passes byte_in_name equals_sign path.variant refl is.1.bytes))

pub pinned_line-line_text : (pinned : Pinned) → IsPinned pinned → pinned_line (line_text pinned) ≡ Some pinned
unfolding pinned_line
pinned_line-line_text pinned is =
    rw (cut_there equals_sign (path_text pinned.path) (root_text pinned.root) (no_equals pinned.path is.path))
    (rw (whole_path_text pinned.path is.path, root_in-root_text pinned.root is.root) refl)

-- ---- and back

whole_path_is : (text : List ℕ) (path : NameAndVariant) (test : Bool) → list_any (λ c. eqb c slash) text ≡ test → cond test (path_in text) None ≡ Some path → (text ≡ path_text path) × IsPath path
whole_path_is text path false is e = absurd cc
whole_path_is text path true is e =
    let spells = path_in_spells text path e in
    elim spells.1 [
      | inl whole ↦ (whole, spells.0)
      | inr alone ↦
          let none : HasNo slash text = subst (HasNo slash) (sym alone.0) (name_has_none path.name spells.0.0) in
          let off = has_no_slash text none in
          absurd cc
    ]

both_there : (path : Option NameAndVariant) (root : Option Root) (pinned : Pinned) → pinned_of path root ≡ Some pinned → (path ≡ Some pinned.path) × (root ≡ Some pinned.root)
both_there None root pinned e = absurd cc
both_there (Some path) None pinned e = absurd cc
both_there (Some path) (Some root) pinned e =
    let made : Pinned = record { path = path; root = root } in
    let same : made ≡ pinned = cc in
    (ap (λ (p : Pinned). Some p.path) same, ap (λ (p : Pinned). Some p.root) same)

-- what a line that says a package is
pub record Says (line : List ℕ) (pinned : Pinned) : Type 0 where
  pub text : line ≡ line_text pinned
  pub is : IsPinned pinned

cut_says : (line before : List ℕ) (after : Option (List ℕ)) (pinned : Pinned) → IsCut equals_sign line before after → pinned_cut before after ≡ Some pinned → Says line pinned
cut_says line before None pinned cut e = absurd cc
cut_says line before (Some after) pinned cut e =
    let parts = both_there (whole_path_in before) (root_in after) pinned e in
    let path = whole_path_is before pinned.path (list_any (λ c. eqb c slash) before) refl parts.0 in
    let root = root_in_spells after pinned.root parts.1 in
    record {
      text = cut.1 ∙ ap (λ (t : List ℕ). t ++ equals_sign ∷ after) path.0 ∙ ap (λ (t : List ℕ). path_text pinned.path ++ equals_sign ∷ t) root.0;
      is = record { path = path.1; root = root.1 };
    }

pub line_says : (line : List ℕ) (pinned : Pinned) → pinned_line line ≡ Some pinned → Says line pinned
unfolding pinned_line
line_says line pinned e = cut_says line (first_cut equals_sign line).0 (first_cut equals_sign line).1 pinned (is_cut equals_sign line) e

-- ---- what the code looks at

pub no_pinned : (line : List ℕ) → HasNo equals_sign line → pinned_line line ≡ None
unfolding pinned_line
no_pinned line none = rw (no_cut equals_sign line none) refl

pub pinned_there : (line before after : List ℕ) → line ≡ before ++ equals_sign ∷ after → HasNo equals_sign before → pinned_line line ≡ pinned_of (whole_path_in before) (root_in after)
unfolding pinned_line
pinned_there line before after cut first =
    ap pinned_line cut ∙ rw (cut_there equals_sign before after first) refl

pub no_root : (path : Option NameAndVariant) → pinned_of path None ≡ None
no_root None = refl
no_root (Some path) = refl

-- a text that isn't empty has a first line
pub has_a_line : (text : List ℕ) → 0 < length text → (first : List ℕ) × (rest : List (List ℕ)) × (lines_of text ≡ first ∷ rest)
has_a_line [] some = absurd (omega arith)
has_a_line (c ∷ text) some = one (eqb c line_feed) (lines_of text) where
  one : (test : Bool) (lines : List (List ℕ)) → (first : List ℕ) × (rest : List (List ℕ)) × (cond test ([] ∷ lines) (onto_first c lines) ≡ first ∷ rest)
  one true lines = ([], lines, refl)
  one false [] = (c ∷ [], [], refl)
  one false (line ∷ lines) = (c ∷ line, lines, refl)

pub whole_path_found : (text : List ℕ) (path : NameAndVariant) → list_any (λ c. eqb c slash) text ≡ true → Spells text path → Some path ≡ whole_path_in text
whole_path_found text path on spells = rw on (sym (path_in_only text path spells))

missing : (text : List ℕ) (test : Bool) → path_in text ≡ None → None ≡ cond test (path_in text) None
missing text true none = sym none
missing text false none = refl

pub whole_path_missing : (text : List ℕ) → ((path : NameAndVariant) → Spells text path → ⊥) → None ≡ whole_path_in text
whole_path_missing text none = missing text (list_any (λ c. eqb c slash) text) (path_in_none text none)

pub root_missing : (r : Result Root RootFault) (text : List ℕ) → ((root : Root) → r ≡ Ok root → ⊥) → result_ok r ≡ root_in text → root_in text ≡ None
root_missing (Ok root) text none e = absurd (none root refl)
root_missing (Err fault) text none e = sym e

module _ (line before after : List ℕ) (cut : line ≡ before ++ equals_sign ∷ after) (first : HasNo equals_sign before) where
  pub no_root_there : root_in after ≡ None → None ≡ pinned_line line
  no_root_there e = sym (pinned_there line before after cut first ∙ ap (pinned_of (whole_path_in before)) e ∙ no_root (whole_path_in before))

  pub no_path_there : None ≡ whole_path_in before → None ≡ pinned_line line
  no_path_there e = sym (pinned_there line before after cut first ∙ ap (λ (p : Option NameAndVariant). pinned_of p (root_in after)) (sym e))

  pub both_said : (path : NameAndVariant) (root : Root) → Some path ≡ whole_path_in before → Some root ≡ root_in after → Some (record { path = path; root = root }) ≡ pinned_line line
  both_said path root a b =
      sym (pinned_there line before after cut first ∙ ap (λ (p : Option NameAndVariant). pinned_of p (root_in after)) (sym a) ∙ ap (λ (r : Option Root). pinned_of (Some path) r) (sym b))
