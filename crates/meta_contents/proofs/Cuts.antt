-- A line is cut at its last `=`.
use Rattle.std.proofs.Common.{◌≡◌, ◌≢◌, ℕ, ◌+◌, ◌-◌, ◌<◌, true, false, List, [], ◌∷◌, ◌++◌, length, get_or, take, drop, Option, Some, None, refl, sym, ap, subst, ◌∙◌}
use Rattle.std.specs.Prelude.{IsTrue, ◌↔◌}
use Rattle.std.proofs.lemmas.Bool.{false_from_ne_true, ne_eqb}
use Rattle.std.proofs.lemmas.List.{take_rest}
use Rattle.std.proofs.lemmas.List.Elements.{All-head, All-tail}
use Rattle.pkg_names.specs.declared.root.Root.{Root}
use Rattle.pkg_names.specs.Root.{root_in}
use Rattle.pkg_names.specs.FileText.{IsFile, is_file_text}
use Rattle.pkg_names.specs.Text.{equals_sign, HasNo}
use Rattle.pkg_names.proofs.Cuts.{cut_at}
use Rattle.meta_contents.specs.Lines.{last_cut, pair_in}

-- the test of a file path decides whether it is one
abbrev pub FilesAreTested : Type 0
FilesAreTested = (text : List ℕ) → IsTrue (is_file_text text) ↔ IsFile text

pub no_cut : (line : List ℕ) → HasNo equals_sign line → last_cut line ≡ None
unfolding last_cut
no_cut [] h = refl
no_cut (c ∷ rest) h = rw (no_cut rest (All-tail (λ x. x ≢ equals_sign) c rest h), ne_eqb c equals_sign (All-head (λ x. x ≢ equals_sign) c rest h)) refl

pub cut_at_last : (a b : List ℕ) → HasNo equals_sign b → last_cut (a ++ equals_sign ∷ b) ≡ Some (a, b)
unfolding last_cut
cut_at_last [] b h = rw (no_cut b h) refl
cut_at_last (c ∷ a) b h = rw (cut_at_last a b h) refl

pub cut_there : (line : List ℕ) (at : ℕ) → at < length line → get_or line at 0 ≡ equals_sign → HasNo equals_sign (drop (at + 1) line) → last_cut line ≡ Some (take at line, drop (at + 1) line)
cut_there line at lt is last = ap last_cut (cut_at equals_sign line at lt is) ∙ cut_at_last (take at line) (drop (at + 1) line) last

-- ---- what a line says

pub says_nothing : (line : List ℕ) → HasNo equals_sign line → pair_in line ≡ None
says_nothing line h = rw (no_cut line h) refl

module _ (tested : FilesAreTested) (line : List ℕ) (at : ℕ) (lt : at < length line) (is : get_or line at 0 ≡ equals_sign) (last : HasNo equals_sign (drop (at + 1) line)) where
  pub bad_file : (IsFile (take at line) → ⊥) → pair_in line ≡ None
  bad_file not_file =
      let off : is_file_text (take at line) ≡ false = false_from_ne_true (is_file_text (take at line)) (λ e. not_file ((tested (take at line)).0 e)) in
      rw (cut_there line at lt is last, off) refl

  root_there : (root : Option Root) → root ≡ root_in (take (length line - (at + 1)) (drop (at + 1) line)) → root_in (drop (at + 1) line) ≡ root
  root_there root e = ap root_in (sym (take_rest line (at + 1))) ∙ sym e

  pub bad_root : IsFile (take at line) → None ≡ root_in (take (length line - (at + 1)) (drop (at + 1) line)) → pair_in line ≡ None
  bad_root file e =
      let on : is_file_text (take at line) ≡ true = (tested (take at line)).1 file in
      rw (cut_there line at lt is last, on, root_there None e) refl

  pub says_so : (path : List ℕ) (root : Root) → IsFile path → path ≡ take at line → Some root ≡ root_in (take (length line - (at + 1)) (drop (at + 1) line)) → pair_in line ≡ Some (path, root)
  says_so path root file same e =
      let on : is_file_text (take at line) ≡ true = (tested (take at line)).1 (subst IsFile same file) in
      let all : pair_in line ≡ Some (take at line, root) = rw (cut_there line at lt is last, on, root_there (Some root) e) refl in
      all ∙ ap (λ (l : List ℕ). Some (l, root)) (sym same)
