-- A listing with a pair set names no path twice, and is read from its text.
use Rattle.std.proofs.Common.{inl, inr, ◌≡◌, ◌≢◌, ℕ, Bool, true, false, List, [], ◌∷◌, ◌++◌, length, map, refl, ap, subst, ◌∙◌, append_assoc}
use Rattle.std.specs.Prelude.{◌||◌, nat_lt}
use Rattle.std.specs.List.{All, AllByRecursion, IsDistinct}
use Rattle.std.proofs.lemmas.Bool.{cases_Bool, ltb-false}
use Rattle.std.proofs.lemmas.List.Elements.{All-head, All-tail, All-append, All-cons}
use Rattle.pkg_names.specs.declared.pinned.Pinned.{Pinned}
use Rattle.pkg_names.specs.declared.root.Root.{Root}
use Rattle.pkg_names.specs.NameAndVariant.{NameAndVariant, byte_in_name, path_eq}
use Rattle.pkg_names.specs.Root.{root_text, is_lower_digit}
use Rattle.pkg_names.specs.Text.{line_feed, slash, equals_sign, HasNo, lines_of}
use Rattle.pkg_names.proofs.Lines.{lines_cut}
use Rattle.pkg_names.proofs.Roots.{is_text, path_eq-true}
use Rattle.package_url.proofs.Places.{none_passes}
use Rattle.system_lists.specs.declared.list.TheConstants.{ENTRY_LIMIT, LIST_LIMIT}
use Rattle.system_lists.specs.Lists.{IsPinned}
use Rattle.system_lists.specs.Static.{line_text, StandsFor}
use Rattle.repo_publish.specs.Post.{NamesOnce}
use Rattle.repo_publish.specs.Published.{set_pair, listing_text, is_over}

-- ---- no path twice

module _ (path : NameAndVariant) (root : Root) where
  all_put : (front : NameAndVariant) (pairs : List Pinned) → path_eq front path ≡ false → AllByRecursion (λ (p : Pinned). path_eq front p.path ≡ false) pairs
      → AllByRecursion (λ (p : Pinned). path_eq front p.path ≡ false) (set_pair path root pairs)
  all_put front [] apart each = (apart, tt)
  all_put front (x ∷ pairs) apart each =
      elim (cases_Bool (path_eq x.path path)) [
        | inl holds ↦ rw holds (apart, each.1)
        | inr lacks ↦ rw lacks (each.0, all_put front pairs apart each.1)
      ]

  pub once_set : (pairs : List Pinned) → NamesOnce pairs → NamesOnce (set_pair path root pairs)
  unfolding IsDistinct
  once_set [] once = (tt, tt)
  once_set (x ∷ pairs) once =
      elim (cases_Bool (path_eq x.path path)) [
        | inl holds ↦
            let same = path_eq-true x.path path holds in
            rw holds (subst (λ (p : NameAndVariant). AllByRecursion (λ (o : Pinned). path_eq p o.path ≡ false) pairs) same once.0, once.1)
        | inr lacks ↦ rw lacks (all_put x.path pairs lacks once.0, once_set pairs once.1)
      ]

-- ---- the text

no_feed : (pair : Pinned) → IsPinned pair → HasNo line_feed (line_text pair)
no_feed pair is =
    let P = λ (c : ℕ). c ≢ line_feed in
    All-append P (pair.path.name ++ slash ∷ pair.path.variant) (equals_sign ∷ root_text pair.root)
    (All-append P pair.path.name (slash ∷ pair.path.variant) (none_passes byte_in_name line_feed pair.path.name refl is.path.0.bytes)
    (All-cons P slash pair.path.variant (λ e. cc) (none_passes byte_in_name line_feed pair.path.variant refl is.path.1.bytes)))
    (All-cons P equals_sign (root_text pair.root) (λ e. cc) (none_passes is_lower_digit line_feed (root_text pair.root) refl (is_text pair.root is.root).digits))

lines_are : (pairs : List Pinned) → All IsPinned pairs → lines_of (listing_text pairs) ≡ map line_text pairs
lines_are [] each = refl
lines_are (x ∷ pairs) each =
    ap lines_of (append_assoc (line_text x) (line_feed ∷ []) (listing_text pairs))
    ∙ lines_cut (line_text x) (listing_text pairs) (no_feed x (All-head IsPinned x pairs each))
    ∙ ap (λ (rest : List (List ℕ)). line_text x ∷ rest) (lines_are pairs (All-tail IsPinned x pairs each))

few : (a b : Bool) → (a || b) ≡ false → a ≡ false
few true b e = absurd cc
few false b e = refl

pub stands_set : (pairs : List Pinned) → NamesOnce pairs → All IsPinned pairs → is_over pairs ≡ false → StandsFor (listing_text pairs) pairs
stands_set pairs once each short = record {
  valid = record {
    few = ltb-false ENTRY_LIMIT (length pairs) (few (nat_lt ENTRY_LIMIT (length pairs)) (nat_lt LIST_LIMIT (length (listing_text pairs))) short);
    each = each;
    distinct = once;
  };
  lines = lines_are pairs each;
}
