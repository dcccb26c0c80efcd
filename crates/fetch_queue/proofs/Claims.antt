-- Which roots are claimed, and which is the first that isn't.
use Rattle.std.proofs.Common.{inl, inr, ◌≡◌, ◌≢◌, ◌↔◌, ℕ, Bool, true, false, not, List, [], ◌∷◌, ◌++◌, ◌||◌, Some, None, All, refl, sym, ap, ◌∙◌}
use Rattle.std.proofs.lemmas.Bool.{cases_Bool, true≢false, or_left, or_right, not-true, not-false, not_from_true, not_from_false, false_from_ne_true}
use Rattle.std.proofs.lemmas.List.Elements.{All-weaker}
use Rattle.std.proofs.lemmas.List.Folds.{list_any-append, list_any_at}
use Rattle.std.proofs.lemmas.Map.Views.{any-filter_same}
use Rattle.pkg_names.specs.declared.root.Root.{Root}
use Rattle.pkg_names.specs.Root.{root_eq}
use Rattle.pkg_names.proofs.Roots.{root_eq-true, root_eq-same, root_eq-refl}
use Rattle.fetch_queue.specs.declared.queue.ClaimEntry.{ClaimEntry}
use Rattle.fetch_queue.specs.Fetches.{is_claimed, first_unclaimed, roomed, with_room, without_claim}
use Rattle.fetch_queue.proofs.Finds.{find_none, find_first, found_passes, none_passes}

abbrev is_for : Root → ClaimEntry → Bool
is_for root claim = root_eq claim.root root

abbrev pub is_free : List ClaimEntry → Root → Bool
is_free claims root = not (is_claimed claims root)

pub first : (claims : List ClaimEntry) (before after : List Root) (root : Root) → All (λ other. is_claimed claims other ≡ true) before → is_claimed claims root ≡ false → first_unclaimed claims (before ++ root ∷ after) ≡ Some root
first claims before after root claimed free =
    find_first (is_free claims) before root after
    (All-weaker (λ other. is_claimed claims other ≡ true) (λ other. is_free claims other ≡ false) (λ other is. not_from_true _ is) before claimed)
    (not_from_false _ free)

pub none : (claims : List ClaimEntry) (wanted : List Root) → (first_unclaimed claims wanted ≡ None) ↔ All (λ other. is_claimed claims other ≡ true) wanted
none claims wanted = (
  λ e. All-weaker (λ other. is_free claims other ≡ false) (λ other. is_claimed claims other ≡ true) (λ other is. not-false _ is) wanted (none_passes (is_free claims) wanted e),
  λ claimed. find_none (is_free claims) wanted (All-weaker (λ other. is_claimed claims other ≡ true) (λ other. is_free claims other ≡ false) (λ other is. not_from_true _ is) wanted claimed),
)

pub free : (claims : List ClaimEntry) (wanted : List Root) (root : Root) → first_unclaimed claims wanted ≡ Some root → is_claimed claims root ≡ false
free claims wanted root found = not-true _ (found_passes (is_free claims) wanted root found)

pub made : (claims : List ClaimEntry) (claim : ClaimEntry) → is_claimed (claims ++ claim ∷ []) claim.root ≡ true
made claims claim =
    list_any-append (is_for claim.root) claims (claim ∷ []) ∙ or_right _ _ (or_left _ _ (root_eq-refl claim.root))

pub ended : (claims : List ClaimEntry) (root : Root) → is_claimed (without_claim claims root) root ≡ false
ended claims root =
    any-filter_same (is_for root) (λ (claim : ClaimEntry). not (root_eq claim.root root)) false (λ claim is. ap not is) claims

pub others : (claims : List ClaimEntry) (root other : Root) → root ≢ other → is_claimed (without_claim claims root) other ≡ is_claimed claims other
others claims root other ne =
    any-filter_same (is_for other) (λ (claim : ClaimEntry). not (root_eq claim.root root)) true
    (λ claim is. not_from_false _ (false_from_ne_true _ (λ same. ne (sym (root_eq-true claim.root root same) ∙ root_eq-true claim.root other is))))
    claims

pub keeps_root : (root : Root) (len : ℕ) (claim : ClaimEntry) → (roomed root len claim).root ≡ claim.root
keeps_root root len claim =
    elim (cases_Bool (root_eq claim.root root)) [ inl holds ↦ rw holds refl | inr lacks ↦ rw lacks refl ]

pub room : (claims : List ClaimEntry) (root other : Root) (len : ℕ) → is_claimed (with_room claims root len) other ≡ is_claimed claims other
room [] root other len = refl
room (claim ∷ claims) root other len =
    ap (λ (r : Root). root_eq r other || is_claimed (with_room claims root len) other) (keeps_root root len claim) ∙ ap (λ (b : Bool). root_eq claim.root other || b) (room claims root other len)

-- each claim is of another root than one that isn't claimed
pub apart_from : (claims : List ClaimEntry) (root : Root) → is_claimed claims root ≡ false → All (λ (claim : ClaimEntry). claim.root ≢ root) claims
apart_from claims root free k d lt same =
    true≢false (sym (list_any_at (is_for root) claims k d lt (root_eq-same _ _ same)) ∙ free)
