-- The acts up to the last sync, and what those after it leave possible.
use Rattle.std.proofs.Common.{◌≡◌, ℕ, zero, suc, ◌+◌, ◌<◌, ◌≤◌, Bool, true, false, cond, eqb, ltb, List, [], ◌∷◌, ◌++◌, length, get_or, slice_get, set, take, drop, Some, None, sym, refl, ◌∙◌, ap, subst, inl, inr, arith, lt-ltb, le-ltb, length-take-le, add-one, Contains}
use Rattle.std.specs.List.{AllByRecursion}
use Rattle.std.proofs.lemmas.Bool.{cases_lt, cond-true, cond-false}
use Rattle.std.proofs.lemmas.Bool.Decides.{eqb_tells}
use Rattle.std.proofs.lemmas.List.{take_more}
use Rattle.std.proofs.lemmas.List.Elements.{Contains-push}
use Rattle.disk_model.specs.declared.act.DiskAct.{DiskAct}
use Rattle.disk_model.specs.declared.act.DiskAct.TheVariants.{Wrote, Failed, Synced}
use Rattle.disk_model.specs.Past.{Page, Pages, page_at, PageState, Past, IsActIn, then_act, after_wrote, after_failed, after_act, after_acts, state_of, IsPossible}
use Rattle.disk_model.specs.Images.{IsImage}
use Rattle.disk_model.specs.Picks.{is_sync, synced_len, value_on}
use Rattle.disk_model.proofs.StateLemmas.{stays_wrote, stays_failed, state_of-then_act}
use Rattle.disk_model.proofs.ImageLemmas.{image_mix}

-- with one act more at the end
synced_step : (x : DiskAct) (n m : ℕ) (b : Bool) → cond (ltb 0 (cond b (suc n) m)) (cond b (suc n) m + 1) (cond (is_sync x) 1 0) ≡ cond b (suc (suc n)) (cond (ltb 0 m) (m + 1) (cond (is_sync x) 1 0))
synced_step x n m true = cond-true _ _ _ (lt-ltb 0 (suc n) (omega arith)) ∙ omega arith
synced_step x n m false = refl

pub synced_len-push : (xs : List DiskAct) (x : DiskAct) → synced_len (xs ++ x ∷ []) ≡ cond (is_sync x) (length xs + 1) (synced_len xs)
synced_len-push [] x = refl
synced_len-push (y ∷ xs) x =
    let e : synced_len (xs ++ x ∷ []) ≡ cond (is_sync x) (suc (length xs)) (synced_len xs) = synced_len-push xs x ∙ ap (λ (n : ℕ). cond (is_sync x) n (synced_len xs)) (omega arith) in
    let f : synced_len ((y ∷ xs) ++ x ∷ []) ≡ cond (is_sync x) (suc (suc (length xs))) (synced_len (y ∷ xs)) = ap (λ (n : ℕ). cond (ltb 0 n) (n + 1) (cond (is_sync y) 1 0)) e ∙ synced_step y (length xs) (synced_len xs) (is_sync x) in
    f ∙ ap (λ (n : ℕ). cond (is_sync x) n (synced_len (y ∷ xs))) (omega arith)

pub synced_len-more : (acts : List DiskAct) (i : ℕ) (d : DiskAct) → i < length acts → synced_len (take (i + 1) acts) ≡ cond (is_sync (get_or acts i d)) (i + 1) (synced_len (take i acts))
synced_len-more acts i d lt =
    ap synced_len (take_more acts i d lt) ∙ synced_len-push (take i acts) (get_or acts i d)
    ∙ ap (λ (n : ℕ). cond (is_sync (get_or acts i d)) (n + 1) (synced_len (take i acts))) (length-take-le i acts (omega arith))

le_step : (b : Bool) (m n : ℕ) → m ≤ n → cond (ltb 0 m) (m + 1) (cond b 1 0) ≤ suc n
le_step true m n le = elim (cases_lt 0 m) [ inl lt ↦ omega (arith, cond-true (ltb 0 m) (m + 1) 1 (lt-ltb 0 m lt)) | inr ge ↦ omega (arith, cond-false (ltb 0 m) (m + 1) 1 (le-ltb 0 m ge)) ]
le_step false m n le = elim (cases_lt 0 m) [ inl lt ↦ omega (arith, cond-true (ltb 0 m) (m + 1) 0 (lt-ltb 0 m lt)) | inr ge ↦ omega (arith, cond-false (ltb 0 m) (m + 1) 0 (le-ltb 0 m ge)) ]

pub synced_len-le : (acts : List DiskAct) → synced_len acts ≤ length acts
synced_len-le [] = omega arith
synced_len-le (x ∷ acts) = le_step (is_sync x) (synced_len acts) (length acts) (synced_len-le acts)

-- the acts after the last sync are none
rest_step : (x : DiskAct) (acts : List DiskAct) (m : ℕ) → AllByRecursion (λ a. is_sync a ≡ false) (drop m acts) → (m ≡ 0 → AllByRecursion (λ a. is_sync a ≡ false) acts) → (b : Bool) → is_sync x ≡ b → AllByRecursion (λ a. is_sync a ≡ false) (drop (cond (ltb 0 m) (m + 1) (cond b 1 0)) (x ∷ acts))
rest_step x acts zero rest all true e = rest
rest_step x acts zero rest all false e = (e, rest)
rest_step x acts (suc m) rest all b e = rw (cond-true (ltb 0 (suc m)) (suc m + 1) (cond b 1 0) (lt-ltb 0 (suc m) (omega arith)), add-one) rest

pub no_sync_after : (acts : List DiskAct) → AllByRecursion (λ a. is_sync a ≡ false) (drop (synced_len acts) acts)
no_sync_after [] = tt
no_sync_after (x ∷ acts) = rest_step x acts (synced_len acts) (no_sync_after acts) (λ e. subst (λ (n : ℕ). AllByRecursion (λ a. is_sync a ≡ false) (drop n acts)) e (no_sync_after acts)) (is_sync x) refl

-- over acts that are no syncs a value that was possible stays so
pub stays_act : (n : ℕ) (s : PageState) (x : DiskAct) (v : Page) → is_sync x ≡ false → IsPossible s v → IsPossible (after_act n s x) v
stays_act n s (Wrote page bytes) v none p =
    elim (eqb_tells page n) [
      | inl t ↦ subst (λ (s : PageState). IsPossible s v) (sym (cond-true (eqb page n) (after_wrote s bytes) s t.0)) (stays_wrote s bytes v p)
      | inr t ↦ subst (λ (s : PageState). IsPossible s v) (sym (cond-false (eqb page n) (after_wrote s bytes) s t.0)) p
    ]
stays_act n s (Failed page bytes) v none p =
    elim (eqb_tells page n) [
      | inl t ↦ subst (λ (s : PageState). IsPossible s v) (sym (cond-true (eqb page n) (after_failed s bytes) s t.0)) (stays_failed s bytes v p)
      | inr t ↦ subst (λ (s : PageState). IsPossible s v) (sym (cond-false (eqb page n) (after_failed s bytes) s t.0)) p
    ]
stays_act n s Synced v none p = cc

pub stays_possible : (n : ℕ) (acts : List DiskAct) (s : PageState) (v : Page) → AllByRecursion (λ a. is_sync a ≡ false) acts → IsPossible s v → IsPossible (after_acts n s acts) v
stays_possible n [] s v none p = p
stays_possible n (x ∷ acts) s v none p = stays_possible n acts (after_act n s x) v none.1 (stays_act n s x v none.0 p)

some_same : (v w : Page) → Some v ≡ Some w → v ≡ w
some_same v w e = cc

none_some : (v : Page) → None ≡ Some v → ⊥
none_some v e = cc

-- what an act writes to a page is possible there after it
pub comes_act : (n : ℕ) (s : PageState) (x : DiskAct) (v : Page) → value_on n (Some x) ≡ Some v → IsPossible (after_act n s x) v
comes_act n s (Wrote page bytes) v e =
    elim (eqb_tells page n) [
      | inl t ↦ subst (λ (s : PageState). IsPossible s v) (sym (cond-true (eqb page n) (after_wrote s bytes) s t.0)) (inl (some_same v bytes (sym e ∙ cond-true (eqb page n) (Some bytes) None t.0)))
      | inr t ↦ absurd (none_some v (sym (cond-false (eqb page n) (Some bytes) None t.0) ∙ e))
    ]
comes_act n s (Failed page bytes) v e =
    elim (eqb_tells page n) [
      | inl t ↦ subst (λ (s : PageState). IsPossible s v) (sym (cond-true (eqb page n) (after_failed s bytes) s t.0)) (inr (inl (subst (Contains (s.failed ++ bytes ∷ [])) (some_same bytes v (sym (cond-true (eqb page n) (Some bytes) None t.0) ∙ e)) (Contains-push s.failed bytes))))
      | inr t ↦ absurd (none_some v (sym (cond-false (eqb page n) (Some bytes) None t.0) ∙ e))
    ]
comes_act n s Synced v e = cc

pub comes_possible : (n : ℕ) (acts : List DiskAct) (s : PageState) (k : ℕ) (v : Page) → AllByRecursion (λ a. is_sync a ≡ false) acts → value_on n (slice_get acts k) ≡ Some v → IsPossible (after_acts n s acts) v
comes_possible n [] s k v none e = cc
comes_possible n (x ∷ acts) s zero v none e = stays_possible n acts (after_act n s x) v none.1 (comes_act n s x v e)
comes_possible n (x ∷ acts) s (suc k) v none e = comes_possible n acts (after_act n s x) k v none.1 e

pub slice_get-drop : (m k : ℕ) (acts : List DiskAct) → slice_get (drop m acts) k ≡ slice_get acts (m + k)
slice_get-drop zero k acts = ap (slice_get acts) (omega arith)
slice_get-drop (suc m) k [] = refl
slice_get-drop (suc m) k (x ∷ acts) = slice_get-drop m k acts ∙ ap (slice_get (x ∷ acts)) {x = suc (m + k)} {y = suc m + k} (omega arith)

-- the act of a value writes its page
pub value_in : (region : ℕ → Type 0) (page : ℕ) (acts : List DiskAct) (k : ℕ) (v : Page) → AllByRecursion (IsActIn region) acts → value_on page (slice_get acts k) ≡ Some v → region page
value_in region page [] k v within e = cc
value_in region page (x ∷ acts) (suc k) v within e = value_in region page acts k v within.1 e
value_in region page (Wrote n bytes ∷ acts) zero v within e =
    elim (eqb_tells n page) [ inl t ↦ subst region t.1 within.0 | inr t ↦ absurd (none_some v (sym (cond-false (eqb n page) (Some bytes) None t.0) ∙ e)) ]
value_in region page (Failed n bytes ∷ acts) zero v within e =
    elim (eqb_tells n page) [ inl t ↦ subst region t.1 within.0 | inr t ↦ absurd (none_some v (sym (cond-false (eqb n page) (Some bytes) None t.0) ∙ e)) ]
value_in region page (Synced ∷ acts) zero v within e = cc

pub within_take : (region : ℕ → Type 0) (m : ℕ) (acts : List DiskAct) → AllByRecursion (IsActIn region) acts → AllByRecursion (IsActIn region) (take m acts)
within_take region zero acts all = tt
within_take region (suc m) [] all = tt
within_take region (suc m) (x ∷ acts) all = (all.0, within_take region m acts all.1)

pub within_same : (acts : List DiskAct) (m n : ℕ) → m ≡ n → AllByRecursion (IsActIn (λ k. k < m)) acts → AllByRecursion (IsActIn (λ k. k < n)) acts
within_same acts m n e all = subst (λ (b : ℕ). AllByRecursion (IsActIn (λ k. k < b)) acts) e all

-- an image stays one over an act that is no sync, and with the act's value on its page
pub image_stays : (past : Past) (x : DiskAct) (image : Pages) → is_sync x ≡ false → IsImage past image → IsImage (then_act past x) image
image_stays past x image none is = record {
  size = is.size;
  each = λ n lt. subst (λ (s : PageState). IsPossible s (page_at image n)) (sym (state_of-then_act past x n)) (stays_act n (state_of past n) x (page_at image n) none (is.each n lt));
}

pub image_comes : (past : Past) (x : DiskAct) (n : ℕ) (value : Page) (image : Pages) → is_sync x ≡ false → value_on n (Some x) ≡ Some value → IsImage past image → IsImage (then_act past x) (set image n value)
image_comes past x n value image none e is =
    image_mix (then_act past x) image n value (image_stays past x image none is)
    (subst (λ (s : PageState). IsPossible s value) (sym (state_of-then_act past x n)) (comes_act n (state_of past n) x value e))
