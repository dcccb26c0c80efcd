-- What an act makes of the values that a page may have.
use Rattle.std.proofs.Common.{◌≡◌, ◌≢◌, ◌⊎◌, ℕ, Bool, true, false, cond, eqb, List, [], ◌∷◌, ◌++◌, sym, refl, subst, inl, inr, arith, Contains, eqb-true, eq-eqb}
use Rattle.std.proofs.lemmas.List.Elements.{Contains-append_left, Contains-append_right, Contains-append_cases, Contains-push, Contains-push_cases}
use Rattle.std.proofs.lemmas.Bool.{cond-true, cond-false}
use Rattle.std.proofs.lemmas.Bool.Decides.{eqb_tells}
use Rattle.disk_model.specs.declared.act.DiskAct.{DiskAct}
use Rattle.disk_model.specs.declared.act.DiskAct.TheVariants.{Wrote, Failed}
use Rattle.disk_model.specs.Past.{Page, PageState, Past, then_act, after_wrote, after_failed, after_act, after_acts, state_of, IsPossible}

pub after_acts-append : (n : ℕ) (s : PageState) (xs ys : List DiskAct) → after_acts n s (xs ++ ys) ≡ after_acts n (after_acts n s xs) ys
after_acts-append n s [] ys = refl
after_acts-append n s (x ∷ xs) ys = after_acts-append n (after_act n s x) xs ys

pub state_of-then_act : (past : Past) (act : DiskAct) (n : ℕ) → state_of (then_act past act) n ≡ after_act n (state_of past n) act
state_of-then_act past act n = after_acts-append n _ past.trail (act ∷ [])

pub nothing : {v : Page} → Contains {X = Page} [] v → ⊥
nothing c = omega (arith, c.1)

-- a value that was possible stays so until a sync
pub stays_wrote : (s : PageState) (bytes v : Page) → IsPossible s v → IsPossible (after_wrote s bytes) v
stays_wrote s bytes v (inl e) = inr (inr (Contains-append_right s.older (s.failed ++ s.now ∷ []) v (subst (Contains (s.failed ++ s.now ∷ [])) (sym e) (Contains-push s.failed s.now))))
stays_wrote s bytes v (inr (inl c)) = inr (inr (Contains-append_right s.older (s.failed ++ s.now ∷ []) v (Contains-append_left s.failed (s.now ∷ []) v c)))
stays_wrote s bytes v (inr (inr c)) = inr (inr (Contains-append_left s.older (s.failed ++ s.now ∷ []) v c))

pub stays_failed : (s : PageState) (bytes v : Page) → IsPossible s v → IsPossible (after_failed s bytes) v
stays_failed s bytes v (inl e) = inl e
stays_failed s bytes v (inr (inl c)) = inr (inl (Contains-append_left s.failed (bytes ∷ []) v c))
stays_failed s bytes v (inr (inr c)) = inr (inr c)

-- what failed to be written is possible
pub comes_failed : (s : PageState) (bytes v : Page) → v ≡ bytes → IsPossible (after_failed s bytes) v
comes_failed s bytes v e = inr (inl (subst (Contains (s.failed ++ bytes ∷ [])) (sym e) (Contains-push s.failed bytes)))

-- only the value of the write is new
came_wrote : (s : PageState) (bytes v : Page) → IsPossible (after_wrote s bytes) v → IsPossible s v ⊎ (v ≡ bytes)
came_wrote s bytes v (inl e) = inr e
came_wrote s bytes v (inr (inl c)) = absurd (nothing c)
came_wrote s bytes v (inr (inr c)) =
    inl (elim (Contains-append_cases s.older (s.failed ++ s.now ∷ []) v c) [
      | inl o ↦ inr (inr o)
      | inr r ↦ elim (Contains-push_cases s.failed s.now v r) [ inl f ↦ inr (inl f) | inr e ↦ inl (sym e) ]
    ])

came_failed : (s : PageState) (bytes v : Page) → IsPossible (after_failed s bytes) v → IsPossible s v ⊎ (v ≡ bytes)
came_failed s bytes v (inl e) = inl (inl e)
came_failed s bytes v (inr (inl c)) =
    elim (Contains-push_cases s.failed bytes v c) [ inl f ↦ inl (inr (inl f)) | inr e ↦ inr (sym e) ]
came_failed s bytes v (inr (inr c)) = inl (inr (inr c))

pub came_synced : (s : PageState) (v : Page) → IsPossible (record s { older = [] }) v → IsPossible s v
came_synced s v (inl e) = inl e
came_synced s v (inr (inl c)) = inr (inl c)
came_synced s v (inr (inr c)) = absurd (nothing c)

chosen : (b : Bool) (s t : PageState) (v bytes : Page) → (IsPossible t v → IsPossible s v ⊎ (v ≡ bytes)) → IsPossible (cond b t s) v → IsPossible s v ⊎ ((b ≡ true) × (v ≡ bytes))
chosen true s t v bytes came p = elim (came p) [ inl q ↦ inl q | inr e ↦ inr (refl, e) ]
chosen false s t v bytes came p = inl p

-- after a write of a page, made or failed, a value is possible that was so before, or at that page the one written
pub possible_wrote : (n page : ℕ) (s : PageState) (bytes v : Page) → IsPossible (after_act n s (Wrote page bytes)) v → IsPossible s v ⊎ ((page ≡ n) × (v ≡ bytes))
possible_wrote n page s bytes v p =
    elim (chosen (eqb page n) s (after_wrote s bytes) v bytes (came_wrote s bytes v) p) [ inl q ↦ inl q | inr e ↦ inr (eqb-true page n e.0, e.1) ]

pub possible_failed : (n page : ℕ) (s : PageState) (bytes v : Page) → IsPossible (after_act n s (Failed page bytes)) v → IsPossible s v ⊎ ((page ≡ n) × (v ≡ bytes))
possible_failed n page s bytes v p =
    elim (chosen (eqb page n) s (after_failed s bytes) v bytes (came_failed s bytes v) p) [ inl q ↦ inl q | inr e ↦ inr (eqb-true page n e.0, e.1) ]

-- a write of another page leaves a page as it was
pub other_wrote : (n page : ℕ) (s : PageState) (bytes : Page) → page ≢ n → after_act n s (Wrote page bytes) ≡ s
other_wrote n page s bytes ne = elim (eqb_tells page n) [ inl t ↦ absurd (ne t.1) | inr t ↦ cond-false _ _ _ t.0 ]

pub other_failed : (n page : ℕ) (s : PageState) (bytes : Page) → page ≢ n → after_act n s (Failed page bytes) ≡ s
other_failed n page s bytes ne = elim (eqb_tells page n) [ inl t ↦ absurd (ne t.1) | inr t ↦ cond-false _ _ _ t.0 ]

pub same_wrote : (n : ℕ) (s : PageState) (bytes : Page) → after_act n s (Wrote n bytes) ≡ after_wrote s bytes
same_wrote n s bytes = cond-true _ _ _ (eq-eqb n n refl)

pub same_failed : (n : ℕ) (s : PageState) (bytes : Page) → after_act n s (Failed n bytes) ≡ after_failed s bytes
same_failed n s bytes = cond-true _ _ _ (eq-eqb n n refl)
