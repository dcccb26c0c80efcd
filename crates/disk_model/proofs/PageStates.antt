-- What each act makes of the state of a page, and of the values that are possible there.
use Rattle.std.proofs.Common.{◌≡◌, ◌≢◌, ◌⊎◌, ◌↔◌, ℕ, sym, ◌∙◌, subst, inl, inr}
use Rattle.std.proofs.lemmas.Bool.{cases_eq}
use Rattle.disk_model.specs.declared.act.DiskAct.{DiskAct}
use Rattle.disk_model.specs.declared.act.DiskAct.TheVariants.{Wrote, Failed, Synced}
use Rattle.disk_model.specs.Past.{Page, PageState, Past, then_act, after_wrote, after_failed, after_synced, state_of, IsPossible, IsLatest}
use Rattle.disk_model.proofs.StateLemmas.{state_of-then_act, other_wrote, other_failed, same_wrote, same_failed, possible_wrote, possible_failed, stays_wrote, stays_failed, comes_failed}
use Rattle.disk_model.proofs.ImageLemmas.{latest_synced, synced_latest}

-- A write changes the state of its page.
pub state-wrote : (past : Past) (n : ℕ) (bytes : Page) → state_of (then_act past (Wrote n bytes)) n ≡ after_wrote (state_of past n) bytes
state-wrote past n bytes = state_of-then_act past (Wrote n bytes) n ∙ same_wrote n (state_of past n) bytes

pub state-failed : (past : Past) (n : ℕ) (bytes : Page) → state_of (then_act past (Failed n bytes)) n ≡ after_failed (state_of past n) bytes
state-failed past n bytes = state_of-then_act past (Failed n bytes) n ∙ same_failed n (state_of past n) bytes

-- It leaves the state of each other page.
pub state-wrote_other : (past : Past) (page n : ℕ) (bytes : Page) → page ≢ n → state_of (then_act past (Wrote page bytes)) n ≡ state_of past n
state-wrote_other past page n bytes ne = state_of-then_act past (Wrote page bytes) n ∙ other_wrote n page (state_of past n) bytes ne

pub state-failed_other : (past : Past) (page n : ℕ) (bytes : Page) → page ≢ n → state_of (then_act past (Failed page bytes)) n ≡ state_of past n
state-failed_other past page n bytes ne = state_of-then_act past (Failed page bytes) n ∙ other_failed n page (state_of past n) bytes ne

-- A sync takes the older values of each page.
pub state-synced : (past : Past) (n : ℕ) → state_of (then_act past Synced) n ≡ after_synced (state_of past n)
state-synced past n = state_of-then_act past Synced n

same_page : (past : Past) (act : DiskAct) (page n : ℕ) (bytes v : Page) (next : PageState → PageState) → (page ≢ n → state_of (then_act past act) n ≡ state_of past n) → (page ≡ n → state_of (then_act past act) n ≡ next (state_of past n)) → ((s : PageState) → IsPossible s v → IsPossible (next s) v) → ((s : PageState) → v ≡ bytes → IsPossible (next s) v) → IsPossible (state_of past n) v ⊎ ((page ≡ n) × (v ≡ bytes)) → IsPossible (state_of (then_act past act) n) v
same_page past act page n bytes v next other here stays comes (inl p) =
    elim (cases_eq page n) [
      | inl e ↦ subst (λ (s : PageState). IsPossible s v) (sym (here e)) (stays (state_of past n) p)
      | inr ne ↦ subst (λ (s : PageState). IsPossible s v) (sym (other ne)) p
    ]
same_page past act page n bytes v next other here stays comes (inr c) = subst (λ (s : PageState). IsPossible s v) (sym (here c.0)) (comes (state_of past n) c.1)

-- After a write, made or failed, a value is possible that was so before, or that it writes there.
pub possible-wrote : (past : Past) (page n : ℕ) (bytes v : Page) → IsPossible (state_of (then_act past (Wrote page bytes)) n) v ↔ (IsPossible (state_of past n) v ⊎ ((page ≡ n) × (v ≡ bytes)))
possible-wrote past page n bytes v = (λ p. possible_wrote n page (state_of past n) bytes v (subst (λ (s : PageState). IsPossible s v) (state_of-then_act past (Wrote page bytes) n) p), same_page past (Wrote page bytes) page n bytes v (λ s. after_wrote s bytes) (state-wrote_other past page n bytes) (λ e. subst (λ (k : ℕ). state_of (then_act past (Wrote k bytes)) n ≡ after_wrote (state_of past n) bytes) (sym e) (state-wrote past n bytes)) (λ s p. stays_wrote s bytes v p) (λ s e. inl e))

pub possible-failed : (past : Past) (page n : ℕ) (bytes v : Page) → IsPossible (state_of (then_act past (Failed page bytes)) n) v ↔ (IsPossible (state_of past n) v ⊎ ((page ≡ n) × (v ≡ bytes)))
possible-failed past page n bytes v = (λ p. possible_failed n page (state_of past n) bytes v (subst (λ (s : PageState). IsPossible s v) (state_of-then_act past (Failed page bytes) n) p), same_page past (Failed page bytes) page n bytes v (λ s. after_failed s bytes) (state-failed_other past page n bytes) (λ e. subst (λ (k : ℕ). state_of (then_act past (Failed k bytes)) n ≡ after_failed (state_of past n) bytes) (sym e) (state-failed past n bytes)) (λ s p. stays_failed s bytes v p) (λ s e. comes_failed s bytes v e))

-- After a sync a value is possible that was written last, or by a write that failed since.
pub possible-synced : (past : Past) (n : ℕ) (v : Page) → IsPossible (state_of (then_act past Synced) n) v ↔ IsLatest (state_of past n) v
possible-synced past n v = (λ p. latest_synced (state_of past n) v (subst (λ (s : PageState). IsPossible s v) (state-synced past n) p), λ l. subst (λ (s : PageState). IsPossible s v) (sym (state-synced past n)) (synced_latest (state_of past n) v l))
