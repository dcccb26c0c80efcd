-- How a fuse's count goes with the trail of the disk within, call by call.
use Rattle.std.proofs.Common.{◌≡◌, ◌⊎◌, ℕ, ◌+◌, ◌≤◌, Bool, true, false, List, [], ◌∷◌, ◌++◌, length, drop, Result, Ok, Err, sym, refl, ◌∙◌, ap, subst, inl, inr, arith, length-append}
use Rattle.std.specs.List.{Contains}
use Rattle.std.proofs.lemmas.Bool.{true≢false}
use Rattle.std.proofs.lemmas.List.{drop-append-le}
use Rattle.std.proofs.Math.Seq.{drop-length}
use Rattle.disk_model.specs.declared.act.DiskAct.{DiskAct}
use Rattle.disk_model.specs.declared.act.DiskAct.TheVariants.{Wrote, Failed, Synced}
use Rattle.disk_model.specs.Past.{Page, Past, then_act}
use Rattle.disk_model.specs.Disks.{Mem, Fuse, new_fuse, passed_count, IsSound, IsFuse, IsNextListed, one_more, after_call, after_fault, after_want, FailsWrite, ReadsMem, WritesMem, SyncsMem}

passed_count-append : (xs ys : List DiskAct) → passed_count (xs ++ ys) ≡ passed_count xs + passed_count ys
passed_count-append [] ys = omega arith
passed_count-append (Wrote n bytes ∷ xs) ys = omega (arith, passed_count-append xs ys)
passed_count-append (Failed n bytes ∷ xs) ys = passed_count-append xs ys
passed_count-append (Synced ∷ xs) ys = omega (arith, passed_count-append xs ys)

-- the trail is as long as it was at least, and from the act numbered k on this many more have passed
record Adds (k more : ℕ) (old new : Past) : Type 0 where
  size : length old.trail ≤ length new.trail
  count : k ≤ length old.trail → passed_count (drop k new.trail) ≡ passed_count (drop k old.trail) + more

adds_none : (k : ℕ) (old new : Past) → new ≡ old → Adds k 0 old new
adds_none k old new e =
    subst (Adds k 0 old) (sym e) (record { size = omega arith; count = λ _. omega arith })

adds_act : (k : ℕ) (old new : Past) (act : DiskAct) → new ≡ then_act old act → Adds k (passed_count (act ∷ [])) old new
adds_act k old new act e =
    subst (Adds k (passed_count (act ∷ [])) old) (sym e) (record {
      size = omega (arith, length-append old.trail (act ∷ []));
      count = λ le. ap passed_count (drop-append-le k old.trail (act ∷ []) le) ∙ passed_count-append (drop k old.trail) (act ∷ []);
    })

fails_adds : (k page : ℕ) (bytes : Page) (old new : Mem) → FailsWrite page bytes old new → Adds k 0 old.past new.past
fails_adds k page bytes old new (inl e) = adds_act k old.past new.past (Failed page bytes) (ap (λ (m : Mem). m.past) e)
fails_adds k page bytes old new (inr e) = adds_none k old.past new.past (ap (λ (m : Mem). m.past) e)

fails_sound : (page : ℕ) (bytes : Page) (old new : Mem) → FailsWrite page bytes old new → IsSound new → IsSound old
fails_sound page bytes old new (inl e) sound = record {
  failing = sym (ap (λ (m : Mem). m.failing) e) ∙ sound.failing;
  starved = sym (ap (λ (m : Mem). m.starved) e) ∙ sound.starved;
}
fails_sound page bytes old new (inr e) sound = absurd (true≢false (sym (ap (λ (m : Mem). m.starved) e) ∙ sound.starved))

-- a sound disk has no listed call
unlisted : (old new : Mem) → new.failing ≡ old.failing → IsNextListed old → IsSound new → ⊥
unlisted old new same listed sound =
    let c : Contains {X = ℕ} [] (one_more old.calls) = subst (λ (l : List ℕ). Contains l (one_more old.calls)) (sym same ∙ sound.failing) listed in
    omega (arith, c.1)

wants : (old new : Mem) → new ≡ after_want old → IsSound new → ⊥
wants old new e sound = true≢false (sym (ap (λ (m : Mem). m.starved) e) ∙ sound.starved)

pub fuse_new : (inner : Mem) (left : ℕ) → IsFuse (new_fuse inner left)
fuse_new inner left =
    let none : passed_count (drop (length inner.past.trail) inner.past.trail) ≡ 0 = ap passed_count (drop-length inner.past.trail) in
    record {
      acts = omega arith;
      most = omega (arith, none);
      exact = λ _. omega (arith, none);
      blown = λ e. absurd (true≢false (sym e));
      quiet = λ _ _. refl;
    }

module _ (old new : Mem) (old_left new_left allowed acts faults : ℕ) (old_blown new_blown : Bool) where
  abbrev Old : Fuse
  Old = record { inner = old; left = old_left; blown = old_blown; allowed = allowed; acts_before = acts; faults_before = faults }

  abbrev New : Fuse
  New = record { inner = new; left = new_left; blown = new_blown; allowed = allowed; acts_before = acts; faults_before = faults }

  -- a call that was passed on and succeeded
  passed : IsFuse Old → Adds acts 1 old.past new.past → new.failing ≡ old.failing → new.starved ≡ old.starved → new.faults ≡ old.faults → new_left + 1 ≡ old_left → new_blown ≡ false → old_blown ≡ false → IsFuse New
  passed is adds failing starved same less whole was =
      let sound : IsSound new → IsSound old = λ s. record { failing = sym failing ∙ s.failing; starved = sym starved ∙ s.starved } in
      record {
        acts = omega (arith, is.acts, adds.size);
        most = omega (arith, adds.count is.acts, is.most, less);
        exact = λ s. omega (arith, adds.count is.acts, is.exact (sound s), less);
        blown = λ e. absurd (true≢false (sym e ∙ whole));
        quiet = λ s _. same ∙ is.quiet (sound s) was;
      }

  -- a call that was passed on and failed within
  lost : IsFuse Old → Adds acts 0 old.past new.past → (IsSound new → ⊥) → new_left + 1 ≡ old_left → new_blown ≡ false → IsFuse New
  lost is adds unsound less whole = record {
    acts = omega (arith, is.acts, adds.size);
    most = omega (arith, adds.count is.acts, is.most, less);
    exact = λ s. absurd (unsound s);
    blown = λ e. absurd (true≢false (sym e ∙ whole));
    quiet = λ s _. absurd (unsound s);
  }

  -- a call that was not passed on
  blown : IsFuse Old → Adds acts 0 old.past new.past → (IsSound new → IsSound old) → new_left ≡ old_left → (old_blown ≡ true) ⊎ (old_left ≡ 0) → new_blown ≡ true → IsFuse New
  blown is adds sound same blows now = record {
    acts = omega (arith, is.acts, adds.size);
    most = omega (arith, adds.count is.acts, is.most, same);
    exact = λ s. omega (arith, adds.count is.acts, is.exact (sound s), same);
    blown = λ _. elim blows [ inl e ↦ same ∙ is.blown e | inr none ↦ same ∙ none ];
    quiet = λ _ e. absurd (true≢false (sym now ∙ e));
  }

  pub fuse_write : {T E : Type 0} (page : ℕ) (bytes : Page) (result : Result T E) → IsFuse Old → WritesMem page bytes old new result → new_left + 1 ≡ old_left → new_blown ≡ false → old_blown ≡ false → IsFuse New
  fuse_write page bytes (Ok x) is writes less whole was =
      passed is (adds_act acts old.past new.past (Wrote page bytes) (ap (λ (m : Mem). m.past) writes.wrote)) (ap (λ (m : Mem). m.failing) writes.wrote) (ap (λ (m : Mem). m.starved) writes.wrote) (ap (λ (m : Mem). m.faults) writes.wrote) less whole was
  fuse_write page bytes (Err e) is writes less whole was =
      elim writes.failed [
        | inl f ↦ lost is (fails_adds acts page bytes (after_call old) new f.1) (λ s. unlisted old old refl f.0 (record { failing = (fails_sound page bytes (after_call old) new f.1 s).failing; starved = (fails_sound page bytes (after_call old) new f.1 s).starved })) less whole
        | inr f ↦ lost is (adds_none acts old.past new.past (ap (λ (m : Mem). m.past) f.1)) (wants (after_call old) new f.1) less whole
      ]

  pub fuse_sync : {T E : Type 0} (result : Result T E) → IsFuse Old → SyncsMem old new result → new_left + 1 ≡ old_left → new_blown ≡ false → old_blown ≡ false → IsFuse New
  fuse_sync (Ok x) is syncs less whole was =
      passed is (adds_act acts old.past new.past Synced (ap (λ (m : Mem). m.past) syncs.synced)) (ap (λ (m : Mem). m.failing) syncs.synced) (ap (λ (m : Mem). m.starved) syncs.synced) (ap (λ (m : Mem). m.faults) syncs.synced) less whole was
  fuse_sync (Err e) is syncs less whole was =
      elim syncs.failed [
        | inl f ↦ lost is (adds_none acts old.past new.past (ap (λ (m : Mem). m.past) f.1)) (λ s. unlisted old new (ap (λ (m : Mem). m.failing) f.1) f.0 s) less whole
        | inr f ↦ lost is (adds_none acts old.past new.past (ap (λ (m : Mem). m.past) f.1)) (wants (after_call old) new f.1) less whole
      ]

  pub fuse_blown_write : (page : ℕ) (bytes : Page) → IsFuse Old → FailsWrite page bytes old new → new_left ≡ old_left → (old_blown ≡ true) ⊎ (old_left ≡ 0) → new_blown ≡ true → IsFuse New
  fuse_blown_write page bytes is fails same blows now = blown is (fails_adds acts page bytes old new fails) (fails_sound page bytes old new fails) same blows now

  pub fuse_blown_sync : IsFuse Old → new ≡ after_fault old → new_left ≡ old_left → (old_blown ≡ true) ⊎ (old_left ≡ 0) → new_blown ≡ true → IsFuse New
  fuse_blown_sync is e same blows now =
      blown is (adds_none acts old.past new.past (ap (λ (m : Mem). m.past) e)) (λ s. record { failing = sym (ap (λ (m : Mem). m.failing) e) ∙ s.failing; starved = sym (ap (λ (m : Mem). m.starved) e) ∙ s.starved }) same blows now

  -- a read that is passed on; one that isn't
  pub fuse_read : {T E : Type 0} (page : ℕ) (out : Page) (result : Result T E) → IsFuse Old → ReadsMem page old new out result → new_left ≡ old_left → new_blown ≡ old_blown → old_blown ≡ false → IsFuse New
  fuse_read page out (Ok x) is reads same stays was =
      let e = reads.ok in
      let sound : IsSound new → IsSound old = λ s. record { failing = sym (ap (λ (m : Mem). m.failing) e) ∙ s.failing; starved = sym (ap (λ (m : Mem). m.starved) e) ∙ s.starved } in
      let adds = adds_none acts old.past new.past (ap (λ (m : Mem). m.past) e) in
      record {
        acts = omega (arith, is.acts, adds.size);
        most = omega (arith, adds.count is.acts, is.most, same);
        exact = λ s. omega (arith, adds.count is.acts, is.exact (sound s), same);
        blown = λ b. same ∙ is.blown (sym stays ∙ b);
        quiet = λ s _. ap (λ (m : Mem). m.faults) e ∙ is.quiet (sound s) was;
      }
  fuse_read page out (Err x) is reads same stays was =
      let e = reads.err in
      let unsound : IsSound new → ⊥ = unlisted old new (ap (λ (m : Mem). m.failing) e) (reads.listed.0 refl) in
      let adds = adds_none acts old.past new.past (ap (λ (m : Mem). m.past) e) in
      record {
        acts = omega (arith, is.acts, adds.size);
        most = omega (arith, adds.count is.acts, is.most, same);
        exact = λ s. absurd (unsound s);
        blown = λ b. same ∙ is.blown (sym stays ∙ b);
        quiet = λ s _. absurd (unsound s);
      }

  pub fuse_blown_read : IsFuse Old → new ≡ record (after_fault old) { reads = one_more old.reads } → new_left ≡ old_left → old_blown ≡ true → new_blown ≡ true → IsFuse New
  fuse_blown_read is e same was now =
      blown is (adds_none acts old.past new.past (ap (λ (m : Mem). m.past) e)) (λ s. record { failing = sym (ap (λ (m : Mem). m.failing) e) ∙ s.failing; starved = sym (ap (λ (m : Mem). m.starved) e) ∙ s.starved }) same (inl was) now
