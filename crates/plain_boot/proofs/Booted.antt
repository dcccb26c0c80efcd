-- The boot is due as the first event, and leaves the books settled.
use Rattle.std.proofs.Common.{◌≡◌, ◌≢◌, inl, inr, ℕ, Bool, true, false, cond, ◌&&◌, ◌||◌, not, List, [], ◌∷◌, ◌++◌, Option, Some, None, is_some, refl, sym, ap, subst, ◌∙◌}
use Rattle.std.specs.Prelude.{IsSomeAnd}
use Rattle.std.specs.Option.{option_map}
use Rattle.std.proofs.lemmas.Bool.{cases_Bool, true≢false, and_from, or_cases, not_from_false}
use Rattle.pkg_names.specs.declared.root.Root.{Root}
use Rattle.pkg_names.specs.declared.pinned.Pinned.{Pinned}
use Rattle.pkg_names.specs.Root.{root_eq}
use Rattle.pkg_names.proofs.Roots.{root_eq-true}
use Rattle.abr_record.specs.declared.Slot.{Slot}
use Rattle.abr_record.specs.declared.Slot.TheVariants.{A, B, R}
use Rattle.abr_record.specs.Boot.{boot_slot, boot_record}
use Rattle.image_layout.specs.declared.geometry.Geometry.{Geometry}
use Rattle.image_layout.specs.declared.Sys.{Sys}
use Rattle.package_book.specs.Books.{Meta, book_at}
use Rattle.package_book.specs.Books.Meta.{Read}
use Rattle.system_lists.specs.Judging.{Verdict}
use Rattle.system_lists.specs.Judging.Verdict.{Whole}
use Rattle.system_judge.specs.Listed.{listed, pinned_roots}
use Rattle.store_model.specs.declared.events.LookedAt.{LookedAt}
use Rattle.store_model.specs.State.{State, Standing, opened, stored_len, is_stored, has_root, protected_in, is_recovery, sys_of}
use Rattle.store_model.specs.Settling.{IsSeen}
use Rattle.store_model.specs.Sound.{KnowsExactly}
use Rattle.store_model.specs.Systems.{seen_bytes, booted_verdict, base_of, cached_of}
use Rattle.store_model.specs.Acts.Boot.{IsWhole, HasSystem, base_after_boot, cached_after_boot, next_boot}
use Rattle.store_model.specs.Acts.Begin.{has_to_read}
use Rattle.store_model.proofs.SameBooks.{with_books}
use Rattle.plain_stock.specs.Contents.{AreBytesOf}
use Rattle.plain_state.specs.Learning.{first_known, looked_at, long_of, LearnsLengths, Forgets, IsSettled}
use Rattle.plain_state.specs.Looking.{LearnsAll, IsLearned, roots_seen}
use Rattle.plain_state.specs.Booting.{booted_with}
use Rattle.plain_state.proofs.Seen.{seen_stored, seen_rooted}
use Rattle.plain_state.proofs.Learned.{learns_seen, is_seen, to_read}
use Rattle.plain_state.proofs.Settled.{Turns, settles, settles_still}
use Rattle.plain_state.proofs.SettledLooks.{has_told}
use Rattle.plain_boot.specs.AllBooks.{all_at_hand}
use Rattle.plain_boot.specs.Looking.{WasJudged}
use Rattle.plain_boot.specs.Starting.{HasBooted, HasSettled}
use Rattle.plain_boot.proofs.AllBooks.{learned_at}
use Rattle.plain_boot.proofs.Whole.{whole_has}

never : {P : Type 0} {b : Bool} → b ≡ true → b ≡ false → P
never holds lacks = absurd (true≢false (sym holds ∙ lacks))

-- nothing is protected before the boot, and the books are empty
knows_none : (g : Geometry) (d : Standing) → KnowsExactly (opened g d).books (protected_in (opened g d)) (opened g d).stock
knows_none g d = record {
  all = λ root among stored. absurd (true≢false (sym among));
  among = λ root known. absurd (true≢false (sym known));
  there = λ root known. absurd (true≢false (sym known));
}

-- ---- recovery

recovery_next : (g : Geometry) (d : Standing) → boot_slot d.abr ≡ R → next_boot (opened g d) [] ≡ booted_with (opened g d) [] []
recovery_next g d e =
    ap (λ (slot : Slot). record (opened g d) {
      booted = true;
      abr = boot_record d.abr;
      running = boot_slot d.abr;
      base = base_after_boot (opened g d) [] (sys_of (opened g d) slot);
      cached = cached_after_boot (opened g d) [] (sys_of (opened g d) slot);
    }) e

pub boots_recovery : (g : Geometry) (d : Standing) (new : State) → boot_slot d.abr ≡ R → new ≡ booted_with (opened g d) [] [] → HasBooted (opened g d) R [] new
boots_recovery g d new e is = record {
  due = record { lane = refl; chosen = sym e; whole = tt };
  there = tt;
  settled = subst (λ (n : State). IsSettled [] n new) (sym (recovery_next g d e))
      (subst (λ (s : State). IsSettled [] (booted_with (opened g d) [] []) s) (sym is)
      (settles_still (opened g d) (booted_with (opened g d) [] []) (knows_none g d) refl refl (λ root. refl)));
}

-- ---- a system

has_system : (s : State) (slot : Slot) (seen : List LookedAt) (sys : Sys) → is_recovery slot ≡ false → sys_of s slot ≡ Some sys → IsWhole (booted_verdict s seen sys) → HasSystem s seen slot
has_system s A seen sys apart sealed whole = subst (λ (o : Option Sys). IsSomeAnd o (λ (x : Sys). IsWhole (booted_verdict s seen x))) (sym sealed) whole
has_system s B seen sys apart sealed whole = subst (λ (o : Option Sys). IsSomeAnd o (λ (x : Sys). IsWhole (booted_verdict s seen x))) (sym sealed) whole
has_system s R seen sys apart sealed whole = absurd (true≢false apart)

system_next : (g : Geometry) (d : Standing) (seen : List LookedAt) (sys : Sys) (base cached : List Pinned) → sys_of (opened g d) (boot_slot d.abr) ≡ Some sys → Whole base cached ≡ booted_verdict (opened g d) seen sys
    → next_boot (opened g d) seen ≡ booted_with (opened g d) base cached
system_next g d seen sys base cached sealed whole =
    ap (λ (held : Option Sys). record (opened g d) {
      booted = true;
      abr = boot_record d.abr;
      running = boot_slot d.abr;
      base = base_after_boot (opened g d) seen held;
      cached = cached_after_boot (opened g d) seen held;
    }) sealed
    ∙ ap (λ (verdict : Verdict). record (opened g d) {
      booted = true;
      abr = boot_record d.abr;
      running = boot_slot d.abr;
      base = base_of verdict;
      cached = cached_of verdict;
    }) (sym whole)

-- the packages that the boot protects are the system's own and those that its lists name, and each was looked at
protected_learned : (contents seen : List LookedAt) (g : Geometry) (d : Standing) (u : State) (system : Root) (base cached : List Pinned) → WasJudged contents system (opened g d) seen u (Whole base cached)
    → (root : Root) → has_root (protected_in (booted_with (opened g d) base cached)) root ≡ true → IsLearned contents u root
protected_learned contents seen g d u system base cached was root among =
    elim (or_cases (root_eq system root) (has_root (listed (all_at_hand contents (opened g d)) system) root) (sym (ap (λ (roots : List Root). has_root roots root) (whole_has (all_at_hand contents (opened g d)) system base cached was.by_all)) ∙ front)) [
      | inl same ↦ subst (IsLearned contents u) (root_eq-true system root same) was.looked.known
      | inr named ↦ was.looked.listed root named
    ]
  where
    none_more : (roots : List Root) → has_root (roots ++ []) root ≡ has_root roots root
    none_more [] = refl
    none_more (other ∷ roots) = ap (λ rest. root_eq other root || rest) (none_more roots)

    front : has_root (pinned_roots base ++ pinned_roots cached) root ≡ true
    front =
        let roots = pinned_roots base ++ pinned_roots cached in
        sym (none_more (((roots ++ []) ++ []) ++ []) ∙ none_more ((roots ++ []) ++ []) ∙ none_more (roots ++ []) ∙ none_more roots) ∙ among

-- what is known of a package once the lengths are learned
abbrev learned_of : List LookedAt → State → Root → Option Meta
learned_of seen n root = first_known (looked_at seen root) (cond (has_root (protected_in n) root) (long_of (stored_len n.stock root)) None)

looked_some : (found : Option (List ℕ)) → is_some (option_map Read found) ≡ true → is_some found ≡ true
looked_some None h = absurd cc
looked_some (Some bytes) h = refl

turns : (contents seen : List LookedAt) (g : Geometry) (d : Standing) (u : State) (system : Root) (base cached : List Pinned) → AreBytesOf contents d.stock → WasJudged contents system (opened g d) seen u (Whole base cached)
    → Turns seen (learned_of seen (booted_with (opened g d) base cached)) (roots_seen seen) (opened g d) (booted_with (opened g d) base cached)
turns contents seen g d u system base cached all was = record {
  books = refl;
  stays = λ root at. absurd (true≢false (sym at.among));
  goes = λ root at passed. absurd (true≢false (sym at.among));
  comes = λ root at unknown.
      let same = ap (λ (test : Bool). first_known (looked_at seen root) (cond test (long_of (stored_len d.stock root)) None)) at.among in
      (ap (λ (m : Option Meta). is_some m) same ∙ has_told (opened g d) seen root (read root at.among) at.stored refl, same);
  only = λ root apart unknown kept. only root apart kept (seen_bytes seen root) refl;
} where
  there : IsSeen seen d.stock
  there = is_seen contents seen (opened g d) u all was.looked.sees

  read : (root : Root) → has_root (protected_in (booted_with (opened g d) base cached)) root ≡ true → has_to_read (opened g d) root ≡ true → is_some (seen_bytes seen root) ≡ true
  read root among wants =
      let it = to_read contents (opened g d) root all wants in
      looked_some (seen_bytes seen root)
      (sym (ap (λ (m : Option Meta). is_some m) (learned_at seen (opened g d) u root refl (learns_seen contents seen (opened g d) u was.looked.sees)))
      ∙ protected_learned contents seen g d u system base cached was root among it.bytes it.at it.short)

  none_long : (among : Bool) (len : Option ℕ) → (among && is_some len) ≡ false → cond among (long_of len) None ≡ None
  none_long false len h = refl
  none_long true None h = refl
  none_long true (Some len) h = absurd cc

  only : (root : Root) → (has_root (protected_in (booted_with (opened g d) base cached)) root && is_stored d.stock root) ≡ false → (has_root (roots_seen seen) root && not (has_root (protected_in (booted_with (opened g d) base cached)) root)) ≡ false
      → (found : Option (List ℕ)) → seen_bytes seen root ≡ found → learned_of seen (booted_with (opened g d) base cached) root ≡ None
  only root apart kept None is =
      ap (λ (m : Option Meta). first_known m (cond (has_root (protected_in (booted_with (opened g d) base cached)) root) (long_of (stored_len d.stock root)) None)) (ap (option_map Read) is)
      ∙ none_long (has_root (protected_in (booted_with (opened g d) base cached)) root) (stored_len d.stock root) apart
  only root apart kept (Some bytes) is =
      let found : is_some (seen_bytes seen root) ≡ true = ap (λ (o : Option (List ℕ)). is_some o) is in
      elim (cases_Bool (has_root (protected_in (booted_with (opened g d) base cached)) root)) [
        | inl among ↦ never (and_from (has_root (protected_in (booted_with (opened g d) base cached)) root) (is_stored d.stock root) among (seen_stored seen d.stock root there found)) apart
        | inr passed ↦
            never (and_from (has_root (roots_seen seen) root) (not (has_root (protected_in (booted_with (opened g d) base cached)) root)) (seen_rooted seen root found) (not_from_false (has_root (protected_in (booted_with (opened g d) base cached)) root) passed)) kept
      ]

pub boots_system : (contents seen : List LookedAt) (g : Geometry) (d : Standing) (u v w : State) (slot : Slot) (sys : Sys) (base cached : List Pinned) → AreBytesOf contents d.stock → slot ≡ boot_slot d.abr → is_recovery slot ≡ false
    → sys_of (opened g d) slot ≡ Some sys → WasJudged contents sys.system (opened g d) seen u (Whole base cached) → v ≡ booted_with u base cached → HasSettled seen v w → HasBooted (opened g d) slot seen w
boots_system contents seen g d u v w slot sys base cached all chosen apart sealed was is settled = record {
  due = record { lane = refl; chosen = chosen; whole = has_system (opened g d) slot seen sys apart sealed (base, cached, sym was.by_seen) };
  there = is_seen contents seen (opened g d) u all was.looked.sees;
  settled = subst (λ (n : State). IsSettled seen n w) (sym (system_next g d seen sys base cached (ap (sys_of (opened g d)) (sym chosen) ∙ sealed) was.by_seen))
      (settles seen (learned_of seen (booted_with (opened g d) base cached)) (roots_seen seen) (opened g d) (booted_with (opened g d) base cached) w (knows_none g d)
      (turns contents seen g d u sys.system base cached all was)
      (settled.rest ∙ ap (λ (s : State). with_books s w.books) v_is)
      (λ root.
      settled.books root
      ∙ ap (λ (s : State). cond (has_root (roots_seen seen) root && not (has_root (protected_in s) root)) None (first_known (book_at s.books root) (cond (has_root (protected_in s) root) (long_of (stored_len s.stock root)) None))) v_is
      ∙ ap (λ (m : Option Meta). cond (has_root (roots_seen seen) root && not (has_root (protected_in (booted_with (opened g d) base cached)) root)) None (first_known m (cond (has_root (protected_in (booted_with (opened g d) base cached)) root) (long_of (stored_len d.stock root)) None)))
      (learned_at seen (opened g d) u root refl learns)));
} where
  learns : LearnsAll seen (opened g d) u
  learns = learns_seen contents seen (opened g d) u was.looked.sees

  v_is : v ≡ with_books (booted_with (opened g d) base cached) u.books
  v_is = is ∙ ap (λ (s : State). booted_with s base cached) learns.rest

-- ---- the books after the boot

pub settled_so : (seen : List LookedAt) (roots : List Root) (t u v : State) → roots ≡ protected_in t → LearnsLengths roots t u → Forgets (roots_seen seen) u v → HasSettled seen t v
settled_so seen roots t u v are lengths forgets = record {
  rest = forgets.rest ∙ ap (λ (s : State). with_books s v.books) lengths.rest;
  books = λ root.
      forgets.books root
      ∙ ap (λ (s : State). cond (has_root (roots_seen seen) root && not (has_root (protected_in s) root)) None (book_at u.books root)) lengths.rest
      ∙ ap (cond (has_root (roots_seen seen) root && not (has_root (protected_in t) root)) None)
      (lengths.books root ∙ ap (λ (rs : List Root). first_known (book_at t.books root) (cond (has_root rs root) (long_of (stored_len t.stock root)) None)) are);
}

pub apart_so : (slot : Slot) → slot ≢ R → is_recovery slot ≡ false
apart_so A apart = refl
apart_so B apart = refl
apart_so R apart = absurd (apart refl)
