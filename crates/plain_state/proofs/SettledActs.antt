-- Each act that looks at nothing leaves the books settled, once they have forgotten what it names.
use Rattle.std.proofs.Common.{◌≡◌, ◌⊎◌, inl, inr, ℕ, Bool, true, false, cond, not, List, [], ◌∷◌, map, Option, Some, None, is_some, refl, sym, ap, subst, ◌∙◌}
use Rattle.std.specs.Prelude.{filter, ◌==◌}
use Rattle.std.specs.Option.{option_map}
use Rattle.std.proofs.lemmas.Bool.{true≢false, or_cases, or_left, or_right, and_parts, eqb-true}
use Rattle.pkg_names.specs.declared.root.Root.{Root}
use Rattle.pkg_names.specs.declared.pinned.Pinned.{Pinned}
use Rattle.pkg_names.specs.Root.{root_eq}
use Rattle.open_tracker.specs.declared.dirs.DirEntry.{DirEntry}
use Rattle.open_tracker.specs.Directories.{is_of, root_of}
use Rattle.package_indexes.specs.Indexes.{root_at, with_root, roots_of}
use Rattle.store_model.specs.declared.ends.WantEnd.TheVariants as wants
use Rattle.store_model.specs.declared.ends.Cause.{Cause}
use Rattle.store_model.specs.State.{State, Arrival, has_root, arrival_of, protected_in}
use Rattle.store_model.specs.Acts.Want.{with_directory, with_active, next_want}
use Rattle.store_model.specs.Acts.GaveUp.{next_gave_up}
use Rattle.store_model.specs.Acts.Close.{next_close}
use Rattle.plain_state.specs.Learning.{IsReady, IsSettled, Forgets, listed, replaced_by}
use Rattle.plain_state.proofs.Protected.{by_part, in_none, from_base, from_cached, from_active, from_retained, from_arriving, from_dirs, arriving_roots, last_has, more_has, own_has, kept_has, lost_is_found, replaced_is_found, with_root_has}
use Rattle.plain_state.proofs.Settled.{IsQuiet, settles_quietly}

never : {P : Type 0} {b : Bool} → b ≡ true → b ≡ false → P
never holds lacks = absurd (true≢false (sym holds ∙ lacks))

-- ---- a directory is closed

one_dir : (lane dir : ℕ) (a b : DirEntry) → is_of a dir lane ≡ true → is_of b dir lane ≡ true → a.number ≡ b.number
one_dir lane dir a b p q =
    eqb-true a.number dir (and_parts (a.number == dir) (a.lane == lane) p).0 ∙ sym (eqb-true b.number dir (and_parts (b.number == dir) (b.lane == lane) q).0)

pub closes : (t : State) (lane dir : ℕ) (new : State) → IsReady t → Forgets (listed (root_of t.dirs dir lane)) (next_close t lane dir) new → IsSettled [] (next_close t lane dir) new
closes t lane dir new h forgets =
    settles_quietly (listed (root_of t.dirs dir lane)) t (next_close t lane dir) new h.books
    (record {
      books = refl;
      stays = λ root at. at.stored;
      goes = λ root at passed.
          let none = in_none (next_close t lane dir) root passed in
          by_part (has_root (listed (root_of t.dirs dir lane)) root ≡ true) t root at.among
          (λ b. never b none.based) (λ c. never c none.in_cache) (λ a. never a none.is_active) (λ r. never r none.is_retained) (λ v. never v none.arrives)
          (λ d. lost_is_found (λ (e : DirEntry). e.number) (λ (e : DirEntry). is_of e dir lane) (λ (e : DirEntry). e.root) (one_dir lane dir) t.dirs h.dirs root d none.is_open);
      comes = λ root at. record {
        among = by_part (has_root (protected_in t) root ≡ true) (next_close t lane dir) root at.among
            (from_base t root)
            (from_cached t root)
            (from_active t root)
            (from_retained t root)
            (from_arriving t root)
            (λ d. from_dirs t root
            (kept_has (λ (e : DirEntry). e.root) (λ (e : DirEntry). not (is_of e dir lane)) t.dirs root d));
        stored = at.stored;
      };
    })
    forgets.rest forgets.books

-- ---- a ticket goes

one_ticket : (ticket : ℕ) (a b : Arrival) → (a.ticket == ticket) ≡ true → (b.ticket == ticket) ≡ true → a.ticket ≡ b.ticket
one_ticket ticket a b p q = eqb-true a.ticket ticket p ∙ sym (eqb-true b.ticket ticket q)

-- the root of the ticket's package
abbrev pub root_with : State → ℕ → Option Root
root_with t ticket = option_map (λ (a : Arrival). a.root) (arrival_of t.arriving ticket)

pub gives_up : (t : State) (ticket : ℕ) (new : State) → IsReady t → Forgets (listed (root_with t ticket)) (next_gave_up t ticket) new → IsSettled [] (next_gave_up t ticket) new
gives_up t ticket new h forgets =
    settles_quietly (listed (root_with t ticket)) t (next_gave_up t ticket) new h.books
    (record {
      books = refl;
      stays = λ root at. at.stored;
      goes = λ root at passed.
          let none = in_none (next_gave_up t ticket) root passed in
          by_part (has_root (listed (root_with t ticket)) root ≡ true) t root at.among
          (λ b. never b none.based) (λ c. never c none.in_cache) (λ a. never a none.is_active) (λ r. never r none.is_retained)
          (λ v. lost_is_found (λ (a : Arrival). a.ticket) (λ (a : Arrival). a.ticket == ticket) (λ (a : Arrival). a.root) (one_ticket ticket) t.arriving h.tickets root v none.arrives)
          (λ d. never d none.is_open);
      comes = λ root at. record {
        among = by_part (has_root (protected_in t) root ≡ true) (next_gave_up t ticket) root at.among
            (from_base t root)
            (from_cached t root)
            (from_active t root)
            (from_retained t root)
            (λ v. from_arriving t root
            (kept_has (λ (a : Arrival). a.root) (λ (a : Arrival). not (a.ticket == ticket)) t.arriving root v))
            (from_dirs t root);
        stored = at.stored;
      };
    })
    forgets.rest forgets.books

-- the package of a ticket can't be had
pub fails : (t : State) (number lane ticket : ℕ) (cause : Cause) (new : State) → IsReady t → Forgets (listed (root_with t ticket)) (next_want t number lane ticket (wants.Failed cause)) new
    → IsSettled [] (next_want t number lane ticket (wants.Failed cause)) new
fails t number lane ticket cause new h forgets = gives_up t ticket new h forgets

-- ---- a package is opened

-- the package of a ticket is among those that arrive
found_has : (arriving : List Arrival) (ticket : ℕ) (arrival : Arrival) (root : Root) → arrival_of arriving ticket ≡ Some arrival → root_eq arrival.root root ≡ true → has_root (map (λ (x : Arrival). x.root) arriving) root ≡ true
found_has [] ticket arrival root found is_root = absurd cc
found_has (a ∷ arriving) ticket arrival root found is_root = first (a.ticket == ticket) found (λ later. found_has arriving ticket arrival root later is_root) where
  first : (test : Bool) → cond test (Some a) (arrival_of arriving ticket) ≡ Some arrival → (arrival_of arriving ticket ≡ Some arrival → has_root (map (λ (x : Arrival). x.root) arriving) root ≡ true)
      → has_root (map (λ (x : Arrival). x.root) (a ∷ arriving)) root ≡ true
  first true e later =
      let same : a ≡ arrival = cc in
      or_left (root_eq a.root root) (has_root (map (λ (x : Arrival). x.root) arriving) root) (ap (λ (x : Arrival). root_eq x.root root) same ∙ is_root)
  first false e later = or_right (root_eq a.root root) (has_root (map (λ (x : Arrival). x.root) arriving) root) (later e)

active_lost : (base active : List Pinned) (arrival : Arrival) (root : Root) → has_root (roots_of active) root ≡ true → has_root (roots_of (with_active base active (Some arrival))) root ≡ false
    → has_root (cond (is_some (root_at base arrival.path)) [] (listed (root_at active arrival.path))) root ≡ true
active_lost base active arrival root among passed = first (is_some (root_at base arrival.path)) passed where
  first : (test : Bool) → has_root (roots_of (cond test active (with_root active arrival.path arrival.root))) root ≡ false → has_root (cond test [] (listed (root_at active arrival.path))) root ≡ true
  first true e = never among e
  first false e = replaced_is_found active arrival.path arrival.root root among e

active_new : (base active : List Pinned) (arrival : Arrival) (root : Root) → has_root (roots_of (with_active base active (Some arrival))) root ≡ true → (has_root (roots_of active) root ≡ true) ⊎ (root_eq arrival.root root ≡ true)
active_new base active arrival root among = first (is_some (root_at base arrival.path)) among where
  first : (test : Bool) → has_root (roots_of (cond test active (with_root active arrival.path arrival.root))) root ≡ true → (has_root (roots_of active) root ≡ true) ⊎ (root_eq arrival.root root ≡ true)
  first true e = inl e
  first false e = with_root_has active arrival.path arrival.root root e

-- the state after it, where this package was found
abbrev after_open : State → ℕ → ℕ → ℕ → Option Arrival → State
after_open t number lane ticket found = record t {
  arriving = filter (λ (a : Arrival). not (a.ticket == ticket)) t.arriving;
  dirs = with_directory t.dirs number lane found;
  active = with_active t.base t.active found;
}

pub opens : (t : State) (number lane ticket : ℕ) (new : State) → IsReady t → Forgets (replaced_by t (arrival_of t.arriving ticket)) (next_want t number lane ticket wants.Opened) new
    → IsSettled [] (next_want t number lane ticket wants.Opened) new
opens t number lane ticket new h forgets =
    settles_quietly (replaced_by t (arrival_of t.arriving ticket)) t (next_want t number lane ticket wants.Opened) new h.books
    (quiet (arrival_of t.arriving ticket) refl) forgets.rest forgets.books where
      lost : (root : Root) → has_root (arriving_roots t) root ≡ true → has_root (map (λ (a : Arrival). a.root) (filter (λ (a : Arrival). not (a.ticket == ticket)) t.arriving)) root ≡ false → has_root (listed (root_with t ticket)) root ≡ true
      lost root among passed = lost_is_found (λ (a : Arrival). a.ticket) (λ (a : Arrival). a.ticket == ticket) (λ (a : Arrival). a.root) (one_ticket ticket) t.arriving h.tickets root among passed

      of_some : (arrival : Arrival) → arrival_of t.arriving ticket ≡ Some arrival → IsQuiet (replaced_by t (Some arrival)) t (after_open t number lane ticket (Some arrival))
      of_some arrival found = record {
        books = refl;
        stays = λ root at. at.stored;
        goes = λ root at passed.
            let none = in_none (after_open t number lane ticket (Some arrival)) root passed in
            by_part (has_root (replaced_by t (Some arrival)) root ≡ true) t root at.among
            (λ b. never b none.based) (λ c. never c none.in_cache)
            (λ a. active_lost t.base t.active arrival root a none.is_active)
            (λ r. never r none.is_retained)
            (λ v.
            let is_found : has_root (listed (root_with t ticket)) root ≡ true = lost root v none.arrives in
            let among : has_root (arrival.root ∷ []) root ≡ true = ap (λ (o : Option Arrival). has_root (listed (option_map (λ (a : Arrival). a.root) o)) root) (sym found) ∙ is_found in
            elim (or_cases (root_eq arrival.root root) false among) [
              | inl same ↦ never (own_has (λ (d : DirEntry). d.root) t.dirs (record { number = number; lane = lane; root = arrival.root }) root same) none.is_open
              | inr other ↦ never other refl
            ])
            (λ d. never (more_has (λ (d : DirEntry). d.root) t.dirs (record { number = number; lane = lane; root = arrival.root }) root d) none.is_open);
        comes = λ root at. record {
          among =
              let arrives = λ (same : root_eq arrival.root root ≡ true). from_arriving t root (found_has t.arriving ticket arrival root found same) in
              by_part (has_root (protected_in t) root ≡ true) (after_open t number lane ticket (Some arrival)) root at.among
              (from_base t root)
              (from_cached t root)
              (λ a. elim (active_new t.base t.active arrival root a) [
                | inl was ↦ from_active t root was
                | inr same ↦ arrives same
              ])
              (from_retained t root)
              (λ v. from_arriving t root
              (kept_has (λ (a : Arrival). a.root) (λ (a : Arrival). not (a.ticket == ticket)) t.arriving root v))
              (λ d. elim (last_has (λ (d : DirEntry). d.root) t.dirs (record { number = number; lane = lane; root = arrival.root }) root d) [
                | inl was ↦ from_dirs t root was
                | inr same ↦ arrives same
              ]);
          stored = at.stored;
        };
      }

      of_none : arrival_of t.arriving ticket ≡ None → IsQuiet [] t (after_open t number lane ticket None)
      of_none found = record {
        books = refl;
        stays = λ root at. at.stored;
        goes = λ root at passed.
            let none = in_none (after_open t number lane ticket None) root passed in
            by_part (has_root [] root ≡ true) t root at.among
            (λ b. never b none.based) (λ c. never c none.in_cache) (λ a. never a none.is_active) (λ r. never r none.is_retained)
            (λ v. ap (λ (o : Option Arrival). has_root (listed (option_map (λ (a : Arrival). a.root) o)) root) (sym found) ∙ lost root v none.arrives)
            (λ d. never d none.is_open);
        comes = λ root at. record {
          among = by_part (has_root (protected_in t) root ≡ true) (after_open t number lane ticket None) root at.among
              (from_base t root)
              (from_cached t root)
              (from_active t root)
              (from_retained t root)
              (λ v. from_arriving t root
              (kept_has (λ (a : Arrival). a.root) (λ (a : Arrival). not (a.ticket == ticket)) t.arriving root v))
              (from_dirs t root);
          stored = at.stored;
        };
      }

      quiet : (found : Option Arrival) → arrival_of t.arriving ticket ≡ found → IsQuiet (replaced_by t (arrival_of t.arriving ticket)) t (after_open t number lane ticket (arrival_of t.arriving ticket))
      quiet (Some arrival) found = subst (λ (o : Option Arrival). IsQuiet (replaced_by t o) t (after_open t number lane ticket o)) (sym found) (of_some arrival found)
      quiet None found = subst (λ (o : Option Arrival). IsQuiet (replaced_by t o) t (after_open t number lane ticket o)) (sym found) (of_none found)
