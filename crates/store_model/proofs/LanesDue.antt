-- Where a lane isn't quiet, an answer to its ticket is due as the next event.
use Rattle.std.proofs.Common.{◌≡◌, ◌↔◌, ℕ, ◌+◌, Bool, true, false, not, ◌||◌, List, [], ◌∷◌, ◌++◌, map, length, Option, Some, None, is_some, inl, inr, refl, sym, subst, ◌∙◌}
use Rattle.std.specs.Prelude.{filter, ◌==◌, ◌⊎◌, IsSomeAnd}
use Rattle.std.specs.List.{list_any}
use Rattle.std.proofs.lemmas.Bool.{cases_Bool, or_cases, or_left, or_right}
use Rattle.std.proofs.lemmas.List.Folds.{list_any-append}
use Rattle.pkg_names.specs.NameAndVariant.{NameAndVariant, path_eq}
use Rattle.pkg_names.specs.declared.root.Root.{Root}
use Rattle.pkg_names.specs.declared.pinned.Pinned.{Pinned}
use Rattle.pkg_names.specs.Root.{root_eq}
use Rattle.open_tracker.specs.declared.dirs.DirEntry.{DirEntry}
use Rattle.package_indexes.specs.Indexes.{root_at, with_root, roots_of, protected}
use Rattle.store_model.specs.declared.events.Event.{Event}
use Rattle.store_model.specs.declared.events.Act.TheVariants.{Want}
use Rattle.store_model.specs.declared.ends.WantEnd.{WantEnd}
use Rattle.store_model.specs.declared.ends.WantEnd.TheVariants as wants
use Rattle.store_model.specs.State.{State, Arrival, arrival_of, without_ticket, holds_claim, has_root, protected_in}
use Rattle.store_model.specs.Settling.{KnowsAll}
use Rattle.store_model.specs.Acts.GaveUp.{IsTicketOf}
use Rattle.store_model.specs.Acts.Want.{IsAnswered, with_directory, with_active, next_want}
use Rattle.store_model.specs.Quiet.{IsQuiet}
use Rattle.store_model.specs.Step.{IsDue}
use Rattle.store_model.specs.History.{Origin, IsLegal, after}
use Rattle.store_model.proofs.Knowing.{knows_long}
use Rattle.store_model.proofs.LanesQuiet.{waits, knows_always}
use Rattle.store_model.proofs.LanesLists.{any_made}

-- ---- what is protected after an answer was before

pub parts : (root : Root) (base cached active : List Pinned) (retained arriving dirs : List Root)
    → has_root (protected base cached active retained arriving dirs) root
    ≡ (((((has_root (roots_of base) root || has_root (roots_of cached) root) || has_root (roots_of active) root) || has_root retained root) || has_root arriving root) || has_root dirs root)
parts root base cached active retained arriving dirs = simp list_any-append

narrower : (b c a aa r n nn d dd : Bool) → (aa ≡ true → (a ≡ true) ⊎ (n ≡ true)) → (nn ≡ true → n ≡ true) → (dd ≡ true → (d ≡ true) ⊎ (n ≡ true))
    → (((((b || c) || aa) || r) || nn) || dd) ≡ true → (((((b || c) || a) || r) || n) || d) ≡ true
narrower true c a aa r n nn d dd active arriving dirs one = refl
narrower false true a aa r n nn d dd active arriving dirs one = refl
narrower false false true aa r n nn d dd active arriving dirs one = refl
narrower false false false aa true n nn d dd active arriving dirs one = refl
narrower false false false aa false true nn d dd active arriving dirs one = refl
narrower false false false aa false false nn true dd active arriving dirs one = refl
narrower false false false true false false nn false dd active arriving dirs one = elim (active refl) [ inl h ↦ h | inr h ↦ h ]
narrower false false false false false false true false dd active arriving dirs one = arriving refl
narrower false false false false false false false false true active arriving dirs one = elim (dirs refl) [ inl h ↦ h | inr h ↦ h ]
narrower false false false false false false false false false active arriving dirs one = one

-- what is left of the tickets
left_tickets : (q : Root → Bool) (keep : Arrival → Bool) (arriving : List Arrival) → list_any q (map (λ (a : Arrival). a.root) (filter keep arriving)) ≡ true → list_any q (map (λ (a : Arrival). a.root) arriving) ≡ true
left_tickets q keep [] one = absurd (cc one)
left_tickets q keep (a ∷ arriving) one =
    elim (cases_Bool (keep a)) [
      | inl stays ↦ elim (or_cases (q a.root) (list_any q (map (λ (x : Arrival). x.root) (filter keep arriving))) (rw stays at one)) [
        | inl here ↦ or_left _ _ here
        | inr later ↦ or_right _ _ (left_tickets q keep arriving later)
      ]
      | inr goes ↦ or_right _ _ (left_tickets q keep arriving (rw goes at one))
    ]

one_dir : (q : Root → Bool) (dirs : List DirEntry) (dir : DirEntry) → list_any q (map (λ (d : DirEntry). d.root) (dirs ++ dir ∷ [])) ≡ true → (list_any q (map (λ (d : DirEntry). d.root) dirs) ≡ true) ⊎ (q dir.root ≡ true)
one_dir q [] dir one = elim (or_cases (q dir.root) false one) [ inl here ↦ inr here | inr never ↦ absurd (cc never) ]
one_dir q (d ∷ dirs) dir one =
    elim (or_cases (q d.root) (list_any q (map (λ (x : DirEntry). x.root) (dirs ++ dir ∷ []))) one) [
      | inl here ↦ inl (or_left _ _ here)
      | inr later ↦ elim (one_dir q dirs dir later) [ inl there ↦ inl (or_right _ _ there) | inr last ↦ inr last ]
    ]

one_active : (q : Root → Bool) (active : List Pinned) (path : NameAndVariant) (top : Root) → list_any q (roots_of (with_root active path top)) ≡ true → (list_any q (roots_of active) ≡ true) ⊎ (q top ≡ true)
one_active q [] path top one = elim (or_cases (q top) false one) [ inl here ↦ inr here | inr never ↦ absurd (cc never) ]
one_active q (pair ∷ active) path top one =
    elim (cases_Bool (path_eq pair.path path)) [
      | inl same ↦ elim (or_cases (q top) (list_any q (roots_of active)) (rw same at one)) [
        | inl here ↦ inr here
        | inr later ↦ inl (or_right _ _ later)
      ]
      | inr other ↦ elim (or_cases (q pair.root) (list_any q (roots_of (with_root active path top))) (rw other at one)) [
        | inl here ↦ inl (or_left _ _ here)
        | inr later ↦ elim (one_active q active path top later) [ inl there ↦ inl (or_right _ _ there) | inr new ↦ inr new ]
      ]
    ]

one_with_active : (q : Root → Bool) (base active : List Pinned) (arrival : Arrival) → list_any q (roots_of (with_active base active (Some arrival))) ≡ true → (list_any q (roots_of active) ≡ true) ⊎ (q arrival.root ≡ true)
one_with_active q base active arrival one =
    elim (cases_Bool (is_some (root_at base arrival.path))) [
      | inl based ↦ inl (rw based at one)
      | inr free ↦ one_active q active arrival.path arrival.root (rw free at one)
    ]

shrinks : (root : Root) (base cached active aa : List Pinned) (retained arriving nn dirs dd : List Root)
    → (has_root (roots_of aa) root ≡ true → (has_root (roots_of active) root ≡ true) ⊎ (has_root arriving root ≡ true))
    → (has_root nn root ≡ true → has_root arriving root ≡ true)
    → (has_root dd root ≡ true → (has_root dirs root ≡ true) ⊎ (has_root arriving root ≡ true))
    → has_root (protected base cached aa retained nn dd) root ≡ true → has_root (protected base cached active retained arriving dirs) root ≡ true
shrinks root base cached active aa retained arriving nn dirs dd in_active in_arriving in_dirs one =
    parts root base cached active retained arriving dirs ∙ narrower (has_root (roots_of base) root) (has_root (roots_of cached) root) _ _ (has_root retained root) _ _ _ _ in_active in_arriving in_dirs (sym (parts root base cached aa retained nn dd) ∙ one)

still_protected : (s : State) (number lane ticket : ℕ) (reply : WantEnd) (arrival : Arrival) → arrival_of s.arriving ticket ≡ Some arrival → (root : Root) → has_root (protected_in (next_want s number lane ticket reply)) root ≡ true → has_root (protected_in s) root ≡ true
still_protected s number lane ticket (wants.Fetch blob) arrival found root one = one
still_protected s number lane ticket (wants.Failed cause) arrival found root one =
    shrinks root s.base s.cached s.active s.active s.retained (map (λ (a : Arrival). a.root) s.arriving) (map (λ (a : Arrival). a.root) (without_ticket s.arriving ticket)) (map (λ (d : DirEntry). d.root) s.dirs) (map (λ (d : DirEntry). d.root) s.dirs)
    (λ h. inl h) (left_tickets (λ other. root_eq other root) (λ (a : Arrival). not (a.ticket == ticket)) s.arriving) (λ h. inl h) one
still_protected s number lane ticket wants.Opened arrival found root one =
    shrinks root s.base s.cached s.active (with_active s.base s.active (Some arrival)) s.retained (map (λ (a : Arrival). a.root) s.arriving) (map (λ (a : Arrival). a.root) (without_ticket s.arriving ticket)) (map (λ (d : DirEntry). d.root) s.dirs) (map (λ (d : DirEntry). d.root) (with_directory s.dirs number lane (Some arrival)))
    (λ h. moved (one_with_active (λ other. root_eq other root) s.base s.active arrival h))
    (left_tickets (λ other. root_eq other root) (λ (a : Arrival). not (a.ticket == ticket)) s.arriving)
    (λ h. moved (one_dir (λ other. root_eq other root) s.dirs (record { number = number; lane = lane; root = arrival.root }) h))
    (subst (λ (o : Option Arrival). has_root (protected s.base s.cached (with_active s.base s.active o) s.retained (map (λ (a : Arrival). a.root) (without_ticket s.arriving ticket)) (map (λ (d : DirEntry). d.root) (with_directory s.dirs number lane o))) root ≡ true) found one) where
      moved : {P : Type 0} → P ⊎ (root_eq arrival.root root ≡ true) → P ⊎ (has_root (map (λ (a : Arrival). a.root) s.arriving) root ≡ true)
      moved (inl p) = inl p
      moved (inr same) = inr (any_made (λ (a : Arrival). a.ticket == ticket) (λ other. root_eq other root) (λ (a : Arrival). a.root) s.arriving arrival found same)

-- ---- the event

abbrev asks : ℕ → ℕ → WantEnd → Event
asks lane ticket reply = record { lane = lane; act = Want ticket reply; broke = false }

event_due : (s : State) (number lane ticket : ℕ) (reply : WantEnd) (found : Option Arrival) → KnowsAll s.books (protected_in s) s.stock → s.booted ≡ true → s.broken ≡ None → arrival_of s.arriving ticket ≡ found → IsSomeAnd found (IsAnswered s lane reply) → IsDue s number (asks lane ticket reply)
event_due s number lane ticket reply None knows booted whole is due = absurd due
event_due s number lane ticket reply (Some arrival) knows booted whole is due = record {
  boots = rw booted refl;
  goes_on = rw whole refl;
  due = subst (λ (o : Option Arrival). IsSomeAnd o (IsAnswered s lane reply)) (sym is) due;
  looked = λ root among stored. knows_long s.books s.stock root (knows root (still_protected s number lane ticket reply arrival is root among) stored);
  seen = tt;
}

pub waits_then : (s : State) (number lane ticket : ℕ) → KnowsAll s.books (protected_in s) s.stock → s.booted ≡ true → s.broken ≡ None → IsTicketOf s lane ticket → holds_claim s.claims lane ≡ false → IsQuiet s lane ticket ↔ ((reply : WantEnd) → ¬ IsDue s number (asks lane ticket reply))
waits_then s number lane ticket knows booted whole own free =
    let so = waits s lane ticket knows own free in (
      λ quiet reply due. so.0 quiet reply due.due,
      λ never. so.1 (λ reply due. never reply (event_due s number lane ticket reply (arrival_of s.arriving ticket) knows booted whole refl due)),
    )

pub waits_after : (origin : Origin) (history : List Event) (lane ticket : ℕ) → IsLegal origin history → (after origin history).booted ≡ true → (after origin history).broken ≡ None → IsTicketOf (after origin history) lane ticket → holds_claim (after origin history).claims lane ≡ false
    → IsQuiet (after origin history) lane ticket ↔ ((reply : WantEnd) → ¬ IsDue (after origin history) (length history + 1) (asks lane ticket reply))
waits_after origin history lane ticket legal booted whole own free =
    waits_then (after origin history) (length history + 1) lane ticket (knows_always origin history legal) booted whole own free
