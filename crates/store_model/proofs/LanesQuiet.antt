-- A lane that fetches nothing waits for the answer to its ticket exactly where it is quiet.
use Rattle.std.proofs.Common.{◌≡◌, ◌↔◌, ℕ, ◌+◌, true, false, List, [], ◌∷◌, ◌++◌, map, Option, Some, None, refl, sym, ◌∙◌}
use Rattle.std.specs.Prelude.{◌==◌, IsSomeAnd}
use Rattle.std.proofs.lemmas.Bool.{or_left, or_right}
use Rattle.std.proofs.lemmas.List.Folds.{list_any-append}
use Rattle.pkg_names.specs.declared.root.Root.{Root}
use Rattle.pkg_names.specs.Root.{root_eq}
use Rattle.pkg_names.proofs.Roots.{root_eq-refl}
use Rattle.open_tracker.specs.declared.dirs.DirEntry.{DirEntry}
use Rattle.package_indexes.specs.Indexes.{roots_of}
use Rattle.store_model.specs.declared.events.Event.{Event}
use Rattle.store_model.specs.declared.ends.WantEnd.{WantEnd}
use Rattle.store_model.specs.State.{State, Arrival, arrival_of, holds_claim, has_root, protected_in}
use Rattle.store_model.specs.Settling.{KnowsAll}
use Rattle.store_model.specs.Acts.GaveUp.{IsTicketOf}
use Rattle.store_model.specs.Acts.Want.{want_answer, IsAnswered, IsDueWant}
use Rattle.store_model.specs.Quiet.{IsQuietFor, IsQuiet}
use Rattle.store_model.specs.History.{Beginning, Origin, start, IsLegalFrom, IsLegal, after_from, after}
use Rattle.store_model.specs.History.Beginning.{Lasted, Factory}
use Rattle.store_model.specs.Step.{step}
use Rattle.store_model.proofs.Knowing.{known_after}
use Rattle.store_model.proofs.NoAnswer.{waits as no_answer}
use Rattle.store_model.proofs.LanesLists.{any_made}

-- a package that arrives is protected
pub arriving_protected : (s : State) (ticket : ℕ) (arrival : Arrival) → arrival_of s.arriving ticket ≡ Some arrival → has_root (protected_in s) arrival.root ≡ true
arriving_protected s ticket arrival found =
    let is = λ (other : Root). root_eq other arrival.root in
    let before = roots_of s.base ++ roots_of s.cached ++ roots_of s.active ++ s.retained in
    let arriving = map (λ (a : Arrival). a.root) s.arriving in
    let dirs = map (λ (d : DirEntry). d.root) s.dirs in
    list_any-append is (before ++ arriving) dirs ∙ or_left _ _
    (list_any-append is before arriving ∙ or_right _ _ (any_made (λ (a : Arrival). a.ticket == ticket) is (λ (a : Arrival). a.root) s.arriving arrival found (root_eq-refl arrival.root)))

-- ---- the law

waits_at : (s : State) (lane ticket : ℕ) → KnowsAll s.books (protected_in s) s.stock → holds_claim s.claims lane ≡ false → (found : Option Arrival) → arrival_of s.arriving ticket ≡ found → IsSomeAnd found (λ (a : Arrival). a.lane ≡ lane)
    → IsSomeAnd found (IsQuietFor s lane) ↔ ((reply : WantEnd) → ¬ IsSomeAnd found (IsAnswered s lane reply))
waits_at s lane ticket knows free None found own = absurd own
waits_at s lane ticket knows free (Some arrival) found own =
    let so = no_answer s lane arrival free (knows arrival.root (arriving_protected s ticket arrival found)) in (
      λ quiet reply answered. let both : None ≡ Some reply = sym (so.0 quiet) ∙ answered.answer in absurd (cc both),
      λ never. so.1 (by_answer (want_answer s arrival) refl never),
    ) where
      by_answer : (answer : Option WantEnd) → want_answer s arrival ≡ answer → ((reply : WantEnd) → ¬ IsAnswered s lane reply arrival) → want_answer s arrival ≡ None
      by_answer None is never = is
      by_answer (Some reply) is never = absurd (never reply (record { lane = own; free = free; answer = is }))

pub waits : (s : State) (lane ticket : ℕ) → KnowsAll s.books (protected_in s) s.stock → IsTicketOf s lane ticket → holds_claim s.claims lane ≡ false → IsQuiet s lane ticket ↔ ((reply : WantEnd) → ¬ IsDueWant s lane ticket reply)
waits s lane ticket knows own free = waits_at s lane ticket knows free (arrival_of s.arriving ticket) refl own

-- what the books know in each state that a legal history comes to
knows_from : (s : State) (number : ℕ) (history : List Event) → KnowsAll s.books (protected_in s) s.stock → IsLegalFrom s number history → let t = after_from s number history in KnowsAll t.books (protected_in t) t.stock
knows_from s number [] knows legal = knows
knows_from s number (e ∷ history) knows legal = knows_from (step s number e) (number + 1) history (known_after s number e legal.0) legal.1

knows_start : (origin : Origin) → KnowsAll (start origin).books (protected_in (start origin)) (start origin).stock
knows_start origin = by_beginning origin.beginning where
  by_beginning : (beginning : Beginning) → let s = start (record { geometry = origin.geometry; beginning = beginning }) in KnowsAll s.books (protected_in s) s.stock
  by_beginning (Lasted d) root among stored = absurd (cc among)
  by_beginning Factory root among stored = absurd (cc among)

pub knows_always : (origin : Origin) (history : List Event) → IsLegal origin history → KnowsAll (after origin history).books (protected_in (after origin history)) (after origin history).stock
knows_always origin history legal = knows_from (start origin) 1 history (knows_start origin) legal
