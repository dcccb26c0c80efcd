-- The parts that an event keeps; the number of the write that failed stays; what a collection leaves.
use Rattle.std.proofs.Common.{◌≡◌, ℕ, suc, true, false, sym, ◌+◌, ◌<◌, length, arith, cond, List, [], ◌∷◌, ◌++◌, Some, None, inl, inr, refl, ap, ◌∙◌, rules}
use Rattle.std.proofs.lemmas.Bool.{cases_Bool}
use Rattle.pkg_names.specs.declared.root.Root.{Root}
use Rattle.pkg_names.specs.Root.{root_eq}
use Rattle.pkg_names.proofs.Roots.{root_eq-true}
use Rattle.store_model.specs.declared.events.Event.{Event}
use Rattle.store_model.specs.State.{State, Stored, stored_len, has_root, without_blobs}
use Rattle.store_model.specs.Footprints.{footprint, KeepsRest}
use Rattle.store_model.specs.Lanes.{BrokeAt, BrokeIn}
use Rattle.store_model.specs.Step.{IsDue, step}
use Rattle.store_model.specs.History.Beginning.{Lasted, Factory}
use Rattle.store_model.specs.History.{Beginning, Origin, start, IsLegalFrom, IsLegal, after_from, after}

-- an event keeps what isn't in its footprint
pub keeps_rest : (s : State) (number : ℕ) (e : Event) → KeepsRest (footprint e) s (step s number e)
keeps_rest s number e = search rules

-- ---- the write that failed

pub stays_broken : (s : State) (number first : ℕ) (e : Event) → IsDue s number e → s.broken ≡ Some first → (step s number e).broken ≡ Some first
stays_broken s number first e due is = search rules

stays_from : (s : State) (number first : ℕ) (more : List Event) → IsLegalFrom s number more → s.broken ≡ Some first → (after_from s number more).broken ≡ Some first
stays_from s number first [] legal is = is
stays_from s number first (e ∷ more) legal is =
    stays_from (step s number e) (number + 1) first more legal.1 (stays_broken s number first e legal.0 is)

stays_after : (s : State) (number first : ℕ) (history more : List Event) → IsLegalFrom s number (history ++ more) → (after_from s number history).broken ≡ Some first → (after_from s number (history ++ more)).broken ≡ Some first
stays_after s number first [] more legal is = stays_from s number first more legal is
stays_after s number first (e ∷ history) more legal is = stays_after (step s number e) (number + 1) first history more legal.1 is

-- the first write that failed stays noted in a history that goes on
pub stays_noted : (origin : Origin) (history more : List Event) (first : ℕ) → IsLegal origin (history ++ more) → (after origin history).broken ≡ Some first → (after origin (history ++ more)).broken ≡ Some first
stays_noted origin history more first legal is = stays_after (start origin) 1 first history more legal is

starts_whole : (origin : Origin) → (start origin).broken ≡ None
starts_whole origin = by_beginning origin.beginning where
  by_beginning : (beginning : Beginning) → (start (record { geometry = origin.geometry; beginning = beginning })).broken ≡ None
  by_beginning (Lasted d) = refl
  by_beginning Factory = refl

first_of_all : (s : State) (number : ℕ) (e : Event) → s.broken ≡ None → IsDue s number e → e.broke ≡ false → (step s number e).broken ≡ None
first_of_all s number e none due unbroken = search rules

noted : (s : State) (number : ℕ) (e : Event) → e.broke ≡ true → (step s number e).broken ≡ Some number
noted s number e broke = search rules

broke_from : (s : State) (number named : ℕ) (history : List Event) → IsLegalFrom s number history → s.broken ≡ None → (after_from s number history).broken ≡ Some named → (k : ℕ) × (named ≡ number + k) × (k < length history) × BrokeAt history k
broke_from s number named [] legal none is = absurd (cc)
broke_from s number named (e ∷ history) legal none is =
    elim (cases_Bool e.broke) [
      | inl broke ↦
          let last = stays_from (step s number e) (number + 1) number history legal.1 (noted s number e broke) in
          let both : Some named ≡ Some number = sym is ∙ last in
          let same : named ≡ number = cc both in
          (0, omega arith, omega arith, λ d. broke)
      | inr unbroken ↦
          let more = broke_from (step s number e) (number + 1) named history legal.1 (first_of_all s number e none legal.0 unbroken) is in
          (suc more.0, omega (arith, more.1), omega (arith, more.2), λ d. more.3 d)
    ]

-- what is noted is the number of an event in which a write failed
pub noted_broke : (origin : Origin) (history : List Event) (named : ℕ) → IsLegal origin history → (after origin history).broken ≡ Some named → BrokeIn history named
noted_broke origin history named legal is =
    let found = broke_from (start origin) 1 named history legal (starts_whole origin) is in
    record { place = found.0; number = omega (arith, found.1); within = found.2; broke = found.3 }

-- ---- what a collection leaves

-- the lengths of what is left
pub left_len : (stock : List Stored) (roots : List Root) (root : Root) → stored_len (without_blobs stock roots) root ≡ cond (has_root roots root) None (stored_len stock root)
left_len [] roots root = elim (cases_Bool (has_root roots root)) [ inl holds ↦ rw holds refl | inr lacks ↦ rw lacks refl ]
left_len (blob ∷ stock) roots root =
    elim (cases_Bool (root_eq blob.root root)) [
      | inl same ↦ here (root_eq-true blob.root root same) same (left_len stock roots root)
      | inr other ↦ elim (cases_Bool (has_root roots blob.root)) [
        | inl goes ↦ rw (goes, other) (left_len stock roots root)
        | inr stays ↦ rw (stays, other) (left_len stock roots root)
      ]
    ] where
      here : blob.root ≡ root → root_eq blob.root root ≡ true → stored_len (without_blobs stock roots) root ≡ cond (has_root roots root) None (stored_len stock root) → stored_len (without_blobs (blob ∷ stock) roots) root ≡ cond (has_root roots root) None (stored_len (blob ∷ stock) root)
      here is same rest =
          let moved = ap (has_root roots) is in
          elim (cases_Bool (has_root roots root)) [
            | inl holds ↦ rw (moved ∙ holds, holds) (rest ∙ rw holds refl)
            | inr lacks ↦ rw (moved ∙ lacks, lacks, same) refl
          ]
