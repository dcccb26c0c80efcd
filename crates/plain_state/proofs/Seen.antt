-- What was looked at is stored, and has its root among those that were looked at.
use Rattle.std.proofs.Common.{◌≡◌, inl, inr, ℕ, true, List, [], ◌∷◌, Option, is_some, sym, ap, ◌∙◌}
use Rattle.std.proofs.lemmas.Bool.{cases_Bool, or_left, or_right}
use Rattle.pkg_names.specs.declared.root.Root.{Root}
use Rattle.pkg_names.specs.Root.{root_eq}
use Rattle.pkg_names.proofs.Roots.{root_eq-true}
use Rattle.store_model.specs.declared.events.LookedAt.{LookedAt}
use Rattle.store_model.specs.State.{Stored, is_stored, has_root}
use Rattle.store_model.specs.Settling.{IsSeen}
use Rattle.store_model.specs.Systems.{seen_bytes}
use Rattle.plain_state.specs.Looking.{roots_seen}

pub seen_stored : (seen : List LookedAt) (stock : List Stored) (root : Root) → IsSeen seen stock → is_some (seen_bytes seen root) ≡ true → is_stored stock root ≡ true
seen_stored [] stock root all found = absurd cc
seen_stored (pair ∷ seen) stock root all found =
    elim (cases_Bool (root_eq pair.root root)) [
      | inl same ↦ ap (is_stored stock) (sym (root_eq-true pair.root root same)) ∙ ap (λ (o : Option ℕ). is_some o) all.1
      | inr differs ↦ seen_stored seen stock root all.3 (rw differs at found)
    ]

pub seen_rooted : (seen : List LookedAt) (root : Root) → is_some (seen_bytes seen root) ≡ true → has_root (roots_seen seen) root ≡ true
seen_rooted [] root found = absurd cc
seen_rooted (pair ∷ seen) root found =
    elim (cases_Bool (root_eq pair.root root)) [
      | inl same ↦ or_left (root_eq pair.root root) (has_root (roots_seen seen) root) same
      | inr differs ↦ or_right (root_eq pair.root root) (has_root (roots_seen seen) root) (seen_rooted seen root (rw differs at found))
    ]
