use Rattle.std.proofs.Common.{◌≡◌, ◌+◌, ℕ, List, min, length, refl, sym, ap, subst, ◌∙◌}
use Rattle.open_tracker.specs.declared.dirs.DirEntry.{DirEntry}
use Rattle.fetch_queue.specs.declared.queue.ClaimEntry.{ClaimEntry}
use Rattle.package_indexes.specs.declared.Arriving.{Arriving}
use Rattle.store_model.specs.State.{State}
use Rattle.plain_state.specs.Holdings.{ends_due}
use Rattle.plain_state.proofs.HoldingCounts.{joined_length, sums}
use Rattle.plain_state.proofs.state.State.ends_due.Goals as goal

pub returns : goal.returns
returns c =
    let arriving = ap (λ (xs : List Arriving). length xs) c.arriving-tickets.ensures.list ∙ sym (joined_length c.self.inside.indexes.arriving c.self.inside.queue.marks c.self.invariant) in
    subst (λ (s : State). c.saturating_add-3.result ≡ min (ends_due s) 18446744073709551615) c.self.view_is
    (sums _ _ _ _ _ _ _ (c.saturating_add.ensures ∙ rw (ap (λ (xs : List ClaimEntry). length xs) c.claims-claims.ensures, arriving) refl)
    (c.saturating_add-2.ensures ∙ ap (λ (xs : List DirEntry). min (c.saturating_add.result + length xs) 18446744073709551615) c.entries-dirs.ensures.list)
    (c.saturating_add-3.ensures ∙ ap (λ (n : ℕ). min (c.saturating_add-2.result + n) 18446744073709551615) c.stages.ensures))
