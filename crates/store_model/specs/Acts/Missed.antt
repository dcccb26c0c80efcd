-- A claim ends without bytes. One that ends for want of memory marks nothing.
use Rattle.std.specs.Prelude.{◌≡◌, ℕ, IsSomeAnd}
use Rattle.pkg_names.specs.declared.root.Root.{Root}
use Rattle.fetch_queue.specs.declared.FetchEnd.TheVariants as ends
use Rattle.fetch_queue.specs.declared.queue.ClaimEntry.{ClaimEntry}
use Rattle.store_model.specs.declared.ends.Miss.{Miss}
use Rattle.store_model.specs.declared.ends.Miss.TheVariants as misses
use Rattle.store_model.specs.State.{State, claim_of}
use Rattle.store_model.specs.Acts.Marking.{ended, unclaimed}

-- the claim of the root is the lane's
abbrev pub IsClaimOf : State → ℕ → Root → Type 0
IsClaimOf s lane root = IsSomeAnd (claim_of s.claims root) (λ (claim : ClaimEntry). claim.lane ≡ lane)

abbrev pub IsDueMissed : State → ℕ → Root → Type 0
IsDueMissed s lane root = IsClaimOf s lane root

abbrev pub next_missed : State → Root → Miss → State
next_missed s root misses.Absent = ended s root ends.Absent
next_missed s root misses.Read = ended s root ends.Read
next_missed s root misses.Memory = unclaimed s root
