-- More bytes came for a claimed blob than were declared.
use Rattle.std.specs.Prelude.{◌≡◌, ℕ, Option, Some, None, IsSomeAnd}
use Rattle.pkg_names.specs.declared.root.Root.{Root}
use Rattle.fetch_queue.specs.declared.FetchEnd.{FetchEnd}
use Rattle.fetch_queue.specs.declared.FetchEnd.TheVariants.{Long}
use Rattle.fetch_queue.specs.declared.queue.ClaimEntry.{ClaimEntry}
use Rattle.store_model.specs.State.{State, claim_of}
use Rattle.store_model.specs.Acts.Marking.{ended}

-- the claim is the lane's, and has room of this length
pub record IsRoomOf (by len : ℕ) (claim : ClaimEntry) : Type 0 where
  pub lane : claim.lane ≡ by
  pub room : claim.len ≡ Some len

abbrev pub IsDuePut : State → ℕ → Root → Option FetchEnd → Type 0
IsDuePut s lane root (Some (Long len)) = IsSomeAnd (claim_of s.claims root) (IsRoomOf lane len)
IsDuePut s lane root reply = ⊥

abbrev pub next_put : State → Root → Option FetchEnd → State
next_put s root None = s
next_put s root (Some end) = ended s root end
