-- The bytes of a claimed blob are there.
use Rattle.std.specs.Prelude.{◌≡◌, ℕ, ◌<◌, false, Option, Some, None, IsSomeAnd, [], ◌∷◌, ◌++◌}
use Rattle.pkg_names.specs.declared.root.Root.{Root}
use Rattle.pkg_names.specs.Root.{root_eq}
use Rattle.fetch_queue.specs.declared.FetchEnd.{FetchEnd}
use Rattle.fetch_queue.specs.declared.FetchEnd.TheVariants.{Short, Wrong}
use Rattle.fetch_queue.specs.Fetches.{without_claim}
use Rattle.store_model.specs.State.{State, claim_of}
use Rattle.store_model.specs.Acts.Marking.{ended}
use Rattle.store_model.specs.Acts.Put.{IsRoomOf}

-- it lands, or the bytes are too few, or they have another root
abbrev pub IsLanding : Root → ℕ → Option FetchEnd → Type 0
IsLanding root len None = Unit {0}
IsLanding root len (Some (Short have)) = have < len
IsLanding root len (Some (Wrong got)) = root_eq root got ≡ false
IsLanding root len (Some end) = ⊥

abbrev pub IsDueLand : State → ℕ → Root → ℕ → Option FetchEnd → Type 0
IsDueLand s lane root len reply = IsSomeAnd (claim_of s.claims root) (IsRoomOf lane len) × IsLanding root len reply

abbrev pub next_land : State → Root → ℕ → Option FetchEnd → State
next_land s root len None = record s {
  stock = s.stock ++ record { root = root; len = len } ∷ [];
  claims = without_claim s.claims root;
}
next_land s root len (Some end) = ended s root end
