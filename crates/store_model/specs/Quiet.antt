-- A lane that asks what is missing has to wait.
use Rattle.std.specs.Prelude.{◌≡◌, ◌≢◌, ℕ, false, Contains, None, IsSomeAnd}
use Rattle.pkg_names.specs.declared.root.Root.{Root}
use Rattle.fetch_queue.specs.declared.queue.ClaimEntry.{ClaimEntry}
use Rattle.package_book.specs.Names.{names}
use Rattle.store_model.specs.State.{State, Arrival, is_stored, arrival_of, claim_of}
use Rattle.store_model.specs.Packages.{known_fault}

-- the blob is missing
pub record IsMissing (s : State) (top root : Root) : Type 0 where
  pub named : Contains (names top s.books) root
  pub missing : is_stored s.stock root ≡ false

-- Some blob of the package is missing, and another lane fetches each that is. The package has no mark,
-- and isn't known to be none.
pub record IsQuietFor (s : State) (lane : ℕ) (arrival : Arrival) : Type 0 where
  pub some : (root : Root) × IsMissing s arrival.root root
  pub each : (root : Root) → IsMissing s arrival.root root
      → IsSomeAnd (claim_of s.claims root) (λ (claim : ClaimEntry). claim.lane ≢ lane)
  pub unmarked : arrival.mark ≡ None
  pub no_fault : known_fault s.books arrival.root ≡ None

abbrev pub IsQuiet : State → ℕ → ℕ → Type 0
IsQuiet s lane ticket = IsSomeAnd (arrival_of s.arriving ticket) (IsQuietFor s lane)
