-- The repositories of hosts.
use Rattle.std.specs.Prelude.{◌≢◌, ℕ, zero, suc, Bool, List, [], ◌∷◌, find, Option}
use Rattle.std.specs.List.{AllPairs, position_or_len}
use Rattle.std.specs.Option.{option_map}
use Rattle.std.specs.Str.{bytes_eq}
use Rattle.rewrite_rules.specs.declared.hosts.HostRepo.{HostRepo}

-- no host stands twice
abbrev pub AreDistinct : {R : Type 0} → List (HostRepo R) → Type 0
AreDistinct {R} pairs = AllPairs (λ (a b : HostRepo R). a.host ≢ b.host) pairs

abbrev pub has_host : {R : Type 0} → List ℕ → HostRepo R → Bool
has_host host pair = bytes_eq pair.host host

abbrev pub with_other : {R : Type 0} → HostRepo R → R → HostRepo R
with_other pair repo = record { host = pair.host; repo = repo }

-- the repository of a host
abbrev pub repo_of : {R : Type 0} → List (HostRepo R) → List ℕ → Option R
repo_of {R} pairs host = option_map (λ (pair : HostRepo R). pair.repo) (find (has_host host) pairs)

-- the pairs, of which the one at this place has this repository
abbrev pub with_repo_at : {R : Type 0} → List (HostRepo R) → ℕ → R → List (HostRepo R)
with_repo_at [] place repo = []
with_repo_at (pair ∷ pairs) zero repo = with_other pair repo ∷ pairs
with_repo_at (pair ∷ pairs) (suc place) repo = pair ∷ with_repo_at pairs place repo

-- the pairs, of which that of the host has this repository
abbrev pub with_repo : {R : Type 0} → List (HostRepo R) → List ℕ → R → List (HostRepo R)
with_repo pairs host = with_repo_at pairs (position_or_len (has_host host) pairs)
