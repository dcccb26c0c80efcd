-- What contracts see of a depot.
use Rattle.std.specs.Prelude.{◌≡◌, ℕ, zero, suc, ◌+◌, List, [], ◌∷◌, ◌++◌, length, Option, Some, slice_get}
use Rattle.pkg_merkle.specs.Hasher.{StandsFor}
use Rattle.pkg_merkle.specs.declared.hasher.Hasher.{Hasher}
use Rattle.turn_lock.specs.Entries.{entries_by}
use Rattle.turn_lock.specs.Rule.{Log, log}
use Rattle.turn_lock.specs.Sitting.{Sitting, mine}
use Rattle.threads_tests.specs.declared.depot.Put.{Put}

pub record Stock (D : Type 0) : Type 0 where
  -- the disk as it was at the beginning
  pub begun : D
  pub puts : List Put
  -- a draft for each lane
  pub drafts : List Hasher

-- the numbers go up by one, from n on
abbrev pub AreNumbered : ℕ → List Put → Type 0
AreNumbered n [] = Unit {0}
AreNumbered n (p ∷ ps) = (p.number ≡ n) × AreNumbered (n + 1) ps

abbrev pub depot_log : {D : Type 0} → Log (Stock D) Put D (Option Hasher)
depot_log {D} = log
    (λ (s : Stock D). s.puts) (λ p. p.lane) (λ (s : Stock D). s.begun) (λ lane (s : Stock D). slice_get s.drafts lane)

-- there is a draft, and it was fed these bytes
abbrev pub Drafted : Option Hasher → List ℕ → Type 0
Drafted draft blob = (h : Hasher) × (draft ≡ Some h) × StandsFor h blob

-- the bytes so often
abbrev pub repeated : ℕ → List ℕ → List ℕ
repeated zero bytes = []
repeated (suc n) bytes = repeated n bytes ++ bytes

-- so many turns of the seat s, which is t then, put the piece: it has so many entries more, and what its draft was fed
-- before, it was fed with these pieces behind it
pub record PutTimes {D : Type 0} (piece : List ℕ) (n : ℕ) (s t : Sitting (Stock D)) : Type 0 where
  pub seat : t ≡ record s { seen = t.seen; kept = t.kept }
  pub count : length (mine (λ (x : Stock D). x.puts) (λ p. p.lane) t)
      ≡ length (mine (λ (x : Stock D). x.puts) (λ p. p.lane) s) + n
  pub draft : (blob : List ℕ) → Drafted (slice_get s.kept.drafts s.lane) blob
      → Drafted (slice_get t.kept.drafts t.lane) (blob ++ repeated n piece)

-- the lane has so many entries, and its draft was fed the piece as often
pub record HasPut {D : Type 0} (x : Stock D) (lane : ℕ) (piece : List ℕ) (n : ℕ) : Type 0 where
  pub count : length (entries_by (λ (p : Put). p.lane) lane x.puts) ≡ n
  pub draft : Drafted (slice_get x.drafts lane) (repeated n piece)
