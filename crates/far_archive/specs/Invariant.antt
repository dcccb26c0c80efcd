-- What an archive in memory keeps of its bytes.
use Rattle.std.specs.Prelude.{◌≡◌, ℕ, ◌^◌, ◌<◌, List, length, None}
use Rattle.far_archive.specs.declared.fields.Places.{Places}
use Rattle.far_archive.specs.Fields.{places}
use Rattle.far_archive.specs.Faults.{first_fault}

-- the bytes are an archive, and its chunks lie in these places
pub record Keeps (bytes : List ℕ) (p : Places) : Type 0 where
  pub small : length bytes < 2 ^ 32
  pub places : p ≡ places bytes
  pub sound : first_fault bytes ≡ None
