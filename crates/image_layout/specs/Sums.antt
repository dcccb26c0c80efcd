-- The sum of an image: its length and its SHA-256.
use Rattle.std.specs.Prelude.{ℕ, List, length}
use Rattle.sha2.specs.Sha256.{sha256}
use Rattle.image_layout.specs.declared.ImageSum.{ImageSum}

abbrev pub image_sum : List ℕ → ImageSum
image_sum bytes = record { len = length bytes; sha = sha256 bytes }
