-- Numbers within a text, the low byte first.
use Rattle.std.specs.Prelude.{ℕ, ◌+◌, List, slice_range}
use Rattle.std.specs.Int.{Width, byte_len, from_le_bytes}

-- the number of this width at this place
abbrev pub number_at : Width → List ℕ → ℕ → ℕ
number_at w text at = from_le_bytes w (slice_range text at (at + byte_len w))
