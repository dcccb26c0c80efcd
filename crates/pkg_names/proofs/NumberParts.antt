-- Numbers within a text, by the bytes from their place on.
use Rattle.std.proofs.Common.{◌≡◌, ℕ, ◌+◌, ◌-◌, List, take, drop, ap, arith}
use Rattle.std.specs.Int.{Width, byte_len, from_le_bytes}
use Rattle.pkg_names.specs.Numbers.{number_at}

pub number_at-part : (w : Width) (text : List ℕ) (at : ℕ) → number_at w text at ≡ from_le_bytes w (take (byte_len w) (drop at text))
number_at-part w text at =
    let size : at + byte_len w - at ≡ byte_len w = omega arith in
    ap (λ (n : ℕ). from_le_bytes w (take n (drop at text))) size
