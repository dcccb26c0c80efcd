-- The CRC-32 of a list of bytes. The register's low bit leaves first, so the polynomial is reflected.
use Rattle.std.specs.Prelude.{ℕ, zero, suc, ◌/◌, ◌%◌, ◌==◌, List, fold, bit_xor, if◌then◌else◌}

-- the polynomial, its highest power in the lowest bit
abbrev pub polynomial : ℕ
polynomial = 0xedb88320

-- the register before the first byte, and what is exclusive-ored with it after the last
abbrev pub all_ones : ℕ
all_ones = 0xffffffff

-- one bit leaves to the right; where it was 1, the polynomial is exclusive-ored with the rest
unfoldable pub shifted : ℕ → ℕ
shifted register = if register % 2 == 1 then bit_xor (register / 2) polynomial else register / 2

-- so many bits leave
unfoldable pub shifted_times : ℕ → ℕ → ℕ
shifted_times zero register = register
shifted_times (suc n) register = shifted (shifted_times n register)

-- a byte is exclusive-ored with the low eight bits, and eight bits leave
unfoldable pub after_byte : ℕ → ℕ → ℕ
after_byte register byte = shifted_times 8 (bit_xor register byte)

unfoldable pub crc32 : List ℕ → ℕ
crc32 bytes = bit_xor (fold after_byte all_ones bytes) all_ones
