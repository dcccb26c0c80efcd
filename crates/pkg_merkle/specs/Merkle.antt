-- The Merkle root of a blob. A blob is a list of bytes. Its root is made level by level: the bytes of
-- level 0 are the blob, and those of each level above are the joined hashes of the blocks below.
use Rattle.std.specs.Prelude.{◌≡◌, ℕ, zero, suc, ◌+◌, ◌-◌, ◌*◌, ◌/◌, ◌%◌, max, ◌==◌, if◌then◌else◌, List, [], ◌∷◌, ◌++◌, length, take, drop, replicate}
use Rattle.std.specs.Int.{w32, w64, to_le_bytes}
use Rattle.std.specs.Int.Bits.{bit_or}
use Rattle.std.specs.List.{flat_map}
use Rattle.sha2.specs.Sha256.{sha256}
use Rattle.pkg_names.specs.declared.root.Root.{Root}

-- block i of a level's bytes: 8192 of them, or those that are left
abbrev pub block : List ℕ → ℕ → List ℕ
block bytes i = take 8192 (drop (8192 * i) bytes)

-- how many blocks the bytes are cut into; no bytes are one empty block
abbrev pub block_count : List ℕ → ℕ
block_count bytes = max 1 ((length bytes + 8191) / 8192)

-- what is hashed before block i of a level: the block's offset joined bit by bit with the level, as
-- 8 bytes, and a size, as 4 bytes, both low byte first
unfoldable pub head : ℕ → ℕ → ℕ → List ℕ
head level i size = to_le_bytes w64 (bit_or (8192 * i) level) ++ to_le_bytes w32 size

-- the size in the head: a data block's own, and always 8192 for a block of hashes
abbrev pub told_size : ℕ → List ℕ → ℕ
told_size zero contents = length contents
told_size (suc level) contents = 8192

-- zero bytes up to the next multiple of 8192: a full block needs none, and an empty one gets none
abbrev pub filling : List ℕ → List ℕ
filling contents = replicate ((8192 - length contents) % 8192) 0

-- what is hashed of a block with these contents
unfoldable pub block_input : ℕ → ℕ → List ℕ → List ℕ
block_input level i contents = head level i (told_size level contents) ++ contents ++ filling contents

-- what is hashed of the first n blocks of a level, block after block
unfoldable pub first_inputs : ℕ → List ℕ → ℕ → List (List ℕ)
first_inputs level bytes zero = []
first_inputs level bytes (suc n) = first_inputs level bytes n ++ block_input level n (block bytes n) ∷ []

-- the joined hashes of the first n blocks of a level
abbrev pub first_hashes : ℕ → List ℕ → ℕ → List ℕ
first_hashes level bytes n = flat_map sha256 (first_inputs level bytes n)

-- what is hashed of all blocks of a level
abbrev pub level_inputs : ℕ → List ℕ → List (List ℕ)
level_inputs level bytes = first_inputs level bytes (block_count bytes)

-- the joined hashes of all blocks of a level: the bytes of the level above
abbrev pub hashes : ℕ → List ℕ → List ℕ
hashes level bytes = first_hashes level bytes (block_count bytes)

-- the one hash that is left above a level's bytes, with at most n levels between: the hash of the
-- one block, or what is left above the joined hashes
unfoldable pub root_above : ℕ → ℕ → List ℕ → List ℕ
root_above zero level bytes = hashes level bytes
root_above (suc n) level bytes =
    if block_count bytes == 1 then hashes level bytes else root_above n (suc level) (hashes level bytes)

-- the Merkle root of a blob; it has fewer levels than bytes
unfoldable pub merkle_root : List ℕ → Root
merkle_root bytes = record { 0 = root_above (length bytes) 0 bytes }

-- what is hashed of a level and of the levels above it, at most n more, in the order of the levels
unfoldable pub inputs_above : ℕ → ℕ → List ℕ → List (List ℕ)
inputs_above zero level bytes = level_inputs level bytes
inputs_above (suc n) level bytes =
    if block_count bytes == 1 then level_inputs level bytes
    else level_inputs level bytes ++ inputs_above n (suc level) (hashes level bytes)

-- all that is hashed with SHA-256 for the root of a blob
unfoldable pub inputs : List ℕ → List (List ℕ)
inputs bytes = inputs_above (length bytes) 0 bytes

-- the hash is the SHA-256 of the last of these inputs
pub record HashesLast (from : List (List ℕ)) (hash : List ℕ) : Type 0 where
  pub before : List (List ℕ)
  pub last : List ℕ
  pub is : from ≡ before ++ last ∷ []
  pub hashed : hash ≡ sha256 last
