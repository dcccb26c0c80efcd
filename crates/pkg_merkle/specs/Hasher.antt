-- What a hasher keeps of the bytes that it was fed.
use Rattle.std.specs.Prelude.{◌≡◌, ℕ, ◌-◌, ◌*◌, ◌/◌, ◌%◌, ◌≤◌, List, ◌++◌, length, take, drop}
use Rattle.sha2.specs.Hashers.{Holds256}
use Rattle.pkg_merkle.specs.declared.hasher.TheConstants.{BYTES_LIMIT}
use Rattle.pkg_merkle.specs.Merkle.{head, first_hashes}
use Rattle.pkg_merkle.specs.declared.level.Level.{Level}
use Rattle.pkg_merkle.specs.declared.tree.Tree.{Tree}
use Rattle.pkg_merkle.specs.declared.hasher.Hasher.{Hasher}

-- the bytes of a level after its whole blocks
abbrev pub open_block : List ℕ → List ℕ
open_block bytes = drop (8192 * (length bytes / 8192)) bytes

-- the level of this number, above the data, has these bytes: its state holds the head and the bytes of
-- the open block, and it has the last hash
pub record LevelHolds (number : ℕ) (level : Level) (bytes : List ℕ) : Type 0 where
  pub state : Holds256 level.state (head number (length bytes / 8192) 8192 ++ open_block bytes)
  pub last : 32 ≤ length bytes → level.last ≡ drop (length bytes - 32) bytes

-- the levels have the hashes of the first n data blocks, and those of the whole blocks of these hashes
pub record TreeHolds (tree : Tree) (bytes : List ℕ) (n : ℕ) : Type 0 where
  pub hashes : LevelHolds 1 tree.hashes (first_hashes 0 bytes n)
  pub above : LevelHolds 2 tree.above (first_hashes 1 (first_hashes 0 bytes n) (n / 256))

-- how many bytes the hasher was fed
abbrev pub byte_count : Hasher → ℕ
byte_count hasher = hasher.length

-- the hasher was fed these bytes
pub record StandsFor (hasher : Hasher) (bytes : List ℕ) : Type 0 where
  pub count : byte_count hasher ≡ length bytes
  pub within : length bytes ≤ BYTES_LIMIT
  pub block : take (length bytes % 8192) hasher.buffer ≡ open_block bytes
  pub tree : TreeHolds hasher.tree bytes (length bytes / 8192)
