-- What two blobs of one root show: they are equal, or SHA-256 collides among their inputs.
use Rattle.std.specs.Prelude.{◌≡◌, ◌≢◌, ℕ, ◌+◌, ◌*◌, ◌%◌, ◌<◌, ◌≤◌, List, length, take, drop, replicate}
use Rattle.std.specs.List.{Contains}
use Rattle.sha2.specs.Sha256.{sha256}
use Rattle.pkg_merkle.specs.Merkle.{block_input, inputs_above, root_above}
use Rattle.pkg_merkle.specs.declared.binding.Binding.{Binding}
use Rattle.pkg_merkle.specs.declared.binding.Binding.TheVariants.{Same, Collision, ZeroDigest}

-- 32 zero bytes. A block of hashes is filled with zeros, so a hash of these bytes looks like none.
abbrev pub zero_digest : List ℕ
zero_digest = replicate 32 0

-- no collision is met: no two different ones of these inputs have one digest, and none has the zero digest
pub record IsFreeOfCollisions (from : List (List ℕ)) : Type 0 where
  pub distinct : (x y : List ℕ) → Contains from x → Contains from y → sha256 x ≡ sha256 y → x ≡ y
  pub not_zero : (x : List ℕ) → Contains from x → sha256 x ≢ zero_digest

-- two different ones of these inputs have one digest
pub record Collide (from : List (List ℕ)) (x y : List ℕ) : Type 0 where
  pub first : Contains from x
  pub second : Contains from y
  pub apart : x ≢ y
  pub digest : sha256 x ≡ sha256 y

-- one of these inputs has the zero digest
pub record HasZeroDigest (from : List (List ℕ)) (x : List ℕ) : Type 0 where
  pub input : Contains from x
  pub digest : sha256 x ≡ zero_digest

-- what is shown stands among these inputs
abbrev pub IsFound : List (List ℕ) → Binding → Type 0
IsFound from Same = Unit {0}
IsFound from (Collision x y) = Collide from x y
IsFound from (ZeroDigest x) = HasZeroDigest from x

-- the bytes of a level with this number: above the data they are hashes, and none is the zero digest
pub record IsLevel (level : ℕ) (bytes : List ℕ) : Type 0 where
  pub width : 0 < level → length bytes % 32 ≡ 0
  pub hashes : 0 < level → (i : ℕ) → 32 * i < length bytes → take 32 (drop (32 * i) bytes) ≢ zero_digest

-- the input whose digest is left above a level's bytes. It is the one block of this level, or of a
-- level above.
pub record IsTop (level : ℕ) (bytes input : List ℕ) : Type 0 where
  pub within : Contains (inputs_above (length bytes) level bytes) input
  pub digest : root_above (length bytes) level bytes ≡ sha256 input
  pub one : length bytes ≤ 8192 → input ≡ block_input level 0 bytes
  pub number : ℕ
  pub contents : List ℕ
  pub is : input ≡ block_input number 0 contents
  pub from : level ≤ number
  pub above : 8192 < length bytes → level < number
  pub bound : number ≤ level + length bytes
