-- The bytes of stored blobs, as a map.
use Rattle.std.specs.Prelude.{◌≡◌, ℕ, List, map, length, Option, Some, if◌then◌else◌}
use Rattle.std.specs.Option.{option_map}
use Rattle.std.specs.BTreeMap.{BTreeMap}
use Rattle.pkg_names.specs.declared.root.Root.{Root}
use Rattle.pkg_names.specs.Root.{root_eq}
use Rattle.pkg_merkle.specs.Merkle.{merkle_root}
use Rattle.store_model.specs.declared.events.LookedAt.{LookedAt}
use Rattle.store_model.specs.State.{Stored, stored_len}
use Rattle.store_model.specs.Systems.{seen_bytes}

abbrev pub pair_of : Root × List ℕ → LookedAt
pair_of entry = record { root = entry.0; bytes = entry.1 }

-- the blobs that a map has
abbrev pub contents_in : BTreeMap Root (List ℕ) → List LookedAt
contents_in blobs = map pair_of blobs.entries

-- the new contents are the old ones, but for this root: it has the given bytes, or none
abbrev pub Holds : Root → Option (List ℕ) → List LookedAt → List LookedAt → Type 0
Holds root bytes old new =
    (other : Root) → seen_bytes new other ≡ (if root_eq root other then bytes else seen_bytes old other)

-- These are the bytes of what is stored: each blob has its length and its root.
pub record AreBytesOf (contents : List LookedAt) (stock : List Stored) : Type 0 where
  pub lengths : (root : Root) → option_map length (seen_bytes contents root) ≡ stored_len stock root
  pub roots : (root : Root) (bytes : List ℕ) → seen_bytes contents root ≡ Some bytes → merkle_root bytes ≡ root
