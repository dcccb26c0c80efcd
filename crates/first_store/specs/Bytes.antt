-- The bytes of the two blobs.
use Rattle.std.specs.Prelude.{◌≡◌, ℕ, List, [], Option, Some, None, if◌then◌else◌}
use Rattle.pkg_names.specs.declared.root.Root.{Root}
use Rattle.pkg_names.specs.Root.{root_eq}
use Rattle.pkg_merkle.specs.Merkle.{merkle_root}
use Rattle.store_model.specs.declared.events.LookedAt.{LookedAt}
use Rattle.store_model.specs.Systems.{seen_bytes}
use Rattle.first_store.specs.Start.{system_meta}

-- the list's, and else the meta blob's
abbrev pub start_bytes : Root → Option (List ℕ)
start_bytes root =
    if root_eq (merkle_root []) root then Some []
    else if root_eq (merkle_root system_meta) root then Some system_meta else None

abbrev pub HasStartBytes : List LookedAt → Type 0
HasStartBytes contents = (root : Root) → seen_bytes contents root ≡ start_bytes root
