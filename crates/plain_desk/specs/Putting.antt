-- Blobs with their bytes.
use Rattle.std.specs.Prelude.{ℕ, List, [], ◌∷◌, ◌++◌, length, if◌then◌else◌}
use Rattle.pkg_names.specs.declared.root.Root.{Root}
use Rattle.store_model.specs.declared.events.LookedAt.{LookedAt}
use Rattle.store_model.specs.State.{Stored, is_stored}

-- what contracts see of stored blobs
pub record BlobsOf : Type 0 where
  pub stock : List Stored
  pub contents : List LookedAt

-- a blob comes last, unless one with its root is stored
abbrev pub stock_with : List Stored → Root → List ℕ → List Stored
stock_with stock root bytes =
    if is_stored stock root then stock else stock ++ record { root = root; len = length bytes } ∷ []
