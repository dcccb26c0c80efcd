-- A package that is here is opened: the base's, or else the active one, or else the cached one if it
-- is complete.
use Rattle.std.specs.Prelude.{◌≡◌, ℕ, List, [], ◌∷◌, ◌++◌, Option, Some, None, if◌then◌else◌}
use Rattle.pkg_names.specs.NameAndVariant.{NameAndVariant}
use Rattle.pkg_names.specs.declared.root.Root.{Root}
use Rattle.open_tracker.specs.declared.dirs.DirEntry.{DirEntry}
use Rattle.package_indexes.specs.Indexes.{root_at, or_else}
use Rattle.store_model.specs.State.{State}
use Rattle.store_model.specs.Packages.{is_complete}

abbrev pub if_complete : State → Option Root → Option Root
if_complete s None = None
if_complete s (Some root) = if is_complete s root then Some root else None

abbrev pub root_to_open : State → NameAndVariant → Option Root
root_to_open s path =
    or_else (root_at s.base path) (or_else (root_at s.active path) (if_complete s (root_at s.cached path)))

abbrev pub IsDueOpenPath : State → NameAndVariant → Option Root → Type 0
IsDueOpenPath s path reply = reply ≡ root_to_open s path

abbrev pub dirs_after_open : List DirEntry → ℕ → ℕ → Option Root → List DirEntry
dirs_after_open dirs number lane None = dirs
dirs_after_open dirs number lane (Some root) = dirs ++ record { number = number; lane = lane; root = root } ∷ []

abbrev pub next_open_path : State → ℕ → ℕ → Option Root → State
next_open_path s number lane reply = record s { dirs = dirs_after_open s.dirs number lane reply }
