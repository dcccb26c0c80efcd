-- What an opening replaces.
use Rattle.std.specs.Prelude.{ℕ, Option, Some, None, is_some, if◌then◌else◌}
use Rattle.pkg_names.specs.declared.root.Root.{Root}
use Rattle.package_indexes.specs.Indexes.{root_at}
use Rattle.store_model.specs.State.{State, Arrival, arrival_of}

abbrev pub replaced_by : State → Option Arrival → Option Root
replaced_by s None = None
replaced_by s (Some arrival) =
    if is_some (root_at s.base arrival.path) then None else root_at s.active arrival.path

-- the active package whose place the package of a ticket takes, once it is opened
abbrev pub replaced : State → ℕ → Option Root
replaced s ticket = replaced_by s (arrival_of s.arriving ticket)
