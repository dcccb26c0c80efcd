-- The packages that the two lists of a system name.
use Rattle.std.specs.Prelude.{List, [], ◌++◌, map, Option, Some, None, Result, Ok, Err}
use Rattle.pkg_names.specs.declared.root.Root.{Root}
use Rattle.pkg_names.specs.declared.pinned.Pinned.{Pinned}
use Rattle.system_lists.specs.declared.fault.SystemFault.{SystemFault}
use Rattle.system_lists.specs.Judging.{AtHand, static_list, cached_list, static_name, cached_name}

-- the pairs of a list, and none of one with a fault
abbrev pub pairs_in : Result (List Pinned) SystemFault → List Pinned
pairs_in (Ok pairs) = pairs
pairs_in (Err fault) = []

abbrev pub base_pairs : AtHand → Option Root → List Pinned
base_pairs at None = []
base_pairs at (Some root) = pairs_in (static_list at root)

abbrev pub pinned_roots : List Pinned → List Root
pinned_roots pairs = map (λ (pair : Pinned). pair.root) pairs

-- first those of the base
abbrev pub listed : AtHand → Root → List Root
listed at system = pinned_roots (base_pairs at (at.outer system static_name))
    ++ pinned_roots (pairs_in (cached_list at (at.outer system cached_name)))
