-- The packages in a text, or its first fault.
use Rattle.std.specs.Prelude.{ℕ, List, Result, Ok, Err, if◌then◌else◌}
use Rattle.pkg_names.specs.declared.pinned.Pinned.{Pinned}
use Rattle.system_lists.specs.declared.fault.CachedFault.{CachedFault}
use Rattle.system_lists.specs.declared.fault.CachedFault.TheVariants as cached
use Rattle.system_lists.specs.declared.fault.ManifestFault.{ManifestFault}
use Rattle.system_lists.specs.declared.fault.ManifestFault.TheVariants.{Json, Version, Entry, NoSystem, NoMemory}
use Rattle.system_lists.specs.Lists.{is_among}
use Rattle.system_lists.specs.Cached.{cached_of}
use Rattle.system_lists.specs.Judging.{system_path}

-- the list, where it has the system package
abbrev pub with_system : List Pinned → Result (List Pinned) ManifestFault
with_system list = if is_among system_path list then Ok list else Err NoSystem

abbrev pub packages_fault : CachedFault → ManifestFault
packages_fault cached.Json = Json
packages_fault cached.Version = Version
packages_fault (cached.Entry n) = Entry n
packages_fault cached.NoMemory = NoMemory

-- a cached list with the system package
abbrev pub packages_of : Result (List Pinned) CachedFault → Result (List Pinned) ManifestFault
packages_of (Ok list) = with_system list
packages_of (Err fault) = Err (packages_fault fault)

-- the packages in a text, or its first fault
abbrev pub packages_in : List ℕ → Result (List Pinned) ManifestFault
packages_in text = packages_of (cached_of text)
