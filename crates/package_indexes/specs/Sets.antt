-- The sets of packages, each a list in the order in which its packages came.
use Rattle.std.specs.Prelude.{◌≢◌, ℕ, ◌==◌, not, Bool, List, [], ◌∷◌, map, filter, find, Option, Some, None, is_some, if◌then◌else◌}
use Rattle.std.specs.List.{AllPairs, list_any}
use Rattle.pkg_names.specs.NameAndVariant.{NameAndVariant}
use Rattle.pkg_names.specs.Root.{root_eq}
use Rattle.pkg_names.specs.declared.root.Root.{Root}
use Rattle.pkg_names.specs.declared.pinned.Pinned.{Pinned}
use Rattle.open_tracker.specs.declared.dirs.DirEntry.{DirEntry}
use Rattle.package_indexes.specs.Indexes.{root_at, with_root, protected}
use Rattle.package_indexes.specs.declared.Choice.{Choice}
use Rattle.package_indexes.specs.declared.Choice.TheVariants as choices
use Rattle.package_indexes.specs.declared.Chosen.{Chosen}
use Rattle.package_indexes.specs.declared.Chosen.TheVariants.{Is, NotFound, ListingFault}
use Rattle.package_indexes.specs.declared.PathSet.{PathSet}
use Rattle.package_indexes.specs.declared.PathSet.TheVariants as sets
use Rattle.package_indexes.specs.declared.Arriving.{Arriving}

pub record Sets : Type 0 where
  pub base : List Pinned
  pub cached : List Pinned
  pub active : List Pinned
  pub retained : List Root
  pub arriving : List Arriving

-- no ticket stands twice
abbrev pub AreDistinct : List Arriving → Type 0
AreDistinct arriving = AllPairs (λ (a b : Arriving). a.ticket ≢ b.ticket) arriving

-- the pairs of a set
abbrev pub pairs_of : PathSet → Sets → List Pinned
pairs_of sets.Base s = s.base
pairs_of sets.Cached s = s.cached
pairs_of sets.Active s = s.active

-- a root, or why there is none
abbrev pub answer_for : Choice → Option Root → Chosen
answer_for choice (Some root) = Is root
answer_for choices.Failed None = ListingFault
answer_for choice None = NotFound

-- the package that arrives under a ticket
abbrev pub arriving_with : List Arriving → ℕ → Option Arriving
arriving_with arriving ticket = find (λ (arrival : Arriving). arrival.ticket == ticket) arriving

-- the packages that arrive, but the ticket's
abbrev pub without_ticket : List Arriving → ℕ → List Arriving
without_ticket arriving ticket = filter (λ (arrival : Arriving). not (arrival.ticket == ticket)) arriving

-- a package that is opened is active under its path, unless the path is in the base
abbrev pub with_active : List Pinned → List Pinned → Option Arriving → List Pinned
with_active base active None = active
with_active base active (Some arrival) =
    if is_some (root_at base arrival.path) then active else with_root active arrival.path arrival.root

-- a root is in a list
abbrev pub has_root : List Root → Root → Bool
has_root roots root = list_any (λ other. root_eq other root) roots

-- each root once, at its first place
abbrev pub each_once : List Root → List Root
each_once [] = []
each_once (root ∷ roots) = root ∷ filter (λ other. not (root_eq other root)) (each_once roots)

-- the packages that are protected while these directories are open
abbrev pub protected_by : Sets → List DirEntry → List Root
protected_by s dirs =
    protected s.base s.cached s.active s.retained (map (λ (arrival : Arriving). arrival.root) s.arriving)
    (map (λ (dir : DirEntry). dir.root) dirs)
