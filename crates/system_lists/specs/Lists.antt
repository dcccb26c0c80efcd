-- Lists of pinned packages.
use Rattle.std.specs.Prelude.{◌≤◌, Bool, List, length, All}
use Rattle.std.specs.List.{list_any, IsDistinct}
use Rattle.pkg_names.specs.declared.pinned.Pinned.{Pinned}
use Rattle.pkg_names.specs.Root.{IsRoot}
use Rattle.pkg_names.specs.NameAndVariant.{NameAndVariant, IsPath, path_eq}
use Rattle.system_lists.specs.declared.list.TheConstants.{ENTRY_LIMIT}

-- two packages have one path
abbrev pub has_path_of : Pinned → Pinned → Bool
has_path_of a b = path_eq a.path b.path

-- a package of this path is among these
abbrev pub is_among : NameAndVariant → List Pinned → Bool
is_among path list = list_any (λ other. path_eq other.path path) list

-- a package that a program can have
pub record IsPinned (pinned : Pinned) : Type 0 where
  pub path : IsPath pinned.path
  pub root : IsRoot pinned.root

-- so many packages at most, no two with one path
pub record IsPinnedList (list : List Pinned) : Type 0 where
  pub few : length list ≤ ENTRY_LIMIT
  pub each : All IsPinned list
  pub distinct : IsDistinct has_path_of list
