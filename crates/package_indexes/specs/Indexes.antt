-- Look-ups by path, the root that a request is for, and the packages that are protected.
use Rattle.std.specs.Prelude.{List, [], ◌∷◌, ◌++◌, map, Option, Some, None, if◌then◌else◌}
use Rattle.pkg_names.specs.NameAndVariant.{NameAndVariant, path_eq}
use Rattle.pkg_names.specs.declared.root.Root.{Root}
use Rattle.pkg_names.specs.declared.pinned.Pinned.{Pinned}
use Rattle.package_indexes.specs.declared.Choice.{Choice}
use Rattle.package_indexes.specs.declared.Choice.TheVariants as choices

-- the root of the first pair with this path
abbrev pub root_at : List Pinned → NameAndVariant → Option Root
root_at [] path = None
root_at (pair ∷ pairs) path = if path_eq pair.path path then Some pair.root else root_at pairs path

-- the first of two that is there
abbrev pub or_else : Option Root → Option Root → Option Root
or_else (Some root) other = Some root
or_else None other = other

-- The root that a request is for: the pin, or else the base's root for the path, or else the listed
-- one, or else the cached one.
abbrev pub chosen : List Pinned → List Pinned → NameAndVariant → Choice → Option Root
chosen base cached path (choices.Pinned root) = Some root
chosen base cached path (choices.Listed root) = or_else (root_at base path) (Some root)
chosen base cached path choices.Absent = or_else (root_at base path) (root_at cached path)
chosen base cached path choices.Failed = or_else (root_at base path) (root_at cached path)

-- The path stands for this root from now on: in the place of its first pair, or else last.
abbrev pub with_root : List Pinned → NameAndVariant → Root → List Pinned
with_root [] path root = record { path = path; root = root } ∷ []
with_root (pair ∷ pairs) path root =
    if path_eq pair.path path
    then record { path = pair.path; root = root } ∷ pairs
    else pair ∷ with_root pairs path root

-- the roots of such pairs
abbrev pub roots_of : List Pinned → List Root
roots_of pairs = map (λ (pair : Pinned). pair.root) pairs

-- the protected packages: those of the three sets, the retained ones, those that arrive, and those
-- that are open
abbrev pub protected : List Pinned → List Pinned → List Pinned → List Root → List Root → List Root → List Root
protected base cached active retained arriving dirs =
    roots_of base ++ roots_of cached ++ roots_of active ++ retained ++ arriving ++ dirs
