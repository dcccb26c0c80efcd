-- The static list: a line a package.
use Rattle.std.specs.Prelude.{◌≡◌, ℕ, ◌==◌, List, [], ◌∷◌, ◌++◌, map, Option, Some, None, Result, Ok, Err, if◌then◌else◌}
use Rattle.std.specs.List.{list_any}
use Rattle.pkg_names.specs.declared.root.Root.{Root}
use Rattle.pkg_names.specs.declared.pinned.Pinned.{Pinned}
use Rattle.pkg_names.specs.Root.{root_in, root_text}
use Rattle.pkg_names.specs.NameAndVariant.{NameAndVariant, path_text}
use Rattle.pkg_names.specs.Text.{slash, equals_sign, lines_of}
use Rattle.package_url.specs.Reading.{first_cut, path_in}
use Rattle.system_lists.specs.declared.list.ListFault.{ListFault}
use Rattle.system_lists.specs.declared.list.ListFault.TheVariants as list
use Rattle.system_lists.specs.declared.fault.StaticFault.{StaticFault}
use Rattle.system_lists.specs.declared.fault.StaticFault.TheVariants.{Line, Repeat, NoMemory}
use Rattle.system_lists.specs.Entries.{listed}
use Rattle.system_lists.specs.Lists.{has_path_of, IsPinnedList}

-- a line: `<name>/<variant>=<root>`
abbrev pub line_text : Pinned → List ℕ
line_text pinned = path_text pinned.path ++ equals_sign ∷ root_text pinned.root

-- the lines of the text are those of these packages
pub record StandsFor (text : List ℕ) (list : List Pinned) : Type 0 where
  pub valid : IsPinnedList list
  pub lines : lines_of text ≡ map line_text list

-- ---- reading

-- the path in a text that has its variant
abbrev pub whole_path_in : List ℕ → Option NameAndVariant
whole_path_in text = if list_any (λ c. c == slash) text then path_in text else None

abbrev pub pinned_of : Option NameAndVariant → Option Root → Option Pinned
pinned_of None root = None
pinned_of (Some path) None = None
pinned_of (Some path) (Some root) = Some (record { path = path; root = root })

-- a path before the first `=`, and a root behind it
abbrev pub pinned_cut : List ℕ → Option (List ℕ) → Option Pinned
pinned_cut before None = None
pinned_cut before (Some after) = pinned_of (whole_path_in before) (root_in after)

unfoldable pub pinned_line : List ℕ → Option Pinned
pinned_line line = pinned_cut (first_cut equals_sign line).0 (first_cut equals_sign line).1

abbrev pub as_static : Result (List Pinned) ListFault → Result (List Pinned) StaticFault
as_static (Ok list) = Ok list
as_static (Err (list.Bad n)) = Err (Line n)
as_static (Err (list.Repeat n)) = Err (Repeat n)
as_static (Err list.NoMemory) = Err NoMemory

-- the packages in a text, or its first fault
abbrev pub static_of : List ℕ → Result (List Pinned) StaticFault
static_of text = as_static (listed has_path_of [] (map pinned_line (lines_of text)))
