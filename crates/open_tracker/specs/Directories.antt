-- The open directories are a list of numbers with their lanes and packages, in the order in which they
-- were opened.
use Rattle.std.specs.Prelude.{◌≢◌, ℕ, ◌==◌, ◌&&◌, not, Bool, List, filter, find, Option}
use Rattle.std.specs.List.{AllPairs}
use Rattle.std.specs.Option.{option_map}
use Rattle.pkg_names.specs.declared.root.Root.{Root}
use Rattle.open_tracker.specs.declared.dirs.DirEntry.{DirEntry}

-- the directory has this number and is this lane's
abbrev pub is_of : DirEntry → ℕ → ℕ → Bool
is_of dir number lane = dir.number == number && dir.lane == lane

-- The package of the lane's directory with this number. For another lane the number isn't open.
abbrev pub root_of : List DirEntry → ℕ → ℕ → Option Root
root_of dirs number lane =
    option_map (λ (dir : DirEntry). dir.root) (find (λ (dir : DirEntry). is_of dir number lane) dirs)

-- the directories but the lane's one with this number
abbrev pub without : List DirEntry → ℕ → ℕ → List DirEntry
without dirs number lane = filter (λ (dir : DirEntry). not (is_of dir number lane)) dirs

-- no number stands twice
abbrev pub AreDistinct : List DirEntry → Type 0
AreDistinct dirs = AllPairs (λ (a b : DirEntry). a.number ≢ b.number) dirs
