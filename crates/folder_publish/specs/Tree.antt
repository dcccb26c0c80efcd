-- What a folder's tree gives, and what it tells.
use Rattle.std.specs.Prelude.{◌≡◌, ℕ, ◌+◌, ◌<◌, ◌==◌, ◌&&◌, not, if◌then◌else◌, ⊤, ◌⊎◌, List, [], ◌∷◌, ◌++◌, length, take, codes, All, Option, Some, None, IfSome, IsSomeAnd, IsSome}
use Rattle.std.specs.List.{Contains}
use Rattle.std.specs.Ordering.{nat_cmp}
use Rattle.std.specs.Cmp.Lexicographic.{slice_cmp}
use Rattle.std.specs.declared.cmp.Ordering.TheVariants.{Less}
use Rattle.far_archive.specs.declared.write.FarEntry.{FarEntry}
use Rattle.pkg_merkle.specs.declared.hasher.TheConstants.{BYTES_LIMIT}
use Rattle.repo_publish.specs.declared.tree.TreeReply.{TreeReply}
use Rattle.repo_publish.specs.declared.tree.TreeReply.TheVariants.{File, End, Failed, NoMemory}
use Rattle.folder_publish.specs.declared.walk.TheConstants.{GATHER_LIMIT}

-- These are paths of files below a folder, and all of them where they are fewer than are gathered. What stands
-- below each folder is told, or not.
abbrev pub AreBelow : Option (List ℕ → List (List ℕ)) → List ℕ → List (List ℕ) → Type 0
AreBelow told folder names = IfSome told (λ below. All (λ name. Contains (below folder) name) names
    × (length names < GATHER_LIMIT → All (λ name. Contains names name) (below folder)))

-- a path behind that of a folder, or the other one where one is empty
abbrev pub joined_paths : List ℕ → List ℕ → List ℕ
joined_paths folder path =
    (if not (length folder == 0) && not (length path == 0) then folder ++ codes "/" else folder) ++ path

-- the name of the file at a path below a folder
abbrev pub path_below : List ℕ → List ℕ → List ℕ
path_below folder path = folder ++ codes "/" ++ path

-- the names that were left; before any were gathered, those below the folder
abbrev pub WereLeft : Option (List ℕ → List (List ℕ)) → List ℕ → Option (List (List ℕ)) → List (List ℕ) → Type 0
WereLeft told folder None names = AreBelow told folder names
WereLeft told folder (Some left) names = left ≡ names

-- the name is less than each of these
abbrev pub IsLess : List ℕ → List (List ℕ) → Type 0
IsLess name names = All (λ other. slice_cmp nat_cmp name other ≡ Less) names

-- The least of the names that were left is taken, and the others are left; none, where none was left.
abbrev pub TakesName : Option (List ℕ → List (List ℕ)) → List ℕ → (before : Option (List (List ℕ)))
    → Option (List ℕ) → (after : Option (List (List ℕ))) → Type 0
TakesName told folder before (Some name) after =
    IsSomeAnd after (λ rest. IsLess name rest × WereLeft told folder before (name ∷ rest))
TakesName told folder before None after = (after ≡ Some []) × WereLeft told folder before []

-- the file that is given has the name that is taken, and the end comes where there is none
abbrev pub Gives : Option (List ℕ → List (List ℕ)) → List ℕ → (before : Option (List (List ℕ))) → TreeReply
    → (after : Option (List (List ℕ))) → Type 0
Gives told folder before (File file) after = TakesName told folder before (Some file.name) after
Gives told folder before End after = TakesName told folder before None after
Gives told folder before Failed after = ⊤
Gives told folder before NoMemory after = ⊤

-- What failed is the file of the name that is taken, and it is the place; or it failed before names were gathered.
abbrev pub FailsAt : Option (List ℕ → List (List ℕ)) → List ℕ → (before : Option (List (List ℕ))) → TreeReply
    → (place : Option (List ℕ)) → (after : Option (List (List ℕ))) → Type 0
FailsAt told folder before (File file) place after = ⊤
FailsAt told folder before End place after = ⊤
FailsAt told folder before Failed place after =
    ((before ≡ None) × (after ≡ None)) ⊎ IsSomeAnd place (λ name. TakesName told folder before (Some name) after)
FailsAt told folder before NoMemory place after = ⊤

abbrev pub IfFile : TreeReply → (FarEntry → Type 0) → Type 0
IfFile (File file) P = P file
IfFile End P = ⊤
IfFile Failed P = ⊤
IfFile NoMemory P = ⊤

-- the bytes are those of the file of its path below a folder, or one more than a blob can have
abbrev pub HoldsFile : Option (List ℕ → Option (List ℕ)) → List ℕ → FarEntry → Type 0
HoldsFile files folder file = IfSome files (λ at. IsSomeAnd (at (path_below folder file.name))
    (λ all. file.bytes ≡ take (BYTES_LIMIT + 1) all))

-- the place is that of the file that is given, or of what failed
abbrev pub TellsPlace : (before : Option (List ℕ)) → TreeReply → (after : Option (List ℕ)) → Type 0
TellsPlace before (File file) after = after ≡ Some file.name
TellsPlace before End after = after ≡ before
TellsPlace before Failed after = IsSome after
TellsPlace before NoMemory after = after ≡ before
