-- How the hashing of a file ends, and what it prints.
use Rattle.std.specs.Prelude.{◌≡◌, ℕ, List, ◌++◌, codes, Option}
use Rattle.std.specs.Option.{option_map}
use Rattle.pkg_merkle.specs.Hasher.{StandsFor}
use Rattle.pkg_merkle.specs.declared.hasher.Hasher.{Hasher}
use Rattle.pkg_names.specs.declared.root.Root.{Root}
use Rattle.pkg_names.specs.Root.{root_text}
use Rattle.pkg_tool.specs.declared.hashing.MerkleStatus.{MerkleStatus}
use Rattle.pkg_tool.specs.declared.hashing.MerkleStatus.TheVariants.{Done, TooLong, ReadFault, SinkFault}

-- the numbers that the program ends with
abbrev pub number_of_hashing : MerkleStatus → ℕ
number_of_hashing Done = 0
number_of_hashing TooLong = 3
number_of_hashing ReadFault = 6
number_of_hashing SinkFault = 7

-- no root was found
abbrev pub IsHashingRefusal : MerkleStatus → Type 0
IsHashingRefusal TooLong = Unit {0}
IsHashingRefusal ReadFault = Unit {0}
IsHashingRefusal status = ⊥

-- the digits of a root, and a line feed
abbrev pub line_of_root : Root → List ℕ
line_of_root root = root_text root ++ codes "\n"

-- ---- what serves the proof

-- the hasher was fed what was taken of a file so far
pub record Fed (first now : Option (List ℕ)) (hasher : Hasher) : Type 0 where
  pub given : List ℕ
  pub stands : StandsFor hasher given
  pub all : first ≡ option_map (λ rest. given ++ rest) now
