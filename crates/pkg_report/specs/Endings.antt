-- The exit status of the program.
use Rattle.std.specs.Prelude.{ℕ}
use Rattle.folder_repo.specs.declared.listing.DirFault.{DirFault}
use Rattle.folder_repo.specs.declared.listing.DirFault.TheVariants as folders
use Rattle.pkg_names.specs.declared.path.PathFault.{PathFault}
use Rattle.pkg_names.specs.declared.path.PathFault.TheVariants as paths
use Rattle.pkg_tool.specs.declared.running.Status.{Status}
use Rattle.pkg_tool.specs.declared.running.Status.TheVariants.{BadWords, ScriptFault, NoMemory}
use Rattle.pkg_tool.specs.declared.hashing.MerkleStatus.{MerkleStatus}
use Rattle.pkg_tool.specs.declared.hashing.MerkleStatus.TheVariants.{ReadFault}
use Rattle.pkg_tool.specs.Running.{number_of}
use Rattle.pkg_tool.specs.Hashing.{number_of_hashing}
use Rattle.pkg_report.specs.declared.ending.Opening.{Opening}
use Rattle.pkg_report.specs.declared.ending.Opening.TheVariants.{Missing}
use Rattle.pkg_report.specs.declared.ending.Opening.TheVariants as openings
use Rattle.pkg_report.specs.declared.ending.Ending.{Ending}
use Rattle.pkg_report.specs.declared.ending.Ending.TheVariants.{Ran, Hashed, CannotOpen, NoListing, BadListing}

-- a script that could not be read may be one that could not be opened, or not for want of memory
abbrev pub ending_of : Status → Opening → Ending
ending_of ScriptFault Missing = CannotOpen
ending_of ScriptFault openings.NoMemory = Ran NoMemory
ending_of status opening = Ran status

-- so may a file that is hashed
abbrev pub ending_of_hashing : MerkleStatus → Opening → Ending
ending_of_hashing ReadFault Missing = CannotOpen
ending_of_hashing ReadFault openings.NoMemory = Ran NoMemory
ending_of_hashing status opening = Hashed status

-- a folder without a good listing
abbrev pub ending_of_folder : DirFault → Ending
ending_of_folder folders.Unreadable = NoListing
ending_of_folder (folders.BadListing line) = BadListing line
ending_of_folder folders.NoMemory = Ran NoMemory

-- a word that is no package path makes the words no command
abbrev pub ending_of_path : PathFault → Ending
ending_of_path paths.BadName = Ran BadWords
ending_of_path paths.NoMemory = Ran NoMemory

-- the number of the status, or 1 where the host's files could not be opened
abbrev pub number_of_ending : Ending → ℕ
number_of_ending (Ran status) = number_of status
number_of_ending (Hashed status) = number_of_hashing status
number_of_ending CannotOpen = 1
number_of_ending NoListing = 1
number_of_ending (BadListing line) = 1
