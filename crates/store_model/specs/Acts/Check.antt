-- A file of an open package is read, and its root is told.
use Rattle.std.specs.Prelude.{◌≡◌, ℕ, false, List, length, Some}
use Rattle.pkg_names.specs.declared.root.Root.{Root}
use Rattle.pkg_names.specs.Root.{root_eq}
use Rattle.pkg_merkle.specs.Merkle.{merkle_root}
use Rattle.store_model.specs.declared.ends.CheckEnd.{CheckEnd}
use Rattle.store_model.specs.declared.ends.CheckEnd.TheVariants.{Checked, BadDir, NoFile, DiskRead, Rotten}
use Rattle.store_model.specs.State.{State, stored_len}
use Rattle.store_model.specs.Files.{Found, found}
use Rattle.store_model.specs.Files.Found.{NotOpen, NoSuchFile, Inner, Outer}

-- a stored blob has its root and the length that the stock says, or has rotten, or can't be read
abbrev pub IsCheckOf : State → Root → CheckEnd → Type 0
IsCheckOf s root (Checked named len) = (named ≡ root) × (stored_len s.stock root ≡ Some len)
IsCheckOf s root DiskRead = Unit {0}
IsCheckOf s root (Rotten named got) = (named ≡ root) × (root_eq root got ≡ false)
IsCheckOf s root reply = ⊥

abbrev pub IsCheckFrom : State → Found → CheckEnd → Type 0
IsCheckFrom s NotOpen reply = reply ≡ BadDir
IsCheckFrom s NoSuchFile reply = reply ≡ NoFile
IsCheckFrom s (Inner bytes) reply = reply ≡ Checked (merkle_root bytes) (length bytes)
IsCheckFrom s (Outer root) reply = IsCheckOf s root reply

abbrev pub IsDueCheck : State → ℕ → ℕ → List ℕ → CheckEnd → Type 0
IsDueCheck s lane dir file reply = IsCheckFrom s (found s lane dir file) reply
