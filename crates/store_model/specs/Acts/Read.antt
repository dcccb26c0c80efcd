-- A file of an open package is read whole.
use Rattle.std.specs.Prelude.{◌≡◌, ◌≤◌, ◌<◌, ℕ, false, List, length, Option, Some, None}
use Rattle.pkg_names.specs.declared.root.Root.{Root}
use Rattle.pkg_names.specs.Root.{root_eq}
use Rattle.pkg_merkle.specs.Merkle.{merkle_root}
use Rattle.store_model.specs.declared.ends.TheConstants.{READ_LIMIT}
use Rattle.store_model.specs.declared.ends.ReadEnd.{ReadEnd}
use Rattle.store_model.specs.declared.ends.ReadEnd.TheVariants.{Got, BadDir, NoFile, TooLong, DiskRead, Rotten}
use Rattle.store_model.specs.State.{State, stored_len}
use Rattle.store_model.specs.Files.{Found, found}
use Rattle.store_model.specs.Files.Found.{NotOpen, NoSuchFile, Inner, Outer}

-- what reading a stored blob of this length gives: its bytes, or bytes of another root, or nothing
abbrev pub IsReadOf : Root → ℕ → ReadEnd → Type 0
IsReadOf root len (TooLong n) = (n ≡ len) × (READ_LIMIT < len)
IsReadOf root len (Got bytes) = (len ≤ READ_LIMIT) × (length bytes ≡ len) × (merkle_root bytes ≡ root)
IsReadOf root len DiskRead = len ≤ READ_LIMIT
IsReadOf root len (Rotten named got) = (len ≤ READ_LIMIT) × (named ≡ root) × (root_eq root got ≡ false)
IsReadOf root len reply = ⊥

abbrev IsReadOfStored : Root → Option ℕ → ReadEnd → Type 0
IsReadOfStored root None reply = ⊥
IsReadOfStored root (Some len) reply = IsReadOf root len reply

-- an inner file is at hand
abbrev pub IsReadOfInner : List ℕ → ReadEnd → Type 0
IsReadOfInner bytes (TooLong n) = (n ≡ length bytes) × (READ_LIMIT < length bytes)
IsReadOfInner bytes (Got given) = (given ≡ bytes) × (length bytes ≤ READ_LIMIT)
IsReadOfInner bytes reply = ⊥

abbrev pub IsReadFrom : State → Found → ReadEnd → Type 0
IsReadFrom s NotOpen reply = reply ≡ BadDir
IsReadFrom s NoSuchFile reply = reply ≡ NoFile
IsReadFrom s (Inner bytes) reply = IsReadOfInner bytes reply
IsReadFrom s (Outer root) reply = IsReadOfStored root (stored_len s.stock root) reply

abbrev pub IsDueRead : State → ℕ → ℕ → List ℕ → ReadEnd → Type 0
IsDueRead s lane dir file reply = IsReadFrom s (found s lane dir file) reply
