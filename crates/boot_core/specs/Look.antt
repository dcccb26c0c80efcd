-- What a store is seen as that can be looked into, and what a look answers.
use Rattle.std.specs.Prelude.{ℕ, ◌≡◌, ◌≢◌, ◌<◌, ◌≤◌, ⊤, List, [], ◌∷◌, map, length, Option, Some, None, if◌then◌else◌}
use Rattle.std.specs.List.{AllByRecursion}
use Rattle.pkg_names.specs.declared.root.Root.{Root}
use Rattle.pkg_names.specs.Root.{root_eq}
use Rattle.pkg_merkle.specs.Merkle.{merkle_root}
use Rattle.boot_core.specs.declared.looking.SeenBlob.{SeenBlob}
use Rattle.boot_core.specs.declared.looking.LookReply.{LookReply}
use Rattle.boot_core.specs.declared.looking.LookReply.TheVariants.{Bytes, Missing, TooLong, Read, Rotten, NoMemory}

-- a stored blob: its root and its length
pub record Stocked : Type 0 where
  pub root : Root
  pub len : ℕ

-- the length of a stored blob, and its bytes: those of the first one of this root
abbrev pub len_in : List Stocked → Root → Option ℕ
len_in [] root = None
len_in (blob ∷ blobs) root = if root_eq blob.root root then Some blob.len else len_in blobs root

abbrev pub bytes_in : List SeenBlob → Root → Option (List ℕ)
bytes_in [] root = None
bytes_in (blob ∷ blobs) root = if root_eq blob.root root then Some blob.bytes else bytes_in blobs root

-- blobs by their lengths
abbrev pub stocked : SeenBlob → Stocked
stocked blob = record { root = blob.root; len = length blob.bytes }

abbrev pub stock_of : List SeenBlob → List Stocked
stock_of blobs = map stocked blobs

-- these are the bytes of a stored blob: as many as it has, and with its root
pub record IsBlob (stock : List Stocked) (root : Root) (bytes : List ℕ) : Type 0 where
  pub len : len_in stock root ≡ Some (length bytes)
  pub has_root : merkle_root bytes ≡ root

-- each blob stands under its own root
abbrev pub AreHonest : List SeenBlob → Type 0
AreHonest blobs = AllByRecursion (λ (blob : SeenBlob). merkle_root blob.bytes ≡ blob.root) blobs

-- the blob is stored, and has at most so many bytes
pub record IsWithin (stock : List Stocked) (root : Root) (limit : ℕ) : Type 0 where
  pub len : ℕ
  pub stored : len_in stock root ≡ Some len
  pub within : len ≤ limit

-- bytes were read that have this root, which is another than the blob's
pub record IsRotten (stock : List Stocked) (root got : Root) : Type 0 where
  pub bytes : List ℕ
  pub len : len_in stock root ≡ Some (length bytes)
  pub has_root : merkle_root bytes ≡ got
  pub other : got ≢ root

-- what a look at a blob answers, where at most so many bytes are read
abbrev pub Gives : List Stocked → Root → ℕ → LookReply → Type 0
Gives stock root limit (Bytes bytes) = (length bytes ≤ limit) × IsBlob stock root bytes
Gives stock root limit Missing = len_in stock root ≡ None
Gives stock root limit (TooLong len) = (limit < len) × (len_in stock root ≡ Some len)
Gives stock root limit Read = IsWithin stock root limit
Gives stock root limit (Rotten got) = IsWithin stock root limit × IsRotten stock root got
Gives stock root limit NoMemory = ⊤

-- the same where the bytes of all blobs are told: these are what is read, and never is one rotten
abbrev pub Tells : List SeenBlob → Root → LookReply → Type 0
Tells all root (Bytes bytes) = bytes_in all root ≡ Some bytes
Tells all root Missing = ⊤
Tells all root (TooLong len) = (bytes : List ℕ) × (bytes_in all root ≡ Some bytes) × (length bytes ≡ len)
Tells all root Read = ⊤
Tells all root (Rotten got) = ⊥
Tells all root NoMemory = ⊤
