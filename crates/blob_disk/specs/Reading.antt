-- What reading a blob answers.
use Rattle.std.specs.Prelude.{ℕ, ◌≡◌, ◌≢◌, ◌<◌, ⊤, List, length, Option, Result, Ok, Err}
use Rattle.pkg_names.specs.declared.root.Root.{Root}
use Rattle.pkg_merkle.specs.Merkle.{merkle_root}
use Rattle.disk_model.specs.Past.{Past}
use Rattle.node_table.specs.declared.entry.Entry.{Entry}
use Rattle.blob_pages.specs.Pages.{page_count}
use Rattle.blob_pages.specs.Chains.{AreRead}
use Rattle.blob_disk.specs.declared.answers.BlobFault.{BlobFault}
use Rattle.blob_disk.specs.declared.answers.BlobFault.TheVariants as fault
use Rattle.blob_disk.specs.declared.answers.CheckFault.{CheckFault}
use Rattle.blob_disk.specs.declared.answers.CheckFault.TheVariants as check

-- these bytes were read of a blob
abbrev pub AreReadOf : Option Past → ℕ → Entry → List ℕ → Type 0
AreReadOf told start entry bytes = AreRead told start entry.pages entry.len (page_count entry.len) bytes

-- the bytes read have this root, which is another than the blob's
abbrev pub IsRotten : Option Past → ℕ → Entry → Root → Type 0
IsRotten told start entry got =
    (bytes : List ℕ) × AreReadOf told start entry bytes × (got ≡ merkle_root bytes) × (got ≢ entry.root)

-- what reading a whole blob answers: bytes that were read and have its root, or why not
abbrev pub ReadsAll : Option Past → ℕ → ℕ → Entry → Result (List ℕ) BlobFault → Type 0
ReadsAll told start limit entry (Ok bytes) =
    AreReadOf told start entry bytes × (entry.root ≡ merkle_root bytes) × (length bytes ≡ entry.len)
ReadsAll told start limit entry (Err (fault.TooLong len)) = (limit < entry.len) × (len ≡ entry.len)
ReadsAll told start limit entry (Err fault.Read) = ⊤
ReadsAll told start limit entry (Err (fault.Rotten got)) = IsRotten told start entry got
ReadsAll told start limit entry (Err fault.NoMemory) = ⊤

-- what checking a blob answers: its length where bytes that were read have its root, or why not
abbrev pub Checks : Option Past → ℕ → Entry → Result ℕ CheckFault → Type 0
Checks told start entry (Ok len) =
    (len ≡ entry.len) × (bytes : List ℕ) × AreReadOf told start entry bytes × (entry.root ≡ merkle_root bytes)
Checks told start entry (Err check.Read) = ⊤
Checks told start entry (Err (check.Rotten got)) = IsRotten told start entry got

-- Where all images have these bytes of the blob, these are what is read, and never is it rotten.
abbrev pub GivesBytes : List ℕ → Result (List ℕ) BlobFault → Type 0
GivesBytes blob (Ok bytes) = bytes ≡ blob
GivesBytes blob (Err (fault.TooLong len)) = ⊤
GivesBytes blob (Err fault.Read) = ⊤
GivesBytes blob (Err (fault.Rotten got)) = ⊥
GivesBytes blob (Err fault.NoMemory) = ⊤

abbrev pub IsNotRotten : Result ℕ CheckFault → Type 0
IsNotRotten (Ok len) = ⊤
IsNotRotten (Err check.Read) = ⊤
IsNotRotten (Err (check.Rotten got)) = ⊥
