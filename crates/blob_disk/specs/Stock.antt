-- The blobs of an image: its table, and the bytes of each blob.
use Rattle.std.specs.Prelude.{ℕ, ◌≡◌, ⊤, Bool, false, List, ◌∷◌, ◌++◌, Option}
use Rattle.std.specs.List.{All}
use Rattle.pkg_names.specs.declared.root.Root.{Root}
use Rattle.pkg_merkle.specs.Merkle.{merkle_root}
use Rattle.disk_model.specs.Past.{Pages, Past}
use Rattle.disk_model.specs.Images.{EachImage, SomeImage}
use Rattle.image_layout.specs.declared.geometry.Geometry.{Geometry}
use Rattle.image_layout.specs.declared.Place.{Place}
use Rattle.image_layout.specs.declared.Place.TheVariants as place
use Rattle.image_layout.specs.Geometry.{data_start}
use Rattle.node_table.specs.declared.entry.Entry.{Entry}
use Rattle.node_table.specs.declared.entry.LoadFault.{LoadFault}
use Rattle.node_table.specs.declared.entry.LoadFault.TheVariants.{Read, Damaged, NoMemory}
use Rattle.node_table.specs.Table.{TableView, HasTable, Has, IsDamaged}
use Rattle.blob_pages.specs.Chains.{bytes_in}

-- the bytes of a blob in an image
abbrev pub blob_bytes : Geometry → Pages → Entry → List ℕ
blob_bytes g image entry = bytes_in (data_start g) entry.pages entry.len image

-- the blob has bytes of its root
abbrev pub IsGood : Geometry → Pages → Entry → Type 0
IsGood g image entry = merkle_root (blob_bytes g image entry) ≡ entry.root

-- The image has the table of this value, each blob has these bytes, by its root, and they have that root.
pub record HasBlobs (t : TableView) (contents : Root → List ℕ) (image : Pages) : Type 0 where
  pub table : Has t image
  pub bytes : All (λ (entry : Entry). blob_bytes t.geometry image entry ≡ contents entry.root) t.entries
  pub roots : All (λ (entry : Entry). merkle_root (contents entry.root) ≡ entry.root) t.entries

-- each image of the disk has these blobs, where the disk tells its past
abbrev pub Stores : Option Past → TableView → (Root → List ℕ) → Type 0
Stores told t contents = EachImage told (HasBlobs t contents)

-- all images of the disk have one table, with one stock of blobs of these bytes
abbrev pub HaveOneStock : Option Past → Geometry → (Root → List ℕ) → Type 0
HaveOneStock told g contents =
    (second : Bool) × (entries : List Entry)
    × Stores told (record { geometry = g; second = second; entries = entries; broken = false }) contents

-- the blob of this root is the first in stock order that has bytes of another root
pub record IsFirstRotten (g : Geometry) (image : Pages) (entries : List Entry) (root : Root) : Type 0 where
  pub before : List Entry
  pub entry : Entry
  pub behind : List Entry
  pub are : entries ≡ before ++ entry ∷ behind
  pub good : All (IsGood g image) before
  pub rotten : IsGood g image entry → ⊥
  pub named : root ≡ entry.root

-- where an image's blobs are damaged: where its table is, or at the first blob without bytes of its root
abbrev pub IsDamagedAt : Geometry → Place → Pages → Type 0
IsDamagedAt g place.Super image = ⊥
IsDamagedAt g place.Selector image = IsDamaged g place.Selector image
IsDamagedAt g (place.Table page) image = IsDamaged g (place.Table page) image
IsDamagedAt g (place.Blob root) image =
    (second : Bool) × (entries : List Entry) × HasTable g second entries image × IsFirstRotten g image entries root
IsDamagedAt g (place.SlotPlace slot) image = ⊥

-- why the blobs were not attached
abbrev pub HasCause : Option Past → Geometry → LoadFault → Type 0
HasCause told g Read = ⊤
HasCause told g (Damaged found) = SomeImage told (IsDamagedAt g found)
HasCause told g NoMemory = ⊤

-- the fault is another than damage
abbrev pub IsNotDamaged : LoadFault → Type 0
IsNotDamaged Read = ⊤
IsNotDamaged (Damaged found) = ⊥
IsNotDamaged NoMemory = ⊤
