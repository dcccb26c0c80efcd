-- The images in a text, or its first fault.
use Rattle.std.specs.Prelude.{◌≡◌, ◌⊎◌, ℕ, List, [], ◌∷◌, codes, Option, Some, None, option_and_then, is_some, true, IfSome, Result, Ok, Err, if◌then◌else◌}
use Rattle.serde_json.specs.Data.{Data, Items}
use Rattle.serde_json.specs.Find.{get, as_array}
use Rattle.system_lists.specs.declared.document.DocumentFault.{DocumentFault}
use Rattle.system_lists.specs.declared.document.DocumentFault.TheVariants as document
use Rattle.system_lists.specs.declared.list.ListFault.{ListFault}
use Rattle.system_lists.specs.declared.list.ListFault.TheVariants as list
use Rattle.system_lists.specs.declared.fault.ManifestFault.{ManifestFault}
use Rattle.system_lists.specs.declared.fault.ManifestFault.TheVariants.{Json, Version, Entry, NoSystem, Twice, NoZbi, Missing, TooLong, NoMemory}
use Rattle.system_lists.specs.Document.{document_in, entries}
use Rattle.system_lists.specs.Entries.{listed, IsMadeOf, IsFirstFault}
use Rattle.system_lists.specs.Faults.{manifest_fault}
use Rattle.update_manifest.specs.declared.image.ImageRef.{ImageRef}
use Rattle.update_manifest.specs.declared.image.Images.{Images}
use Rattle.update_manifest.specs.declared.partition.Partition.{Partition}
use Rattle.update_manifest.specs.declared.partition.PartitionSlot.{PartitionSlot}
use Rattle.update_manifest.specs.declared.partition.PartitionSlot.TheVariants.{Fuchsia, Recovery}
use Rattle.update_manifest.specs.declared.partition.PartitionType.{PartitionType}
use Rattle.update_manifest.specs.declared.partition.PartitionType.TheVariants.{Zbi, Vbmeta}
use Rattle.update_manifest.specs.Partition.{partition_in, is_of, is_same}

-- the image for this slot and type
abbrev pub image_at : PartitionSlot → PartitionType → List Partition → Option ImageRef
image_at slot kind [] = None
image_at slot kind (partition ∷ rest) =
    if is_of slot kind partition then Some partition.image else image_at slot kind rest

abbrev pub images_with : Option ImageRef → Option ImageRef → Option ImageRef → Option ImageRef
    → Result Images ManifestFault
images_with None vbmeta recovery_zbi recovery_vbmeta = Err NoZbi
images_with (Some zbi) vbmeta recovery_zbi recovery_vbmeta =
    Ok (record { zbi = zbi; vbmeta = vbmeta; recovery_zbi = recovery_zbi; recovery_vbmeta = recovery_vbmeta })

-- the images of partitions
abbrev pub images_of : List Partition → Result Images ManifestFault
images_of partitions =
    images_with (image_at Fuchsia Zbi partitions) (image_at Fuchsia Vbmeta partitions)
    (image_at Recovery Zbi partitions) (image_at Recovery Vbmeta partitions)

abbrev pub partition_fault : ListFault → ManifestFault
partition_fault (list.Bad n) = Entry n
partition_fault (list.Repeat n) = Twice n
partition_fault list.NoMemory = NoMemory

abbrev pub images_listed : Result (List Partition) ListFault → Result Images ManifestFault
images_listed (Ok partitions) = images_of partitions
images_listed (Err fault) = Err (partition_fault fault)

-- what each entry of the array says
abbrev pub images_at : Option Items → Result Images ManifestFault
images_at None = Err Json
images_at (Some items) = images_listed (listed is_same [] (entries partition_in items))

-- the array `partitions` in the object `contents`
abbrev pub partitions_at : Data → Option Items
partitions_at value =
    option_and_then as_array (option_and_then (get (codes "partitions")) (get (codes "contents") value))

abbrev pub images_document : Result Data DocumentFault → Result Images ManifestFault
images_document (Ok value) = images_at (partitions_at value)
images_document (Err fault) = Err (manifest_fault fault)

-- the images in a text, or its first fault
abbrev pub images_in : List ℕ → Result Images ManifestFault
images_in text = images_document (document_in text)

-- ---- the same in other words

-- the text is a document with this array of partitions
abbrev pub HasArray : List ℕ → Items → Type 0
HasArray text items = (value : Data) × (document_in text ≡ Ok value) × (partitions_at value ≡ Some items)

-- each entry is a partition, no two of one slot and type
abbrev pub HasPartitions : List ℕ → List Partition → Type 0
HasPartitions text partitions =
    (items : Items) × HasArray text items × IsMadeOf is_same (entries partition_in items) partitions

-- the partitions of the text bring these images
pub record Brings (text : List ℕ) (images : Images) : Type 0 where
  pub partitions : List Partition
  pub whole : HasPartitions text partitions
  pub zbi : image_at Fuchsia Zbi partitions ≡ Some images.zbi
  pub vbmeta : image_at Fuchsia Vbmeta partitions ≡ images.vbmeta
  pub recovery_zbi : image_at Recovery Zbi partitions ≡ images.recovery_zbi
  pub recovery_vbmeta : image_at Recovery Vbmeta partitions ≡ images.recovery_vbmeta

-- ---- each image is a file of a package

-- its URL has a pin and a file
abbrev pub NamesFile : ImageRef → Type 0
NamesFile image = (is_some image.url.pin ≡ true) × (is_some image.url.file ≡ true)

-- so it is of each of them
pub record NameFiles (images : Images) : Type 0 where
  pub zbi : NamesFile images.zbi
  pub vbmeta : IfSome images.vbmeta NamesFile
  pub recovery_zbi : IfSome images.recovery_zbi NamesFile
  pub recovery_vbmeta : IfSome images.recovery_vbmeta NamesFile

-- ---- faults

-- the first entry with a fault has this one
abbrev pub HasBadEntry : List ℕ → ListFault → Type 0
HasBadEntry text fault =
    (items : Items) × HasArray text items × IsFirstFault is_same (entries partition_in items) fault

-- the first fault of a text
abbrev pub HasFirstFault : List ℕ → ManifestFault → Type 0
HasFirstFault text Json =
    (document_in text ≡ Err document.Json)
    ⊎ ((value : Data) × (document_in text ≡ Ok value) × (partitions_at value ≡ None))
HasFirstFault text Version = document_in text ≡ Err document.Version
HasFirstFault text (Entry n) = HasBadEntry text (list.Bad n)
HasFirstFault text (Twice n) = HasBadEntry text (list.Repeat n)
HasFirstFault text NoZbi =
    (partitions : List Partition) × HasPartitions text partitions × (image_at Fuchsia Zbi partitions ≡ None)
HasFirstFault text NoSystem = ⊥
HasFirstFault text Missing = ⊥
HasFirstFault text (TooLong len) = ⊥
HasFirstFault text NoMemory = ⊥
