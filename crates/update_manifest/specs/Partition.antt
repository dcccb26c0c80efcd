-- A partition of `images.json`: its slot, its type, and its image.
use Rattle.std.specs.Prelude.{ℕ, ◌&&◌, is_some, Bool, true, false, List, codes, Option, Some, None, option_and_then, Result, Ok, Err, if◌then◌else◌}
use Rattle.std.specs.Str.{bytes_eq}
use Rattle.serde_json.specs.Data.{Data}
use Rattle.serde_json.specs.Find.{get, as_str, as_number, as_u64}
use Rattle.pkg_names.specs.declared.root.Root.{Root}
use Rattle.pkg_names.specs.Root.{root_in}
use Rattle.package_url.specs.declared.url.Url.{Url}
use Rattle.package_url.specs.declared.fault.UrlFault.{UrlFault}
use Rattle.package_url.specs.Reading.{url_in}
use Rattle.update_manifest.specs.declared.partition.Partition.{Partition}
use Rattle.update_manifest.specs.declared.partition.PartitionSlot.{PartitionSlot}
use Rattle.update_manifest.specs.declared.partition.PartitionSlot.TheVariants.{Fuchsia, Recovery}
use Rattle.update_manifest.specs.declared.partition.PartitionType.{PartitionType}
use Rattle.update_manifest.specs.declared.partition.PartitionType.TheVariants.{Zbi, Vbmeta}

-- the string at a member
abbrev pub text_at : List ℕ → Data → Option (List ℕ)
text_at name value = option_and_then as_str (get name value)

abbrev pub slot_in : List ℕ → Option PartitionSlot
slot_in text =
    if bytes_eq text (codes "fuchsia") then Some Fuchsia
    else if bytes_eq text (codes "recovery") then Some Recovery else None

abbrev pub type_in : List ℕ → Option PartitionType
type_in text =
    if bytes_eq text (codes "zbi") then Some Zbi else if bytes_eq text (codes "vbmeta") then Some Vbmeta else None

-- a URL with a pin and a file
abbrev pub image_url : Url → Option Url
image_url url = if is_some url.pin && is_some url.file then Some url else None

abbrev pub image_url_of : Result Url UrlFault → Option Url
image_url_of (Ok url) = image_url url
image_url_of (Err fault) = None

-- ---- the members of an entry

abbrev pub slot_at : Data → Option PartitionSlot
slot_at value = option_and_then slot_in (text_at (codes "slot") value)

abbrev pub type_at : Data → Option PartitionType
type_at value = option_and_then type_in (text_at (codes "type") value)

-- a whole number below 2^64
abbrev pub size_at : Data → Option ℕ
size_at value = option_and_then as_u64 (option_and_then as_number (get (codes "size") value))

-- the bytes that 64 lower-case digits spell, as those of a root do
abbrev pub hash_at : Data → Option Root
hash_at value = option_and_then root_in (text_at (codes "hash") value)

abbrev pub url_at : Data → Option Url
url_at value = option_and_then (λ text. image_url_of (url_in text)) (text_at (codes "url") value)

abbrev pub partition_of : Option PartitionSlot → Option PartitionType → Option ℕ → Option Root → Option Url
    → Option Partition
partition_of None kind len hash url = None
partition_of (Some slot) None len hash url = None
partition_of (Some slot) (Some kind) None hash url = None
partition_of (Some slot) (Some kind) (Some len) None url = None
partition_of (Some slot) (Some kind) (Some len) (Some hash) None = None
partition_of (Some slot) (Some kind) (Some len) (Some hash) (Some url) =
    Some (record { slot = slot; kind = kind; image = record { len = len; sha = hash.0; url = url } })

-- the partition in an entry: all five members are there, and each is what it is to be
abbrev pub partition_in : Data → Option Partition
partition_in value = partition_of (slot_at value) (type_at value) (size_at value) (hash_at value) (url_at value)

-- ---- which partition it is

abbrev pub is_slot : PartitionSlot → PartitionSlot → Bool
is_slot Fuchsia Fuchsia = true
is_slot Fuchsia Recovery = false
is_slot Recovery Fuchsia = false
is_slot Recovery Recovery = true

abbrev pub is_type : PartitionType → PartitionType → Bool
is_type Zbi Zbi = true
is_type Zbi Vbmeta = false
is_type Vbmeta Zbi = false
is_type Vbmeta Vbmeta = true

-- the partition of this slot and type
abbrev pub is_of : PartitionSlot → PartitionType → Partition → Bool
is_of slot kind partition = is_slot slot partition.slot && is_type kind partition.kind

-- two partitions have one slot and type
abbrev pub is_same : Partition → Partition → Bool
is_same a b = is_of b.slot b.kind a
