-- Each image that a text brings is a file of a package.
use Rattle.std.proofs.Common.{◌≡◌, ℕ, Bool, true, false, List, [], ◌∷◌, Option, Some, None, Result, Ok, Err, refl, subst, ◌∙◌}
use Rattle.std.specs.Prelude.{is_some, IfSome, map, codes, option_and_then, ◌&&◌, if◌then◌else◌}
use Rattle.serde_json.specs.Data.{Data, Items, no_items, item}
use Rattle.package_url.specs.declared.url.Url.{Url}
use Rattle.package_url.specs.declared.fault.UrlFault.{UrlFault}
use Rattle.package_url.specs.Reading.{url_in}
use Rattle.pkg_names.specs.declared.root.Root.{Root}
use Rattle.system_lists.specs.Document.{entries}
use Rattle.update_manifest.specs.declared.image.ImageRef.{ImageRef}
use Rattle.update_manifest.specs.declared.image.Images.{Images}
use Rattle.update_manifest.specs.declared.partition.Partition.{Partition}
use Rattle.update_manifest.specs.declared.partition.PartitionSlot.{PartitionSlot}
use Rattle.update_manifest.specs.declared.partition.PartitionSlot.TheVariants.{Fuchsia, Recovery}
use Rattle.update_manifest.specs.declared.partition.PartitionType.{PartitionType}
use Rattle.update_manifest.specs.declared.partition.PartitionType.TheVariants.{Zbi, Vbmeta}
use Rattle.update_manifest.specs.Partition.{text_at, slot_at, type_at, size_at, hash_at, url_at, image_url_of, partition_of, partition_in, is_of}
use Rattle.update_manifest.specs.Images.{image_at, Brings, NamesFile, NameFiles}

abbrev HasFile : Url → Type 0
HasFile url = (is_some url.pin ≡ true) × (is_some url.file ≡ true)

-- ---- one entry

if_named : (url given : Url) (pin file : Bool) → is_some url.pin ≡ pin → is_some url.file ≡ file → ◌≡◌ {A = Option Url} (if pin && file then Some url else None) (Some given) → HasFile given
if_named url given true true pinned named is =
    let same : url ≡ given = cc is in
    subst HasFile same (pinned, named)
if_named url given true false pinned named is = absurd (cc is)
if_named url given false true pinned named is = absurd (cc is)
if_named url given false false pinned named is = absurd (cc is)

read_named : (read : Result Url UrlFault) (given : Url) → image_url_of read ≡ Some given → HasFile given
read_named (Ok url) given is = if_named url given (is_some url.pin) (is_some url.file) refl refl is
read_named (Err fault) given is = absurd (cc is)

text_named : (text : Option (List ℕ)) (given : Url) → option_and_then (λ (t : List ℕ). image_url_of (url_in t)) text ≡ Some given → HasFile given
text_named (Some text) given is = read_named (url_in text) given is
text_named None given is = absurd (cc is)

parts_named : (slot : Option PartitionSlot) (kind : Option PartitionType) (len : Option ℕ) (hash : Option Root) (url : Option Url) (partition : Partition) → ((given : Url) → url ≡ Some given → HasFile given)
    → partition_of slot kind len hash url ≡ Some partition → NamesFile partition.image
parts_named None kind len hash url partition names is = absurd (cc is)
parts_named (Some slot) None len hash url partition names is = absurd (cc is)
parts_named (Some slot) (Some kind) None hash url partition names is = absurd (cc is)
parts_named (Some slot) (Some kind) (Some len) None url partition names is = absurd (cc is)
parts_named (Some slot) (Some kind) (Some len) (Some hash) None partition names is = absurd (cc is)
parts_named (Some slot) (Some kind) (Some len) (Some hash) (Some url) partition names is =
    let these : Partition = record { slot = slot; kind = kind; image = record { len = len; sha = hash.0; url = url } } in
    let same : these ≡ partition = cc is in
    subst (λ (p : Partition). NamesFile p.image) same (names url refl)

entry_named : (value : Data) (partition : Partition) → partition_in value ≡ Some partition → NamesFile partition.image
entry_named value partition is =
    parts_named (slot_at value) (type_at value) (size_at value) (hash_at value) (url_at value) partition (text_named (text_at (codes "url") value)) is

-- ---- all entries

first_or_later : (here : Bool) (partition : Partition) (later : Option ImageRef) → NamesFile partition.image → IfSome later NamesFile → IfSome (if here then Some partition.image else later) NamesFile
first_or_later true partition later first rest = first
first_or_later false partition later first rest = rest

at_named : (items : Items) (partitions : List Partition) → entries partition_in items ≡ map (λ (p : Partition). Some p) partitions → (slot : PartitionSlot) (kind : PartitionType) → IfSome (image_at slot kind partitions) NamesFile
at_named no_items [] said slot kind = tt
at_named no_items (partition ∷ later) said slot kind = absurd (cc said)
at_named (item value rest) [] said slot kind = tt
at_named (item value rest) (partition ∷ later) said slot kind =
    let first : partition_in value ≡ Some partition = cc said in
    let others : entries partition_in rest ≡ map (λ (p : Partition). Some p) later = cc said in
    first_or_later (is_of slot kind partition) partition (image_at slot kind later) (entry_named value partition first) (at_named rest later others slot kind)

pub all_named : (text : List ℕ) (images : Images) → Brings text images → NameFiles images
all_named text images is =
    let named = at_named is.whole.0 is.partitions is.whole.2.said in record {
      zbi = subst (λ (o : Option ImageRef). IfSome o NamesFile) is.zbi (named Fuchsia Zbi);
      vbmeta = subst (λ (o : Option ImageRef). IfSome o NamesFile) is.vbmeta (named Fuchsia Vbmeta);
      recovery_zbi = subst (λ (o : Option ImageRef). IfSome o NamesFile) is.recovery_zbi (named Recovery Zbi);
      recovery_vbmeta = subst (λ (o : Option ImageRef). IfSome o NamesFile) is.recovery_vbmeta (named Recovery Vbmeta);
    }
