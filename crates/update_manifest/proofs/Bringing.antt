-- A text is read as images exactly where its partitions bring them, and refused exactly by its first fault.
use Rattle.std.proofs.Common.{◌≡◌, ℕ, List, [], Option, Some, None, Result, Ok, Err, inl, inr, refl, ap, subst, ◌∙◌}
use Rattle.std.specs.Prelude.{◌↔◌}
use Rattle.serde_json.specs.Data.{Data, Items}
use Rattle.system_lists.specs.declared.document.DocumentFault.{DocumentFault}
use Rattle.system_lists.specs.declared.document.DocumentFault.TheVariants as document
use Rattle.system_lists.specs.declared.list.ListFault.{ListFault}
use Rattle.system_lists.specs.declared.list.ListFault.TheVariants as list
use Rattle.system_lists.specs.declared.fault.ManifestFault.{ManifestFault}
use Rattle.system_lists.specs.declared.fault.ManifestFault.TheVariants.{Json, Version, Entry, NoSystem, Twice, NoZbi, Missing, TooLong, NoMemory}
use Rattle.system_lists.specs.Document.{document_in, entries}
use Rattle.system_lists.specs.Entries.{listed}
use Rattle.system_lists.proofs.Documents.{never_starved}
use Rattle.system_lists.proofs.Listing.{made, refused}
use Rattle.update_manifest.specs.declared.image.ImageRef.{ImageRef}
use Rattle.update_manifest.specs.declared.image.Images.{Images}
use Rattle.update_manifest.specs.declared.partition.Partition.{Partition}
use Rattle.update_manifest.specs.declared.partition.PartitionSlot.TheVariants.{Fuchsia, Recovery}
use Rattle.update_manifest.specs.declared.partition.PartitionType.TheVariants.{Zbi, Vbmeta}
use Rattle.update_manifest.specs.Partition.{partition_in, is_same}
use Rattle.update_manifest.specs.Images.{image_at, images_with, images_of, partition_fault, images_listed, images_at, partitions_at, images_document, images_in, HasArray, Brings, HasBadEntry, HasFirstFault}

-- ---- images

abbrev Listed : Type 0
Listed = Result (List Partition) ListFault

-- what a text with an array of partitions comes to
leads : (text : List ℕ) (items : Items) (read : Listed) → HasArray text items → listed is_same [] (entries partition_in items) ≡ read → images_in text ≡ images_listed read
leads text items read array e =
    ap images_document array.1 ∙ ap images_at array.2 ∙ ap images_listed e

all_with : (zbi vbmeta recovery_zbi recovery_vbmeta : Option ImageRef) (images : Images) → images_with zbi vbmeta recovery_zbi recovery_vbmeta ≡ Ok images
    → (zbi ≡ Some images.zbi) × (vbmeta ≡ images.vbmeta) × (recovery_zbi ≡ images.recovery_zbi) × (recovery_vbmeta ≡ images.recovery_vbmeta)
all_with None vbmeta recovery_zbi recovery_vbmeta images e = absurd cc
all_with (Some zbi) vbmeta recovery_zbi recovery_vbmeta images e =
    let these : Images = record { zbi = zbi; vbmeta = vbmeta; recovery_zbi = recovery_zbi; recovery_vbmeta = recovery_vbmeta } in
    let same : these ≡ images = cc in
    (ap (λ (i : Images). Some i.zbi) same, ap (λ (i : Images). i.vbmeta) same, ap (λ (i : Images). i.recovery_zbi) same, ap (λ (i : Images). i.recovery_vbmeta) same)

listed_bring : (text : List ℕ) (images : Images) (items : Items) (read : Listed) → HasArray text items → listed is_same [] (entries partition_in items) ≡ read → images_listed read ≡ Ok images → Brings text images
listed_bring text images items (Err fault) array is e = absurd cc
listed_bring text images items (Ok partitions) array is e =
    let all = all_with (image_at Fuchsia Zbi partitions) (image_at Fuchsia Vbmeta partitions) (image_at Recovery Zbi partitions) (image_at Recovery Vbmeta partitions) images e in
    record {
      partitions = partitions;
      whole = (items, array, (made is_same (entries partition_in items) partitions).0 is);
      zbi = all.0;
      vbmeta = all.1;
      recovery_zbi = all.2;
      recovery_vbmeta = all.3;
    }

array_brings : (text : List ℕ) (images : Images) (value : Data) (items : Option Items) → document_in text ≡ Ok value → partitions_at value ≡ items → images_at items ≡ Ok images → Brings text images
array_brings text images value None is at e = absurd cc
array_brings text images value (Some items) is at e = listed_bring text images items (listed is_same [] (entries partition_in items)) (value, is, at) refl e

document_brings : (text : List ℕ) (images : Images) (found : Result Data DocumentFault) → document_in text ≡ found → images_document found ≡ Ok images → Brings text images
document_brings text images (Err fault) is e = absurd cc
document_brings text images (Ok value) is e = array_brings text images value (partitions_at value) is refl e

read_when : (text : List ℕ) (images : Images) → Brings text images → images_in text ≡ Ok images
read_when text images is =
    let whole = is.whole in
    let read = (made is_same (entries partition_in whole.0) is.partitions).1 whole.2 in
    let all : images_of is.partitions ≡ Ok images = rw (is.zbi, is.vbmeta, is.recovery_zbi, is.recovery_vbmeta) refl in
    leads text whole.0 (Ok is.partitions) whole.1 read ∙ all

pub brings : (text : List ℕ) (images : Images) → (images_in text ≡ Ok images) ↔ Brings text images
brings text images = (document_brings text images (document_in text) refl, read_when text images)

-- ---- faults

no_zbi : (text : List ℕ) (zbi vbmeta recovery_zbi recovery_vbmeta : Option ImageRef) (fault : ManifestFault) → images_with zbi vbmeta recovery_zbi recovery_vbmeta ≡ Err fault → (zbi ≡ None) × (NoZbi ≡ fault)
no_zbi text None vbmeta recovery_zbi recovery_vbmeta fault e =
    let same : NoZbi ≡ fault = cc in
    (refl, same)
no_zbi text (Some zbi) vbmeta recovery_zbi recovery_vbmeta fault e = absurd cc

listed_fault : (text : List ℕ) (fault : ManifestFault) (items : Items) (read : Listed) → HasArray text items → listed is_same [] (entries partition_in items) ≡ read → images_listed read ≡ Err fault → HasFirstFault text fault
listed_fault text fault items (Ok partitions) array is e =
    let both = no_zbi text (image_at Fuchsia Zbi partitions) (image_at Fuchsia Vbmeta partitions) (image_at Recovery Zbi partitions) (image_at Recovery Vbmeta partitions) fault e in
    subst (HasFirstFault text) both.1 (partitions, (items, array, (made is_same (entries partition_in items) partitions).0 is), both.0)
listed_fault text fault items (Err (list.Bad n)) array is e =
    let same : Entry n ≡ fault = cc in
    subst (HasFirstFault text) same (items, array, (refused is_same (entries partition_in items) (list.Bad n)).0 is)
listed_fault text fault items (Err (list.Repeat n)) array is e =
    let same : Twice n ≡ fault = cc in
    subst (HasFirstFault text) same (items, array, (refused is_same (entries partition_in items) (list.Repeat n)).0 is)
listed_fault text fault items (Err list.NoMemory) array is e =
    let first = (refused is_same (entries partition_in items) list.NoMemory).0 is in
    absurd first.wrong

array_fault : (text : List ℕ) (fault : ManifestFault) (value : Data) (items : Option Items) → document_in text ≡ Ok value → partitions_at value ≡ items → images_at items ≡ Err fault → HasFirstFault text fault
array_fault text fault value None is at e =
    let same : Json ≡ fault = cc in
    subst (HasFirstFault text) same (inr (value, is, at))
array_fault text fault value (Some items) is at e = listed_fault text fault items (listed is_same [] (entries partition_in items)) (value, is, at) refl e

document_fault : (text : List ℕ) (fault : ManifestFault) (found : Result Data DocumentFault) → document_in text ≡ found → images_document found ≡ Err fault → HasFirstFault text fault
document_fault text fault (Ok value) is e = array_fault text fault value (partitions_at value) is refl e
document_fault text fault (Err document.Json) is e =
    let same : Json ≡ fault = cc in
    subst (HasFirstFault text) same (inl is)
document_fault text fault (Err document.Version) is e =
    let same : Version ≡ fault = cc in
    subst (HasFirstFault text) same is
document_fault text fault (Err document.NoMemory) is e = absurd (never_starved text is)

bad_entry : (text : List ℕ) (why : ListFault) → HasBadEntry text why → images_in text ≡ Err (partition_fault why)
bad_entry text why is = leads text is.0 (Err why) is.1 ((refused is_same (entries partition_in is.0) why).1 is.2)

refused_when : (text : List ℕ) (fault : ManifestFault) → HasFirstFault text fault → images_in text ≡ Err fault
refused_when text Json (inl is) = ap images_document is
refused_when text Json (inr is) = ap images_document is.1 ∙ ap images_at is.2
refused_when text Version is = ap images_document is
refused_when text (Entry n) is = bad_entry text (list.Bad n) is
refused_when text (Twice n) is = bad_entry text (list.Repeat n) is
refused_when text NoZbi is =
    let whole = is.1 in
    let read = (made is_same (entries partition_in whole.0) is.0).1 whole.2 in
    let none : images_of is.0 ≡ Err NoZbi = rw is.2 refl in
    leads text whole.0 (Ok is.0) whole.1 read ∙ none
refused_when text NoSystem is = absurd is
refused_when text Missing is = absurd is
refused_when text (TooLong len) is = absurd is
refused_when text NoMemory is = absurd is

pub first_fault : (text : List ℕ) (fault : ManifestFault) → (images_in text ≡ Err fault) ↔ HasFirstFault text fault
first_fault text fault = (document_fault text fault (document_in text) refl, refused_when text fault)
