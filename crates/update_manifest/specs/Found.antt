-- The images that were found so far. This serves the proof.
use Rattle.std.specs.Prelude.{ℕ, ◌+◌, List, Option, Some, None, Result, Ok, Err, is_some, if◌then◌else◌}
use Rattle.std.specs.Option.{option_len}
use Rattle.system_lists.specs.declared.fault.ManifestFault.{ManifestFault}
use Rattle.system_lists.specs.declared.fault.ManifestFault.TheVariants.{Entry, Twice}
use Rattle.update_manifest.specs.declared.image.ImageRef.{ImageRef}
use Rattle.update_manifest.specs.declared.found.Found.{Found}
use Rattle.update_manifest.specs.declared.partition.Partition.{Partition}
use Rattle.update_manifest.specs.declared.partition.PartitionSlot.{PartitionSlot}
use Rattle.update_manifest.specs.declared.partition.PartitionSlot.TheVariants.{Fuchsia, Recovery}
use Rattle.update_manifest.specs.declared.partition.PartitionType.{PartitionType}
use Rattle.update_manifest.specs.declared.partition.PartitionType.TheVariants.{Zbi, Vbmeta}
use Rattle.update_manifest.specs.Images.{image_at}

-- the images of these partitions
abbrev pub found_of : List Partition → Found
found_of partitions = record {
  zbi = image_at Fuchsia Zbi partitions;
  vbmeta = image_at Fuchsia Vbmeta partitions;
  recovery_zbi = image_at Recovery Zbi partitions;
  recovery_vbmeta = image_at Recovery Vbmeta partitions;
}

-- how many there are
abbrev pub count : Found → ℕ
count found =
    option_len found.zbi + option_len found.vbmeta + option_len found.recovery_zbi + option_len found.recovery_vbmeta

abbrev pub place_of : PartitionSlot → PartitionType → Found → Option ImageRef
place_of Fuchsia Zbi found = found.zbi
place_of Fuchsia Vbmeta found = found.vbmeta
place_of Recovery Zbi found = found.recovery_zbi
place_of Recovery Vbmeta found = found.recovery_vbmeta

abbrev pub put_at : PartitionSlot → PartitionType → ImageRef → Found → Found
put_at Fuchsia Zbi image found = record found { zbi = Some image }
put_at Fuchsia Vbmeta image found = record found { vbmeta = Some image }
put_at Recovery Zbi image found = record found { recovery_zbi = Some image }
put_at Recovery Vbmeta image found = record found { recovery_vbmeta = Some image }

-- what was found with the next entry, or what is wrong with it
abbrev pub found_with : Found → Option Partition → Result Found ManifestFault
found_with found None = Err (Entry (count found + 1))
found_with found (Some partition) =
    if is_some (place_of partition.slot partition.kind found) then Err (Twice (count found + 1))
    else Ok (put_at partition.slot partition.kind partition.image found)
