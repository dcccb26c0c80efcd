-- The URL of each image that a manifest brings names a file.
use Rattle.std.proofs.Common.{◌≡◌, true, List, [], ◌∷◌, Option, Some, None}
use Rattle.std.specs.Prelude.{is_some, IfSome}
use Rattle.package_url.specs.declared.url.Url.{Url}
use Rattle.update_manifest.specs.declared.image.ImageRef.{ImageRef}
use Rattle.update_manifest.specs.declared.image.Images.{Images}
use Rattle.update_manifest.specs.Images.{NamesFile, NameFiles}
use Rattle.system_updater.specs.Plan.{Task, tasks_of}

abbrev pub HasFile : Url → Type 0
HasFile url = is_some url.file ≡ true

abbrev pub AreNamed : List Task → Type 0
AreNamed [] = Unit {0}
AreNamed (task ∷ later) = HasFile task.image.url × AreNamed later

parts_named : (zbi : ImageRef) (vbmeta recovery_zbi recovery_vbmeta : Option ImageRef) → NamesFile zbi → IfSome vbmeta NamesFile
    → AreNamed (tasks_of (record { zbi = zbi; vbmeta = vbmeta; recovery_zbi = recovery_zbi; recovery_vbmeta = recovery_vbmeta }))
parts_named zbi None recovery_zbi recovery_vbmeta first second = (first.1, tt)
parts_named zbi (Some image) recovery_zbi recovery_vbmeta first second = (first.1, (second.1, tt))

pub tasks_named : (images : Images) → NameFiles images → AreNamed (tasks_of images)
tasks_named images names = parts_named images.zbi images.vbmeta images.recovery_zbi images.recovery_vbmeta names.zbi names.vbmeta
