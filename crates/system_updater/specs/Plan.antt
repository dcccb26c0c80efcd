-- What the next system is, by the manifests of an update package.
use Rattle.std.specs.Prelude.{ℕ, List, [], ◌∷◌, codes, Option, Some, None, map}
use Rattle.image_layout.specs.declared.ImageKind.{ImageKind}
use Rattle.image_layout.specs.declared.ImageKind.TheVariants as kinds
use Rattle.image_layout.specs.declared.ImageSum.{ImageSum}
use Rattle.image_layout.specs.declared.Sys.{Sys}
use Rattle.image_layout.specs.Sums.{image_sum}
use Rattle.pkg_names.specs.declared.pinned.Pinned.{Pinned}
use Rattle.pkg_names.specs.declared.root.Root.{Root}
use Rattle.repo_source.specs.Repo.{listed_root}
use Rattle.system_lists.specs.Judging.{system_path}
use Rattle.system_lists.specs.declared.fault.ManifestFile.{ManifestFile}
use Rattle.system_lists.specs.declared.fault.ManifestFile.TheVariants as files
use Rattle.update_manifest.specs.declared.image.ImageRef.{ImageRef}
use Rattle.update_manifest.specs.declared.image.Images.{Images}
use Rattle.system_updater.specs.declared.plan.Plan.{Plan}

-- the path of a manifest in the update package
abbrev pub name_of : ManifestFile → List ℕ
name_of files.Epoch = codes "epoch.json"
name_of files.Packages = codes "packages.json"
name_of files.Images = codes "images.json"

abbrev pub roots_of : List Pinned → List Root
roots_of packages = map (λ (pinned : Pinned). pinned.root) packages

-- the 32 zero bytes stand for no root
abbrev root_or_none : Option Root → Root
root_or_none None = record { 0 = codes "\0\0\0\0\0\0\0\0\0\0\0\0\0\0\0\0\0\0\0\0\0\0\0\0\0\0\0\0\0\0\0\0" }
root_or_none (Some root) = root

-- The root of the system package. A list that was read has one.
abbrev pub system_root : List Pinned → Root
system_root packages = root_or_none (listed_root packages system_path)

abbrev pub sum_of : ImageRef → ImageSum
sum_of image = record { len = image.len; sha = image.sha }

-- without a vbmeta it is the empty image
abbrev pub vbmeta_sum : Option ImageRef → ImageSum
vbmeta_sum None = image_sum []
vbmeta_sum (Some image) = sum_of image

-- the system that is sealed
abbrev pub sys_of : Plan → Sys
sys_of plan = record {
  system = system_root plan.packages;
  epoch = plan.epoch;
  zbi = sum_of plan.images.zbi;
  vbmeta = vbmeta_sum plan.images.vbmeta;
}

-- an image that is to be copied
pub record Task : Type 0 where
  pub kind : ImageKind
  pub image : ImageRef

abbrev vbmeta_task : Option ImageRef → List Task
vbmeta_task None = []
vbmeta_task (Some image) = record { kind = kinds.Vbmeta; image = image } ∷ []

-- the zbi, and then the vbmeta if there is one
abbrev pub tasks_of : Images → List Task
tasks_of images = record { kind = kinds.Zbi; image = images.zbi } ∷ vbmeta_task images.vbmeta
