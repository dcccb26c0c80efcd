-- The images of the slot that an update fills.
use Rattle.std.specs.Prelude.{◌≡◌, ◌≢◌, ℕ, List, [], ◌++◌, length, None}
use Rattle.image_layout.specs.declared.ImageKind.{ImageKind}
use Rattle.image_layout.specs.declared.ImageKind.TheVariants as images
use Rattle.image_layout.specs.declared.Sys.{Sys}
use Rattle.image_layout.specs.Sums.{image_sum}
use Rattle.pkg_names.specs.declared.root.Root.{Root}
use Rattle.store_model.specs.declared.ends.Difference.{Difference}
use Rattle.store_model.specs.Desk.{Fillers, filler_of, with_filler, filler_after}
use Rattle.store_model.specs.Acts.Seal.{sum_in}

-- the images of the slot that is filled, and the files that alone have filled them
pub record ImagesOf : Type 0 where
  pub zbi : List ℕ
  pub vbmeta : List ℕ
  pub fillers : Fillers

abbrev pub image_of : ImagesOf → ImageKind → List ℕ
image_of s images.Zbi = s.zbi
image_of s images.Vbmeta = s.vbmeta

-- no image has a byte, and no file has filled one
abbrev pub no_images : ImagesOf
no_images = record { zbi = []; vbmeta = []; fillers = record { zbi = None; vbmeta = None } }

-- the same bytes, of which no file is known
abbrev pub without_fillers : ImagesOf → ImagesOf
without_fillers s = record { zbi = s.zbi; vbmeta = s.vbmeta; fillers = record { zbi = None; vbmeta = None } }

-- A part of the file with this root came behind the bytes of an image.
pub record IsAppended (image : ImageKind) (root : Root) (part : List ℕ) (old new : ImagesOf) : Type 0 where
  pub bytes : image_of new image ≡ image_of old image ++ part
  pub others : (kind : ImageKind) → kind ≢ image → image_of new kind ≡ image_of old kind
  pub fillers : new.fillers ≡ with_filler old.fillers image
      (filler_after (length (image_of old image)) root (filler_of old.fillers image))

-- the images before this one are those of the system
abbrev pub HaveSumsBefore : Sys → ImagesOf → ImageKind → Type 0
HaveSumsBefore sys i images.Zbi = Unit {0}
HaveSumsBefore sys i images.Vbmeta = image_sum i.zbi ≡ sys.zbi

-- This is the first image that isn't the system's, and its sum.
pub record IsDifference (sys : Sys) (i : ImagesOf) (difference : Difference) : Type 0 where
  pub sum : image_sum (image_of i difference.image) ≡ difference.got
  pub differs : difference.got ≢ sum_in sys difference.image
  pub before : HaveSumsBefore sys i difference.image

-- both images are the system's
abbrev pub HaveSums : Sys → ImagesOf → Type 0
HaveSums sys i = (image_sum i.zbi ≡ sys.zbi) × (image_sum i.vbmeta ≡ sys.vbmeta)
