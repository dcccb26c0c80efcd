-- A part of a file can't be copied into an image of the slot that is filled.
use Rattle.std.specs.Prelude.{◌≡◌, ℕ, ◌*◌, nat_lt, List, Option, Some, None, if◌then◌else◌}
use Rattle.pkg_names.specs.declared.root.Root.{Root}
use Rattle.image_layout.specs.declared.geometry.Geometry.{Geometry}
use Rattle.image_layout.specs.declared.geometry.TheConstants.{VBMETA_PAGES}
use Rattle.image_layout.specs.declared.ImageKind.{ImageKind}
use Rattle.image_layout.specs.declared.ImageKind.TheVariants.{Zbi, Vbmeta}
use Rattle.store_model.specs.declared.ends.CopyEnd.{CopyEnd}
use Rattle.store_model.specs.declared.ends.CopyEnd.TheVariants.{BadDir, NoFile, TooLarge, DiskRead}
use Rattle.store_model.specs.State.{State, IsStageOf}
use Rattle.store_model.specs.State.Phase.{Filling}
use Rattle.store_model.specs.Files.{Found, found, found_len}
use Rattle.store_model.specs.Files.Found.{NotOpen, NoSuchFile, Outer}

-- the bytes that an image may have
abbrev pub area : Geometry → ImageKind → ℕ
area g Zbi = g.slot_pages * 4096
area g Vbmeta = VBMETA_PAGES * 4096

abbrev pub too_large : ℕ → Option ℕ → Option CopyEnd
too_large room None = None
too_large room (Some len) = if nat_lt room len then Some (TooLarge len room) else None

abbrev pub copy_end_of : State → ℕ → Found → Option CopyEnd
copy_end_of s room NotOpen = Some BadDir
copy_end_of s room NoSuchFile = Some NoFile
copy_end_of s room file = too_large room (found_len s file)

-- why the file can't be copied, if nothing fails
abbrev pub copy_end : State → ℕ → ImageKind → ℕ → List ℕ → Option CopyEnd
copy_end s lane image dir file = copy_end_of s (area s.geometry image) (found s lane dir file)

abbrev pub IsOuter : Found → Type 0
IsOuter file = (root : Root) × (file ≡ Outer root)

abbrev pub IsCopyEnd : State → ℕ → ImageKind → ℕ → List ℕ → Option CopyEnd → Type 0
IsCopyEnd s lane image dir file None = ⊥
IsCopyEnd s lane image dir file (Some DiskRead) =
    (copy_end s lane image dir file ≡ None) × IsOuter (found s lane dir file)
IsCopyEnd s lane image dir file (Some end) = copy_end s lane image dir file ≡ Some end

abbrev pub IsDueCopy : State → ℕ → ImageKind → ℕ → List ℕ → Option CopyEnd → Type 0
IsDueCopy s lane image dir file reply = IsStageOf s lane Filling × IsCopyEnd s lane image dir file reply
