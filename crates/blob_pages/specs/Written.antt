-- The pages of a blob that stand written on a disk. Page p of a chain is page start + p of the disk.
use Rattle.std.specs.Prelude.{ℕ, ◌≡◌, ◌⊎◌, ◌+◌, ◌-◌, ◌/◌, ◌<◌, List, [], ◌∷◌, length, map, slice_index, Option, Some, None}
use Rattle.std.specs.List.{range_with_len}
use Rattle.disk_model.specs.Past.{Past, with_act}
use Rattle.disk_model.specs.declared.act.DiskAct.{DiskAct}
use Rattle.disk_model.specs.declared.act.DiskAct.TheVariants.{Wrote, Failed, Synced}
use Rattle.disk_model.specs.Images.{AllWritten, AllSettled}
use Rattle.blob_pages.specs.declared.draft.TheConstants.{PAGE_SIZE}
use Rattle.blob_pages.specs.Pages.{page_of}

-- the page of the disk at place i of a chain
abbrev pub place : ℕ → List ℕ → ℕ → ℕ
place start chain i = start + slice_index chain i

-- the page is one of the chain's
abbrev pub IsOn : ℕ → List ℕ → ℕ → Type 0
IsOn start chain n = (i : ℕ) × (i < length chain) × (n ≡ place start chain i)

-- the first n pages of a blob are written, each at its place of the chain
abbrev pub AreWritten : Option Past → ℕ → List ℕ → List ℕ → ℕ → Type 0
AreWritten told start chain blob n = AllWritten told (place start chain) (page_of blob) n

-- the first n pages of a blob have their one value in each image, each at its place of the chain
abbrev pub AreSettled : Option Past → ℕ → List ℕ → List ℕ → ℕ → Type 0
AreSettled told start chain blob n = AllSettled told (place start chain) (page_of blob) n

-- the writes of the pages of a blob from one number on up to another, in order, each at its place of the chain
abbrev pub page_acts : ℕ → List ℕ → List ℕ → ℕ → ℕ → List DiskAct
page_acts start chain blob from to =
    map (λ (i : ℕ). Wrote (place start chain i) (page_of blob i)) (range_with_len from (to - from))

-- the acts that settle a blob of this length whose full pages are written
abbrev pub settling_acts : ℕ → List ℕ → ℕ → Option (List ℕ) → List DiskAct
settling_acts start chain len None = Synced ∷ []
settling_acts start chain len (Some page) = Wrote (place start chain (len / PAGE_SIZE)) page ∷ Synced ∷ []

-- what the settling of a blob may have done where it failed: nothing, or the one write, made or failed
abbrev pub IsHalfSettled : Option Past → Option Past → ℕ → List ℕ → ℕ → Option (List ℕ) → Type 0
IsHalfSettled old new start chain len None = new ≡ old
IsHalfSettled old new start chain len (Some page) =
    (new ≡ old)
    ⊎ ((new ≡ with_act old (Wrote (place start chain (len / PAGE_SIZE)) page))
    ⊎ (new ≡ with_act old (Failed (place start chain (len / PAGE_SIZE)) page)))
