-- The texts of answers.
use Rattle.std.specs.Prelude.{ℕ, List, [], ◌∷◌, ◌++◌, length, codes, Option, Some, None}
use Rattle.std.specs.Fmt.{decimal}
use Rattle.hex.specs.Hex.{encode_lower}
use Rattle.abr_record.specs.declared.Slot.{Slot}
use Rattle.abr_record.specs.declared.Slot.TheVariants as slots
use Rattle.fetch_queue.specs.declared.FetchEnd.{FetchEnd}
use Rattle.fetch_queue.specs.declared.FetchEnd.TheVariants as ends
use Rattle.image_layout.specs.declared.ImageKind.{ImageKind}
use Rattle.image_layout.specs.declared.ImageKind.TheVariants as images
use Rattle.pkg_names.specs.Root.{root_text}
use Rattle.pkg_names.specs.declared.root.Root.{Root}
use Rattle.system_lists.specs.declared.fault.ManifestFile.{ManifestFile}
use Rattle.system_lists.specs.declared.fault.ManifestFile.TheVariants as files
use Rattle.store_model.specs.declared.ends.BeginEnd.{BeginEnd}
use Rattle.store_model.specs.declared.ends.BeginEnd.TheVariants as begins
use Rattle.store_model.specs.declared.ends.WantEnd.{WantEnd}
use Rattle.store_model.specs.declared.ends.WantEnd.TheVariants as wants
use Rattle.store_model.specs.declared.ends.Cause.{Cause}
use Rattle.store_model.specs.declared.ends.Cause.TheVariants as causes
use Rattle.store_model.specs.declared.ends.Miss.{Miss}
use Rattle.store_model.specs.declared.ends.Miss.TheVariants as misses
use Rattle.store_model.specs.declared.ends.ReadEnd.{ReadEnd}
use Rattle.store_model.specs.declared.ends.ReadEnd.TheVariants as reads
use Rattle.store_model.specs.declared.ends.CheckEnd.{CheckEnd}
use Rattle.store_model.specs.declared.ends.CheckEnd.TheVariants as checks
use Rattle.store_model.specs.declared.ends.RetainEnd.{RetainEnd}
use Rattle.store_model.specs.declared.ends.RetainEnd.TheVariants as retains
use Rattle.store_model.specs.declared.ends.StageEnd.{StageEnd}
use Rattle.store_model.specs.declared.ends.StageEnd.TheVariants as stages
use Rattle.store_model.specs.declared.ends.CopyEnd.{CopyEnd}
use Rattle.store_model.specs.declared.ends.CopyEnd.TheVariants as copies
use Rattle.store_model.specs.declared.ends.Difference.{Difference}
use Rattle.store_model.specs.declared.ends.ActivateEnd.{ActivateEnd}
use Rattle.store_model.specs.declared.ends.ActivateEnd.TheVariants as activations

abbrev pub slot_text : Slot → List ℕ
slot_text slots.A = codes "A"
slot_text slots.B = codes "B"
slot_text slots.R = codes "R"

abbrev pub image_text : ImageKind → List ℕ
image_text images.Zbi = codes "zbi"
image_text images.Vbmeta = codes "vbmeta"

abbrev pub manifest_text : ManifestFile → List ℕ
manifest_text files.Epoch = codes "epoch.json"
manifest_text files.Packages = codes "packages.json"
manifest_text files.Images = codes "images.json"

-- the bytes that were read have another root than the blob's
abbrev pub rotten_text : Root → Root → List ℕ
rotten_text root got = codes "rotten " ++ root_text root ++ codes " " ++ root_text got

-- why a fetch ended without its blob
abbrev pub end_text : FetchEnd → List ℕ
end_text ends.Absent = codes "absent"
end_text ends.Read = codes "read"
end_text (ends.Short have) = codes "short " ++ decimal have
end_text (ends.Long len) = codes "long " ++ decimal len
end_text (ends.Wrong got) = codes "wrong " ++ root_text got
end_text (ends.TooLarge len) = codes "too-large " ++ decimal len
end_text ends.NoNode = codes "no-node"
end_text (ends.NoSpace need free) = codes "no-space " ++ decimal need ++ codes " " ++ decimal free

abbrev pub begin_text : BeginEnd → List ℕ
begin_text (begins.Ticket root) = codes "ticket " ++ root_text root
begin_text begins.InRecovery = codes "in-recovery"
begin_text begins.NotFound = codes "not-found"
begin_text begins.ListingFault = codes "listing-fault"
begin_text begins.DiskRead = codes "disk-read"
begin_text (begins.Rotten root got) = rotten_text root got

abbrev pub cause_text : Cause → List ℕ
cause_text (causes.Fetch end) = end_text end
cause_text (causes.NotAPackage why) = codes "not-a-package"

abbrev pub want_text : WantEnd → List ℕ
want_text (wants.Fetch root) = codes "fetch " ++ root_text root
want_text wants.Opened = codes "opened"
want_text (wants.Failed cause) = codes "failed " ++ cause_text cause

abbrev pub miss_text : Miss → List ℕ
miss_text misses.Absent = codes "absent"
miss_text misses.Read = codes "read"
miss_text misses.Memory = codes "memory"

-- what a fetch that goes on or ended says
abbrev pub made_text : List ℕ → ℕ → Option FetchEnd → List ℕ
made_text word len None = word ++ decimal len
made_text word len (Some end) = codes "ended " ++ end_text end

abbrev pub put_text : Option FetchEnd → List ℕ
put_text None = []
put_text (Some end) = codes " ended " ++ end_text end

abbrev pub open_text : Option Root → List ℕ
open_text None = codes "not-here"
open_text (Some root) = codes "opened " ++ root_text root

-- two digits a byte, and `-` for no bytes
abbrev pub bytes_text : List ℕ → List ℕ
bytes_text [] = codes "-"
bytes_text (byte ∷ bytes) = encode_lower (byte ∷ bytes)

abbrev pub read_text : ReadEnd → List ℕ
read_text (reads.Got bytes) = codes "bytes " ++ decimal (length bytes) ++ codes " " ++ bytes_text bytes
read_text reads.BadDir = codes "bad-dir"
read_text reads.NoFile = codes "no-file"
read_text (reads.TooLong len) = codes "too-long " ++ decimal len
read_text reads.DiskRead = codes "disk-read"
read_text (reads.Rotten root got) = rotten_text root got

abbrev pub check_text : CheckEnd → List ℕ
check_text (checks.Checked root len) = codes "checked " ++ root_text root ++ codes " " ++ decimal len
check_text checks.BadDir = codes "bad-dir"
check_text checks.NoFile = codes "no-file"
check_text checks.DiskRead = codes "disk-read"
check_text (checks.Rotten root got) = rotten_text root got

-- each root behind a space
abbrev pub roots_text : List Root → List ℕ
roots_text [] = []
roots_text (root ∷ roots) = codes " " ++ root_text root ++ roots_text roots

abbrev pub collect_text : Option (List Root) → List ℕ
collect_text None = codes "not-committed"
collect_text (Some roots) = codes "removed " ++ decimal (length roots) ++ roots_text roots

abbrev pub retain_text : RetainEnd → List ℕ
retain_text retains.Done = codes "done"
retain_text retains.SlotInUse = codes "slot-in-use"
retain_text retains.DiskRead = codes "disk-read"
retain_text (retains.Rotten root got) = rotten_text root got

abbrev pub stage_text : StageEnd → List ℕ
stage_text (stages.Turn slot) = codes "turn " ++ slot_text slot
stage_text stages.InRecovery = codes "in-recovery"
stage_text (stages.Busy lane) = codes "busy " ++ decimal lane
stage_text stages.NotCommitted = codes "not-committed"
stage_text (stages.Older have) = codes "older " ++ decimal have

abbrev pub copy_text : Option CopyEnd → List ℕ
copy_text None = []
copy_text (Some copies.BadDir) = codes " bad-dir"
copy_text (Some copies.NoFile) = codes " no-file"
copy_text (Some (copies.TooLarge len room)) = codes " too-large " ++ decimal len ++ codes " " ++ decimal room
copy_text (Some copies.DiskRead) = codes " disk-read"

abbrev pub seal_text : Option Difference → List ℕ
seal_text None = codes "sealed"
seal_text (Some difference) =
    codes "differs " ++ image_text difference.image ++ codes " " ++ decimal difference.got.len ++ codes " "
    ++ encode_lower difference.got.sha

abbrev pub activate_text : ActivateEnd → List ℕ
activate_text (activations.Active slot) = codes "active " ++ slot_text slot
activate_text (activations.BaseMissing root) = codes "base-missing " ++ root_text root
activate_text (activations.NotASystem why) = codes "not-a-system"
activate_text activations.DiskRead = codes "disk-read"
activate_text (activations.Rotten root got) = rotten_text root got
