-- Which event a reply tells of. The event has the call's arguments and the reply's answer. A reply that
-- tells of no event is met by none.
use Rattle.std.specs.Prelude.{◌≡◌, ◌⊎◌, ℕ, true, false, List, [], Some, None}
use Rattle.abr_record.specs.declared.Slot.{Slot}
use Rattle.image_layout.specs.declared.ImageKind.{ImageKind}
use Rattle.image_layout.specs.declared.Sys.{Sys}
use Rattle.package_indexes.specs.declared.Choice.{Choice}
use Rattle.pkg_names.specs.NameAndVariant.{NameAndVariant}
use Rattle.pkg_names.specs.declared.root.Root.{Root}
use Rattle.system_lists.specs.declared.fault.ManifestFile.{ManifestFile}
use Rattle.system_lists.specs.declared.fault.ManifestFault.{ManifestFault}
use Rattle.store_model.specs.declared.ends.Miss.{Miss}
use Rattle.store_model.specs.declared.events.Event.{Event}
use Rattle.store_model.specs.declared.events.Act.{Act}
use Rattle.store_model.specs.declared.events.Act.TheVariants as acts
use Rattle.store_model.specs.declared.events.CallName.{CallName}
use Rattle.store_model.specs.declared.events.CallName.TheVariants as calls
use Rattle.store_model.specs.declared.events.LookedAt.{LookedAt}
use Rattle.store_model.specs.declared.ends.BeginEnd.TheVariants as begins
use Rattle.store_model.specs.declared.ends.WantEnd.TheVariants as wants
use Rattle.store_model.specs.declared.ends.ReadEnd.TheVariants as reads
use Rattle.store_model.specs.declared.ends.CheckEnd.TheVariants as checks
use Rattle.store_model.specs.declared.ends.RetainEnd.TheVariants as retains
use Rattle.store_model.specs.declared.ends.StageEnd.TheVariants as stages
use Rattle.store_model.specs.declared.ends.CopyEnd.TheVariants as copies
use Rattle.store_model.specs.declared.ends.ActivateEnd.TheVariants as activations
use Rattle.store_model.specs.declared.replies.BeginReply.{BeginReply}
use Rattle.store_model.specs.declared.replies.BeginReply.TheVariants as begin
use Rattle.store_model.specs.declared.replies.WantReply.{WantReply}
use Rattle.store_model.specs.declared.replies.WantReply.TheVariants as want
use Rattle.store_model.specs.declared.replies.RoomReply.{RoomReply}
use Rattle.store_model.specs.declared.replies.RoomReply.TheVariants as room
use Rattle.store_model.specs.declared.replies.PutReply.{PutReply}
use Rattle.store_model.specs.declared.replies.PutReply.TheVariants as put
use Rattle.store_model.specs.declared.replies.LandReply.{LandReply}
use Rattle.store_model.specs.declared.replies.LandReply.TheVariants as land
use Rattle.store_model.specs.declared.replies.OpenReply.{OpenReply}
use Rattle.store_model.specs.declared.replies.OpenReply.TheVariants as opening
use Rattle.store_model.specs.declared.replies.ReadReply.{ReadReply}
use Rattle.store_model.specs.declared.replies.ReadReply.TheVariants as read
use Rattle.store_model.specs.declared.replies.CheckReply.{CheckReply}
use Rattle.store_model.specs.declared.replies.CheckReply.TheVariants as check
use Rattle.store_model.specs.declared.replies.CloseReply.{CloseReply}
use Rattle.store_model.specs.declared.replies.CloseReply.TheVariants as close
use Rattle.store_model.specs.declared.replies.CollectReply.{CollectReply}
use Rattle.store_model.specs.declared.replies.CollectReply.TheVariants as collect
use Rattle.store_model.specs.declared.replies.RetainReply.{RetainReply}
use Rattle.store_model.specs.declared.replies.RetainReply.TheVariants as retain
use Rattle.store_model.specs.declared.replies.StageReply.{StageReply}
use Rattle.store_model.specs.declared.replies.StageReply.TheVariants as stage
use Rattle.store_model.specs.declared.replies.CopyReply.{CopyReply}
use Rattle.store_model.specs.declared.replies.CopyReply.TheVariants as copy
use Rattle.store_model.specs.declared.replies.SealReply.{SealReply}
use Rattle.store_model.specs.declared.replies.SealReply.TheVariants as seal
use Rattle.store_model.specs.declared.replies.ActivateReply.{ActivateReply}
use Rattle.store_model.specs.declared.replies.ActivateReply.TheVariants as activate
use Rattle.store_model.specs.declared.replies.CommitReply.{CommitReply}
use Rattle.store_model.specs.declared.replies.CommitReply.TheVariants as commit
use Rattle.store_model.specs.declared.replies.RejectReply.{RejectReply}
use Rattle.store_model.specs.declared.replies.RejectReply.TheVariants as reject

-- ---- the three ways of an event

-- the call did this, and no write failed
abbrev pub Acts : Act → Event → Type 0
Acts act e = (e.act ≡ act) × (e.broke ≡ false)

-- the call did this, and looked at some blobs
abbrev pub Looks : (List LookedAt → Act) → Event → Type 0
Looks act e = (seen : List LookedAt) × Acts (act seen) e

-- the call was refused, since a write failed in the event of that number
abbrev pub Refuses : CallName → ℕ → Event → Type 0
Refuses call broken e = Acts (acts.Refused call broken) e

-- a write failed in this very call
abbrev pub Breaks : Act → ℕ → ℕ → Event → Type 0
Breaks act broken number e = (broken ≡ number) × (e.act ≡ act) × (e.broke ≡ true)

-- ---- by call

abbrev pub IsBegun : NameAndVariant → Choice → BeginReply → ℕ → Event → Type 0
IsBegun path choice (begin.Made ticket) number e =
    (ticket.number ≡ number) × Looks (acts.Begin path choice (begins.Ticket ticket.root)) e
IsBegun path choice begin.InRecovery number e = Looks (acts.Begin path choice begins.InRecovery) e
IsBegun path choice begin.NotFound number e = Looks (acts.Begin path choice begins.NotFound) e
IsBegun path choice begin.ListingFault number e = Looks (acts.Begin path choice begins.ListingFault) e
IsBegun path choice begin.DiskRead number e = Looks (acts.Begin path choice begins.DiskRead) e
IsBegun path choice (begin.Rotten root got) number e = Looks (acts.Begin path choice (begins.Rotten root got)) e
IsBegun path choice (begin.Broken broken) number e = Refuses (calls.Begin path) broken e
IsBegun path choice begin.NoMemory number e = ⊥

abbrev pub IsWanted : ℕ → WantReply → ℕ → Event → Type 0
IsWanted ticket (want.Failed cause) number e = Acts (acts.Want ticket (wants.Failed cause)) e
IsWanted ticket (want.Opened dir) number e = (dir.number ≡ number) × Acts (acts.Want ticket wants.Opened) e
IsWanted ticket (want.Fetch back claim) number e = Acts (acts.Want ticket (wants.Fetch claim.root)) e
IsWanted ticket (want.NotYet back bell) number e = ⊥
IsWanted ticket (want.Broken broken) number e = Refuses (calls.Want ticket) broken e
IsWanted ticket (want.NoMemory back) number e = ⊥

abbrev pub IsRoom : Root → ℕ → RoomReply → ℕ → Event → Type 0
IsRoom root len (room.Made back) number e = Acts (acts.Room root len None) e
IsRoom root len (room.Ended end) number e = Acts (acts.Room root len (Some end)) e
IsRoom root len (room.Broken broken) number e = Refuses (calls.Room root) broken e
IsRoom root len (room.NoMemory back) number e = ⊥

abbrev pub IsPut : Root → PutReply → ℕ → Event → Type 0
IsPut root (put.Taken back) number e = ⊥
IsPut root (put.Ended end) number e = Acts (acts.Put root (Some end)) e
IsPut root (put.Broken broken) number e =
    Refuses (calls.Put root) broken e ⊎ Breaks (acts.Put root None) broken number e

abbrev pub IsLanded : Root → ℕ → LandReply → ℕ → Event → Type 0
IsLanded root len land.Landed number e = Looks (acts.Land root len None) e
IsLanded root len (land.Ended end) number e = Acts (acts.Land root len (Some end) []) e
IsLanded root len (land.Broken broken) number e =
    Refuses (calls.Land root) broken e ⊎ Breaks (acts.Land root len None []) broken number e
IsLanded root len (land.NoMemory back) number e = ⊥

abbrev pub IsMissed : Root → Miss → ℕ → Event → Type 0
IsMissed root why number e = Acts (acts.Missed root why) e

abbrev pub IsGivenUp : ℕ → ℕ → Event → Type 0
IsGivenUp ticket number e = Acts (acts.GaveUp ticket) e

abbrev pub IsOpened : NameAndVariant → OpenReply → ℕ → Event → Type 0
IsOpened path (opening.Opened dir) number e =
    (dir.number ≡ number) × ((root : Root) × Acts (acts.OpenPath path (Some root)) e)
IsOpened path opening.NotHere number e = Acts (acts.OpenPath path None) e
IsOpened path (opening.Broken broken) number e = Refuses (calls.OpenPath path) broken e
IsOpened path opening.NoMemory number e = ⊥

abbrev pub IsRead : ℕ → List ℕ → ReadReply → ℕ → Event → Type 0
IsRead dir file (read.Got bytes) number e = Acts (acts.Read dir file (reads.Got bytes)) e
IsRead dir file read.BadDir number e = Acts (acts.Read dir file reads.BadDir) e
IsRead dir file read.NoFile number e = Acts (acts.Read dir file reads.NoFile) e
IsRead dir file (read.TooLong len) number e = Acts (acts.Read dir file (reads.TooLong len)) e
IsRead dir file read.DiskRead number e = Acts (acts.Read dir file reads.DiskRead) e
IsRead dir file (read.Rotten root got) number e = Acts (acts.Read dir file (reads.Rotten root got)) e
IsRead dir file (read.Broken broken) number e = Refuses (calls.Read dir file) broken e
IsRead dir file read.NoMemory number e = ⊥

abbrev pub IsChecked : ℕ → List ℕ → CheckReply → ℕ → Event → Type 0
IsChecked dir file (check.Checked root len) number e = Acts (acts.Check dir file (checks.Checked root len)) e
IsChecked dir file check.BadDir number e = Acts (acts.Check dir file checks.BadDir) e
IsChecked dir file check.NoFile number e = Acts (acts.Check dir file checks.NoFile) e
IsChecked dir file check.DiskRead number e = Acts (acts.Check dir file checks.DiskRead) e
IsChecked dir file (check.Rotten root got) number e = Acts (acts.Check dir file (checks.Rotten root got)) e
IsChecked dir file (check.Broken broken) number e = Refuses (calls.Check dir file) broken e
IsChecked dir file check.NoMemory number e = ⊥

abbrev pub IsClosed : ℕ → CloseReply → ℕ → Event → Type 0
IsClosed dir close.Closed number e = Acts (acts.Close dir true) e
IsClosed dir close.BadDir number e = Acts (acts.Close dir false) e
IsClosed dir close.NoMemory number e = ⊥

abbrev pub IsCollected : CollectReply → ℕ → Event → Type 0
IsCollected (collect.Removed roots) number e = Acts (acts.Collect (Some roots)) e
IsCollected collect.NotCommitted number e = Acts (acts.Collect None) e
IsCollected (collect.Broken broken) number e =
    Refuses calls.Collect broken e ⊎ ((roots : List Root) × Breaks (acts.Collect (Some roots)) broken number e)
IsCollected collect.NoMemory number e = ⊥

abbrev pub IsRetained : List Root → ℕ → RetainReply → ℕ → Event → Type 0
IsRetained roots count retain.Done number e = Looks (acts.Retain roots retains.Done) e
IsRetained roots count retain.SlotInUse number e = Looks (acts.Retain roots retains.SlotInUse) e
IsRetained roots count retain.DiskRead number e = Looks (acts.Retain roots retains.DiskRead) e
IsRetained roots count (retain.Rotten root got) number e = Looks (acts.Retain roots (retains.Rotten root got)) e
IsRetained roots count (retain.Broken broken) number e = Refuses (calls.Retain count) broken e
IsRetained roots count retain.NoMemory number e = ⊥

abbrev pub IsStaged : ℕ → StageReply → ℕ → Event → Type 0
IsStaged epoch (stage.Turn slot) number e = Acts (acts.Stage epoch (stages.Turn slot)) e
IsStaged epoch stage.InRecovery number e = Acts (acts.Stage epoch stages.InRecovery) e
IsStaged epoch (stage.Busy lane) number e = Acts (acts.Stage epoch (stages.Busy lane)) e
IsStaged epoch stage.NotCommitted number e = Acts (acts.Stage epoch stages.NotCommitted) e
IsStaged epoch (stage.Older have) number e = Acts (acts.Stage epoch (stages.Older have)) e
IsStaged epoch (stage.Broken broken) number e =
    Refuses (calls.Stage epoch) broken e
    ⊎ ((slot : Slot) × Breaks (acts.Stage epoch (stages.Turn slot)) broken number e)
IsStaged epoch stage.NoMemory number e = ⊥

abbrev pub IsCopied : ImageKind → ℕ → List ℕ → CopyReply → ℕ → Event → Type 0
IsCopied image dir file copy.BadDir number e = Acts (acts.Copy image dir file (Some copies.BadDir)) e
IsCopied image dir file copy.NoFile number e = Acts (acts.Copy image dir file (Some copies.NoFile)) e
IsCopied image dir file (copy.TooLarge len room) number e =
    Acts (acts.Copy image dir file (Some (copies.TooLarge len room))) e
IsCopied image dir file copy.DiskRead number e = Acts (acts.Copy image dir file (Some copies.DiskRead)) e
IsCopied image dir file (copy.More have) number e = ⊥
IsCopied image dir file (copy.Whole len) number e = ⊥
IsCopied image dir file (copy.Broken broken) number e =
    Refuses (calls.Copy image dir file) broken e ⊎ Breaks (acts.Copy image dir file None) broken number e
IsCopied image dir file copy.NoMemory number e = ⊥

abbrev pub IsSealed : Sys → SealReply → ℕ → Event → Type 0
IsSealed sys seal.Sealed number e = Acts (acts.Seal sys None) e
IsSealed sys (seal.Differs image got) number e =
    Acts (acts.Seal sys (Some (record { image = image; got = got }))) e
IsSealed sys (seal.Broken broken) number e =
    Refuses calls.Seal broken e ⊎ Breaks (acts.Seal sys None) broken number e
IsSealed sys seal.NoMemory number e = ⊥

abbrev pub IsActivated : ActivateReply → ℕ → Event → Type 0
IsActivated (activate.Active slot) number e = Looks (acts.Activate (activations.Active slot)) e
IsActivated (activate.BaseMissing root) number e = Looks (acts.Activate (activations.BaseMissing root)) e
IsActivated (activate.NotASystem why) number e = Looks (acts.Activate (activations.NotASystem why)) e
IsActivated activate.DiskRead number e = Looks (acts.Activate activations.DiskRead) e
IsActivated (activate.Rotten root got) number e = Looks (acts.Activate (activations.Rotten root got)) e
IsActivated (activate.Broken broken) number e =
    Refuses calls.Activate broken e
    ⊎ ((slot : Slot) × (seen : List LookedAt) × Breaks (acts.Activate (activations.Active slot) seen) broken number e)
IsActivated activate.NoMemory number e = ⊥

abbrev pub HasLeftStage : ℕ → Event → Type 0
HasLeftStage number e = Acts acts.LeftStage e

abbrev pub IsCommitted : CommitReply → ℕ → Event → Type 0
IsCommitted commit.Committed number e = Acts (acts.Commit true) e
IsCommitted commit.NotPending number e = Acts (acts.Commit false) e
IsCommitted (commit.Broken broken) number e =
    Refuses calls.Commit broken e ⊎ Breaks (acts.Commit true) broken number e
IsCommitted commit.NoMemory number e = ⊥

abbrev pub IsRejected : ManifestFile → ManifestFault → RejectReply → ℕ → Event → Type 0
IsRejected file why reject.Noted number e = Acts (acts.Reject file why) e
IsRejected file why (reject.Broken broken) number e = Refuses (calls.Reject file) broken e
IsRejected file why reject.NoMemory number e = ⊥
