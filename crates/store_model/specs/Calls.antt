-- What each call at a desk does, by its reply.
use Rattle.std.specs.Prelude.{◌≡◌, ◌≢◌, ◌⊎◌, ℕ, ◌+◌, ◌-◌, ◌<◌, ◌≤◌, min, List, [], ◌∷◌, take, drop, length, slice_index, Option, Some, None, IsSomeAnd}
use Rattle.image_layout.specs.declared.ImageKind.{ImageKind}
use Rattle.image_layout.specs.declared.ImageKind.TheVariants as images
use Rattle.image_layout.specs.declared.ImageSum.{ImageSum}
use Rattle.image_layout.specs.declared.Sys.{Sys}
use Rattle.image_layout.specs.Sums.{image_sum}
use Rattle.package_indexes.specs.declared.Choice.{Choice}
use Rattle.pkg_names.specs.NameAndVariant.{NameAndVariant}
use Rattle.pkg_names.specs.declared.root.Root.{Root}
use Rattle.pkg_merkle.specs.Merkle.{merkle_root}
use Rattle.open_tracker.specs.Directories.{root_of}
use Rattle.fetch_queue.specs.declared.FetchEnd.TheVariants as ends
use Rattle.system_lists.specs.declared.fault.ManifestFile.{ManifestFile}
use Rattle.system_lists.specs.declared.fault.ManifestFault.{ManifestFault}
use Rattle.store_model.specs.declared.ends.TheConstants.{PIECE_LIMIT}
use Rattle.store_model.specs.declared.events.Event.{Event}
use Rattle.store_model.specs.declared.events.Act.TheVariants as acts
use Rattle.store_model.specs.declared.events.LookedAt.{LookedAt}
use Rattle.store_model.specs.declared.replies.BeginReply.{BeginReply}
use Rattle.store_model.specs.declared.replies.BeginReply.TheVariants as begin
use Rattle.store_model.specs.declared.replies.WantReply.{WantReply}
use Rattle.store_model.specs.declared.replies.WantReply.TheVariants as want
use Rattle.store_model.specs.declared.replies.RoomReply.{RoomReply}
use Rattle.store_model.specs.declared.replies.RoomReply.TheVariants as room
use Rattle.store_model.specs.declared.replies.PutReply.{PutReply}
use Rattle.store_model.specs.declared.replies.PutReply.TheVariants as put
use Rattle.store_model.specs.declared.replies.LandReply.{LandReply}
use Rattle.store_model.specs.declared.replies.LandReply.TheVariants as land
use Rattle.store_model.specs.declared.replies.OpenReply.{OpenReply}
use Rattle.store_model.specs.declared.replies.OpenReply.TheVariants as opening
use Rattle.store_model.specs.declared.replies.ReadReply.{ReadReply}
use Rattle.store_model.specs.declared.replies.ReadReply.TheVariants as read
use Rattle.store_model.specs.declared.replies.CheckReply.{CheckReply}
use Rattle.store_model.specs.declared.replies.CheckReply.TheVariants as check
use Rattle.store_model.specs.declared.replies.CloseReply.{CloseReply}
use Rattle.store_model.specs.declared.replies.CloseReply.TheVariants as close
use Rattle.store_model.specs.declared.replies.CollectReply.{CollectReply}
use Rattle.store_model.specs.declared.replies.CollectReply.TheVariants as collect
use Rattle.store_model.specs.declared.replies.RetainReply.{RetainReply}
use Rattle.store_model.specs.declared.replies.RetainReply.TheVariants as retain
use Rattle.store_model.specs.declared.replies.StageReply.{StageReply}
use Rattle.store_model.specs.declared.replies.StageReply.TheVariants as stage
use Rattle.store_model.specs.declared.replies.CopyReply.{CopyReply}
use Rattle.store_model.specs.declared.replies.CopyReply.TheVariants as copy
use Rattle.store_model.specs.declared.replies.SealReply.{SealReply}
use Rattle.store_model.specs.declared.replies.SealReply.TheVariants as seal
use Rattle.store_model.specs.declared.replies.ActivateReply.{ActivateReply}
use Rattle.store_model.specs.declared.replies.ActivateReply.TheVariants as activate
use Rattle.store_model.specs.declared.replies.CommitReply.{CommitReply}
use Rattle.store_model.specs.declared.replies.CommitReply.TheVariants as commit
use Rattle.store_model.specs.declared.replies.RejectReply.{RejectReply}
use Rattle.store_model.specs.declared.replies.RejectReply.TheVariants as reject
use Rattle.store_model.specs.declared.replies.Claim.{Claim}
use Rattle.store_model.specs.declared.replies.Ticket.{Ticket}
use Rattle.store_model.specs.State.{State, Phase, Arrival, arrival_of}
use Rattle.store_model.specs.Packages.{known_fault}
use Rattle.store_model.specs.Acts.Copy.{copy_end}
use Rattle.store_model.specs.Files.{Found, found, found_len}
use Rattle.store_model.specs.Files.Found.{NotOpen, NoSuchFile, Inner, Outer}
use Rattle.store_model.specs.Holding.{HeldTicket, HeldClaim, ticket_with}
use Rattle.store_model.specs.Quiet.{IsQuiet}
use Rattle.store_model.specs.Replies.{Acts, IsBegun, IsWanted, IsRoom, IsPut, IsLanded, IsOpened, IsRead, IsChecked, IsClosed, IsCollected, IsRetained, IsStaged, IsCopied, IsSealed, IsActivated, IsCommitted, IsRejected}
use Rattle.store_model.specs.Desk.{View, Fillers, state_of, held_by, IsUnbroken, Does, Rests, Kept, Keeps, KeepsImages, KeepsBlob, Appends, OfKept, filler_of, with_filler, filler_after, no_fillers}
use Rattle.store_model.specs.Desk.Keeping.{Blob, Image}

-- ---- what a lane has to hold

abbrev pub HoldsTicket : View → Ticket → Type 0
HoldsTicket v ticket =
    IsSomeAnd (ticket_with (held_by v).tickets ticket.number) (λ (held : HeldTicket). held.root ≡ ticket.root)

-- the lane fetches nothing
abbrev pub HoldsNoClaim : View → Type 0
HoldsNoClaim v = (held_by v).claim ≡ None

abbrev pub HoldsClaim : View → Root → Type 0
HoldsClaim v root = IsSomeAnd (held_by v).claim (λ (held : HeldClaim). held.root ≡ root)

-- the claim has no room yet
abbrev pub HoldsNewClaim : View → Root → Type 0
HoldsNewClaim v root = (held_by v).claim ≡ Some (record { root = root; len = None })

abbrev pub HoldsRoom : View → Root → Type 0
HoldsRoom v root = (len : ℕ) × ((held_by v).claim ≡ Some (record { root = root; len = Some len }))

abbrev number_or_zero : Option ℕ → ℕ
number_or_zero None = 0
number_or_zero (Some n) = n

abbrev len_in : Option HeldClaim → ℕ
len_in None = 0
len_in (Some claim) = number_or_zero claim.len

-- the length of the room that the lane has
abbrev pub room_by : View → ℕ
room_by v = len_in (held_by v).claim

abbrev pub HoldsStage : View → Phase → Type 0
HoldsStage v phase = (held_by v).stage ≡ Some phase

abbrev pub HoldsSealed : View → Type 0
HoldsSealed v = (sys : Sys) × HoldsStage v (Phase.Sealed sys)

abbrev pub HoldsAnyStage : View → Type 0
HoldsAnyStage v = (phase : Phase) × HoldsStage v phase

-- ---- packages and blobs

abbrev pub Begins : NameAndVariant → Choice → BeginReply → View → View → Type 0
Begins path choice begin.NoMemory old new = Rests old new
Begins path choice reply old new = Does old new (IsBegun path choice reply)

-- the package has no mark, and isn't known to be none
abbrev MayGoOn : State → ℕ → Type 0
MayGoOn s ticket =
    IsSomeAnd (arrival_of s.arriving ticket)
    (λ (arrival : Arrival). (arrival.mark ≡ None) × (known_fault s.books arrival.root ≡ None))

-- The lane has to wait exactly where this is quiet, since no other answer is due there. That a package
-- has failed is told without memory.
abbrev pub Wants : Ticket → WantReply → View → View → Type 0
Wants ticket (want.NotYet back bell) old new =
    Rests old new × (back ≡ ticket) × IsUnbroken new × IsQuiet (state_of new) old.lane ticket.number
Wants ticket (want.NoMemory back) old new = Rests old new × (back ≡ ticket) × MayGoOn (state_of new) ticket.number
Wants ticket (want.Fetch back claim) old new =
    Does old new (IsWanted ticket.number (want.Fetch back claim)) × (back ≡ ticket)
Wants ticket reply old new = Does old new (IsWanted ticket.number reply)

-- a new claim has no bytes yet
abbrev pub KeepsAtWant : WantReply → Kept → Kept → Type 0
KeepsAtWant (want.Fetch back claim) before after = KeepsImages before after × after Blob []
KeepsAtWant reply before after = Keeps before after

abbrev pub MakesRoom : Claim → ℕ → RoomReply → View → View → Type 0
MakesRoom claim len (room.Made back) old new =
    Does old new (IsRoom claim.root len (room.Made back)) × (back ≡ claim)
MakesRoom claim len (room.NoMemory back) old new = Rests old new × (back ≡ claim)
MakesRoom claim len reply old new = Does old new (IsRoom claim.root len reply)

abbrev pub KeepsAtRoom : RoomReply → Kept → Kept → Type 0
KeepsAtRoom (room.Made back) before after = Keeps before after
KeepsAtRoom (room.NoMemory back) before after = Keeps before after
KeepsAtRoom reply before after = KeepsImages before after

abbrev pub Puts : Claim → PutReply → View → View → Type 0
Puts claim (put.Taken back) old new = Rests old new × (back ≡ claim) × IsUnbroken new
Puts claim reply old new = Does old new (IsPut claim.root reply)

-- Bytes are taken where they fit behind those that were kept, and then kept too. They are too many
-- exactly where they don't fit.
abbrev pub KeepsAtPut : ℕ → List ℕ → PutReply → Kept → Kept → Type 0
KeepsAtPut len piece (put.Taken back) before after =
    KeepsImages before after × Appends before after Blob piece
    × OfKept before Blob (λ bytes. length bytes + length piece ≤ len)
KeepsAtPut len piece (put.Ended end) before after =
    KeepsImages before after × OfKept before Blob (λ bytes. len < length bytes + length piece)
KeepsAtPut len piece (put.Broken broken) before after = KeepsImages before after

-- an event that carries bytes carries those that were kept
abbrev pub Carries : Root → List ℕ → List LookedAt → Type 0
Carries root bytes seen = (seen ≡ []) ⊎ (seen ≡ record { root = root; bytes = bytes } ∷ [])

abbrev pub IsLandedWith : Root → ℕ → Kept → ℕ → Event → Type 0
IsLandedWith root len before number e =
    (seen : List LookedAt) × Acts (acts.Land root len None seen) e
    × OfKept before Blob (λ bytes. Carries root bytes seen)

abbrev pub Lands : Claim → Kept → LandReply → View → View → Type 0
Lands claim before land.Landed old new = Does old new (IsLandedWith claim.root (room_by old) before)
Lands claim before (land.NoMemory back) old new = Rests old new × (back ≡ claim)
Lands claim before reply old new = Does old new (IsLanded claim.root (room_by old) reply)

-- Too few bytes were kept, or they have another root, or they are the blob.
abbrev pub IsLandingOf : Root → ℕ → LandReply → List ℕ → Type 0
IsLandingOf root len land.Landed bytes = (length bytes ≡ len) × (merkle_root bytes ≡ root)
IsLandingOf root len (land.Ended (ends.Short have)) bytes = have ≡ length bytes
IsLandingOf root len (land.Ended (ends.Wrong got)) bytes = (length bytes ≡ len) × (merkle_root bytes ≡ got)
IsLandingOf root len reply bytes = Unit {0}

abbrev pub KeepsAtLand : Root → ℕ → LandReply → Kept → Kept → Type 0
KeepsAtLand root len (land.NoMemory back) before after = Keeps before after
KeepsAtLand root len reply before after =
    KeepsImages before after × OfKept before Blob (IsLandingOf root len reply)

-- ---- directories

abbrev pub Opens : NameAndVariant → OpenReply → View → View → Type 0
Opens path opening.NoMemory old new = Rests old new
Opens path reply old new = Does old new (IsOpened path reply)

abbrev pub Reads : ℕ → List ℕ → ReadReply → View → View → Type 0
Reads dir file read.NoMemory old new = Rests old new
Reads dir file reply old new = Does old new (IsRead dir file reply)

abbrev pub Checks : ℕ → List ℕ → CheckReply → View → View → Type 0
Checks dir file check.NoMemory old new = Rests old new
Checks dir file reply old new = Does old new (IsChecked dir file reply)

-- an open directory is closed without memory
abbrev pub Closes : ℕ → CloseReply → View → View → Type 0
Closes dir close.NoMemory old new = Rests old new × (root_of (state_of new).dirs dir old.lane ≡ None)
Closes dir reply old new = Does old new (IsClosed dir reply)

-- ---- the store as a whole

abbrev pub Collects : CollectReply → View → View → Type 0
Collects collect.NoMemory old new = Rests old new
Collects reply old new = Does old new (IsCollected reply)

abbrev pub Retains : List Root → RetainReply → View → View → Type 0
Retains roots retain.NoMemory old new = Rests old new
Retains roots reply old new = Does old new (IsRetained roots (length roots) reply)

abbrev pub Stages : ℕ → StageReply → View → View → Type 0
Stages epoch stage.NoMemory old new = Rests old new
Stages epoch reply old new = Does old new (IsStaged epoch reply)

-- the images begin with no bytes
abbrev pub KeepsAtStage : StageReply → Kept → Kept → Type 0
KeepsAtStage (stage.Turn slot) before after =
    KeepsBlob before after × after (Image images.Zbi) [] × after (Image images.Vbmeta) []
KeepsAtStage reply before after = Keeps before after

abbrev pub fillers_at_stage : StageReply → Fillers → Fillers
fillers_at_stage (stage.Turn slot) fillers = no_fillers
fillers_at_stage reply fillers = fillers

abbrev pub Copies : ImageKind → ℕ → List ℕ → CopyReply → View → View → Type 0
Copies image dir file (copy.More have) old new = Rests old new × IsUnbroken new
Copies image dir file (copy.Whole len) old new = Rests old new × IsUnbroken new
Copies image dir file copy.NoMemory old new = Rests old new
Copies image dir file reply old new = Does old new (IsCopied image dir file reply)

-- the root of a file's bytes
abbrev pub HasFileRoot : Found → Root → Type 0
HasFileRoot NotOpen root = ⊥
HasFileRoot NoSuchFile root = ⊥
HasFileRoot (Inner bytes) root = root ≡ merkle_root bytes
HasFileRoot (Outer blob) root = root ≡ blob

-- a part of an inner file is its bytes from the place on
abbrev pub IsPartOf : Found → ℕ → List ℕ → Type 0
IsPartOf (Inner bytes) place part = part ≡ take (length part) (drop place bytes)
IsPartOf file place part = Unit {0}

-- The next part of the file came behind the bytes of the image, which then has so many.
pub record CopiesPart (image : ImageKind) (file : Found) (len have : ℕ) (old new : Fillers) (before after : Kept)
    : Type 0 where
  pub part : List ℕ
  pub root : Root
  pub is_root : HasFileRoot file root
  pub appended : Appends before after (Image image) part
  pub size : OfKept before (Image image) (λ bytes. length part ≡ min PIECE_LIMIT (len - length bytes))
  pub place : OfKept before (Image image) (λ bytes. have ≡ length bytes + length part)
  pub bytes : OfKept before (Image image) (λ bytes. IsPartOf file (length bytes) part)
  pub filler : OfKept before (Image image)
      (λ bytes. new ≡ with_filler old image (filler_after (length bytes) root (filler_of old image)))
  pub blob : KeepsBlob before after
  pub other : (kind : ImageKind) (bytes : List ℕ) → kind ≢ image → before (Image kind) bytes → after (Image kind) bytes

-- The file is there and fits the image. There is more of it exactly where its length isn't reached.
abbrev pub KeepsAtCopy : State → ℕ → ImageKind → ℕ → List ℕ → CopyReply → Fillers → Fillers → Kept → Kept → Type 0
KeepsAtCopy s lane image dir file (copy.More have) old new before after =
    (len : ℕ) × (found_len s (found s lane dir file) ≡ Some len) × (have < len)
    × (copy_end s lane image dir file ≡ None)
    × CopiesPart image (found s lane dir file) len have old new before after
KeepsAtCopy s lane image dir file (copy.Whole have) old new before after =
    (len : ℕ) × (found_len s (found s lane dir file) ≡ Some len) × (len ≤ have)
    × (copy_end s lane image dir file ≡ None)
    × CopiesPart image (found s lane dir file) len have old new before after
KeepsAtCopy s lane image dir file (copy.Broken broken) old new before after = KeepsBlob before after × (new ≡ old)
KeepsAtCopy s lane image dir file reply old new before after = Keeps before after × (new ≡ old)

-- the byte at this place is that of a file with this root
pub record HasByteOf (root : Root) (bytes : List ℕ) (place : ℕ) : Type 0 where
  pub file : List ℕ
  pub is_root : merkle_root file ≡ root
  pub within : place < length file
  pub byte : slice_index bytes place ≡ slice_index file place

-- Each byte is that of a file with this root, at its place, and there are as many as such a file has, or more. So
-- they are the file, unless there are different files with the root.
pub record IsMadeOf (root : Root) (bytes : List ℕ) : Type 0 where
  pub file : List ℕ
  pub is_root : merkle_root file ≡ root
  pub enough : length file ≤ length bytes
  pub each : (place : ℕ) → place < length bytes → HasByteOf root bytes place

-- an image that one file alone has filled to its end stands for the bytes of files with its root
abbrev pub IsWholeFile : ImageKind → CopyReply → Fillers → Kept → Type 0
IsWholeFile image (copy.Whole len) fillers after =
    (root : Root) → filler_of fillers image ≡ Some root
    → (bytes : List ℕ) × after (Image image) bytes × IsMadeOf root bytes
IsWholeFile image reply fillers after = Unit {0}

abbrev pub Seals : Sys → SealReply → View → View → Type 0
Seals sys seal.NoMemory old new = Rests old new
Seals sys reply old new = Does old new (IsSealed sys reply)

abbrev HasSum : Kept → ImageKind → ImageSum → Type 0
HasSum before image sum = OfKept before (Image image) (λ bytes. image_sum bytes ≡ sum)

-- the images before this one have their sums
abbrev HasSumsBefore : Kept → Sys → ImageKind → Type 0
HasSumsBefore before sys images.Zbi = Unit {0}
HasSumsBefore before sys images.Vbmeta = HasSum before images.Zbi sys.zbi

-- Both images have their sums, or the first that hasn't is told with what it has.
abbrev pub KeepsAtSeal : Sys → SealReply → Kept → Kept → Type 0
KeepsAtSeal sys seal.Sealed before after =
    KeepsBlob before after × HasSum before images.Zbi sys.zbi × HasSum before images.Vbmeta sys.vbmeta
KeepsAtSeal sys (seal.Differs image got) before after =
    Keeps before after × HasSumsBefore before sys image × HasSum before image got
KeepsAtSeal sys (seal.Broken broken) before after = KeepsBlob before after
KeepsAtSeal sys seal.NoMemory before after = Keeps before after

abbrev pub Activates : ActivateReply → View → View → Type 0
Activates activate.NoMemory old new = Rests old new
Activates reply old new = Does old new (IsActivated reply)

abbrev pub Commits : CommitReply → View → View → Type 0
Commits commit.NoMemory old new = Rests old new
Commits reply old new = Does old new (IsCommitted reply)

abbrev pub Rejects : ManifestFile → ManifestFault → RejectReply → View → View → Type 0
Rejects file why reject.NoMemory old new = Rests old new
Rejects file why reply old new = Does old new (IsRejected file why reply)
