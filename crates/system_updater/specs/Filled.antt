-- What the images of a slot are made of: where it was sealed, or an image has another sum, the bytes of an image are
-- those of the file that its URL names.
use Rattle.std.specs.Prelude.{◌≡◌, ◌≢◌, ◌≤◌, ◌⊎◌, ℕ, List, [], ◌++◌, length, Option, Some, None, Ok, Err, Result}
use Rattle.image_layout.specs.declared.ImageKind.{ImageKind}
use Rattle.image_layout.specs.declared.ImageKind.TheVariants as kinds
use Rattle.image_layout.specs.declared.ImageSum.{ImageSum}
use Rattle.image_layout.specs.declared.Sys.{Sys}
use Rattle.image_layout.specs.Sums.{image_sum}
use Rattle.package_url.specs.declared.url.Url.{Url}
use Rattle.pkg_names.specs.declared.root.Root.{Root}
use Rattle.system_lists.specs.declared.fault.ManifestFile.TheVariants as files
use Rattle.update_manifest.specs.declared.image.ImageRef.{ImageRef}
use Rattle.update_manifest.specs.declared.image.Images.{Images}
use Rattle.update_manifest.specs.Images.{images_in}
use Rattle.store_model.specs.declared.ends.ReadEnd.TheVariants as reads
use Rattle.store_model.specs.declared.events.Act.TheVariants as acts
use Rattle.store_model.specs.declared.events.Event.{Event}
use Rattle.store_model.specs.declared.replies.Dir.{Dir}
use Rattle.store_model.specs.State.{State, stored_len}
use Rattle.store_model.specs.History.{IsLegal, Numbered, after, of_lane}
use Rattle.store_model.specs.Files.{Found, found, found_len}
use Rattle.store_model.specs.Files.Found.{NotOpen, NoSuchFile, Inner, Outer}
use Rattle.store_model.specs.Desk.{View, Kept, OfKept, state_of, filler_of}
use Rattle.store_model.specs.Desk.Keeping.{Image}
use Rattle.store_model.specs.Calls.{IsMadeOf}
use Rattle.store_model.specs.Replies.{Acts}
use Rattle.resolver.specs.declared.reply.ResolveReply.TheVariants as resolved
use Rattle.resolver.specs.Serving as resolve
use Rattle.system_updater.specs.declared.manifests.Refusal.{Refusal}
use Rattle.system_updater.specs.declared.manifests.Refusal.TheVariants as refusals
use Rattle.system_updater.specs.declared.images.Part.{Part}
use Rattle.system_updater.specs.declared.images.Part.TheVariants as parts
use Rattle.system_updater.specs.declared.reply.UpdateReply.{UpdateReply}
use Rattle.system_updater.specs.declared.reply.UpdateReply.TheVariants as replies
use Rattle.system_updater.specs.Plan.{name_of, sum_of, vbmeta_sum}
use Rattle.system_updater.specs.Serving.{IsOne}

-- ---- what the lane did

-- the lane did such a part of what it did between two moments
pub record Did (old new : View) (P : List Numbered → Type 0) : Type 0 where
  pub before : List Numbered
  pub part : List Numbered
  pub later : List Numbered
  pub mine : new.mine ≡ old.mine ++ before ++ part ++ later
  pub is : P part

-- a file of this name was read, and has these bytes
abbrev pub ReadsFile : List ℕ → List ℕ → List Numbered → Type 0
ReadsFile name bytes part = IsOne (λ number e. (dir : ℕ) × Acts (acts.Read dir name (reads.Got bytes)) e) part

-- images.json was read, and says this
abbrev pub ReadsImages : Images → List Numbered → Type 0
ReadsImages images part =
    (bytes : List ℕ) × ReadsFile (name_of files.Images) bytes part × (images_in bytes ≡ Ok images)

-- ---- the sums of files

-- The sum is that of the file that was found so: of its bytes, where the package's archive has them. Of a blob of its
-- own it has the length, and at a firm desk it is the sum of bytes that are made of files with the blob's root.
abbrev pub IsSumOf : Type 0 → State → Found → ImageSum → Type 0
IsSumOf firm s NotOpen sum = ⊥
IsSumOf firm s NoSuchFile sum = ⊥
IsSumOf firm s (Inner bytes) sum = image_sum bytes ≡ sum
IsSumOf firm s (Outer root) sum =
    (stored_len s.stock root ≡ Some sum.len) × (firm → (bytes : List ℕ) × IsMadeOf root bytes × (image_sum bytes ≡ sum))

-- The package of the URL was resolved, and this is the sum of the file that the URL names, as it was found in it.
pub record IsFileOf (firm : Type 0) (old new : View) (url : Url) (sum : ImageSum) : Type 0 where
  pub file : List ℕ
  pub named : url.file ≡ Some file
  pub from : Dir
  pub resolved : Did old new (λ part. resolve.Serves url.path url.pin part (resolved.Resolved from))
  pub seen : List Event
  pub later : List Event
  pub front : new.seen ≡ seen ++ later
  pub is : IsSumOf firm (after new.origin seen) (found (after new.origin seen) new.lane from.number file) sum

-- of the vbmeta; where there is none, the image stays empty
abbrev pub IsVbmetaOf : Type 0 → View → View → Option ImageRef → ImageSum → Type 0
IsVbmetaOf firm old new None sum = sum ≡ image_sum []
IsVbmetaOf firm old new (Some image) sum = IsFileOf firm old new image.url sum

-- of the image of this kind
abbrev pub IsImageOf : Type 0 → View → View → Images → ImageKind → ImageSum → Type 0
IsImageOf firm old new images kinds.Zbi sum = IsFileOf firm old new images.zbi.url sum
IsImageOf firm old new images kinds.Vbmeta sum = IsVbmetaOf firm old new images.vbmeta sum

-- the sums of the manifest are those of the files that it names
abbrev pub AreImagesOf : Type 0 → View → View → Images → Type 0
AreImagesOf firm old new images =
    IsImageOf firm old new images kinds.Zbi (sum_of images.zbi)
    × IsImageOf firm old new images kinds.Vbmeta (vbmeta_sum images.vbmeta)

-- what a reply behind a seal tells of the images
abbrev pub TellsOf : Type 0 → View → View → Images → UpdateReply → Type 0
TellsOf firm old new images (replies.Staged slot) = AreImagesOf firm old new images
TellsOf firm old new images (replies.BaseMissing root) = AreImagesOf firm old new images
TellsOf firm old new images (replies.NotASystem why) = AreImagesOf firm old new images
TellsOf firm old new images (replies.Differs kind got) = IsImageOf firm old new images kind got
TellsOf firm old new images reply = Unit {0}

-- the reply tells nothing of the images
abbrev pub IsEarly : UpdateReply → Type 0
IsEarly (replies.Staged slot) = ⊥
IsEarly (replies.BaseMissing root) = ⊥
IsEarly (replies.NotASystem why) = ⊥
IsEarly (replies.Differs kind got) = ⊥
IsEarly reply = Unit {0}

-- the manifest was read, and the images are those that it tells
abbrev TellsImages : Type 0 → View → View → UpdateReply → Type 0
TellsImages firm old new reply =
    (images : Images) × Did old new (ReadsImages images) × TellsOf firm old new images reply

-- What an update says of the images. Where the system was sealed, the sums of the manifest are those of the files that
-- it names; an image that differs has the sum of its file.
abbrev pub IsFilledBy : Type 0 → View → View → UpdateReply → Type 0
IsFilledBy firm old new (replies.Staged slot) = TellsImages firm old new (replies.Staged slot)
IsFilledBy firm old new (replies.BaseMissing root) = TellsImages firm old new (replies.BaseMissing root)
IsFilledBy firm old new (replies.NotASystem why) = TellsImages firm old new (replies.NotASystem why)
IsFilledBy firm old new (replies.Differs kind got) = TellsImages firm old new (replies.Differs kind got)
IsFilledBy firm old new reply = Unit {0}

-- ---- the bytes of an image; from here on these definitions serve the proof, and no public clause cites them

-- the bytes are those of the file that was found so; of a blob of its own it is the length that tells
abbrev pub IsBytesOf : State → Found → List ℕ → Type 0
IsBytesOf s NotOpen bytes = ⊥
IsBytesOf s NoSuchFile bytes = ⊥
IsBytesOf s (Inner all) bytes = bytes ≡ all
IsBytesOf s (Outer root) bytes = stored_len s.stock root ≡ Some (length bytes)

-- the image stands for bytes of files with the root of the blob
abbrev pub IsMadeBy : Kept → ImageKind → Found → Type 0
IsMadeBy kept kind (Outer root) = (bytes : List ℕ) × kept (Image kind) bytes × IsMadeOf root bytes
IsMadeBy kept kind place = Unit {0}

-- The image has the bytes of this file of the lane's directory, as it was found at some moment.
pub record HasBytesOf (firm : Type 0) (kept : Kept) (v : View) (kind : ImageKind) (dir : ℕ) (file : List ℕ)
    : Type 0 where
  pub seen : List Event
  pub later : List Event
  pub front : v.seen ≡ seen ++ later
  pub bytes : List ℕ
  pub there : kept (Image kind) bytes
  pub is : IsBytesOf (after v.origin seen) (found (after v.origin seen) v.lane dir file) bytes
  pub made : firm → IsMadeBy kept kind (found (after v.origin seen) v.lane dir file)

-- The image has the bytes of the file that the URL names, in a package that was resolved.
pub record HasFileOf (firm : Type 0) (kept : Kept) (old new : View) (kind : ImageKind) (url : Url) : Type 0 where
  pub file : List ℕ
  pub named : url.file ≡ Some file
  pub from : Dir
  pub resolved : Did old new (λ part. resolve.Serves url.path url.pin part (resolved.Resolved from))
  pub is : HasBytesOf firm kept new kind from.number file

-- where there is no vbmeta, its image is empty
abbrev pub HasVbmetaOf : Type 0 → Kept → View → View → Option ImageRef → Type 0
HasVbmetaOf firm kept old new None = kept (Image kinds.Vbmeta) []
HasVbmetaOf firm kept old new (Some image) = HasFileOf firm kept old new kinds.Vbmeta image.url

abbrev pub HaveFilesOf : Type 0 → Kept → View → View → Images → Type 0
HaveFilesOf firm kept old new images =
    HasFileOf firm kept old new kinds.Zbi images.zbi.url × HasVbmetaOf firm kept old new images.vbmeta

-- what was kept of the other image is kept
abbrev pub KeepsOther : ImageKind → Kept → Kept → Type 0
KeepsOther kind before after =
    (other : ImageKind) (bytes : List ℕ) → other ≢ kind → before (Image other) bytes → after (Image other) bytes

-- ---- while it is copied

-- the bytes are a front of the file's
abbrev pub IsFrontOf : Found → Option Root → List ℕ → Type 0
IsFrontOf NotOpen filler bytes = ⊥
IsFrontOf NoSuchFile filler bytes = ⊥
IsFrontOf (Inner all) filler bytes = (rest : List ℕ) × (all ≡ bytes ++ rest)
IsFrontOf (Outer root) filler bytes = filler ≡ Some root

-- the image has a front of this file, as the lane has it open now
pub record IsCopiedTo (kept : Kept) (v : View) (kind : ImageKind) (dir : ℕ) (file : List ℕ) : Type 0 where
  pub own : v.mine ≡ of_lane v.lane v.seen
  pub legal : IsLegal v.origin v.seen
  pub bytes : List ℕ
  pub there : kept (Image kind) bytes
  pub len : ℕ
  pub is_len : found_len (state_of v) (found (state_of v) v.lane dir file) ≡ Some len
  pub fits : length bytes ≤ len
  pub front : IsFrontOf (found (state_of v) v.lane dir file) (filler_of v.fillers kind) bytes

-- the image is empty, or has a front of the file
abbrev pub IsBegun : Kept → View → ImageKind → ℕ → List ℕ → Type 0
IsBegun kept v kind dir file = kept (Image kind) [] ⊎ IsCopiedTo kept v kind dir file

-- ---- by result

-- it is so, or the refusal tells nothing of the images
abbrev pub OrEarly : {A : Type 0} → (A → Type 0) → Result A UpdateReply → Type 0
OrEarly P (Ok x) = P x
OrEarly P (Err reply) = IsEarly reply

abbrev pub EarlyRefusal : Refusal → Type 0
EarlyRefusal (refusals.Bad file why) = Unit {0}
EarlyRefusal (refusals.Ended reply) = IsEarly reply

abbrev pub OrBad : {A : Type 0} → (A → Type 0) → Result A Refusal → Type 0
OrBad P (Ok x) = P x
OrBad P (Err refusal) = EarlyRefusal refusal

-- What one part more comes to. Behind one that isn't the last, the desk is firm if it was.
abbrev pub CopiesOn : Type 0 → Type 0 → Kept → Kept → View → View → ImageKind → ℕ → List ℕ → Part → Type 0
CopiesOn firm firm_now before after old new kind dir file parts.More =
    IsCopiedTo after new kind dir file × KeepsOther kind before after × (new.lane ≡ old.lane) × (firm → firm_now)
CopiesOn firm firm_now before after old new kind dir file (parts.Last result) =
    OrEarly (λ done. HasBytesOf firm after new kind dir file × KeepsOther kind before after) result

-- the images have these sums, or this one has another
abbrev pub SealsOf : {A : Type 0} → Kept → Sys → Result A UpdateReply → Type 0
SealsOf kept sys (Ok done) =
    OfKept kept (Image kinds.Zbi) (λ bytes. image_sum bytes ≡ sys.zbi)
    × OfKept kept (Image kinds.Vbmeta) (λ bytes. image_sum bytes ≡ sys.vbmeta)
SealsOf kept sys (Err (replies.Differs kind got)) = OfKept kept (Image kind) (λ bytes. image_sum bytes ≡ got)
SealsOf kept sys (Err reply) = IsEarly reply

-- the slot is sealed, or what the refusal tells
abbrev pub SlotOf : {A : Type 0} → Type 0 → View → View → Images → Result A UpdateReply → Type 0
SlotOf firm old new images (Ok done) = AreImagesOf firm old new images
SlotOf firm old new images (Err reply) = TellsOf firm old new images reply

-- no image has another sum
abbrev pub IsJudged : UpdateReply → Type 0
IsJudged (replies.Differs kind got) = ⊥
IsJudged reply = Unit {0}
