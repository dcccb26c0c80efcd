-- How the events of an update serve its request: one run, from its first event to its reply. A run is cut into
-- legs, each of which is one event, a whole resolve, or nothing where no event shows what was done.
use Rattle.std.specs.Prelude.{◌≡◌, ℕ, List, [], ◌∷◌, ◌++◌, length, ◌⊎◌, Option, Some, None, Result, Ok, Err}
use Rattle.image_layout.specs.declared.ImageKind.{ImageKind}
use Rattle.image_layout.specs.declared.Sys.{Sys}
use Rattle.pkg_names.specs.NameAndVariant.{NameAndVariant}
use Rattle.pkg_names.specs.declared.pinned.Pinned.{Pinned}
use Rattle.pkg_names.specs.declared.root.Root.{Root}
use Rattle.system_lists.specs.declared.fault.ManifestFile.{ManifestFile}
use Rattle.system_lists.specs.declared.fault.ManifestFile.TheVariants as files
use Rattle.system_lists.specs.declared.fault.ManifestFault.{ManifestFault}
use Rattle.system_lists.specs.declared.fault.ManifestFault.TheVariants as faults
use Rattle.update_manifest.specs.declared.image.Images.{Images}
use Rattle.update_manifest.specs.Epoch.{epoch_in}
use Rattle.update_manifest.specs.Packages.{packages_in}
use Rattle.update_manifest.specs.Images.{images_in}
use Rattle.store_model.specs.declared.events.Event.{Event}
use Rattle.store_model.specs.declared.replies.Dir.{Dir}
use Rattle.store_model.specs.declared.replies.ReadReply.{ReadReply}
use Rattle.store_model.specs.declared.replies.ReadReply.TheVariants as read
use Rattle.store_model.specs.declared.replies.RejectReply.{RejectReply}
use Rattle.store_model.specs.declared.replies.RejectReply.TheVariants as reject
use Rattle.store_model.specs.declared.replies.StageReply.{StageReply}
use Rattle.store_model.specs.declared.replies.StageReply.TheVariants as stage
use Rattle.store_model.specs.declared.replies.RetainReply.{RetainReply}
use Rattle.store_model.specs.declared.replies.RetainReply.TheVariants as retain
use Rattle.store_model.specs.declared.replies.CopyReply.{CopyReply}
use Rattle.store_model.specs.declared.replies.CopyReply.TheVariants as copy
use Rattle.store_model.specs.declared.replies.SealReply.{SealReply}
use Rattle.store_model.specs.declared.replies.SealReply.TheVariants as seal
use Rattle.store_model.specs.declared.replies.ActivateReply.{ActivateReply}
use Rattle.store_model.specs.declared.replies.ActivateReply.TheVariants as activate
use Rattle.store_model.specs.declared.replies.CloseReply.TheVariants as close
use Rattle.store_model.specs.History.{Numbered}
use Rattle.store_model.specs.Replies.{IsRead, IsRejected, IsStaged, IsRetained, IsCopied, IsSealed, IsActivated, HasLeftStage, IsClosed}
use Rattle.resolver.specs.declared.reply.ResolveReply.{ResolveReply}
use Rattle.resolver.specs.declared.reply.ResolveReply.TheVariants as resolved
use Rattle.resolver.specs.Serving as resolve
use Rattle.system_updater.specs.declared.plan.Plan.{Plan}
use Rattle.system_updater.specs.declared.reply.UpdateReply.{UpdateReply}
use Rattle.system_updater.specs.declared.reply.UpdateReply.TheVariants as replies
use Rattle.system_updater.specs.Plan.{name_of, roots_of, sys_of, Task, tasks_of}

-- what was read of the manifests before the one that is next
pub data Prior : Type 0 where
  NothingRead : Prior
  EpochRead : (epoch : ℕ) → Prior
  PackagesRead : (epoch : ℕ) (packages : List Pinned) → Prior

-- the manifest that is next
abbrev pub next_file : Prior → ManifestFile
next_file NothingRead = files.Epoch
next_file (EpochRead epoch) = files.Packages
next_file (PackagesRead epoch packages) = files.Images

-- how far an update has come
pub data Point : Type 0 where
  -- nothing was asked yet of the update package
  Asking : (path : NameAndVariant) (pin : Option Root) → Point
  -- the update package is open, and a manifest is to be read, or is bad
  Reading : (dir : Dir) (prior : Prior) → Point
  Rejecting : (dir : Dir) (file : ManifestFile) (why : ManifestFault) → Point
  -- all manifests are good
  Staging : (dir : Dir) (plan : Plan) → Point
  -- a slot is being filled: its packages are to be retained, these of them to be resolved, these images to be
  -- filled, or the file of this open directory is to be copied into one
  Retaining : (dir : Dir) (plan : Plan) → Point
  Fetching : (dir : Dir) (plan : Plan) (left : List Pinned) → Point
  Filling : (dir : Dir) (plan : Plan) (left : List Task) → Point
  Copying : (dir : Dir) (plan : Plan) (task : Task) (from : Dir) (left : List Task) → Point
  -- the slot is sealed
  Activating : (dir : Dir) (sys : Sys) → Point
  -- a directory is to be closed, or the stage to be left, before it goes on
  Closing : (dir : Dir) (next : Point) → Point
  Leaving : (next : Point) → Point
  -- it has nothing, and replies this
  Ended : (reply : UpdateReply) → Point

-- ---- where it ends

-- the update package is closed
abbrev pub closed : Dir → UpdateReply → Point
closed dir reply = Closing dir (Ended reply)

-- before that the stage is left
abbrev pub left : Dir → UpdateReply → Point
left dir reply = Leaving (closed dir reply)

-- and before that the directory of the image is closed
abbrev pub image_left : Dir → Dir → UpdateReply → Point
image_left dir from reply = Closing from (left dir reply)

-- ---- where a reply leads; want of memory makes no event, and leads to the end

abbrev pub refusal_of : ResolveReply → UpdateReply
refusal_of resolved.NoMemory = replies.NoMemory
refusal_of reply = replies.Resolve reply

abbrev pub after_resolve : (Dir → Point) → (UpdateReply → Point) → ResolveReply → Point
after_resolve opened ended (resolved.Resolved dir) = opened dir
after_resolve opened ended reply = ended (refusal_of reply)

-- the manifest in a text, or what is wrong with it
abbrev pub with_epoch : Dir → Result ℕ ManifestFault → Point
with_epoch dir (Ok epoch) = Reading dir (EpochRead epoch)
with_epoch dir (Err why) = Rejecting dir files.Epoch why

abbrev pub with_packages : Dir → ℕ → Result (List Pinned) ManifestFault → Point
with_packages dir epoch (Ok packages) = Reading dir (PackagesRead epoch packages)
with_packages dir epoch (Err why) = Rejecting dir files.Packages why

abbrev pub with_images : Dir → ℕ → List Pinned → Result Images ManifestFault → Point
with_images dir epoch packages (Ok images) =
    Staging dir (record { epoch = epoch; packages = packages; images = images })
with_images dir epoch packages (Err why) = Rejecting dir files.Images why

-- A missing epoch is 0. The other manifests have to be there.
abbrev pub judged : Dir → Prior → Option (List ℕ) → Point
judged dir NothingRead None = with_epoch dir (Ok 0)
judged dir NothingRead (Some bytes) = with_epoch dir (epoch_in bytes)
judged dir (EpochRead epoch) None = with_packages dir epoch (Err faults.Missing)
judged dir (EpochRead epoch) (Some bytes) = with_packages dir epoch (packages_in bytes)
judged dir (PackagesRead epoch packages) None = with_images dir epoch packages (Err faults.Missing)
judged dir (PackagesRead epoch packages) (Some bytes) = with_images dir epoch packages (images_in bytes)

abbrev pub after_read : Dir → Prior → ReadReply → Point
after_read dir prior (read.Got bytes) = judged dir prior (Some bytes)
after_read dir prior read.NoFile = judged dir prior None
after_read dir prior (read.TooLong len) = Rejecting dir (next_file prior) (faults.TooLong len)
after_read dir prior read.BadDir = closed dir replies.BadDir
after_read dir prior read.DiskRead = closed dir replies.DiskRead
after_read dir prior (read.Rotten root got) = closed dir (replies.Rotten root got)
after_read dir prior (read.Broken number) = closed dir (replies.Broken number)
after_read dir prior read.NoMemory = closed dir replies.NoMemory

abbrev pub after_reject : Dir → ManifestFile → ManifestFault → RejectReply → Point
after_reject dir file why reject.Noted = closed dir (replies.Manifest file why)
after_reject dir file why (reject.Broken number) = closed dir (replies.Broken number)
after_reject dir file why reject.NoMemory = closed dir replies.NoMemory

abbrev pub after_stage : Dir → Plan → StageReply → Point
after_stage dir plan (stage.Turn slot) = Retaining dir plan
after_stage dir plan stage.InRecovery = closed dir replies.InRecovery
after_stage dir plan (stage.Busy lane) = closed dir (replies.Busy lane)
after_stage dir plan stage.NotCommitted = closed dir replies.NotCommitted
after_stage dir plan (stage.Older have) = closed dir (replies.Epoch have plan.epoch)
after_stage dir plan (stage.Broken number) = closed dir (replies.Broken number)
after_stage dir plan stage.NoMemory = closed dir replies.NoMemory

abbrev pub after_retain : Dir → Plan → RetainReply → Point
after_retain dir plan retain.Done = Fetching dir plan plan.packages
after_retain dir plan retain.SlotInUse = left dir replies.SlotInUse
after_retain dir plan retain.DiskRead = left dir replies.DiskRead
after_retain dir plan (retain.Rotten root got) = left dir (replies.Rotten root got)
after_retain dir plan (retain.Broken number) = left dir (replies.Broken number)
after_retain dir plan retain.NoMemory = left dir replies.NoMemory

-- parts that are copied make no event
abbrev pub copy_refusal : ImageKind → CopyReply → UpdateReply
copy_refusal kind copy.BadDir = replies.BadDir
copy_refusal kind copy.NoFile = replies.NoFile kind
copy_refusal kind (copy.TooLarge len room) = replies.TooLarge kind len room
copy_refusal kind copy.DiskRead = replies.DiskRead
copy_refusal kind (copy.More have) = replies.NoMemory
copy_refusal kind (copy.Whole len) = replies.NoMemory
copy_refusal kind (copy.Broken number) = replies.Broken number
copy_refusal kind copy.NoMemory = replies.NoMemory

abbrev pub after_seal : Dir → Sys → SealReply → Point
after_seal dir sys seal.Sealed = Activating dir sys
after_seal dir sys (seal.Differs image got) = left dir (replies.Differs image got)
after_seal dir sys (seal.Broken number) = left dir (replies.Broken number)
after_seal dir sys seal.NoMemory = left dir replies.NoMemory

abbrev pub activation_reply : ActivateReply → UpdateReply
activation_reply (activate.Active slot) = replies.Staged slot
activation_reply (activate.BaseMissing root) = replies.BaseMissing root
activation_reply (activate.NotASystem why) = replies.NotASystem why
activation_reply activate.DiskRead = replies.DiskRead
activation_reply (activate.Rotten root got) = replies.Rotten root got
activation_reply (activate.Broken number) = replies.Broken number
activation_reply activate.NoMemory = replies.NoMemory

-- ---- legs

-- one event, of which this is so
abbrev pub IsOne : (ℕ → Event → Type 0) → List Numbered → Type 0
IsOne IsIts leg = (e : Numbered) × (leg ≡ e ∷ []) × IsIts e.number e.event

-- one call, whose event tells of its reply
pub record Calls {A : Type 0} (IsIts : A → ℕ → Event → Type 0) (after : A → Point) (leg : List Numbered) (to : Point)
    : Type 0 where
  pub reply : A
  pub event : IsOne (IsIts reply) leg
  pub leads : to ≡ after reply

-- a package is resolved
pub record Resolves (path : NameAndVariant) (pin : Option Root) (after : ResolveReply → Point) (leg : List Numbered)
    (to : Point) : Type 0 where
  pub reply : ResolveReply
  pub serves : resolve.Serves path pin leg reply
  pub leads : to ≡ after reply

-- no event shows it
abbrev pub Passes : Point → List Numbered → Point → Type 0
Passes there leg to = (leg ≡ []) × (to ≡ there)

-- memory is short
abbrev pub Cuts : (UpdateReply → Point) → List Numbered → Point → Type 0
Cuts ended leg to = Passes (ended replies.NoMemory) leg to

-- the file of an image is copied whole, or is refused; an image whose URL names no file is refused
abbrev pub Copies : Dir → Plan → Task → Dir → List Task → Option (List ℕ) → List Numbered → Point → Type 0
Copies dir plan task from later None leg to = Passes (image_left dir from (replies.NoFile task.kind)) leg to
Copies dir plan task from later (Some file) leg to =
    Passes (Closing from (Filling dir plan later)) leg to
    ⊎ (Calls (IsCopied task.kind from.number file) (λ reply. image_left dir from (copy_refusal task.kind reply)) leg to
    ⊎ Cuts (image_left dir from) leg to)

-- From a point this leg may come, and leads to the other.
abbrev pub Follows : Point → List Numbered → Point → Type 0
Follows (Asking path pin) leg to = Resolves path pin (after_resolve (λ dir. Reading dir NothingRead) Ended) leg to
Follows (Reading dir prior) leg to =
    Calls (IsRead dir.number (name_of (next_file prior))) (after_read dir prior) leg to ⊎ Cuts (closed dir) leg to
Follows (Rejecting dir file why) leg to =
    Calls (IsRejected file why) (after_reject dir file why) leg to ⊎ Cuts (closed dir) leg to
Follows (Staging dir plan) leg to =
    Calls (IsStaged plan.epoch) (after_stage dir plan) leg to ⊎ Cuts (closed dir) leg to
Follows (Retaining dir plan) leg to =
    Calls (IsRetained (roots_of plan.packages) (length (roots_of plan.packages))) (after_retain dir plan) leg to
    ⊎ Cuts (left dir) leg to
Follows (Fetching dir plan []) leg to = Passes (Filling dir plan (tasks_of plan.images)) leg to
Follows (Fetching dir plan (pinned ∷ later)) leg to =
    Resolves pinned.path (Some pinned.root)
    (after_resolve (λ from. Closing from (Fetching dir plan later)) (left dir)) leg to
    ⊎ Cuts (left dir) leg to
Follows (Filling dir plan []) leg to =
    Calls (IsSealed (sys_of plan)) (after_seal dir (sys_of plan)) leg to ⊎ Cuts (left dir) leg to
Follows (Filling dir plan (task ∷ later)) leg to =
    Resolves task.image.url.path task.image.url.pin
    (after_resolve (λ from. Copying dir plan task from later) (left dir)) leg to
Follows (Copying dir plan task from later) leg to = Copies dir plan task from later task.image.url.file leg to
Follows (Activating dir sys) leg to =
    Calls IsActivated (λ reply. left dir (activation_reply reply)) leg to ⊎ Cuts (left dir) leg to
Follows (Closing dir next) leg to = IsOne (IsClosed dir.number close.Closed) leg × (to ≡ next)
Follows (Leaving next) leg to = IsOne HasLeftStage leg × (to ≡ next)
Follows (Ended reply) leg to = ⊥

-- the legs lead from one point to the other
abbrev pub Leads : Point → List (List Numbered) → Point → Type 0
Leads from [] to = from ≡ to
Leads from (leg ∷ legs) to = (next : Point) × Follows from leg next × Leads next legs to

-- one behind the other
abbrev pub joined : List (List Numbered) → List Numbered
joined [] = []
joined (leg ∷ legs) = leg ++ joined legs

-- These events are one run that updates to this package, and its reply.
pub record Serves (path : NameAndVariant) (pin : Option Root) (run : List Numbered) (reply : UpdateReply)
    : Type 0 where
  pub legs : List (List Numbered)
  pub whole : run ≡ joined legs
  pub leads : Leads (Asking path pin) legs (Ended reply)

-- The slot that was taken can't be booted, the directories of an update are open, and in recovery none would be:
-- three replies never come.
abbrev pub CanCome : UpdateReply → Type 0
CanCome replies.InRecovery = ⊥
CanCome replies.SlotInUse = ⊥
CanCome replies.BadDir = ⊥
CanCome reply = Unit {0}
