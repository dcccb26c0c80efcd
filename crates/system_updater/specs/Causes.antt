-- What a reply tells: the part of the run on which it follows.
use Rattle.std.specs.Prelude.{◌≡◌, ◌⊎◌, ℕ, true, List, ◌++◌, Option, Some, Err}
use Rattle.image_layout.specs.declared.ImageKind.{ImageKind}
use Rattle.image_layout.specs.declared.Sys.{Sys}
use Rattle.pkg_names.specs.NameAndVariant.{NameAndVariant}
use Rattle.pkg_names.specs.declared.root.Root.{Root}
use Rattle.system_lists.specs.declared.fault.ManifestFile.{ManifestFile}
use Rattle.system_lists.specs.declared.fault.ManifestFile.TheVariants as files
use Rattle.system_lists.specs.declared.fault.ManifestFault.{ManifestFault}
use Rattle.system_lists.specs.declared.fault.ManifestFault.TheVariants as faults
use Rattle.update_manifest.specs.Epoch.{epoch_in}
use Rattle.update_manifest.specs.Packages.{packages_in}
use Rattle.update_manifest.specs.Images.{images_in}
use Rattle.store_model.specs.declared.ends.ActivateEnd.TheVariants as activations
use Rattle.store_model.specs.declared.ends.CopyEnd.{CopyEnd}
use Rattle.store_model.specs.declared.ends.CopyEnd.TheVariants as copies
use Rattle.store_model.specs.declared.ends.ReadEnd.{ReadEnd}
use Rattle.store_model.specs.declared.ends.ReadEnd.TheVariants as reads
use Rattle.store_model.specs.declared.ends.RetainEnd.TheVariants as retains
use Rattle.store_model.specs.declared.ends.StageEnd.TheVariants as stages
use Rattle.store_model.specs.declared.events.Act.TheVariants as acts
use Rattle.store_model.specs.declared.events.CallName.{CallName}
use Rattle.store_model.specs.declared.events.Event.{Event}
use Rattle.store_model.specs.History.{Numbered}
use Rattle.store_model.specs.Replies.{Acts, Looks, Refuses}
use Rattle.resolver.specs.declared.reply.ResolveReply.{ResolveReply}
use Rattle.resolver.specs.Serving as resolve
use Rattle.system_updater.specs.declared.reply.UpdateReply.{UpdateReply}
use Rattle.system_updater.specs.declared.reply.UpdateReply.TheVariants as replies
use Rattle.system_updater.specs.Plan.{name_of}
use Rattle.system_updater.specs.Serving.{IsOne}

-- ---- a bad manifest

-- what the reader of a manifest says of these bytes
abbrev pub IsFaultIn : ManifestFile → List ℕ → ManifestFault → Type 0
IsFaultIn files.Epoch bytes why = epoch_in bytes ≡ Err why
IsFaultIn files.Packages bytes why = packages_in bytes ≡ Err why
IsFaultIn files.Images bytes why = images_in bytes ≡ Err why

-- a manifest that has to be there isn't
abbrev pub IsMissing : ManifestFile → ManifestFault → Type 0
IsMissing files.Epoch why = ⊥
IsMissing file why = why ≡ faults.Missing

-- what is wrong with the manifest that was read
abbrev pub IsBadBy : ManifestFile → ManifestFault → ReadEnd → Type 0
IsBadBy file why (reads.Got bytes) = IsFaultIn file bytes why
IsBadBy file why reads.NoFile = IsMissing file why
IsBadBy file why (reads.TooLong len) = why ≡ faults.TooLong len
IsBadBy file why reply = ⊥

-- the manifest was read, and is bad
pub record IsBadRead (file : ManifestFile) (why : ManifestFault) (read : List Numbered) : Type 0 where
  pub dir : ℕ
  pub reply : ReadEnd
  pub is : IsOne (λ number e. Acts (acts.Read dir (name_of file) reply) e) read
  pub bad : IsBadBy file why reply

-- ---- the event that a reply tells

-- a file was read, or a copy was refused, with this end
abbrev pub IsRead : ReadEnd → Event → Type 0
IsRead end e = (dir : ℕ) × (file : List ℕ) × Acts (acts.Read dir file end) e

abbrev pub IsCopied : CopyEnd → Event → Type 0
IsCopied end e = (image : ImageKind) × (dir : ℕ) × (file : List ℕ) × Acts (acts.Copy image dir file (Some end)) e

-- a call was refused, or a write failed in it
abbrev pub IsBroken : ℕ → ℕ → Event → Type 0
IsBroken broken number e =
    ((call : CallName) × Refuses call broken e) ⊎ ((broken ≡ number) × (e.broke ≡ true))

abbrev pub IsTold : UpdateReply → ℕ → Event → Type 0
IsTold (replies.Staged slot) number e = Looks (acts.Activate (activations.Active slot)) e
IsTold (replies.Resolve reply) number e = ⊥
IsTold (replies.Manifest file why) number e = Acts (acts.Reject file why) e
IsTold (replies.Busy lane) number e = (epoch : ℕ) × Acts (acts.Stage epoch (stages.Busy lane)) e
IsTold replies.NotCommitted number e = (epoch : ℕ) × Acts (acts.Stage epoch stages.NotCommitted) e
IsTold (replies.Epoch have wanted) number e = Acts (acts.Stage wanted (stages.Older have)) e
IsTold (replies.NoFile image) number e =
    (dir : ℕ) × (file : List ℕ) × Acts (acts.Copy image dir file (Some copies.NoFile)) e
IsTold (replies.TooLarge image len room) number e =
    (dir : ℕ) × (file : List ℕ) × Acts (acts.Copy image dir file (Some (copies.TooLarge len room))) e
IsTold (replies.Differs image got) number e =
    (sys : Sys) × Acts (acts.Seal sys (Some (record { image = image; got = got }))) e
IsTold (replies.BaseMissing root) number e = Looks (acts.Activate (activations.BaseMissing root)) e
IsTold (replies.NotASystem why) number e = Looks (acts.Activate (activations.NotASystem why)) e
IsTold replies.DiskRead number e =
    IsRead reads.DiskRead e
    ⊎ (((roots : List Root) × Looks (acts.Retain roots retains.DiskRead) e)
    ⊎ (IsCopied copies.DiskRead e ⊎ Looks (acts.Activate activations.DiskRead) e))
IsTold (replies.Rotten root got) number e =
    IsRead (reads.Rotten root got) e
    ⊎ (((roots : List Root) × Looks (acts.Retain roots (retains.Rotten root got)) e)
    ⊎ Looks (acts.Activate (activations.Rotten root got)) e)
IsTold (replies.Broken broken) number e = IsBroken broken number e
IsTold replies.NoMemory number e = ⊥
IsTold replies.InRecovery number e = (epoch : ℕ) × Acts (acts.Stage epoch stages.InRecovery) e
IsTold replies.SlotInUse number e = (roots : List Root) × Looks (acts.Retain roots retains.SlotInUse) e
IsTold replies.BadDir number e = IsRead reads.BadDir e ⊎ IsCopied copies.BadDir e

-- ---- the part of the run that a reply follows on

-- a package was resolved with this reply
abbrev pub IsResolve : List Numbered → ResolveReply → Type 0
IsResolve part reply = (path : NameAndVariant) × (pin : Option Root) × resolve.Serves path pin part reply

-- the manifest was read and is bad, and is then rejected
pub record IsRejection (file : ManifestFile) (why : ManifestFault) (part : List Numbered) : Type 0 where
  pub read : List Numbered
  pub bad : IsBadRead file why read
  pub last : List Numbered
  pub rejected : IsOne (IsTold (replies.Manifest file why)) last
  pub both : part ≡ read ++ last

-- of want of memory there is none
abbrev pub IsCause : UpdateReply → List Numbered → Type 0
IsCause (replies.Resolve reply) part = IsResolve part reply
IsCause (replies.Manifest file why) part = IsRejection file why part
IsCause replies.NoMemory part = Unit {0}
IsCause reply part = IsOne (IsTold reply) part

-- the run has a part that is the cause of the reply
pub record HasCause (reply : UpdateReply) (run : List Numbered) : Type 0 where
  pub before : List Numbered
  pub part : List Numbered
  pub later : List Numbered
  pub whole : run ≡ before ++ part ++ later
  pub cause : IsCause reply part
