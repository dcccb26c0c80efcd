-- A call's event, as the call promises it at a desk.
use Rattle.std.proofs.Common.{ℕ, List, length}
use Rattle.pkg_names.specs.NameAndVariant.{NameAndVariant}
use Rattle.pkg_names.specs.declared.root.Root.{Root}
use Rattle.system_lists.specs.declared.fault.ManifestFile.{ManifestFile}
use Rattle.system_lists.specs.declared.fault.ManifestFault.{ManifestFault}
use Rattle.package_indexes.specs.declared.Choice.{Choice}
use Rattle.store_model.specs.declared.replies.BeginReply.{BeginReply}
use Rattle.store_model.specs.declared.replies.BeginReply.TheVariants as begin
use Rattle.store_model.specs.declared.replies.OpenReply.{OpenReply}
use Rattle.store_model.specs.declared.replies.OpenReply.TheVariants as opening
use Rattle.store_model.specs.declared.replies.ReadReply.{ReadReply}
use Rattle.store_model.specs.declared.replies.ReadReply.TheVariants as read
use Rattle.store_model.specs.declared.replies.CheckReply.{CheckReply}
use Rattle.store_model.specs.declared.replies.CheckReply.TheVariants as check
use Rattle.store_model.specs.declared.replies.CollectReply.{CollectReply}
use Rattle.store_model.specs.declared.replies.CollectReply.TheVariants as collect
use Rattle.store_model.specs.declared.replies.RetainReply.{RetainReply}
use Rattle.store_model.specs.declared.replies.RetainReply.TheVariants as retain
use Rattle.store_model.specs.declared.replies.RejectReply.{RejectReply}
use Rattle.store_model.specs.declared.replies.RejectReply.TheVariants as reject
use Rattle.store_model.specs.Desk.{View, Does}
use Rattle.store_model.specs.Replies.{IsBegun, IsOpened, IsRead, IsChecked, IsCollected, IsRetained, IsRejected}
use Rattle.store_model.specs.Calls.{Begins, Opens, Reads, Checks, Collects, Retains, Rejects}

pub begins : (path : NameAndVariant) (choice : Choice) (reply : BeginReply) (old new : View)
    → Does old new (IsBegun path choice reply) → Begins path choice reply old new
begins path choice begin.NoMemory old new d = absurd d.its
begins path choice reply old new d = d

pub opens : (path : NameAndVariant) (reply : OpenReply) (old new : View)
    → Does old new (IsOpened path reply) → Opens path reply old new
opens path opening.NoMemory old new d = absurd d.its
opens path reply old new d = d

pub reads : (dir : ℕ) (file : List ℕ) (reply : ReadReply) (old new : View)
    → Does old new (IsRead dir file reply) → Reads dir file reply old new
reads dir file read.NoMemory old new d = absurd d.its
reads dir file reply old new d = d

pub checks : (dir : ℕ) (file : List ℕ) (reply : CheckReply) (old new : View)
    → Does old new (IsChecked dir file reply) → Checks dir file reply old new
checks dir file check.NoMemory old new d = absurd d.its
checks dir file reply old new d = d

pub collects : (reply : CollectReply) (old new : View) → Does old new (IsCollected reply) → Collects reply old new
collects collect.NoMemory old new d = absurd d.its
collects reply old new d = d

pub retains : (roots : List Root) (reply : RetainReply) (old new : View)
    → Does old new (IsRetained roots (length roots) reply) → Retains roots reply old new
retains roots retain.NoMemory old new d = absurd d.its
retains roots reply old new d = d

pub rejects : (file : ManifestFile) (why : ManifestFault) (reply : RejectReply) (old new : View)
    → Does old new (IsRejected file why reply) → Rejects file why reply old new
rejects file why reject.NoMemory old new d = absurd d.its
rejects file why reply old new d = d
