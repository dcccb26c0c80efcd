-- The calls that leave what a lane holds.
use Rattle.std.proofs.Common.{inl, inr, ◌≡◌, ℕ, true, false, List, length, Some, None}
use Rattle.image_layout.specs.declared.ImageKind.{ImageKind}
use Rattle.system_lists.specs.declared.fault.ManifestFile.{ManifestFile}
use Rattle.system_lists.specs.declared.fault.ManifestFault.{ManifestFault}
use Rattle.store_model.specs.declared.events.Act.TheVariants as acts
use Rattle.store_model.specs.declared.events.CallName.TheVariants as calls
use Rattle.store_model.specs.declared.ends.ReadEnd.TheVariants as reads
use Rattle.store_model.specs.declared.ends.CheckEnd.TheVariants as checks
use Rattle.store_model.specs.declared.ends.RetainEnd.TheVariants as retains
use Rattle.store_model.specs.declared.ends.CopyEnd.TheVariants as copies
use Rattle.pkg_names.specs.declared.root.Root.{Root}
use Rattle.store_model.specs.declared.replies.ReadReply.{ReadReply}
use Rattle.store_model.specs.declared.replies.ReadReply.TheVariants as read
use Rattle.store_model.specs.declared.replies.CheckReply.{CheckReply}
use Rattle.store_model.specs.declared.replies.CheckReply.TheVariants as check
use Rattle.store_model.specs.declared.replies.CollectReply.{CollectReply}
use Rattle.store_model.specs.declared.replies.CollectReply.TheVariants as collect
use Rattle.store_model.specs.declared.replies.RetainReply.{RetainReply}
use Rattle.store_model.specs.declared.replies.RetainReply.TheVariants as retain
use Rattle.store_model.specs.declared.replies.CopyReply.{CopyReply}
use Rattle.store_model.specs.declared.replies.CopyReply.TheVariants as copy
use Rattle.store_model.specs.declared.replies.CommitReply.{CommitReply}
use Rattle.store_model.specs.declared.replies.CommitReply.TheVariants as commit
use Rattle.store_model.specs.declared.replies.RejectReply.{RejectReply}
use Rattle.store_model.specs.declared.replies.RejectReply.TheVariants as reject
use Rattle.store_model.specs.Desk.{View, held_by}
use Rattle.store_model.specs.Replies.{IsRead, IsChecked, IsCollected, IsRetained, IsCopied, IsCommitted, IsRejected}
use Rattle.store_model.specs.Calls.{Reads, Checks, Collects, Retains, Copies, Commits, Rejects}
use Rattle.store_model.proofs.Calls.{held_by-Rests}
use Rattle.store_model.proofs.CallsHeld.{acted, broke}

pub held_after_read : (dir : ℕ) (file : List ℕ) (reply : ReadReply) (old new : View) → Reads dir file reply old new → held_by new ≡ held_by old
held_after_read dir file (read.Got bytes) old new does = acted old new (IsRead dir file (read.Got bytes)) does (acts.Read dir file (reads.Got bytes)) does.its
held_after_read dir file read.BadDir old new does = acted old new (IsRead dir file read.BadDir) does (acts.Read dir file reads.BadDir) does.its
held_after_read dir file read.NoFile old new does = acted old new (IsRead dir file read.NoFile) does (acts.Read dir file reads.NoFile) does.its
held_after_read dir file (read.TooLong len) old new does = acted old new (IsRead dir file (read.TooLong len)) does (acts.Read dir file (reads.TooLong len)) does.its
held_after_read dir file read.DiskRead old new does = acted old new (IsRead dir file read.DiskRead) does (acts.Read dir file reads.DiskRead) does.its
held_after_read dir file (read.Rotten root got) old new does = acted old new (IsRead dir file (read.Rotten root got)) does (acts.Read dir file (reads.Rotten root got)) does.its
held_after_read dir file (read.Broken number) old new does = acted old new (IsRead dir file (read.Broken number)) does (acts.Refused (calls.Read dir file) number) does.its
held_after_read dir file read.NoMemory old new rests = held_by-Rests old new rests

pub held_after_check : (dir : ℕ) (file : List ℕ) (reply : CheckReply) (old new : View) → Checks dir file reply old new → held_by new ≡ held_by old
held_after_check dir file (check.Checked root len) old new does = acted old new (IsChecked dir file (check.Checked root len)) does (acts.Check dir file (checks.Checked root len)) does.its
held_after_check dir file check.BadDir old new does = acted old new (IsChecked dir file check.BadDir) does (acts.Check dir file checks.BadDir) does.its
held_after_check dir file check.NoFile old new does = acted old new (IsChecked dir file check.NoFile) does (acts.Check dir file checks.NoFile) does.its
held_after_check dir file check.DiskRead old new does = acted old new (IsChecked dir file check.DiskRead) does (acts.Check dir file checks.DiskRead) does.its
held_after_check dir file (check.Rotten root got) old new does = acted old new (IsChecked dir file (check.Rotten root got)) does (acts.Check dir file (checks.Rotten root got)) does.its
held_after_check dir file (check.Broken number) old new does = acted old new (IsChecked dir file (check.Broken number)) does (acts.Refused (calls.Check dir file) number) does.its
held_after_check dir file check.NoMemory old new rests = held_by-Rests old new rests

pub held_after_collect : (reply : CollectReply) (old new : View) → Collects reply old new → held_by new ≡ held_by old
held_after_collect (collect.Removed roots) old new does = acted old new (IsCollected (collect.Removed roots)) does (acts.Collect (Some roots)) does.its
held_after_collect collect.NotCommitted old new does = acted old new (IsCollected collect.NotCommitted) does (acts.Collect None) does.its
held_after_collect (collect.Broken number) old new does =
    elim does.its [
      | inl refused ↦ acted old new (IsCollected (collect.Broken number)) does (acts.Refused calls.Collect number) refused
      | inr failed ↦ broke old new (IsCollected (collect.Broken number)) does (acts.Collect (Some failed.0)) number failed.1
    ]
held_after_collect collect.NoMemory old new rests = held_by-Rests old new rests

pub held_after_retain : (roots : List Root) (reply : RetainReply) (old new : View) → Retains roots reply old new → held_by new ≡ held_by old
held_after_retain roots retain.Done old new does = acted old new (IsRetained roots (length roots) retain.Done) does (acts.Retain roots retains.Done does.its.0) does.its.1
held_after_retain roots retain.SlotInUse old new does = acted old new (IsRetained roots (length roots) retain.SlotInUse) does (acts.Retain roots retains.SlotInUse does.its.0) does.its.1
held_after_retain roots retain.DiskRead old new does = acted old new (IsRetained roots (length roots) retain.DiskRead) does (acts.Retain roots retains.DiskRead does.its.0) does.its.1
held_after_retain roots (retain.Rotten root got) old new does = acted old new (IsRetained roots (length roots) (retain.Rotten root got)) does (acts.Retain roots (retains.Rotten root got) does.its.0) does.its.1
held_after_retain roots (retain.Broken number) old new does = acted old new (IsRetained roots (length roots) (retain.Broken number)) does (acts.Refused (calls.Retain (length roots)) number) does.its
held_after_retain roots retain.NoMemory old new rests = held_by-Rests old new rests

pub held_after_copy : (image : ImageKind) (dir : ℕ) (file : List ℕ) (reply : CopyReply) (old new : View) → Copies image dir file reply old new → held_by new ≡ held_by old
held_after_copy image dir file copy.BadDir old new does = acted old new (IsCopied image dir file copy.BadDir) does (acts.Copy image dir file (Some copies.BadDir)) does.its
held_after_copy image dir file copy.NoFile old new does = acted old new (IsCopied image dir file copy.NoFile) does (acts.Copy image dir file (Some copies.NoFile)) does.its
held_after_copy image dir file (copy.TooLarge len room) old new does = acted old new (IsCopied image dir file (copy.TooLarge len room)) does (acts.Copy image dir file (Some (copies.TooLarge len room))) does.its
held_after_copy image dir file copy.DiskRead old new does = acted old new (IsCopied image dir file copy.DiskRead) does (acts.Copy image dir file (Some copies.DiskRead)) does.its
held_after_copy image dir file (copy.More have) old new rests = held_by-Rests old new rests.0
held_after_copy image dir file (copy.Whole len) old new rests = held_by-Rests old new rests.0
held_after_copy image dir file (copy.Broken number) old new does =
    elim does.its [
      | inl refused ↦ acted old new (IsCopied image dir file (copy.Broken number)) does (acts.Refused (calls.Copy image dir file) number) refused
      | inr failed ↦ broke old new (IsCopied image dir file (copy.Broken number)) does (acts.Copy image dir file None) number failed
    ]
held_after_copy image dir file copy.NoMemory old new rests = held_by-Rests old new rests

pub held_after_commit : (reply : CommitReply) (old new : View) → Commits reply old new → held_by new ≡ held_by old
held_after_commit commit.Committed old new does = acted old new (IsCommitted commit.Committed) does (acts.Commit true) does.its
held_after_commit commit.NotPending old new does = acted old new (IsCommitted commit.NotPending) does (acts.Commit false) does.its
held_after_commit (commit.Broken number) old new does =
    elim does.its [
      | inl refused ↦ acted old new (IsCommitted (commit.Broken number)) does (acts.Refused calls.Commit number) refused
      | inr failed ↦ broke old new (IsCommitted (commit.Broken number)) does (acts.Commit true) number failed
    ]
held_after_commit commit.NoMemory old new rests = held_by-Rests old new rests

pub held_after_reject : (file : ManifestFile) (why : ManifestFault) (reply : RejectReply) (old new : View) → Rejects file why reply old new → held_by new ≡ held_by old
held_after_reject file why reject.Noted old new does = acted old new (IsRejected file why reject.Noted) does (acts.Reject file why) does.its
held_after_reject file why (reject.Broken number) old new does = acted old new (IsRejected file why (reject.Broken number)) does (acts.Refused (calls.Reject file) number) does.its
held_after_reject file why reject.NoMemory old new rests = held_by-Rests old new rests
