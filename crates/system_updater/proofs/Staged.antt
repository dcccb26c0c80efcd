-- A run that ends staged, from each of its points on.
use Rattle.std.proofs.Common.{inl, inr, ◌≡◌, ℕ, suc, true, false, List, [], ◌∷◌, ◌++◌, length, Option, Some, None, Result, Ok, Err, refl, sym, ap, subst, ◌∙◌}
use Rattle.abr_record.specs.declared.Slot.{Slot}
use Rattle.image_layout.specs.declared.ImageKind.{ImageKind}
use Rattle.image_layout.specs.declared.Sys.{Sys}
use Rattle.pkg_names.specs.NameAndVariant.{NameAndVariant}
use Rattle.pkg_names.specs.declared.pinned.Pinned.{Pinned}
use Rattle.pkg_names.specs.declared.root.Root.{Root}
use Rattle.system_lists.specs.declared.fault.ManifestFile.{ManifestFile}
use Rattle.system_lists.specs.declared.fault.ManifestFault.{ManifestFault}
use Rattle.update_manifest.specs.declared.image.Images.{Images}
use Rattle.update_manifest.specs.Epoch.{epoch_in}
use Rattle.update_manifest.specs.Packages.{packages_in}
use Rattle.update_manifest.specs.Images.{images_in}
use Rattle.store_model.specs.declared.ends.ReadEnd.TheVariants as reads
use Rattle.store_model.specs.declared.ends.RetainEnd.TheVariants as retains
use Rattle.store_model.specs.declared.ends.StageEnd.TheVariants as stages
use Rattle.store_model.specs.declared.ends.ActivateEnd.TheVariants as activations
use Rattle.store_model.specs.declared.events.Act.{Act}
use Rattle.store_model.specs.declared.events.Act.TheVariants as acts
use Rattle.store_model.specs.declared.events.CallName.TheVariants as calls
use Rattle.store_model.specs.declared.replies.Dir.{Dir}
use Rattle.store_model.specs.declared.replies.ReadReply.{ReadReply}
use Rattle.store_model.specs.declared.replies.ReadReply.TheVariants as read
use Rattle.store_model.specs.declared.replies.RejectReply.{RejectReply}
use Rattle.store_model.specs.declared.replies.RejectReply.TheVariants as reject
use Rattle.store_model.specs.declared.replies.StageReply.{StageReply}
use Rattle.store_model.specs.declared.replies.StageReply.TheVariants as stage
use Rattle.store_model.specs.declared.replies.RetainReply.{RetainReply}
use Rattle.store_model.specs.declared.replies.RetainReply.TheVariants as retain
use Rattle.store_model.specs.declared.replies.CopyReply.{CopyReply}
use Rattle.store_model.specs.declared.replies.CopyReply.TheVariants as copy
use Rattle.store_model.specs.declared.replies.SealReply.{SealReply}
use Rattle.store_model.specs.declared.replies.SealReply.TheVariants as seal
use Rattle.store_model.specs.declared.replies.ActivateReply.{ActivateReply}
use Rattle.store_model.specs.declared.replies.ActivateReply.TheVariants as activate
use Rattle.store_model.specs.History.{Numbered}
use Rattle.store_model.specs.Replies.{IsRead, IsStaged, IsRetained, IsSealed, IsActivated}
use Rattle.resolver.specs.declared.reply.ResolveReply.{ResolveReply}
use Rattle.resolver.specs.declared.reply.ResolveReply.TheVariants as resolved
use Rattle.resolver.specs.Serving as resolve
use Rattle.system_updater.specs.declared.plan.Plan.{Plan}
use Rattle.system_updater.specs.declared.reply.UpdateReply.{UpdateReply}
use Rattle.system_updater.specs.declared.reply.UpdateReply.TheVariants as replies
use Rattle.system_updater.specs.Plan.{name_of, roots_of, sys_of, Task}
use Rattle.system_updater.specs.Serving.{Point, Prior, next_file, closed, left, refusal_of, after_resolve, with_epoch, with_packages, with_images, judged, after_read, after_reject, after_stage, after_retain, copy_refusal, after_seal, activation_reply, IsOne, Resolves, Copies, Follows, Leads, joined, Serves}
use Rattle.system_updater.specs.Serving.Prior.{NothingRead, EpochRead, PackagesRead}
use Rattle.system_updater.specs.Serving.Point.{Asking, Reading, Rejecting, Staging, Retaining, Fetching, Filling, Copying, Activating, Closing, Leaving, Ended}
use Rattle.system_updater.specs.Laws.{Mark, mark_of, with_mark, marks, asked, IsInOrder}
use Rattle.system_updater.specs.Laws.Mark.{Asked, Taken, Retained, SealedSlot, Activated, Left}
use Rattle.system_updater.proofs.Marks.{marks_then, no_mark, marks_this, resolved_marks}

-- one event
none_of : (leg : List Numbered) (e : Numbered) (act : Act) → leg ≡ e ∷ [] → e.event.act ≡ act → mark_of act ≡ None → marks leg ≡ []
none_of leg e act one is none = ap marks one ∙ ap (λ (o : Option Mark). with_mark o []) (no_mark e.event act is none)

one_of : (leg : List Numbered) (e : Numbered) (act : Act) (mark : Mark) → leg ≡ e ∷ [] → e.event.act ≡ act → e.event.broke ≡ false → mark_of act ≡ Some mark → marks leg ≡ mark ∷ []
one_of leg e act mark one is whole same = ap marks one ∙ ap (λ (o : Option Mark). with_mark o []) (marks_this e.event act mark is whole same)

module _ (slot : Slot) where
  -- what is still to be done from a point on, where the run ends staged
  abbrev Fills : List Mark → Type 0
  Fills ms = (count : ℕ) × (ms ≡ asked count (SealedSlot ∷ Activated slot ∷ Left ∷ []))

  abbrev Takes : List Mark → Type 0
  Takes ms = (count : ℕ) × (ms ≡ Taken ∷ Retained ∷ asked count (SealedSlot ∷ Activated slot ∷ Left ∷ []))

  abbrev Shape : Point → List Mark → Type 0
  Shape (Asking path pin) ms = (count : ℕ) × (ms ≡ Asked ∷ Taken ∷ Retained ∷ asked count (SealedSlot ∷ Activated slot ∷ Left ∷ []))
  Shape (Reading dir prior) ms = Takes ms
  Shape (Rejecting dir file why) ms = Takes ms
  Shape (Staging dir plan) ms = Takes ms
  Shape (Retaining dir plan) ms = (count : ℕ) × (ms ≡ Retained ∷ asked count (SealedSlot ∷ Activated slot ∷ Left ∷ []))
  Shape (Fetching dir plan later) ms = Fills ms
  Shape (Filling dir plan later) ms = Fills ms
  Shape (Copying dir plan task from later) ms = Fills ms
  Shape (Activating dir sys) ms = ms ≡ Activated slot ∷ Left ∷ []
  Shape (Closing dir next) ms = Shape next ms
  Shape (Leaving next) ms = (rest : List Mark) × (ms ≡ Left ∷ rest) × Shape next rest
  Shape (Ended reply) ms = (ms ≡ []) × (reply ≡ replies.Staged slot)

  not_closed : (A : Type 0) (dir : Dir) (reply : UpdateReply) (ms : List Mark) → (reply ≡ replies.Staged slot → ⊥) → Shape (closed dir reply) ms → A
  not_closed A dir reply ms other is = absurd (other is.1)

  not_left : (A : Type 0) (dir : Dir) (reply : UpdateReply) (ms : List Mark) → (reply ≡ replies.Staged slot → ⊥) → Shape (left dir reply) ms → A
  not_left A dir reply ms other is = absurd (other is.2.1)

  never_refusal : (reply : ResolveReply) → refusal_of reply ≡ replies.Staged slot → ⊥
  never_refusal (resolved.Resolved dir) is = cc is
  never_refusal resolved.InRecovery is = cc is
  never_refusal resolved.NotFound is = cc is
  never_refusal resolved.ListingFault is = cc is
  never_refusal (resolved.Failed cause) is = cc is
  never_refusal resolved.DiskRead is = cc is
  never_refusal (resolved.Rotten root got) is = cc is
  never_refusal (resolved.Broken number) is = cc is
  never_refusal resolved.NoMemory is = cc is

  -- a package that is resolved
  by_resolve : (opened : Dir → Point) (ended : UpdateReply → Point) (path : NameAndVariant) (pin : Option Root) (leg : List Numbered) (next : Point) (ms : List Mark)
      → Resolves path pin (after_resolve opened ended) leg next → Shape next ms → ((reply : UpdateReply) → Shape (ended reply) ms → reply ≡ replies.Staged slot)
      → (dir : Dir) × Shape (opened dir) ms × (marks leg ≡ Asked ∷ [])
  by_resolve opened ended path pin leg next ms r shape over = by_reply r.reply r.serves (subst (λ (p : Point). Shape p ms) r.leads shape) where
    by_reply : (reply : ResolveReply) → resolve.Serves path pin leg reply → Shape (after_resolve opened ended reply) ms → (dir : Dir) × Shape (opened dir) ms × (marks leg ≡ Asked ∷ [])
    by_reply (resolved.Resolved dir) serves shape = (dir, shape, resolved_marks path pin leg dir serves)
    by_reply resolved.InRecovery serves shape = absurd (never_refusal resolved.InRecovery (over (refusal_of resolved.InRecovery) shape))
    by_reply resolved.NotFound serves shape = absurd (never_refusal resolved.NotFound (over (refusal_of resolved.NotFound) shape))
    by_reply resolved.ListingFault serves shape = absurd (never_refusal resolved.ListingFault (over (refusal_of resolved.ListingFault) shape))
    by_reply (resolved.Failed cause) serves shape = absurd (never_refusal (resolved.Failed cause) (over (refusal_of (resolved.Failed cause)) shape))
    by_reply resolved.DiskRead serves shape = absurd (never_refusal resolved.DiskRead (over (refusal_of resolved.DiskRead) shape))
    by_reply (resolved.Rotten root got) serves shape = absurd (never_refusal (resolved.Rotten root got) (over (refusal_of (resolved.Rotten root got)) shape))
    by_reply (resolved.Broken number) serves shape = absurd (never_refusal (resolved.Broken number) (over (refusal_of (resolved.Broken number)) shape))
    by_reply resolved.NoMemory serves shape = absurd (never_refusal resolved.NoMemory (over (refusal_of resolved.NoMemory) shape))

  more : (leg : List Numbered) (ms : List Mark) (mark : Mark) → marks leg ≡ mark ∷ [] → marks leg ++ ms ≡ mark ∷ ms
  more leg ms mark is = ap (λ (x : List Mark). x ++ ms) is

  same : (leg : List Numbered) (ms : List Mark) → marks leg ≡ [] → marks leg ++ ms ≡ ms
  same leg ms is = ap (λ (x : List Mark). x ++ ms) is

  passed : (leg : List Numbered) (ms : List Mark) → leg ≡ [] → marks leg ++ ms ≡ ms
  passed leg ms is = same leg ms (ap marks is)

  one_more : (leg : List Numbered) (ms : List Mark) → marks leg ≡ Asked ∷ [] → Fills ms → Fills (marks leg ++ ms)
  one_more leg ms is fills = (suc fills.0, more leg ms Asked is ∙ ap (λ (x : List Mark). Asked ∷ x) fills.1)

  -- ---- manifests

  judged_shape : (dir : Dir) (prior : Prior) (found : Option (List ℕ)) (ms : List Mark) → Shape (judged dir prior found) ms → Takes ms
  judged_shape dir NothingRead None ms is = is
  judged_shape dir NothingRead (Some bytes) ms is = by_epoch (epoch_in bytes) is where
    by_epoch : (found : Result ℕ ManifestFault) → Shape (with_epoch dir found) ms → Takes ms
    by_epoch (Ok epoch) is = is
    by_epoch (Err why) is = is
  judged_shape dir (EpochRead epoch) None ms is = is
  judged_shape dir (EpochRead epoch) (Some bytes) ms is = by_packages (packages_in bytes) is where
    by_packages : (found : Result (List Pinned) ManifestFault) → Shape (with_packages dir epoch found) ms → Takes ms
    by_packages (Ok packages) is = is
    by_packages (Err why) is = is
  judged_shape dir (PackagesRead epoch packages) None ms is = is
  judged_shape dir (PackagesRead epoch packages) (Some bytes) ms is = by_images (images_in bytes) is where
    by_images : (found : Result Images ManifestFault) → Shape (with_images dir epoch packages found) ms → Takes ms
    by_images (Ok images) is = is
    by_images (Err why) is = is

  read_none : (dir : Dir) (file : List ℕ) (reply : ReadReply) (leg : List Numbered) → IsOne (IsRead dir.number file reply) leg → marks leg ≡ []
  read_none dir file (read.Got bytes) leg one = none_of leg one.0 (acts.Read dir.number file (reads.Got bytes)) one.1 one.2.0 refl
  read_none dir file read.BadDir leg one = none_of leg one.0 (acts.Read dir.number file reads.BadDir) one.1 one.2.0 refl
  read_none dir file read.NoFile leg one = none_of leg one.0 (acts.Read dir.number file reads.NoFile) one.1 one.2.0 refl
  read_none dir file (read.TooLong len) leg one = none_of leg one.0 (acts.Read dir.number file (reads.TooLong len)) one.1 one.2.0 refl
  read_none dir file read.DiskRead leg one = none_of leg one.0 (acts.Read dir.number file reads.DiskRead) one.1 one.2.0 refl
  read_none dir file (read.Rotten root got) leg one = none_of leg one.0 (acts.Read dir.number file (reads.Rotten root got)) one.1 one.2.0 refl
  read_none dir file (read.Broken broken) leg one = none_of leg one.0 (acts.Refused (calls.Read dir.number file) broken) one.1 one.2.0 refl
  read_none dir file read.NoMemory leg one = absurd one.2

  read_shape : (dir : Dir) (prior : Prior) (reply : ReadReply) (ms : List Mark) → Shape (after_read dir prior reply) ms → Takes ms
  read_shape dir prior (read.Got bytes) ms is = judged_shape dir prior (Some bytes) ms is
  read_shape dir prior read.NoFile ms is = judged_shape dir prior None ms is
  read_shape dir prior (read.TooLong len) ms is = is
  read_shape dir prior read.BadDir ms is = not_closed (Takes ms) dir replies.BadDir ms (λ e. cc e) is
  read_shape dir prior read.DiskRead ms is = not_closed (Takes ms) dir replies.DiskRead ms (λ e. cc e) is
  read_shape dir prior (read.Rotten root got) ms is = not_closed (Takes ms) dir (replies.Rotten root got) ms (λ e. cc e) is
  read_shape dir prior (read.Broken number) ms is = not_closed (Takes ms) dir (replies.Broken number) ms (λ e. cc e) is
  read_shape dir prior read.NoMemory ms is = not_closed (Takes ms) dir replies.NoMemory ms (λ e. cc e) is

  reject_shape : (A : Type 0) (dir : Dir) (file : ManifestFile) (why : ManifestFault) (reply : RejectReply) (ms : List Mark) → Shape (after_reject dir file why reply) ms → A
  reject_shape A dir file why reject.Noted ms is = not_closed A dir (replies.Manifest file why) ms (λ e. cc e) is
  reject_shape A dir file why (reject.Broken number) ms is = not_closed A dir (replies.Broken number) ms (λ e. cc e) is
  reject_shape A dir file why reject.NoMemory ms is = not_closed A dir replies.NoMemory ms (λ e. cc e) is

  -- ---- the slot

  stage_shape : (dir : Dir) (plan : Plan) (reply : StageReply) (leg : List Numbered) (ms : List Mark) → IsOne (IsStaged plan.epoch reply) leg → Shape (after_stage dir plan reply) ms → Takes (marks leg ++ ms)
  stage_shape dir plan (stage.Turn taken) leg ms one is =
      (is.0, more leg ms Taken (one_of leg one.0 (acts.Stage plan.epoch (stages.Turn taken)) Taken one.1 one.2.0 one.2.1 refl) ∙ ap (λ (x : List Mark). Taken ∷ x) is.1)
  stage_shape dir plan stage.InRecovery leg ms one is = not_closed (Takes (marks leg ++ ms)) dir replies.InRecovery ms (λ e. cc e) is
  stage_shape dir plan (stage.Busy lane) leg ms one is = not_closed (Takes (marks leg ++ ms)) dir (replies.Busy lane) ms (λ e. cc e) is
  stage_shape dir plan stage.NotCommitted leg ms one is = not_closed (Takes (marks leg ++ ms)) dir replies.NotCommitted ms (λ e. cc e) is
  stage_shape dir plan (stage.Older have) leg ms one is = not_closed (Takes (marks leg ++ ms)) dir (replies.Epoch have plan.epoch) ms (λ e. cc e) is
  stage_shape dir plan (stage.Broken number) leg ms one is = not_closed (Takes (marks leg ++ ms)) dir (replies.Broken number) ms (λ e. cc e) is
  stage_shape dir plan stage.NoMemory leg ms one is = not_closed (Takes (marks leg ++ ms)) dir replies.NoMemory ms (λ e. cc e) is

  retain_shape : (dir : Dir) (plan : Plan) (roots : List Root) (reply : RetainReply) (leg : List Numbered) (ms : List Mark) → IsOne (IsRetained roots (length roots) reply) leg → Shape (after_retain dir plan reply) ms
      → Shape (Retaining dir plan) (marks leg ++ ms)
  retain_shape dir plan roots retain.Done leg ms one is =
      (is.0, more leg ms Retained (one_of leg one.0 (acts.Retain roots retains.Done one.2.0) Retained one.1 one.2.1.0 one.2.1.1 refl) ∙ ap (λ (x : List Mark). Retained ∷ x) is.1)
  retain_shape dir plan roots retain.SlotInUse leg ms one is = not_left (Shape (Retaining dir plan) (marks leg ++ ms)) dir replies.SlotInUse ms (λ e. cc e) is
  retain_shape dir plan roots retain.DiskRead leg ms one is = not_left (Shape (Retaining dir plan) (marks leg ++ ms)) dir replies.DiskRead ms (λ e. cc e) is
  retain_shape dir plan roots (retain.Rotten root got) leg ms one is = not_left (Shape (Retaining dir plan) (marks leg ++ ms)) dir (replies.Rotten root got) ms (λ e. cc e) is
  retain_shape dir plan roots (retain.Broken number) leg ms one is = not_left (Shape (Retaining dir plan) (marks leg ++ ms)) dir (replies.Broken number) ms (λ e. cc e) is
  retain_shape dir plan roots retain.NoMemory leg ms one is = not_left (Shape (Retaining dir plan) (marks leg ++ ms)) dir replies.NoMemory ms (λ e. cc e) is

  never_copied : (kind : ImageKind) (reply : CopyReply) → copy_refusal kind reply ≡ replies.Staged slot → ⊥
  never_copied kind copy.BadDir is = cc is
  never_copied kind copy.NoFile is = cc is
  never_copied kind (copy.TooLarge len room) is = cc is
  never_copied kind copy.DiskRead is = cc is
  never_copied kind (copy.More have) is = cc is
  never_copied kind (copy.Whole len) is = cc is
  never_copied kind (copy.Broken number) is = cc is
  never_copied kind copy.NoMemory is = cc is

  copies_shape : (dir : Dir) (plan : Plan) (task : Task) (from : Dir) (later : List Task) (file : Option (List ℕ)) (leg : List Numbered) (next : Point) (ms : List Mark) → Copies dir plan task from later file leg next → Shape next ms
      → Fills (marks leg ++ ms)
  copies_shape dir plan task from later None leg next ms passes shape =
      not_left (Fills (marks leg ++ ms)) dir (replies.NoFile task.kind) ms (λ e. cc e) (subst (λ (p : Point). Shape p ms) passes.1 shape)
  copies_shape dir plan task from later (Some file) leg next ms copies shape = elim copies [
    | inl passes ↦ let fills : Fills ms = subst (λ (p : Point). Shape p ms) passes.1 shape in (fills.0, passed leg ms passes.0 ∙ fills.1)
    | inr rest ↦ elim rest [
      | inl called ↦ not_left (Fills (marks leg ++ ms)) dir (copy_refusal task.kind called.reply) ms (never_copied task.kind called.reply) (subst (λ (p : Point). Shape p ms) called.leads shape)
      | inr cut ↦ not_left (Fills (marks leg ++ ms)) dir replies.NoMemory ms (λ e. cc e) (subst (λ (p : Point). Shape p ms) cut.1 shape)
    ]
  ]

  seal_shape : (dir : Dir) (sys : Sys) (reply : SealReply) (leg : List Numbered) (ms : List Mark) → IsOne (IsSealed sys reply) leg → Shape (after_seal dir sys reply) ms → Fills (marks leg ++ ms)
  seal_shape dir sys seal.Sealed leg ms one is =
      (0, more leg ms SealedSlot (one_of leg one.0 (acts.Seal sys None) SealedSlot one.1 one.2.0 one.2.1 refl) ∙ ap (λ (x : List Mark). SealedSlot ∷ x) is)
  seal_shape dir sys (seal.Differs image got) leg ms one is = not_left (Fills (marks leg ++ ms)) dir (replies.Differs image got) ms (λ e. cc e) is
  seal_shape dir sys (seal.Broken number) leg ms one is = not_left (Fills (marks leg ++ ms)) dir (replies.Broken number) ms (λ e. cc e) is
  seal_shape dir sys seal.NoMemory leg ms one is = not_left (Fills (marks leg ++ ms)) dir replies.NoMemory ms (λ e. cc e) is

  same_slot : (a : Slot) → replies.Staged a ≡ replies.Staged slot → a ≡ slot
  same_slot a is = cc is

  activate_shape : (dir : Dir) (sys : Sys) (reply : ActivateReply) (leg : List Numbered) (ms : List Mark) → IsOne (IsActivated reply) leg → Shape (left dir (activation_reply reply)) ms → Shape (Activating dir sys) (marks leg ++ ms)
  activate_shape dir sys (activate.Active active) leg ms one is =
      more leg ms (Activated active) (one_of leg one.0 (acts.Activate (activations.Active active) one.2.0) (Activated active) one.1 one.2.1.0 one.2.1.1 refl) ∙ ap (λ (x : List Mark). Activated active ∷ x) is.1 ∙
      ap (λ (x : List Mark). Activated active ∷ Left ∷ x) is.2.0 ∙ ap (λ (s : Slot). Activated s ∷ Left ∷ []) (same_slot active is.2.1)
  activate_shape dir sys (activate.BaseMissing root) leg ms one is = not_left (Shape (Activating dir sys) (marks leg ++ ms)) dir (replies.BaseMissing root) ms (λ e. cc e) is
  activate_shape dir sys (activate.NotASystem why) leg ms one is = not_left (Shape (Activating dir sys) (marks leg ++ ms)) dir (replies.NotASystem why) ms (λ e. cc e) is
  activate_shape dir sys activate.DiskRead leg ms one is = not_left (Shape (Activating dir sys) (marks leg ++ ms)) dir replies.DiskRead ms (λ e. cc e) is
  activate_shape dir sys (activate.Rotten root got) leg ms one is = not_left (Shape (Activating dir sys) (marks leg ++ ms)) dir (replies.Rotten root got) ms (λ e. cc e) is
  activate_shape dir sys (activate.Broken number) leg ms one is = not_left (Shape (Activating dir sys) (marks leg ++ ms)) dir (replies.Broken number) ms (λ e. cc e) is
  activate_shape dir sys activate.NoMemory leg ms one is = not_left (Shape (Activating dir sys) (marks leg ++ ms)) dir replies.NoMemory ms (λ e. cc e) is

  -- ---- any leg

  at_next : (p q : Point) (ms : List Mark) → q ≡ p → Shape q ms → Shape p ms
  at_next p q ms same shape = subst (λ (x : Point). Shape x ms) same shape

  step : (p : Point) (leg : List Numbered) (next : Point) (ms : List Mark) → Follows p leg next → Shape next ms → Shape p (marks leg ++ ms)
  step (Asking path pin) leg next ms follows shape =
      let r = by_resolve (λ dir. Reading dir NothingRead) Ended path pin leg next ms follows shape (λ reply is. is.1) in (r.1.0, more leg ms Asked r.2 ∙ ap (λ (x : List Mark). Asked ∷ x) r.1.1)
  step (Reading dir prior) leg next ms follows shape = elim follows [
    | inl called ↦
        let takes = read_shape dir prior called.reply ms (at_next (after_read dir prior called.reply) next ms called.leads shape) in
        (takes.0, same leg ms (read_none dir (name_of (next_file prior)) called.reply leg called.event) ∙ takes.1)
    | inr cut ↦ not_closed (Takes (marks leg ++ ms)) dir replies.NoMemory ms (λ e. cc e) (at_next (closed dir replies.NoMemory) next ms cut.1 shape)
  ]
  step (Rejecting dir file why) leg next ms follows shape = elim follows [
    | inl called ↦ reject_shape (Takes (marks leg ++ ms)) dir file why called.reply ms (at_next (after_reject dir file why called.reply) next ms called.leads shape)
    | inr cut ↦ not_closed (Takes (marks leg ++ ms)) dir replies.NoMemory ms (λ e. cc e) (at_next (closed dir replies.NoMemory) next ms cut.1 shape)
  ]
  step (Staging dir plan) leg next ms follows shape = elim follows [
    | inl called ↦ stage_shape dir plan called.reply leg ms called.event (at_next (after_stage dir plan called.reply) next ms called.leads shape)
    | inr cut ↦ not_closed (Takes (marks leg ++ ms)) dir replies.NoMemory ms (λ e. cc e) (at_next (closed dir replies.NoMemory) next ms cut.1 shape)
  ]
  step (Retaining dir plan) leg next ms follows shape = elim follows [
    | inl called ↦ retain_shape dir plan (roots_of plan.packages) called.reply leg ms called.event (at_next (after_retain dir plan called.reply) next ms called.leads shape)
    | inr cut ↦ not_left (Shape (Retaining dir plan) (marks leg ++ ms)) dir replies.NoMemory ms (λ e. cc e) (at_next (left dir replies.NoMemory) next ms cut.1 shape)
  ]
  step (Fetching dir plan []) leg next ms follows shape =
      let fills : Fills ms = subst (λ (x : Point). Shape x ms) follows.1 shape in (fills.0, passed leg ms follows.0 ∙ fills.1)
  step (Fetching dir plan (pinned ∷ later)) leg next ms follows shape = elim follows [
    | inl resolves ↦
        let r = by_resolve (λ from. Closing from (Fetching dir plan later)) (left dir) pinned.path (Some pinned.root) leg next ms resolves shape (λ reply is. is.2.1) in one_more leg ms r.2 r.1
    | inr cut ↦ not_left (Fills (marks leg ++ ms)) dir replies.NoMemory ms (λ e. cc e) (at_next (left dir replies.NoMemory) next ms cut.1 shape)
  ]
  step (Filling dir plan []) leg next ms follows shape = elim follows [
    | inl called ↦ seal_shape dir (sys_of plan) called.reply leg ms called.event (at_next (after_seal dir (sys_of plan) called.reply) next ms called.leads shape)
    | inr cut ↦ not_left (Fills (marks leg ++ ms)) dir replies.NoMemory ms (λ e. cc e) (at_next (left dir replies.NoMemory) next ms cut.1 shape)
  ]
  step (Filling dir plan (task ∷ later)) leg next ms follows shape =
      let r = by_resolve (λ from. Copying dir plan task from later) (left dir) task.image.url.path task.image.url.pin leg next ms follows shape (λ reply is. is.2.1) in one_more leg ms r.2 r.1
  step (Copying dir plan task from later) leg next ms follows shape = copies_shape dir plan task from later task.image.url.file leg next ms follows shape
  step (Activating dir sys) leg next ms follows shape = elim follows [
    | inl called ↦ activate_shape dir sys called.reply leg ms called.event (at_next (left dir (activation_reply called.reply)) next ms called.leads shape)
    | inr cut ↦ not_left (Shape (Activating dir sys) (marks leg ++ ms)) dir replies.NoMemory ms (λ e. cc e) (at_next (left dir replies.NoMemory) next ms cut.1 shape)
  ]
  step (Closing dir after) leg next ms follows shape =
      let one = follows.0 in
      subst (Shape after) (sym (same leg ms (none_of leg one.0 (acts.Close dir.number true) one.1 one.2.0 refl))) (at_next after next ms follows.1 shape)
  step (Leaving after) leg next ms follows shape =
      let one = follows.0 in (ms, more leg ms Left (one_of leg one.0 acts.LeftStage Left one.1 one.2.0 one.2.1 refl), at_next after next ms follows.1 shape)
  step (Ended reply) leg next ms follows shape = absurd follows

  -- ---- all legs

  shape_of : (legs : List (List Numbered)) (p : Point) → Leads p legs (Ended (replies.Staged slot)) → Shape p (marks (joined legs))
  shape_of [] p leads = subst (λ (x : Point). Shape x []) (sym leads) (refl, refl)
  shape_of (leg ∷ legs) p leads =
      subst (Shape p) (sym (marks_then leg (joined legs))) (step p leg leads.0 (marks (joined legs)) leads.1 (shape_of legs leads.0 leads.2))

  pub in_order : (path : NameAndVariant) (pin : Option Root) (run : List Numbered) → Serves path pin run (replies.Staged slot) → IsInOrder slot run
  in_order path pin run serves =
      let shape = shape_of serves.legs (Asking path pin) serves.leads in record { count = shape.0; order = ap marks serves.whole ∙ shape.1 }
