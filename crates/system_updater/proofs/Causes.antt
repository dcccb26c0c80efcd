-- Each reply follows on its cause.
use Rattle.std.proofs.Common.{inl, inr, ◌≡◌, ℕ, true, List, [], ◌∷◌, ◌++◌, length, Option, Some, None, Result, Ok, Err, refl, sym, ap, subst, ◌∙◌, append_assoc}
use Rattle.std.specs.Prelude.{◌⊎◌, is_some}
use Rattle.std.proofs.lemmas.List.{append-nil}
use Rattle.image_layout.specs.declared.ImageKind.{ImageKind}
use Rattle.image_layout.specs.declared.Sys.{Sys}
use Rattle.pkg_names.specs.NameAndVariant.{NameAndVariant}
use Rattle.pkg_names.specs.declared.pinned.Pinned.{Pinned}
use Rattle.pkg_names.specs.declared.root.Root.{Root}
use Rattle.system_lists.specs.declared.fault.ManifestFile.{ManifestFile}
use Rattle.system_lists.specs.declared.fault.ManifestFile.TheVariants as files
use Rattle.system_lists.specs.declared.fault.ManifestFault.{ManifestFault}
use Rattle.system_lists.specs.declared.fault.ManifestFault.TheVariants as faults
use Rattle.update_manifest.specs.declared.image.Images.{Images}
use Rattle.update_manifest.specs.Epoch.{epoch_in}
use Rattle.update_manifest.specs.Packages.{packages_in}
use Rattle.update_manifest.specs.Images.{images_in}
use Rattle.store_model.specs.declared.ends.ReadEnd.TheVariants as reads
use Rattle.store_model.specs.declared.events.Act.TheVariants as acts
use Rattle.store_model.specs.declared.events.CallName.{CallName}
use Rattle.store_model.specs.declared.events.CallName.TheVariants as calls
use Rattle.store_model.specs.declared.events.Event.{Event}
use Rattle.store_model.specs.declared.replies.Dir.{Dir}
use Rattle.store_model.specs.declared.replies.ReadReply.{ReadReply}
use Rattle.store_model.specs.declared.replies.ReadReply.TheVariants as read
use Rattle.store_model.specs.declared.replies.RejectReply.{RejectReply}
use Rattle.store_model.specs.declared.replies.RejectReply.TheVariants as reject
use Rattle.store_model.specs.declared.replies.StageReply.{StageReply}
use Rattle.store_model.specs.declared.replies.StageReply.TheVariants as stage
use Rattle.store_model.specs.declared.replies.RetainReply.{RetainReply}
use Rattle.store_model.specs.declared.replies.RetainReply.TheVariants as retain
use Rattle.store_model.specs.declared.replies.CopyReply.{CopyReply}
use Rattle.store_model.specs.declared.replies.CopyReply.TheVariants as copy
use Rattle.store_model.specs.declared.replies.SealReply.{SealReply}
use Rattle.store_model.specs.declared.replies.SealReply.TheVariants as seal
use Rattle.store_model.specs.declared.replies.ActivateReply.{ActivateReply}
use Rattle.store_model.specs.declared.replies.ActivateReply.TheVariants as activate
use Rattle.store_model.specs.History.{Numbered}
use Rattle.store_model.specs.Replies.{Acts, Refuses, IsRead, IsRejected, IsStaged, IsRetained, IsCopied, IsSealed, IsActivated}
use Rattle.resolver.specs.declared.reply.ResolveReply.{ResolveReply}
use Rattle.resolver.specs.declared.reply.ResolveReply.TheVariants as resolved
use Rattle.resolver.specs.Serving as resolve
use Rattle.system_updater.specs.declared.plan.Plan.{Plan}
use Rattle.system_updater.specs.declared.reply.UpdateReply.{UpdateReply}
use Rattle.system_updater.specs.declared.reply.UpdateReply.TheVariants as replies
use Rattle.system_updater.specs.Plan.{name_of, roots_of, sys_of, Task, tasks_of}
use Rattle.system_updater.specs.Serving.{Point, Prior, next_file, closed, left, image_left, after_resolve, with_epoch, with_packages, with_images, judged, after_read, after_reject, after_stage, after_retain, copy_refusal, after_seal, activation_reply, IsOne, Copies, Follows, Leads, joined, Serves}
use Rattle.system_updater.specs.Serving.Prior.{NothingRead, EpochRead, PackagesRead}
use Rattle.system_updater.specs.Serving.Point.{Asking, Reading, Rejecting, Staging, Retaining, Fetching, Filling, Copying, Activating, Closing, Leaving, Ended}
use Rattle.system_updater.specs.Causes.{IsBadRead, IsBroken, IsCause, HasCause}
use Rattle.system_updater.proofs.Named.{HasFile, AreNamed}

-- the reply of a point from which only ends come
abbrev end_of : Point → Option UpdateReply
end_of (Closing dir next) = end_of next
end_of (Leaving next) = end_of next
end_of (Ended reply) = Some reply
end_of point = None

none_some : (A : Type 0) (reply : UpdateReply) → ◌≡◌ {A = Option UpdateReply} None (Some reply) → A
none_some A reply is = absurd (cc is)

-- that reply is the run's
ends_as : (legs : List (List Numbered)) (p : Point) (told reply : UpdateReply) → end_of p ≡ Some told → Leads p legs (Ended reply) → told ≡ reply
ends_as [] p told reply ends leads = let same : Some told ≡ Some reply = sym ends ∙ ap end_of leads in cc same
ends_as (leg ∷ legs) (Asking path pin) told reply ends leads = none_some _ told ends
ends_as (leg ∷ legs) (Reading dir prior) told reply ends leads = none_some _ told ends
ends_as (leg ∷ legs) (Rejecting dir file why) told reply ends leads = none_some _ told ends
ends_as (leg ∷ legs) (Staging dir plan) told reply ends leads = none_some _ told ends
ends_as (leg ∷ legs) (Retaining dir plan) told reply ends leads = none_some _ told ends
ends_as (leg ∷ legs) (Fetching dir plan later) told reply ends leads = none_some _ told ends
ends_as (leg ∷ legs) (Filling dir plan later) told reply ends leads = none_some _ told ends
ends_as (leg ∷ legs) (Copying dir plan task from later) told reply ends leads = none_some _ told ends
ends_as (leg ∷ legs) (Activating dir sys) told reply ends leads = none_some _ told ends
ends_as (leg ∷ legs) (Closing dir next) told reply ends leads = ends_as legs leads.0 told reply (ap end_of leads.1.1 ∙ ends) leads.2
ends_as (leg ∷ legs) (Leaving next) told reply ends leads = ends_as legs leads.0 told reply (ap end_of leads.1.1 ∙ ends) leads.2
ends_as (leg ∷ legs) (Ended told_) told reply ends leads = absurd leads.1

-- ---- parts

cause_here : (reply : UpdateReply) (part later : List Numbered) → IsCause reply part → HasCause reply (part ++ later)
cause_here reply part later is = record { before = []; part = part; later = later; whole = refl; cause = is }

cause_behind : (reply : UpdateReply) (front run : List Numbered) → HasCause reply run → HasCause reply (front ++ run)
cause_behind reply front run has = record {
  before = front ++ has.before;
  part = has.part;
  later = has.later;
  whole = ap (λ (es : List Numbered). front ++ es) has.whole ∙ sym (append_assoc front (has.before ++ has.part) has.later) ∙ ap (λ (es : List Numbered). es ++ has.later) (sym (append_assoc front has.before has.part));
  cause = has.cause;
}

-- ---- what a leg comes to

-- whatever is read as images names files
abbrev Names : Type 0
Names = (bytes : List ℕ) (images : Images) → images_in bytes ≡ Ok images → AreNamed (tasks_of images)

-- A point that no manifest is to be rejected at, nor behind it. The images that are still to be filled name files.
abbrev IsPlain : Point → Type 0
IsPlain (Rejecting dir file why) = ⊥
IsPlain (Staging dir plan) = AreNamed (tasks_of plan.images)
IsPlain (Retaining dir plan) = AreNamed (tasks_of plan.images)
IsPlain (Fetching dir plan later) = AreNamed (tasks_of plan.images)
IsPlain (Filling dir plan later) = AreNamed later
IsPlain (Copying dir plan task from later) = HasFile task.image.url × AreNamed later
IsPlain (Closing dir next) = IsPlain next
IsPlain (Leaving next) = IsPlain next
IsPlain point = Unit {0}

-- what was read before a point; only of a manifest that is to be rejected it counts
abbrev IsReady : Point → List Numbered → Type 0
IsReady (Rejecting dir file why) read = IsBadRead file why read
IsReady point read = (read ≡ []) × IsPlain point

-- it goes on, with what was read
record GoesOn (x : List Numbered) (next : Point) : Type 0 where
  front : List Numbered
  read : List Numbered
  split : x ≡ front ++ read
  ready : IsReady next read
  open_ : end_of next ≡ None

-- or it ends, and this was its cause
record Stops (x : List Numbered) (next : Point) : Type 0 where
  reply : UpdateReply
  ends : end_of next ≡ Some reply
  cause : IsCause reply x

abbrev Comes : List Numbered → Point → Type 0
Comes x next = GoesOn x next ⊎ Stops x next

at_point : (x : List Numbered) (p q : Point) → q ≡ p → Comes x p → Comes x q
at_point x p q same comes = subst (Comes x) (sym same) comes

stops : (x : List Numbered) (next : Point) (reply : UpdateReply) → end_of next ≡ Some reply → IsCause reply x → Comes x next
stops x next reply ends cause = inr (record { reply = reply; ends = ends; cause = cause })

goes_on : (x : List Numbered) (next : Point) → IsReady next [] → end_of next ≡ None → Comes x next
goes_on x next ready open_ = inl (record { front = x; read = []; split = sym (append-nil x); ready = ready; open_ = open_ })

-- a write failed, before the call or in it
broken_by : (call : CallName) (broken number : ℕ) (e : Event) → Refuses call broken e ⊎ ((broken ≡ number) × (e.broke ≡ true)) → IsBroken broken number e
broken_by call broken number e is = elim is [ inl refused ↦ inl (call, refused) | inr failed ↦ inr failed ]

-- ---- manifests

module _ (names : Names) (x : List Numbered) (dir : Dir) where
  bad : (file : ManifestFile) (why : ManifestFault) → IsBadRead file why x → Comes x (Rejecting dir file why)
  bad file why is = inl (record { front = []; read = x; split = refl; ready = is; open_ = refl })

  found_comes : (prior : Prior) (bytes : List ℕ) → IsOne (λ number e. Acts (acts.Read dir.number (name_of (next_file prior)) (reads.Got bytes)) e) x → Comes x (judged dir prior (Some bytes))
  found_comes NothingRead bytes one = by_epoch (epoch_in bytes) refl where
    by_epoch : (found : Result ℕ ManifestFault) → epoch_in bytes ≡ found → Comes x (with_epoch dir found)
    by_epoch (Ok epoch) said = goes_on x (Reading dir (EpochRead epoch)) (refl, tt) refl
    by_epoch (Err why) said = bad files.Epoch why (record { dir = dir.number; reply = reads.Got bytes; is = one; bad = said })
  found_comes (EpochRead epoch) bytes one = by_packages (packages_in bytes) refl where
    by_packages : (found : Result (List Pinned) ManifestFault) → packages_in bytes ≡ found → Comes x (with_packages dir epoch found)
    by_packages (Ok packages) said = goes_on x (Reading dir (PackagesRead epoch packages)) (refl, tt) refl
    by_packages (Err why) said = bad files.Packages why (record { dir = dir.number; reply = reads.Got bytes; is = one; bad = said })
  found_comes (PackagesRead epoch packages) bytes one = by_images (images_in bytes) refl where
    by_images : (found : Result Images ManifestFault) → images_in bytes ≡ found → Comes x (with_images dir epoch packages found)
    by_images (Ok images) said = goes_on x (Staging dir (record { epoch = epoch; packages = packages; images = images })) (refl, names bytes images said) refl
    by_images (Err why) said = bad files.Images why (record { dir = dir.number; reply = reads.Got bytes; is = one; bad = said })

  missing_comes : (prior : Prior) → IsOne (λ number e. Acts (acts.Read dir.number (name_of (next_file prior)) reads.NoFile) e) x → Comes x (judged dir prior None)
  missing_comes NothingRead one = goes_on x (Reading dir (EpochRead 0)) (refl, tt) refl
  missing_comes (EpochRead epoch) one = bad files.Packages faults.Missing (record { dir = dir.number; reply = reads.NoFile; is = one; bad = refl })
  missing_comes (PackagesRead epoch packages) one = bad files.Images faults.Missing (record { dir = dir.number; reply = reads.NoFile; is = one; bad = refl })

  read_comes : (prior : Prior) (reply : ReadReply) → IsOne (IsRead dir.number (name_of (next_file prior)) reply) x → Comes x (after_read dir prior reply)
  read_comes prior (read.Got bytes) one = found_comes prior bytes one
  read_comes prior read.NoFile one = missing_comes prior one
  read_comes prior (read.TooLong len) one = bad (next_file prior) (faults.TooLong len) (record { dir = dir.number; reply = reads.TooLong len; is = one; bad = refl })
  read_comes prior read.BadDir one = stops x _ replies.BadDir refl (one.0, one.1, inl (dir.number, name_of (next_file prior), one.2))
  read_comes prior read.DiskRead one = stops x _ replies.DiskRead refl (one.0, one.1, inl (dir.number, name_of (next_file prior), one.2))
  read_comes prior (read.Rotten root got) one = stops x _ (replies.Rotten root got) refl (one.0, one.1, inl (dir.number, name_of (next_file prior), one.2))
  read_comes prior (read.Broken broken) one = stops x _ (replies.Broken broken) refl (one.0, one.1, inl (calls.Read dir.number (name_of (next_file prior)), one.2))
  read_comes prior read.NoMemory one = stops x _ replies.NoMemory refl tt

module _ (x : List Numbered) (dir : Dir) where
  stage_comes : (plan : Plan) (reply : StageReply) → AreNamed (tasks_of plan.images) → IsOne (IsStaged plan.epoch reply) x → Comes x (after_stage dir plan reply)
  stage_comes plan (stage.Turn slot) named one = goes_on x (Retaining dir plan) (refl, named) refl
  stage_comes plan stage.InRecovery named one = stops x _ replies.InRecovery refl (one.0, one.1, (plan.epoch, one.2))
  stage_comes plan (stage.Busy lane) named one = stops x _ (replies.Busy lane) refl (one.0, one.1, (plan.epoch, one.2))
  stage_comes plan stage.NotCommitted named one = stops x _ replies.NotCommitted refl (one.0, one.1, (plan.epoch, one.2))
  stage_comes plan (stage.Older have) named one = stops x _ (replies.Epoch have plan.epoch) refl (one.0, one.1, one.2)
  stage_comes plan (stage.Broken broken) named one = stops x _ (replies.Broken broken) refl (one.0, one.1, broken_by (calls.Stage plan.epoch) broken one.0.number one.0.event (elim one.2 as (λ _. Refuses (calls.Stage plan.epoch) broken one.0.event ⊎ ((broken ≡ one.0.number) × (one.0.event.broke ≡ true))) [ inl refused ↦ inl refused | inr failed ↦ inr (failed.1.0, failed.1.2) ]))
  stage_comes plan stage.NoMemory named one = stops x _ replies.NoMemory refl tt

  retain_comes : (plan : Plan) (roots : List Root) (reply : RetainReply) → AreNamed (tasks_of plan.images) → IsOne (IsRetained roots (length roots) reply) x → Comes x (after_retain dir plan reply)
  retain_comes plan roots retain.Done named one = goes_on x (Fetching dir plan plan.packages) (refl, named) refl
  retain_comes plan roots retain.SlotInUse named one = stops x _ replies.SlotInUse refl (one.0, one.1, (roots, one.2))
  retain_comes plan roots retain.DiskRead named one = stops x _ replies.DiskRead refl (one.0, one.1, inr (inl (roots, one.2)))
  retain_comes plan roots (retain.Rotten root got) named one = stops x _ (replies.Rotten root got) refl (one.0, one.1, inr (inl (roots, one.2)))
  retain_comes plan roots (retain.Broken broken) named one = stops x _ (replies.Broken broken) refl (one.0, one.1, inl (calls.Retain (length roots), one.2))
  retain_comes plan roots retain.NoMemory named one = stops x _ replies.NoMemory refl tt

  copy_comes : (kind : ImageKind) (from : Dir) (file : List ℕ) (reply : CopyReply) → IsOne (IsCopied kind from.number file reply) x → Comes x (image_left dir from (copy_refusal kind reply))
  copy_comes kind from file copy.BadDir one = stops x _ replies.BadDir refl (one.0, one.1, inr (kind, from.number, file, one.2))
  copy_comes kind from file copy.NoFile one = stops x _ (replies.NoFile kind) refl (one.0, one.1, (from.number, file, one.2))
  copy_comes kind from file (copy.TooLarge len room) one = stops x _ (replies.TooLarge kind len room) refl (one.0, one.1, (from.number, file, one.2))
  copy_comes kind from file copy.DiskRead one = stops x _ replies.DiskRead refl (one.0, one.1, inr (inr (inl (kind, from.number, file, one.2))))
  copy_comes kind from file (copy.More have) one = stops x _ replies.NoMemory refl tt
  copy_comes kind from file (copy.Whole len) one = stops x _ replies.NoMemory refl tt
  copy_comes kind from file (copy.Broken broken) one = stops x _ (replies.Broken broken) refl (one.0, one.1, broken_by (calls.Copy kind from.number file) broken one.0.number one.0.event (elim one.2 as (λ _. Refuses (calls.Copy kind from.number file) broken one.0.event ⊎ ((broken ≡ one.0.number) × (one.0.event.broke ≡ true))) [ inl refused ↦ inl refused | inr failed ↦ inr (failed.0, failed.2) ]))
  copy_comes kind from file copy.NoMemory one = stops x _ replies.NoMemory refl tt

  seal_comes : (sys : Sys) (reply : SealReply) → IsOne (IsSealed sys reply) x → Comes x (after_seal dir sys reply)
  seal_comes sys seal.Sealed one = goes_on x (Activating dir sys) (refl, tt) refl
  seal_comes sys (seal.Differs image got) one = stops x _ (replies.Differs image got) refl (one.0, one.1, (sys, one.2))
  seal_comes sys (seal.Broken broken) one = stops x _ (replies.Broken broken) refl (one.0, one.1, broken_by calls.Seal broken one.0.number one.0.event (elim one.2 as (λ _. Refuses calls.Seal broken one.0.event ⊎ ((broken ≡ one.0.number) × (one.0.event.broke ≡ true))) [ inl refused ↦ inl refused | inr failed ↦ inr (failed.0, failed.2) ]))
  seal_comes sys seal.NoMemory one = stops x _ replies.NoMemory refl tt

  activate_comes : (reply : ActivateReply) → IsOne (IsActivated reply) x → Comes x (left dir (activation_reply reply))
  activate_comes (activate.Active slot) one = stops x _ (replies.Staged slot) refl one
  activate_comes (activate.BaseMissing root) one = stops x _ (replies.BaseMissing root) refl one
  activate_comes (activate.NotASystem why) one = stops x _ (replies.NotASystem why) refl one
  activate_comes activate.DiskRead one = stops x _ replies.DiskRead refl (one.0, one.1, inr (inr (inr one.2)))
  activate_comes (activate.Rotten root got) one = stops x _ (replies.Rotten root got) refl (one.0, one.1, inr (inr one.2))
  activate_comes (activate.Broken broken) one = stops x _ (replies.Broken broken) refl (one.0, one.1, broken_by calls.Activate broken one.0.number one.0.event (elim one.2 as (λ _. Refuses calls.Activate broken one.0.event ⊎ ((broken ≡ one.0.number) × (one.0.event.broke ≡ true))) [ inl refused ↦ inl refused | inr failed ↦ inr (failed.2.0, failed.2.2) ]))
  activate_comes activate.NoMemory one = stops x _ replies.NoMemory refl tt

  -- it ends, and its cause is the leg, or the leg behind what was read before
  abbrev Behind : List Numbered → Point → Type 0
  Behind before next = (reply : UpdateReply) × (end_of next ≡ Some reply) × (IsCause reply (before ++ x) ⊎ IsCause reply x)

  -- a bad manifest is rejected behind its read
  reject_comes : (file : ManifestFile) (why : ManifestFault) (before : List Numbered) → IsBadRead file why before → (reply : RejectReply) → IsOne (IsRejected file why reply) x → Behind before (after_reject dir file why reply)
  reject_comes file why before is reject.Noted one = (replies.Manifest file why, refl, inl (record { read = before; bad = is; last = x; rejected = one; both = refl }))
  reject_comes file why before is (reject.Broken broken) one = (replies.Broken broken, refl, inr (one.0, one.1, inl (calls.Reject file, one.2)))
  reject_comes file why before is reject.NoMemory one = (replies.NoMemory, refl, inr tt)

-- a package is resolved
module _ (x : List Numbered) (path : NameAndVariant) (pin : Option Root) (opened : Dir → Point) (ended : UpdateReply → Point) (goes : (dir : Dir) → Comes x (opened dir)) (over : (reply : UpdateReply) → end_of (ended reply) ≡ Some reply) where
  resolve_comes : (reply : ResolveReply) → resolve.Serves path pin x reply → Comes x (after_resolve opened ended reply)
  resolve_comes (resolved.Resolved dir) serves = goes dir
  resolve_comes resolved.InRecovery serves = stops x (ended (replies.Resolve resolved.InRecovery)) (replies.Resolve resolved.InRecovery) (over (replies.Resolve resolved.InRecovery)) (path, pin, serves)
  resolve_comes resolved.NotFound serves = stops x (ended (replies.Resolve resolved.NotFound)) (replies.Resolve resolved.NotFound) (over (replies.Resolve resolved.NotFound)) (path, pin, serves)
  resolve_comes resolved.ListingFault serves = stops x (ended (replies.Resolve resolved.ListingFault)) (replies.Resolve resolved.ListingFault) (over (replies.Resolve resolved.ListingFault)) (path, pin, serves)
  resolve_comes (resolved.Failed cause) serves = stops x (ended (replies.Resolve (resolved.Failed cause))) (replies.Resolve (resolved.Failed cause)) (over (replies.Resolve (resolved.Failed cause))) (path, pin, serves)
  resolve_comes resolved.DiskRead serves = stops x (ended (replies.Resolve resolved.DiskRead)) (replies.Resolve resolved.DiskRead) (over (replies.Resolve resolved.DiskRead)) (path, pin, serves)
  resolve_comes (resolved.Rotten root got) serves = stops x (ended (replies.Resolve (resolved.Rotten root got))) (replies.Resolve (resolved.Rotten root got)) (over (replies.Resolve (resolved.Rotten root got))) (path, pin, serves)
  resolve_comes (resolved.Broken number) serves = stops x (ended (replies.Resolve (resolved.Broken number))) (replies.Resolve (resolved.Broken number)) (over (replies.Resolve (resolved.Broken number))) (path, pin, serves)
  resolve_comes resolved.NoMemory serves = stops x (ended replies.NoMemory) replies.NoMemory (over replies.NoMemory) tt

copies_come : (x : List Numbered) (dir : Dir) (plan : Plan) (task : Task) (from : Dir) (later : List Task) (file : Option (List ℕ)) (next : Point) → is_some file ≡ true → AreNamed later → Copies dir plan task from later file x next → Comes x next
copies_come x dir plan task from later None next named others passes = absurd (cc named)
copies_come x dir plan task from later (Some file) next named others copied = elim copied [
  | inl passes ↦ at_point x (Closing from (Filling dir plan later)) next passes.1 (goes_on x (Closing from (Filling dir plan later)) (refl, others) refl)
  | inr rest ↦ elim rest [
    | inl called ↦ at_point x (image_left dir from (copy_refusal task.kind called.reply)) next called.leads (copy_comes x dir task.kind from file called.reply called.event)
    | inr cut ↦ at_point x (image_left dir from replies.NoMemory) next cut.1 (stops x _ replies.NoMemory refl tt)
  ]
]

-- ---- any leg

cut_closed : (x : List Numbered) (dir : Dir) (next : Point) → next ≡ closed dir replies.NoMemory → Comes x next
cut_closed x dir next is = at_point x (closed dir replies.NoMemory) next is (stops x _ replies.NoMemory refl tt)

cut_left : (x : List Numbered) (dir : Dir) (next : Point) → next ≡ left dir replies.NoMemory → Comes x next
cut_left x dir next is = at_point x (left dir replies.NoMemory) next is (stops x _ replies.NoMemory refl tt)

ready_plain : (p : Point) → IsPlain p → IsReady p []
ready_plain (Asking path pin) plain = (refl, plain)
ready_plain (Reading dir prior) plain = (refl, plain)
ready_plain (Rejecting dir file why) plain = absurd plain
ready_plain (Staging dir plan) plain = (refl, plain)
ready_plain (Retaining dir plan) plain = (refl, plain)
ready_plain (Fetching dir plan later) plain = (refl, plain)
ready_plain (Filling dir plan later) plain = (refl, plain)
ready_plain (Copying dir plan task from later) plain = (refl, plain)
ready_plain (Activating dir sys) plain = (refl, plain)
ready_plain (Closing dir next) plain = (refl, plain)
ready_plain (Leaving next) plain = (refl, plain)
ready_plain (Ended reply) plain = (refl, plain)

on : (x : List Numbered) (after next : Point) → next ≡ after → IsPlain after → end_of after ≡ None → Comes x next
on x after next is plain open_ = at_point x after next is (goes_on x after (ready_plain after plain) open_)

step : Names → (p : Point) (x : List Numbered) (next : Point) → Follows p x next → end_of p ≡ None → IsPlain p → Comes x next
step names (Asking path pin) x next r open_ plain = at_point x (after_resolve (λ dir. Reading dir NothingRead) Ended r.reply) next r.leads (resolve_comes x path pin (λ dir. Reading dir NothingRead) Ended (λ dir. goes_on x (Reading dir NothingRead) (refl, tt) refl) (λ reply. refl) r.reply r.serves)
step names (Reading dir prior) x next follows open_ plain = elim follows [
  | inl called ↦ at_point x (after_read dir prior called.reply) next called.leads (read_comes names x dir prior called.reply called.event)
  | inr cut ↦ cut_closed x dir next cut.1
]
step names (Rejecting dir file why) x next follows open_ plain = absurd plain
step names (Staging dir plan) x next follows open_ plain = elim follows [
  | inl called ↦ at_point x (after_stage dir plan called.reply) next called.leads (stage_comes x dir plan called.reply plain called.event)
  | inr cut ↦ cut_closed x dir next cut.1
]
step names (Retaining dir plan) x next follows open_ plain = elim follows [
  | inl called ↦ at_point x (after_retain dir plan called.reply) next called.leads (retain_comes x dir plan (roots_of plan.packages) called.reply plain called.event)
  | inr cut ↦ cut_left x dir next cut.1
]
step names (Fetching dir plan []) x next follows open_ plain = at_point x (Filling dir plan (tasks_of plan.images)) next follows.1 (goes_on x (Filling dir plan (tasks_of plan.images)) (refl, plain) refl)
step names (Fetching dir plan (pinned ∷ later)) x next follows open_ plain = elim follows [
  | inl r ↦ at_point x (after_resolve (λ from. Closing from (Fetching dir plan later)) (left dir) r.reply) next r.leads
      (resolve_comes x pinned.path (Some pinned.root) (λ from. Closing from (Fetching dir plan later)) (left dir) (λ from. goes_on x (Closing from (Fetching dir plan later)) (refl, plain) refl) (λ reply. refl) r.reply r.serves)
  | inr cut ↦ cut_left x dir next cut.1
]
step names (Filling dir plan []) x next follows open_ plain = elim follows [
  | inl called ↦ at_point x (after_seal dir (sys_of plan) called.reply) next called.leads (seal_comes x dir (sys_of plan) called.reply called.event)
  | inr cut ↦ cut_left x dir next cut.1
]
step names (Filling dir plan (task ∷ later)) x next r open_ plain = at_point x (after_resolve (λ from. Copying dir plan task from later) (left dir) r.reply) next r.leads
    (resolve_comes x task.image.url.path task.image.url.pin (λ from. Copying dir plan task from later) (left dir) (λ from. goes_on x (Copying dir plan task from later) (refl, plain) refl) (λ reply. refl) r.reply r.serves)
step names (Copying dir plan task from later) x next follows open_ plain = copies_come x dir plan task from later task.image.url.file next plain.0 plain.1 follows
step names (Activating dir sys) x next follows open_ plain = elim follows [
  | inl called ↦ at_point x (left dir (activation_reply called.reply)) next called.leads (activate_comes x dir called.reply called.event)
  | inr cut ↦ cut_left x dir next cut.1
]
step names (Closing dir after) x next follows open_ plain = on x after next follows.1 plain open_
step names (Leaving after) x next follows open_ plain = on x after next follows.1 plain open_
step names (Ended reply) x next follows open_ plain = absurd follows

-- ---- all legs

record IsBad (p : Point) (read : List Numbered) : Type 0 where
  dir : Dir
  file : ManifestFile
  why : ManifestFault
  is : p ≡ Rejecting dir file why
  bad : IsBadRead file why read

split_ready : (p : Point) (read : List Numbered) → IsReady p read → (IsPlain p × (read ≡ [])) ⊎ IsBad p read
split_ready (Asking path pin) read ready = inl (ready.1, ready.0)
split_ready (Reading dir prior) read ready = inl (ready.1, ready.0)
split_ready (Rejecting dir file why) read ready = inr (record { dir = dir; file = file; why = why; is = refl; bad = ready })
split_ready (Staging dir plan) read ready = inl (ready.1, ready.0)
split_ready (Retaining dir plan) read ready = inl (ready.1, ready.0)
split_ready (Fetching dir plan later) read ready = inl (ready.1, ready.0)
split_ready (Filling dir plan later) read ready = inl (ready.1, ready.0)
split_ready (Copying dir plan task from later) read ready = inl (ready.1, ready.0)
split_ready (Activating dir sys) read ready = inl (ready.1, ready.0)
split_ready (Closing dir next) read ready = inl (ready.1, ready.0)
split_ready (Leaving next) read ready = inl (ready.1, ready.0)
split_ready (Ended reply) read ready = inl (ready.1, ready.0)

has_same : (told reply : UpdateReply) (xs ys : List Numbered) → told ≡ reply → xs ≡ ys → HasCause told xs → HasCause reply ys
has_same told reply xs ys same equal has = subst (λ (r : UpdateReply). HasCause r ys) same (subst (HasCause told) equal has)

-- a manifest is rejected, or memory is short
rejected : (before leg rest : List Numbered) (dir : Dir) (file : ManifestFile) (why : ManifestFault) (next : Point) (legs : List (List Numbered)) (reply : UpdateReply) → IsBadRead file why before → Follows (Rejecting dir file why) leg next
    → Leads next legs (Ended reply) → HasCause reply (before ++ (leg ++ rest))
rejected before leg rest dir file why next legs reply is follows leads = elim follows [
  | inl called ↦
      let b = reject_comes leg dir file why before is called.reply called.event in
      let same = ends_as legs next b.0 reply (ap end_of called.leads ∙ b.1) leads in
      elim b.2 [
        | inl both ↦ has_same b.0 reply ((before ++ leg) ++ rest) (before ++ (leg ++ rest)) same (append_assoc before leg rest) (cause_here b.0 (before ++ leg) rest both)
        | inr alone ↦ has_same b.0 reply (before ++ (leg ++ rest)) (before ++ (leg ++ rest)) same refl (cause_behind b.0 before (leg ++ rest) (cause_here b.0 leg rest alone))
      ]
  | inr cut ↦
      let same = ends_as legs next replies.NoMemory reply (ap end_of cut.1) leads in
      has_same replies.NoMemory reply (before ++ (leg ++ rest)) (before ++ (leg ++ rest)) same refl (cause_behind replies.NoMemory before (leg ++ rest) (cause_here replies.NoMemory leg rest tt))
]

told_from : Names → (legs : List (List Numbered)) (p : Point) (before : List Numbered) (reply : UpdateReply) → IsReady p before → end_of p ≡ None → Leads p legs (Ended reply) → HasCause reply (before ++ joined legs)
told_from names [] p before reply ready open_ leads = none_some _ reply (sym open_ ∙ ap end_of leads)
told_from names (leg ∷ legs) p before reply ready open_ leads = elim (split_ready p before ready) [
  | inl plain ↦ elim (step names p leg leads.0 leads.1 open_ plain.0) [
    | inl goes ↦
        let later = told_from names legs leads.0 goes.read reply goes.ready goes.open_ leads.2 in
        has_same reply reply (goes.front ++ (goes.read ++ joined legs)) (before ++ (leg ++ joined legs)) refl
        (sym (append_assoc goes.front goes.read (joined legs)) ∙ ap (λ (es : List Numbered). es ++ joined legs) (sym goes.split) ∙ ap (λ (es : List Numbered). es ++ (leg ++ joined legs)) (sym plain.1))
        (cause_behind reply goes.front (goes.read ++ joined legs) later)
    | inr over ↦
        has_same over.reply reply (leg ++ joined legs) (before ++ (leg ++ joined legs)) (ends_as legs leads.0 over.reply reply over.ends leads.2) (ap (λ (es : List Numbered). es ++ (leg ++ joined legs)) (sym plain.1))
        (cause_here over.reply leg (joined legs) over.cause)
  ]
  | inr bad ↦ rejected before leg (joined legs) bad.dir bad.file bad.why leads.0 legs reply bad.bad (subst (λ (q : Point). Follows q leg leads.0) bad.is leads.1) leads.2
]

pub has_cause : Names → (path : NameAndVariant) (pin : Option Root) (run : List Numbered) (reply : UpdateReply) → Serves path pin run reply → HasCause reply run
has_cause names path pin run reply serves = subst (HasCause reply) (sym serves.whole) (told_from names serves.legs (Asking path pin) [] reply (refl, tt) refl serves.leads)
