-- What each call of an update at its desk comes to, by its reply.
use Rattle.std.proofs.Common.{inl, inr, ◌≡◌, ℕ, ◌+◌, ◌++◌, true, List, [], ◌∷◌, length, Option, Some, None, refl, sym, ap, subst, ◌∙◌}
use Rattle.std.specs.Prelude.{◌↔◌}
use Rattle.image_layout.specs.declared.ImageKind.{ImageKind}
use Rattle.image_layout.specs.declared.Sys.{Sys}
use Rattle.system_lists.specs.declared.fault.ManifestFile.{ManifestFile}
use Rattle.system_lists.specs.declared.fault.ManifestFault.{ManifestFault}
use Rattle.store_model.specs.declared.events.Event.{Event}
use Rattle.store_model.specs.declared.events.Act.TheVariants as acts
use Rattle.store_model.specs.declared.events.CallName.TheVariants as calls
use Rattle.store_model.specs.declared.ends.StageEnd.TheVariants as stages
use Rattle.store_model.specs.declared.ends.CopyEnd.TheVariants as copies
use Rattle.store_model.specs.declared.ends.ActivateEnd.TheVariants as activations
use Rattle.store_model.specs.declared.replies.Dir.{Dir}
use Rattle.store_model.specs.declared.replies.ReadReply.{ReadReply}
use Rattle.store_model.specs.declared.replies.ReadReply.TheVariants as read
use Rattle.store_model.specs.declared.replies.RejectReply.{RejectReply}
use Rattle.store_model.specs.declared.replies.RejectReply.TheVariants as reject
use Rattle.store_model.specs.declared.replies.StageReply.{StageReply}
use Rattle.store_model.specs.declared.replies.StageReply.TheVariants as stage
use Rattle.store_model.specs.declared.replies.RetainReply.{RetainReply}
use Rattle.store_model.specs.declared.replies.RetainReply.TheVariants as retain
use Rattle.store_model.specs.declared.replies.CopyReply.{CopyReply}
use Rattle.store_model.specs.declared.replies.CopyReply.TheVariants as copy
use Rattle.store_model.specs.declared.replies.SealReply.{SealReply}
use Rattle.store_model.specs.declared.replies.SealReply.TheVariants as seal
use Rattle.store_model.specs.declared.replies.ActivateReply.{ActivateReply}
use Rattle.store_model.specs.declared.replies.ActivateReply.TheVariants as activate
use Rattle.store_model.specs.declared.replies.CloseReply.{CloseReply}
use Rattle.store_model.specs.declared.replies.CloseReply.TheVariants as close
use Rattle.store_model.specs.History.{Numbered}
use Rattle.store_model.specs.Holding.{Held}
use Rattle.store_model.specs.Desk as desk
use Rattle.store_model.specs.Desk.{View, Rests, held_by}
use Rattle.store_model.specs.Replies.{IsRead, IsRejected, IsStaged, IsRetained, IsCopied, IsSealed, IsActivated, HasLeftStage, IsClosed}
use Rattle.store_model.specs.State.Phase.{Filling as Fills, Sealed, Done}
use Rattle.store_model.specs.Calls as call
use Rattle.store_model.proofs.CallsHeld.{staged, sealed, activated, left_stage, closed as closed_dir}
use Rattle.store_model.proofs.Calls.{held_by-Rests}
use Rattle.store_model.proofs.CallsRest.{held_after_read, held_after_reject, held_after_retain, held_after_copy}
use Rattle.system_updater.specs.declared.reply.UpdateReply.{UpdateReply}
use Rattle.system_updater.specs.declared.reply.UpdateReply.TheVariants as replies
use Rattle.system_updater.specs.declared.plan.Plan.{Plan}
use Rattle.system_updater.specs.Plan.{name_of, roots_of, sys_of, Task}
use Rattle.system_updater.specs.Serving.{Point, Prior, next_file, IsOne, Follows, closed, left, image_left, Copies, CanCome, after_read, after_reject, after_stage, after_retain, copy_refusal, after_seal, activation_reply}
use Rattle.system_updater.specs.Serving.Point.{Reading, Rejecting, Staging, Retaining, Filling, Copying, Activating, Closing, Leaving}
use Rattle.system_updater.specs.Holding.{IsOpen, IsHeldAt, HoldsAt}
use Rattle.system_updater.specs.Holding as holding
use Rattle.system_updater.specs.Viewing.{Told}
use Rattle.system_updater.specs.Steps.{Goes, IsRefusal}
use Rattle.system_updater.proofs.Goes.{IsPlainEvent, plain_by, read_plain, retain_plain, does_event, does_rest, goes_leg}
use Rattle.system_updater.proofs.Closes.{none_staged, unstaged, closed_less, never_bad, never_short}
use Rattle.system_updater.proofs.Alive.{read_never_bad, copy_never_bad, never_in_use, never_in_recovery}
use Rattle.system_updater.proofs.Places.{open_closed, staged_left, restaged, same_held, judged_open}

module _ (old new : View) (repo : Told) (F G : Type 0) where
  -- one event
  pub event_leads : (a b : Point) (IsIts : ℕ → Event → Type 0) (does : desk.Does old new IsIts) → ((leg : List Numbered) → IsOne IsIts leg → Follows a leg b) → IsPlainEvent does.event
      → (held_by new).claim ≡ (held_by old).claim → F ↔ G → ((base : Held) → IsHeldAt old.lane a base (held_by old) → IsHeldAt old.lane b base (held_by new)) → Goes a b old new repo repo F G
  event_leads a b IsIts does follows plain claim firm places =
      let e : Numbered = record { number = length (old.seen ++ does.others) + 1; event = does.event } in
      goes_leg a b (e ∷ []) old new repo repo F G (follows (e ∷ []) (e, refl, does.its)) (does_event old new repo F G IsIts does plain.act plain.is plain.plain claim firm) places

  -- one event, that leaves what is held
  pub event_goes : (a b : Point) (IsIts : ℕ → Event → Type 0) (does : desk.Does old new IsIts) → ((leg : List Numbered) → IsOne IsIts leg → Follows a leg b) → IsPlainEvent does.event
      → held_by new ≡ held_by old → F ↔ G → ((base : Held) → IsHeldAt old.lane a base (held_by old) → IsHeldAt old.lane b base (held_by old)) → Goes a b old new repo repo F G
  event_goes a b IsIts does follows plain held firm places =
      event_leads a b IsIts does follows plain (ap (λ (h : Held). h.claim) held) firm (λ base is. same_held old.lane a b base (held_by old) (held_by new) held (places base) is)

  -- none
  pub rest_goes : (a b : Point) → Rests old new → Follows a [] b → F ↔ G → ((base : Held) → IsHeldAt old.lane a base (held_by old) → IsHeldAt old.lane b base (held_by old)) → Goes a b old new repo repo F G
  rest_goes a b rests follows firm places =
      let held = held_by-Rests old new rests in
      goes_leg a b [] old new repo repo F G follows (does_rest old new repo F G rests (ap (λ (h : Held). h.claim) held) firm)
      (λ base is. same_held old.lane a b base (held_by old) (held_by new) held (places base) is)

-- ---- a manifest is read

read_open : (lane : ℕ) (dir : Dir) (prior : Prior) (reply : ReadReply) (base now : Held) → (reply ≡ read.BadDir → ⊥) → IsOpen lane dir base now → IsHeldAt lane (after_read dir prior reply) base now
read_open lane dir prior (read.Got bytes) base now isnt is = judged_open lane dir prior (Some bytes) base now is
read_open lane dir prior read.NoFile base now isnt is = judged_open lane dir prior None base now is
read_open lane dir prior (read.TooLong len) base now isnt is = is
read_open lane dir prior read.BadDir base now isnt is = absurd (isnt refl)
read_open lane dir prior read.DiskRead base now isnt is = open_closed lane dir replies.DiskRead base now tt is
read_open lane dir prior (read.Rotten root got) base now isnt is = open_closed lane dir (replies.Rotten root got) base now tt is
read_open lane dir prior (read.Broken number) base now isnt is = open_closed lane dir (replies.Broken number) base now tt is
read_open lane dir prior read.NoMemory base now isnt is = open_closed lane dir replies.NoMemory base now tt is

module _ (dir : Dir) (prior : Prior) (old new : View) (repo : Told) (F G : Type 0) where
  -- the directory is open
  not_bad : (reply : ReadReply) → desk.Does old new (IsRead dir.number (name_of (next_file prior)) reply) → (base : Held) → IsOpen old.lane dir base (held_by old) → reply ≡ read.BadDir → ⊥
  not_bad reply does base is same = read_never_bad ⊥ dir (name_of (next_file prior)) base old new (subst (λ (r : ReadReply). desk.Does old new (IsRead dir.number (name_of (next_file prior)) r)) same does) is

  read_event : (reply : ReadReply) → desk.Does old new (IsRead dir.number (name_of (next_file prior)) reply) → held_by new ≡ held_by old → F ↔ G
      → Goes (Reading dir prior) (after_read dir prior reply) old new repo repo F G
  read_event reply does held firm =
      event_goes old new repo F G (Reading dir prior) (after_read dir prior reply) (IsRead dir.number (name_of (next_file prior)) reply) does
      (λ leg is. inl (record { reply = reply; event = is; leads = refl })) (read_plain dir.number (name_of (next_file prior)) reply (length (old.seen ++ does.others) + 1) does.event does.its) held firm
      (λ base is. read_open old.lane dir prior reply base (held_by old) (not_bad reply does base is) is)

  pub read_goes : (reply : ReadReply) → call.Reads dir.number (name_of (next_file prior)) reply old new → F ↔ G → Goes (Reading dir prior) (after_read dir prior reply) old new repo repo F G
  read_goes (read.Got bytes) is firm = read_event (read.Got bytes) is (held_after_read dir.number (name_of (next_file prior)) (read.Got bytes) old new is) firm
  read_goes read.BadDir is firm = read_event read.BadDir is (held_after_read dir.number (name_of (next_file prior)) read.BadDir old new is) firm
  read_goes read.NoFile is firm = read_event read.NoFile is (held_after_read dir.number (name_of (next_file prior)) read.NoFile old new is) firm
  read_goes (read.TooLong len) is firm = read_event (read.TooLong len) is (held_after_read dir.number (name_of (next_file prior)) (read.TooLong len) old new is) firm
  read_goes read.DiskRead is firm = read_event read.DiskRead is (held_after_read dir.number (name_of (next_file prior)) read.DiskRead old new is) firm
  read_goes (read.Rotten root got) is firm = read_event (read.Rotten root got) is (held_after_read dir.number (name_of (next_file prior)) (read.Rotten root got) old new is) firm
  read_goes (read.Broken number) is firm = read_event (read.Broken number) is (held_after_read dir.number (name_of (next_file prior)) (read.Broken number) old new is) firm
  read_goes read.NoMemory is firm =
      rest_goes old new repo F G (Reading dir prior) (closed dir replies.NoMemory) is (inr (refl, refl)) firm (λ base is. open_closed old.lane dir replies.NoMemory base (held_by old) tt is)

-- ---- a manifest is rejected

reject_plain : (file : ManifestFile) (why : ManifestFault) (reply : RejectReply) (number : ℕ) (e : Event) → IsRejected file why reply number e → IsPlainEvent e
reject_plain file why reject.Noted number e is = plain_by (acts.Reject file why) e is.0 refl refl (λ all. tt) (λ all. tt)
reject_plain file why (reject.Broken broken) number e is = plain_by (acts.Refused (calls.Reject file) broken) e is.0 refl refl (λ all. tt) (λ all. tt)
reject_plain file why reject.NoMemory number e is = absurd is

reject_open : (lane : ℕ) (dir : Dir) (file : ManifestFile) (why : ManifestFault) (reply : RejectReply) (base now : Held) → IsOpen lane dir base now → IsHeldAt lane (after_reject dir file why reply) base now
reject_open lane dir file why reject.Noted base now is = open_closed lane dir (replies.Manifest file why) base now tt is
reject_open lane dir file why (reject.Broken number) base now is = open_closed lane dir (replies.Broken number) base now tt is
reject_open lane dir file why reject.NoMemory base now is = open_closed lane dir replies.NoMemory base now tt is

module _ (dir : Dir) (file : ManifestFile) (why : ManifestFault) (old new : View) (repo : Told) (F G : Type 0) where
  reject_event : (reply : RejectReply) → desk.Does old new (IsRejected file why reply) → held_by new ≡ held_by old → F ↔ G → Goes (Rejecting dir file why) (after_reject dir file why reply) old new repo repo F G
  reject_event reply does held firm =
      event_goes old new repo F G (Rejecting dir file why) (after_reject dir file why reply) (IsRejected file why reply) does (λ leg is. inl (record { reply = reply; event = is; leads = refl }))
      (reject_plain file why reply (length (old.seen ++ does.others) + 1) does.event does.its) held firm (λ base is. reject_open old.lane dir file why reply base (held_by old) is)

  pub reject_goes : (reply : RejectReply) → call.Rejects file why reply old new → F ↔ G → Goes (Rejecting dir file why) (after_reject dir file why reply) old new repo repo F G
  reject_goes reject.Noted is firm = reject_event reject.Noted is (held_after_reject file why reject.Noted old new is) firm
  reject_goes (reject.Broken number) is firm = reject_event (reject.Broken number) is (held_after_reject file why (reject.Broken number) old new is) firm
  reject_goes reject.NoMemory is firm =
      rest_goes old new repo F G (Rejecting dir file why) (closed dir replies.NoMemory) is (inr (refl, refl)) firm (λ base is. open_closed old.lane dir replies.NoMemory base (held_by old) tt is)

-- ---- a slot is taken

stage_plain : (epoch : ℕ) (reply : StageReply) (number : ℕ) (e : Event) → IsStaged epoch reply number e → IsPlainEvent e
stage_plain epoch (stage.Turn slot) number e is = plain_by (acts.Stage epoch (stages.Turn slot)) e is.0 refl refl (λ all. tt) (λ all. tt)
stage_plain epoch stage.InRecovery number e is = plain_by (acts.Stage epoch stages.InRecovery) e is.0 refl refl (λ all. tt) (λ all. tt)
stage_plain epoch (stage.Busy lane) number e is = plain_by (acts.Stage epoch (stages.Busy lane)) e is.0 refl refl (λ all. tt) (λ all. tt)
stage_plain epoch stage.NotCommitted number e is = plain_by (acts.Stage epoch stages.NotCommitted) e is.0 refl refl (λ all. tt) (λ all. tt)
stage_plain epoch (stage.Older have) number e is = plain_by (acts.Stage epoch (stages.Older have)) e is.0 refl refl (λ all. tt) (λ all. tt)
stage_plain epoch (stage.Broken broken) number e is = elim is [ inl refused ↦ plain_by (acts.Refused (calls.Stage epoch) broken) e refused.0 refl refl (λ all. tt) (λ all. tt) | inr failed ↦ plain_by (acts.Stage epoch (stages.Turn failed.0)) e failed.1.1 refl refl (λ all. tt) (λ all. tt) ]
stage_plain epoch stage.NoMemory number e is = absurd is

module _ (dir : Dir) (plan : Plan) (old new : View) (repo : Told) (F G : Type 0) where
  stage_event : (reply : StageReply) → desk.Does old new (IsStaged plan.epoch reply) → (held_by new).claim ≡ (held_by old).claim → F ↔ G
      → ((base : Held) → IsOpen old.lane dir base (held_by old) → IsHeldAt old.lane (after_stage dir plan reply) base (held_by new))
      → Goes (Staging dir plan) (after_stage dir plan reply) old new repo repo F G
  stage_event reply does claim firm places =
      event_leads old new repo F G (Staging dir plan) (after_stage dir plan reply) (IsStaged plan.epoch reply) does (λ leg is. inl (record { reply = reply; event = is; leads = refl }))
      (stage_plain plan.epoch reply (length (old.seen ++ does.others) + 1) does.event does.its) claim firm places

  stage_refused : (reply : StageReply) (ended : UpdateReply) → desk.Does old new (IsStaged plan.epoch reply) → held_by new ≡ held_by old → F ↔ G → CanCome ended → after_stage dir plan reply ≡ closed dir ended
      → Goes (Staging dir plan) (after_stage dir plan reply) old new repo repo F G
  stage_refused reply ended does held firm comes same =
      stage_event reply does (ap (λ (h : Held). h.claim) held) firm
      (λ base is. subst (λ (p : Point). IsHeldAt old.lane p base (held_by new)) (sym same) (subst (λ (h : Held). IsHeldAt old.lane (closed dir ended) base h) (sym held) (open_closed old.lane dir ended base (held_by old) comes is)))

  pub stage_goes : (reply : StageReply) → call.Stages plan.epoch reply old new → F ↔ G → Goes (Staging dir plan) (after_stage dir plan reply) old new repo repo F G
  stage_goes (stage.Turn slot) is firm =
      let held = staged plan.epoch (stage.Turn slot) old new is in
      stage_event (stage.Turn slot) is (ap (λ (h : Held). h.claim) held) firm
      (λ base opened. (held_by old, opened, record { none = none_staged plan.epoch slot old new is; is = held }))
  stage_goes stage.InRecovery is firm =
      stage_event stage.InRecovery is (ap (λ (h : Held). h.claim) (staged plan.epoch stage.InRecovery old new is)) firm
      (λ base opened. never_in_recovery (IsHeldAt old.lane (closed dir replies.InRecovery) base (held_by new)) plan.epoch dir base old new is opened)
  stage_goes (stage.Busy lane) is firm = stage_refused (stage.Busy lane) (replies.Busy lane) is (staged plan.epoch (stage.Busy lane) old new is) firm tt refl
  stage_goes stage.NotCommitted is firm = stage_refused stage.NotCommitted replies.NotCommitted is (staged plan.epoch stage.NotCommitted old new is) firm tt refl
  stage_goes (stage.Older have) is firm = stage_refused (stage.Older have) (replies.Epoch have plan.epoch) is (staged plan.epoch (stage.Older have) old new is) firm tt refl
  stage_goes (stage.Broken number) is firm = stage_refused (stage.Broken number) (replies.Broken number) is (staged plan.epoch (stage.Broken number) old new is) firm tt refl
  stage_goes stage.NoMemory is firm =
      rest_goes old new repo F G (Staging dir plan) (closed dir replies.NoMemory) is (inr (refl, refl)) firm (λ base is. open_closed old.lane dir replies.NoMemory base (held_by old) tt is)

-- ---- packages are retained

retain_staged : (lane : ℕ) (dir : Dir) (plan : Plan) (reply : RetainReply) (base now : Held) → (reply ≡ retain.SlotInUse → ⊥) → holding.IsStaged lane dir Fills base now → IsHeldAt lane (after_retain dir plan reply) base now
retain_staged lane dir plan retain.Done base now isnt is = is
retain_staged lane dir plan retain.SlotInUse base now isnt is = absurd (isnt refl)
retain_staged lane dir plan retain.DiskRead base now isnt is = staged_left lane dir Fills replies.DiskRead base now tt is
retain_staged lane dir plan (retain.Rotten root got) base now isnt is = staged_left lane dir Fills (replies.Rotten root got) base now tt is
retain_staged lane dir plan (retain.Broken number) base now isnt is = staged_left lane dir Fills (replies.Broken number) base now tt is
retain_staged lane dir plan retain.NoMemory base now isnt is = staged_left lane dir Fills replies.NoMemory base now tt is

module _ (dir : Dir) (plan : Plan) (old new : View) (repo : Told) (F G : Type 0) where
  -- the slot that was taken can't be booted
  not_in_use : (reply : RetainReply) → desk.Does old new (IsRetained (roots_of plan.packages) (length (roots_of plan.packages)) reply) → (base : Held) → holding.IsStaged old.lane dir Fills base (held_by old) → reply ≡ retain.SlotInUse → ⊥
  not_in_use reply does base is same =
      never_in_use ⊥ dir (roots_of plan.packages) (length (roots_of plan.packages)) base old new (subst (λ (r : RetainReply). desk.Does old new (IsRetained (roots_of plan.packages) (length (roots_of plan.packages)) r)) same does) is

  retain_event : (reply : RetainReply) → desk.Does old new (IsRetained (roots_of plan.packages) (length (roots_of plan.packages)) reply) → held_by new ≡ held_by old → F ↔ G
      → Goes (Retaining dir plan) (after_retain dir plan reply) old new repo repo F G
  retain_event reply does held firm =
      event_goes old new repo F G (Retaining dir plan) (after_retain dir plan reply) (IsRetained (roots_of plan.packages) (length (roots_of plan.packages)) reply) does (λ leg is. inl (record { reply = reply; event = is; leads = refl }))
      (retain_plain (roots_of plan.packages) (length (roots_of plan.packages)) reply (length (old.seen ++ does.others) + 1) does.event does.its) held firm (λ base is. retain_staged old.lane dir plan reply base (held_by old) (not_in_use reply does base is) is)

  pub retain_goes : (reply : RetainReply) → call.Retains (roots_of plan.packages) reply old new → F ↔ G → Goes (Retaining dir plan) (after_retain dir plan reply) old new repo repo F G
  retain_goes retain.Done is firm = retain_event retain.Done is (held_after_retain (roots_of plan.packages) retain.Done old new is) firm
  retain_goes retain.SlotInUse is firm = retain_event retain.SlotInUse is (held_after_retain (roots_of plan.packages) retain.SlotInUse old new is) firm
  retain_goes retain.DiskRead is firm = retain_event retain.DiskRead is (held_after_retain (roots_of plan.packages) retain.DiskRead old new is) firm
  retain_goes (retain.Rotten root got) is firm = retain_event (retain.Rotten root got) is (held_after_retain (roots_of plan.packages) (retain.Rotten root got) old new is) firm
  retain_goes (retain.Broken number) is firm = retain_event (retain.Broken number) is (held_after_retain (roots_of plan.packages) (retain.Broken number) old new is) firm
  retain_goes retain.NoMemory is firm =
      rest_goes old new repo F G (Retaining dir plan) (left dir replies.NoMemory) is (inr (refl, refl)) firm (λ base is. staged_left old.lane dir Fills replies.NoMemory base (held_by old) tt is)

-- ---- a file is copied

copy_plain : (kind : ImageKind) (dir : ℕ) (file : List ℕ) (reply : CopyReply) (number : ℕ) (e : Event) → IsCopied kind dir file reply number e → IsPlainEvent e
copy_plain kind dir file copy.BadDir number e is = plain_by (acts.Copy kind dir file (Some copies.BadDir)) e is.0 refl refl (λ all. tt) (λ all. tt)
copy_plain kind dir file copy.NoFile number e is = plain_by (acts.Copy kind dir file (Some copies.NoFile)) e is.0 refl refl (λ all. tt) (λ all. tt)
copy_plain kind dir file (copy.TooLarge len room) number e is = plain_by (acts.Copy kind dir file (Some (copies.TooLarge len room))) e is.0 refl refl (λ all. tt) (λ all. tt)
copy_plain kind dir file copy.DiskRead number e is = plain_by (acts.Copy kind dir file (Some copies.DiskRead)) e is.0 refl refl (λ all. tt) (λ all. tt)
copy_plain kind dir file (copy.More have) number e is = absurd is
copy_plain kind dir file (copy.Whole len) number e is = absurd is
copy_plain kind dir file (copy.Broken broken) number e is = elim is [ inl refused ↦ plain_by (acts.Refused (calls.Copy kind dir file) broken) e refused.0 refl refl (λ all. tt) (λ all. tt) | inr failed ↦ plain_by (acts.Copy kind dir file None) e failed.1 refl refl (λ all. tt) (λ all. tt) ]
copy_plain kind dir file copy.NoMemory number e is = absurd is

-- the file is there, or isn't
pub copy_follows : (dir : Dir) (plan : Plan) (task : Task) (from : Dir) (later : List Task) (file : List ℕ) (leg : List Numbered) (to : Point) → task.image.url.file ≡ Some file
    → Copies dir plan task from later (Some file) leg to → Follows (Copying dir plan task from later) leg to
copy_follows dir plan task from later file leg to is copied = subst (λ (o : Option (List ℕ)). Copies dir plan task from later o leg to) (sym is) copied

copy_comes : (kind : ImageKind) (reply : CopyReply) → (reply ≡ copy.BadDir → ⊥) → CanCome (copy_refusal kind reply)
copy_comes kind copy.BadDir isnt = absurd (isnt refl)
copy_comes kind copy.NoFile isnt = tt
copy_comes kind (copy.TooLarge len room) isnt = tt
copy_comes kind copy.DiskRead isnt = tt
copy_comes kind (copy.More have) isnt = tt
copy_comes kind (copy.Whole len) isnt = tt
copy_comes kind (copy.Broken number) isnt = tt
copy_comes kind copy.NoMemory isnt = tt

-- a copying that was refused
pub image_is_left : (lane : ℕ) (dir : Dir) (plan : Plan) (task : Task) (from : Dir) (later : List Task) (reply : UpdateReply) (base now : Held) → CanCome reply → IsHeldAt lane (Copying dir plan task from later) base now
    → IsHeldAt lane (image_left dir from reply) base now
image_is_left lane dir plan task from later reply base now comes is = (is.0, staged_left lane dir Fills reply base is.0 comes is.1, is.2)

module _ (dir : Dir) (plan : Plan) (task : Task) (from : Dir) (later : List Task) (file : List ℕ) (old new : View) (repo : Told) (F G : Type 0) where
  -- the image's directory is open
  not_lost : (reply : CopyReply) → desk.Does old new (IsCopied task.kind from.number file reply) → (base : Held) → IsHeldAt old.lane (Copying dir plan task from later) base (held_by old) → reply ≡ copy.BadDir → ⊥
  not_lost reply does base is same = copy_never_bad ⊥ task.kind from file is.0 old new (subst (λ (r : CopyReply). desk.Does old new (IsCopied task.kind from.number file r)) same does) is.2

  copy_event : (reply : CopyReply) → task.image.url.file ≡ Some file → desk.Does old new (IsCopied task.kind from.number file reply) → held_by new ≡ held_by old → F ↔ G
      → Goes (Copying dir plan task from later) (image_left dir from (copy_refusal task.kind reply)) old new repo repo F G
  copy_event reply named does held firm =
      event_goes old new repo F G (Copying dir plan task from later) (image_left dir from (copy_refusal task.kind reply)) (IsCopied task.kind from.number file reply) does
      (λ leg is. copy_follows dir plan task from later file leg (image_left dir from (copy_refusal task.kind reply)) named (inr (inl (record { reply = reply; event = is; leads = refl }))))
      (copy_plain task.kind from.number file reply (length (old.seen ++ does.others) + 1) does.event does.its) held firm
      (λ base is. image_is_left old.lane dir plan task from later (copy_refusal task.kind reply) base (held_by old) (copy_comes task.kind reply (not_lost reply does base is)) is)

  -- a part more makes no event
  pub copy_more : Rests old new → F ↔ G → Goes (Copying dir plan task from later) (Copying dir plan task from later) old new repo repo F G
  copy_more rests firm =
      let held = held_by-Rests old new rests in record {
        legs = [];
        leads = refl;
        does = does_rest old new repo F G rests (ap (λ (h : Held). h.claim) held) firm;
        held = λ base is. same_held old.lane (Copying dir plan task from later) (Copying dir plan task from later) base (held_by old) (held_by new) held (λ h. h) is;
      }

  pub copy_whole : task.image.url.file ≡ Some file → Rests old new → F ↔ G → Goes (Copying dir plan task from later) (Closing from (Filling dir plan later)) old new repo repo F G
  copy_whole named rests firm =
      rest_goes old new repo F G (Copying dir plan task from later) (Closing from (Filling dir plan later)) rests (copy_follows dir plan task from later file [] (Closing from (Filling dir plan later)) named (inl (refl, refl))) firm (λ base is. is)

  pub copy_refused : (reply : CopyReply) → task.image.url.file ≡ Some file → IsRefusal reply → call.Copies task.kind from.number file reply old new → F ↔ G
      → Goes (Copying dir plan task from later) (image_left dir from (copy_refusal task.kind reply)) old new repo repo F G
  copy_refused copy.BadDir named refusal is firm = copy_event copy.BadDir named is (held_after_copy task.kind from.number file copy.BadDir old new is) firm
  copy_refused copy.NoFile named refusal is firm = copy_event copy.NoFile named is (held_after_copy task.kind from.number file copy.NoFile old new is) firm
  copy_refused (copy.TooLarge len room) named refusal is firm = copy_event (copy.TooLarge len room) named is (held_after_copy task.kind from.number file (copy.TooLarge len room) old new is) firm
  copy_refused copy.DiskRead named refusal is firm = copy_event copy.DiskRead named is (held_after_copy task.kind from.number file copy.DiskRead old new is) firm
  copy_refused (copy.Broken number) named refusal is firm = copy_event (copy.Broken number) named is (held_after_copy task.kind from.number file (copy.Broken number) old new is) firm
  copy_refused (copy.More have) named refusal is firm = absurd refusal
  copy_refused (copy.Whole len) named refusal is firm = absurd refusal
  copy_refused copy.NoMemory named refusal is firm =
      rest_goes old new repo F G (Copying dir plan task from later) (image_left dir from replies.NoMemory) is (copy_follows dir plan task from later file [] (image_left dir from replies.NoMemory) named (inr (inr (refl, refl)))) firm
      (λ base is. image_is_left old.lane dir plan task from later replies.NoMemory base (held_by old) tt is)

-- ---- the slot is sealed

seal_plain : (sys : Sys) (reply : SealReply) (number : ℕ) (e : Event) → IsSealed sys reply number e → IsPlainEvent e
seal_plain sys seal.Sealed number e is = plain_by (acts.Seal sys None) e is.0 refl refl (λ all. tt) (λ all. tt)
seal_plain sys (seal.Differs image got) number e is = plain_by (acts.Seal sys (Some (record { image = image; got = got }))) e is.0 refl refl (λ all. tt) (λ all. tt)
seal_plain sys (seal.Broken broken) number e is = elim is [ inl refused ↦ plain_by (acts.Refused calls.Seal broken) e refused.0 refl refl (λ all. tt) (λ all. tt) | inr failed ↦ plain_by (acts.Seal sys None) e failed.1 refl refl (λ all. tt) (λ all. tt) ]
seal_plain sys seal.NoMemory number e is = absurd is

module _ (dir : Dir) (plan : Plan) (old new : View) (repo : Told) (F G : Type 0) where
  seal_event : (reply : SealReply) → desk.Does old new (IsSealed (sys_of plan) reply) → (held_by new).claim ≡ (held_by old).claim → F ↔ G
      → ((base : Held) → holding.IsStaged old.lane dir Fills base (held_by old) → IsHeldAt old.lane (after_seal dir (sys_of plan) reply) base (held_by new))
      → Goes (Filling dir plan []) (after_seal dir (sys_of plan) reply) old new repo repo F G
  seal_event reply does claim firm places =
      event_leads old new repo F G (Filling dir plan []) (after_seal dir (sys_of plan) reply) (IsSealed (sys_of plan) reply) does (λ leg is. inl (record { reply = reply; event = is; leads = refl }))
      (seal_plain (sys_of plan) reply (length (old.seen ++ does.others) + 1) does.event does.its) claim firm places

  seal_refused : (reply : SealReply) (ended : UpdateReply) → desk.Does old new (IsSealed (sys_of plan) reply) → held_by new ≡ held_by old → F ↔ G → CanCome ended → after_seal dir (sys_of plan) reply ≡ left dir ended
      → Goes (Filling dir plan []) (after_seal dir (sys_of plan) reply) old new repo repo F G
  seal_refused reply ended does held firm comes same =
      seal_event reply does (ap (λ (h : Held). h.claim) held) firm
      (λ base is. subst (λ (p : Point). IsHeldAt old.lane p base (held_by new)) (sym same) (subst (λ (h : Held). IsHeldAt old.lane (left dir ended) base h) (sym held) (staged_left old.lane dir Fills ended base (held_by old) comes is)))

  pub seal_goes : (reply : SealReply) → call.Seals (sys_of plan) reply old new → F ↔ G → Goes (Filling dir plan []) (after_seal dir (sys_of plan) reply) old new repo repo F G
  seal_goes seal.Sealed is firm =
      let held = sealed (sys_of plan) seal.Sealed old new is in
      seal_event seal.Sealed is (ap (λ (h : Held). h.claim) held) firm (λ base is. restaged old.lane dir Fills (Sealed (sys_of plan)) base (held_by old) (held_by new) is held)
  seal_goes (seal.Differs image got) is firm = seal_refused (seal.Differs image got) (replies.Differs image got) is (sealed (sys_of plan) (seal.Differs image got) old new is) firm tt refl
  seal_goes (seal.Broken number) is firm = seal_refused (seal.Broken number) (replies.Broken number) is (sealed (sys_of plan) (seal.Broken number) old new is) firm tt refl
  seal_goes seal.NoMemory is firm =
      rest_goes old new repo F G (Filling dir plan []) (left dir replies.NoMemory) is (inr (refl, refl)) firm (λ base is. staged_left old.lane dir Fills replies.NoMemory base (held_by old) tt is)

-- ---- the system is made to boot next

activate_plain : (reply : ActivateReply) (number : ℕ) (e : Event) → IsActivated reply number e → IsPlainEvent e
activate_plain (activate.Active slot) number e is = plain_by (acts.Activate (activations.Active slot) is.0) e is.1.0 refl refl (λ all. tt) (λ all. tt)
activate_plain (activate.BaseMissing root) number e is = plain_by (acts.Activate (activations.BaseMissing root) is.0) e is.1.0 refl refl (λ all. tt) (λ all. tt)
activate_plain (activate.NotASystem why) number e is = plain_by (acts.Activate (activations.NotASystem why) is.0) e is.1.0 refl refl (λ all. tt) (λ all. tt)
activate_plain activate.DiskRead number e is = plain_by (acts.Activate activations.DiskRead is.0) e is.1.0 refl refl (λ all. tt) (λ all. tt)
activate_plain (activate.Rotten root got) number e is = plain_by (acts.Activate (activations.Rotten root got) is.0) e is.1.0 refl refl (λ all. tt) (λ all. tt)
activate_plain (activate.Broken broken) number e is = elim is [ inl refused ↦ plain_by (acts.Refused calls.Activate broken) e refused.0 refl refl (λ all. tt) (λ all. tt) | inr failed ↦ plain_by (acts.Activate (activations.Active failed.0) failed.1) e failed.2.1 refl refl (λ all. tt) (λ all. tt) ]
activate_plain activate.NoMemory number e is = absurd is

module _ (dir : Dir) (sys : Sys) (old new : View) (repo : Told) (F G : Type 0) where
  activate_event : (reply : ActivateReply) → desk.Does old new (IsActivated reply) → (held_by new).claim ≡ (held_by old).claim → F ↔ G
      → ((base : Held) → holding.IsStaged old.lane dir (Sealed sys) base (held_by old) → IsHeldAt old.lane (left dir (activation_reply reply)) base (held_by new))
      → Goes (Activating dir sys) (left dir (activation_reply reply)) old new repo repo F G
  activate_event reply does claim firm places =
      event_leads old new repo F G (Activating dir sys) (left dir (activation_reply reply)) (IsActivated reply) does (λ leg is. inl (record { reply = reply; event = is; leads = refl }))
      (activate_plain reply (length (old.seen ++ does.others) + 1) does.event does.its) claim firm places

  activate_refused : (reply : ActivateReply) → CanCome (activation_reply reply) → desk.Does old new (IsActivated reply) → held_by new ≡ held_by old → F ↔ G → Goes (Activating dir sys) (left dir (activation_reply reply)) old new repo repo F G
  activate_refused reply comes does held firm =
      activate_event reply does (ap (λ (h : Held). h.claim) held) firm
      (λ base is. subst (λ (h : Held). IsHeldAt old.lane (left dir (activation_reply reply)) base h) (sym held) (staged_left old.lane dir (Sealed sys) (activation_reply reply) base (held_by old) comes is))

  pub activate_goes : (reply : ActivateReply) → call.Activates reply old new → F ↔ G → Goes (Activating dir sys) (left dir (activation_reply reply)) old new repo repo F G
  activate_goes (activate.Active slot) is firm =
      let held = activated (activate.Active slot) old new is in
      activate_event (activate.Active slot) is (ap (λ (h : Held). h.claim) held) firm
      (λ base is. staged_left old.lane dir Done (replies.Staged slot) base (held_by new) tt (restaged old.lane dir (Sealed sys) Done base (held_by old) (held_by new) is held))
  activate_goes (activate.BaseMissing root) is firm = activate_refused (activate.BaseMissing root) tt is (activated (activate.BaseMissing root) old new is) firm
  activate_goes (activate.NotASystem why) is firm = activate_refused (activate.NotASystem why) tt is (activated (activate.NotASystem why) old new is) firm
  activate_goes activate.DiskRead is firm = activate_refused activate.DiskRead tt is (activated activate.DiskRead old new is) firm
  activate_goes (activate.Rotten root got) is firm = activate_refused (activate.Rotten root got) tt is (activated (activate.Rotten root got) old new is) firm
  activate_goes (activate.Broken number) is firm = activate_refused (activate.Broken number) tt is (activated (activate.Broken number) old new is) firm
  activate_goes activate.NoMemory is firm =
      rest_goes old new repo F G (Activating dir sys) (left dir replies.NoMemory) is (inr (refl, refl)) firm (λ base is. staged_left old.lane dir (Sealed sys) replies.NoMemory base (held_by old) tt is)

-- ---- the stage is left

module _ (next : Point) (old new : View) (repo : Told) (F G : Type 0) where
  pub leave_goes : desk.Does old new HasLeftStage → F ↔ G → Goes (Leaving next) next old new repo repo F G
  leave_goes does firm =
      let held = left_stage old new does in
      event_leads old new repo F G (Leaving next) next HasLeftStage does (λ leg is. (is, refl)) (plain_by acts.LeftStage does.event does.its.0 refl refl (λ all. tt) (λ all. tt)) (ap (λ (h : Held). h.claim) held) firm
      (λ base is. subst (λ (h : Held). IsHeldAt old.lane next base h) (sym (held ∙ unstaged is.0 (held_by old) is.2.0 is.2.1)) is.1)

-- ---- a directory is closed

module _ (dir : Dir) (next : Point) (old new : View) (repo : Told) (F G : Type 0) where
  pub close_goes : (reply : CloseReply) → call.Closes dir.number reply old new → F ↔ G → HoldsAt (Closing dir next) old → Goes (Closing dir next) next old new repo repo F G
  close_goes close.Closed does firm at =
      let held = closed_dir dir.number close.Closed old new does in
      event_leads old new repo F G (Closing dir next) next (IsClosed dir.number close.Closed) does (λ leg is. (is, refl)) (plain_by (acts.Close dir.number true) does.event does.its.0 refl refl (λ all. tt) (λ all. tt)) (ap (λ (h : Held). h.claim) held) firm
      (λ base is. subst (λ (h : Held). IsHeldAt old.lane next base h) (sym (closed_less dir is.0 old new does is.2 held)) is.1)
  close_goes close.BadDir does firm at = never_bad (Goes (Closing dir next) next old new repo repo F G) dir at.is.0 old new does at.is.2
  close_goes close.NoMemory is firm at = never_short (Goes (Closing dir next) next old new repo repo F G) dir at.is.0 old new is.0 is.1 at.is.2
