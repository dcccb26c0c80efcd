-- After each call, what was seen is the begin of what is seen.
use Rattle.std.proofs.Common.{ℕ, List, [], ◌∷◌, ◌++◌, length, refl, sym, ap, ◌∙◌}
use Rattle.std.proofs.lemmas.List.{append-nil, append_assoc}
use Rattle.image_layout.specs.declared.ImageKind.{ImageKind}
use Rattle.image_layout.specs.declared.Sys.{Sys}
use Rattle.pkg_names.specs.NameAndVariant.{NameAndVariant}
use Rattle.pkg_names.specs.declared.root.Root.{Root}
use Rattle.package_indexes.specs.declared.Choice.{Choice}
use Rattle.system_lists.specs.declared.fault.ManifestFile.{ManifestFile}
use Rattle.system_lists.specs.declared.fault.ManifestFault.{ManifestFault}
use Rattle.store_model.specs.declared.events.Event.{Event}
use Rattle.store_model.specs.declared.replies.Claim.{Claim}
use Rattle.store_model.specs.declared.replies.Ticket.{Ticket}
use Rattle.store_model.specs.declared.replies.BeginReply.{BeginReply}
use Rattle.store_model.specs.declared.replies.BeginReply.TheVariants as begin
use Rattle.store_model.specs.declared.replies.WantReply.{WantReply}
use Rattle.store_model.specs.declared.replies.WantReply.TheVariants as want
use Rattle.store_model.specs.declared.replies.RoomReply.{RoomReply}
use Rattle.store_model.specs.declared.replies.RoomReply.TheVariants as room
use Rattle.store_model.specs.declared.replies.PutReply.{PutReply}
use Rattle.store_model.specs.declared.replies.PutReply.TheVariants as put
use Rattle.store_model.specs.declared.replies.LandReply.{LandReply}
use Rattle.store_model.specs.declared.replies.LandReply.TheVariants as land
use Rattle.store_model.specs.declared.replies.OpenReply.{OpenReply}
use Rattle.store_model.specs.declared.replies.OpenReply.TheVariants as opening
use Rattle.store_model.specs.declared.replies.ReadReply.{ReadReply}
use Rattle.store_model.specs.declared.replies.ReadReply.TheVariants as read
use Rattle.store_model.specs.declared.replies.CheckReply.{CheckReply}
use Rattle.store_model.specs.declared.replies.CheckReply.TheVariants as check
use Rattle.store_model.specs.declared.replies.CloseReply.{CloseReply}
use Rattle.store_model.specs.declared.replies.CloseReply.TheVariants as close
use Rattle.store_model.specs.declared.replies.CollectReply.{CollectReply}
use Rattle.store_model.specs.declared.replies.CollectReply.TheVariants as collect
use Rattle.store_model.specs.declared.replies.RetainReply.{RetainReply}
use Rattle.store_model.specs.declared.replies.RetainReply.TheVariants as retain
use Rattle.store_model.specs.declared.replies.StageReply.{StageReply}
use Rattle.store_model.specs.declared.replies.StageReply.TheVariants as stage
use Rattle.store_model.specs.declared.replies.CopyReply.{CopyReply}
use Rattle.store_model.specs.declared.replies.CopyReply.TheVariants as copy
use Rattle.store_model.specs.declared.replies.SealReply.{SealReply}
use Rattle.store_model.specs.declared.replies.SealReply.TheVariants as seal
use Rattle.store_model.specs.declared.replies.ActivateReply.{ActivateReply}
use Rattle.store_model.specs.declared.replies.ActivateReply.TheVariants as activate
use Rattle.store_model.specs.declared.replies.CommitReply.{CommitReply}
use Rattle.store_model.specs.declared.replies.CommitReply.TheVariants as commit
use Rattle.store_model.specs.declared.replies.RejectReply.{RejectReply}
use Rattle.store_model.specs.declared.replies.RejectReply.TheVariants as reject
use Rattle.store_model.specs.Desk.{View, Kept, Does, Rests}
use Rattle.store_model.specs.Replies.{IsBegun, IsWanted, IsRoom, IsPut, IsLanded, IsOpened, IsRead, IsChecked, IsClosed, IsCollected, IsRetained, IsStaged, IsCopied, IsSealed, IsActivated, IsCommitted, IsRejected}
use Rattle.store_model.specs.Calls.{room_by, IsLandedWith, Begins, Wants, MakesRoom, Puts, Lands, Opens, Reads, Checks, Closes, Collects, Retains, Stages, Copies, Seals, Activates, Commits, Rejects}
use Rattle.lane_steps.specs.Hands.{Grows}

pub grows_does : (old new : View) (IsIts : ℕ → Event → Type 0) → Does old new IsIts → Grows old new
grows_does old new IsIts does = record {
  stays = does.stays;
  more = does.others ++ does.event ∷ [];
  seen = does.seen ∙ append_assoc old.seen does.others (does.event ∷ []);
}

grows_rests : (old new : View) → Rests old new → Grows old new
grows_rests old new rests = record { stays = rests.stays; more = rests.others; seen = rests.seen }

-- no call was made
pub grows_not : (v : View) → Grows v v
grows_not v = record { stays = record { lane = refl; tie = refl; origin = refl }; more = []; seen = sym (append-nil v.seen) }

-- a call after a call
pub grows_twice : (old mid new : View) → Grows old mid → Grows mid new → Grows old new
grows_twice old mid new first second = record {
  stays = record {
    lane = second.stays.lane ∙ first.stays.lane;
    tie = second.stays.tie ∙ first.stays.tie;
    origin = second.stays.origin ∙ first.stays.origin;
  };
  more = first.more ++ second.more;
  seen = second.seen ∙ ap (λ (seen : List Event). seen ++ second.more) first.seen ∙ append_assoc old.seen first.more second.more;
}

pub grows_begun : (path : NameAndVariant) (choice : Choice) (reply : BeginReply) (old new : View) → Begins path choice reply old new → Grows old new
grows_begun path choice begin.NoMemory old new is = grows_rests old new is
grows_begun path choice reply old new is = grows_does old new (IsBegun path choice reply) is

pub grows_wanted : (ticket : Ticket) (reply : WantReply) (old new : View) → Wants ticket reply old new → Grows old new
grows_wanted ticket (want.NotYet back bell) old new is = grows_rests old new is.0
grows_wanted ticket (want.NoMemory back) old new is = grows_rests old new is.0
grows_wanted ticket (want.Fetch back claim) old new is = grows_does old new (IsWanted ticket.number (want.Fetch back claim)) is.0
grows_wanted ticket reply old new is = grows_does old new (IsWanted ticket.number reply) is

pub grows_roomed : (claim : Claim) (len : ℕ) (reply : RoomReply) (old new : View) → MakesRoom claim len reply old new → Grows old new
grows_roomed claim len (room.Made back) old new is = grows_does old new (IsRoom claim.root len (room.Made back)) is.0
grows_roomed claim len (room.NoMemory back) old new is = grows_rests old new is.0
grows_roomed claim len reply old new is = grows_does old new (IsRoom claim.root len reply) is

pub grows_put : (claim : Claim) (reply : PutReply) (old new : View) → Puts claim reply old new → Grows old new
grows_put claim (put.Taken back) old new is = grows_rests old new is.0
grows_put claim reply old new is = grows_does old new (IsPut claim.root reply) is

pub grows_landed : (claim : Claim) (kept : Kept) (reply : LandReply) (old new : View) → Lands claim kept reply old new → Grows old new
grows_landed claim kept land.Landed old new is = grows_does old new (IsLandedWith claim.root (room_by old) kept) is
grows_landed claim kept (land.NoMemory back) old new is = grows_rests old new is.0
grows_landed claim kept reply old new is = grows_does old new (IsLanded claim.root (room_by old) reply) is

pub grows_opened : (path : NameAndVariant) (reply : OpenReply) (old new : View) → Opens path reply old new → Grows old new
grows_opened path opening.NoMemory old new is = grows_rests old new is
grows_opened path reply old new is = grows_does old new (IsOpened path reply) is

pub grows_read : (dir : ℕ) (file : List ℕ) (reply : ReadReply) (old new : View) → Reads dir file reply old new → Grows old new
grows_read dir file read.NoMemory old new is = grows_rests old new is
grows_read dir file reply old new is = grows_does old new (IsRead dir file reply) is

pub grows_checked : (dir : ℕ) (file : List ℕ) (reply : CheckReply) (old new : View) → Checks dir file reply old new → Grows old new
grows_checked dir file check.NoMemory old new is = grows_rests old new is
grows_checked dir file reply old new is = grows_does old new (IsChecked dir file reply) is

pub grows_closed : (dir : ℕ) (reply : CloseReply) (old new : View) → Closes dir reply old new → Grows old new
grows_closed dir close.NoMemory old new is = grows_rests old new is.0
grows_closed dir reply old new is = grows_does old new (IsClosed dir reply) is

pub grows_collected : (reply : CollectReply) (old new : View) → Collects reply old new → Grows old new
grows_collected collect.NoMemory old new is = grows_rests old new is
grows_collected reply old new is = grows_does old new (IsCollected reply) is

pub grows_retained : (roots : List Root) (reply : RetainReply) (old new : View) → Retains roots reply old new → Grows old new
grows_retained roots retain.NoMemory old new is = grows_rests old new is
grows_retained roots reply old new is = grows_does old new (IsRetained roots (length roots) reply) is

pub grows_staged : (epoch : ℕ) (reply : StageReply) (old new : View) → Stages epoch reply old new → Grows old new
grows_staged epoch stage.NoMemory old new is = grows_rests old new is
grows_staged epoch reply old new is = grows_does old new (IsStaged epoch reply) is

pub grows_copied : (image : ImageKind) (dir : ℕ) (file : List ℕ) (reply : CopyReply) (old new : View) → Copies image dir file reply old new → Grows old new
grows_copied image dir file (copy.More have) old new is = grows_rests old new is.0
grows_copied image dir file (copy.Whole have) old new is = grows_rests old new is.0
grows_copied image dir file copy.NoMemory old new is = grows_rests old new is
grows_copied image dir file reply old new is = grows_does old new (IsCopied image dir file reply) is

pub grows_sealed : (sys : Sys) (reply : SealReply) (old new : View) → Seals sys reply old new → Grows old new
grows_sealed sys seal.NoMemory old new is = grows_rests old new is
grows_sealed sys reply old new is = grows_does old new (IsSealed sys reply) is

pub grows_activated : (reply : ActivateReply) (old new : View) → Activates reply old new → Grows old new
grows_activated activate.NoMemory old new is = grows_rests old new is
grows_activated reply old new is = grows_does old new (IsActivated reply) is

pub grows_committed : (reply : CommitReply) (old new : View) → Commits reply old new → Grows old new
grows_committed commit.NoMemory old new is = grows_rests old new is
grows_committed reply old new is = grows_does old new (IsCommitted reply) is

pub grows_rejected : (file : ManifestFile) (why : ManifestFault) (reply : RejectReply) (old new : View) → Rejects file why reply old new → Grows old new
grows_rejected file why reject.NoMemory old new is = grows_rests old new is
grows_rejected file why reply old new is = grows_does old new (IsRejected file why reply) is
