-- What a lane holds after each call, by its reply.
use Rattle.std.proofs.Common.{inl, inr, ◌≡◌, ◌+◌, ℕ, true, false, List, [], ◌∷◌, ◌++◌, length, Some, None, sym, ap, ◌∙◌}
use Rattle.image_layout.specs.declared.Sys.{Sys}
use Rattle.pkg_names.specs.NameAndVariant.{NameAndVariant}
use Rattle.pkg_names.specs.declared.root.Root.{Root}
use Rattle.package_indexes.specs.declared.Choice.{Choice}
use Rattle.store_model.specs.declared.ends.Miss.{Miss}
use Rattle.store_model.specs.declared.events.Event.{Event}
use Rattle.store_model.specs.declared.events.Act.{Act}
use Rattle.store_model.specs.declared.events.Act.TheVariants as acts
use Rattle.store_model.specs.declared.events.CallName.TheVariants as calls
use Rattle.store_model.specs.declared.ends.BeginEnd.TheVariants as begins
use Rattle.store_model.specs.declared.ends.WantEnd.TheVariants as wants
use Rattle.store_model.specs.declared.ends.StageEnd.TheVariants as stages
use Rattle.store_model.specs.declared.ends.ActivateEnd.TheVariants as activations
use Rattle.store_model.specs.declared.replies.Ticket.{Ticket}
use Rattle.store_model.specs.declared.replies.Claim.{Claim}
use Rattle.store_model.specs.declared.replies.BeginReply.{BeginReply}
use Rattle.store_model.specs.declared.replies.BeginReply.TheVariants as begin
use Rattle.store_model.specs.declared.replies.WantReply.{WantReply}
use Rattle.store_model.specs.declared.replies.WantReply.TheVariants as want
use Rattle.store_model.specs.declared.replies.RoomReply.{RoomReply}
use Rattle.store_model.specs.declared.replies.RoomReply.TheVariants as room
use Rattle.store_model.specs.declared.replies.PutReply.{PutReply}
use Rattle.store_model.specs.declared.replies.PutReply.TheVariants as put
use Rattle.store_model.specs.declared.replies.LandReply.{LandReply}
use Rattle.store_model.specs.declared.replies.LandReply.TheVariants as land
use Rattle.store_model.specs.declared.replies.OpenReply.{OpenReply}
use Rattle.store_model.specs.declared.replies.OpenReply.TheVariants as opening
use Rattle.store_model.specs.declared.replies.CloseReply.{CloseReply}
use Rattle.store_model.specs.declared.replies.CloseReply.TheVariants as close
use Rattle.store_model.specs.declared.replies.StageReply.{StageReply}
use Rattle.store_model.specs.declared.replies.StageReply.TheVariants as stage
use Rattle.store_model.specs.declared.replies.SealReply.{SealReply}
use Rattle.store_model.specs.declared.replies.SealReply.TheVariants as seal
use Rattle.store_model.specs.declared.replies.ActivateReply.{ActivateReply}
use Rattle.store_model.specs.declared.replies.ActivateReply.TheVariants as activate
use Rattle.store_model.specs.Holding.{Held, ticket_with, without_number, dir_of, held_after_act, held_after_break, held_after_event}
use Rattle.store_model.specs.HeldAfter.{without_ticket, without_claim, held_after_begin, held_after_want, held_after_room, held_after_put, held_after_land, IsHeldAfterOpen, held_after_close, held_after_stage, held_after_seal, held_after_activate}
use Rattle.store_model.specs.Desk.{View, Keeping, held_by, Does}
use Rattle.store_model.specs.Replies.{Acts, Breaks, IsBegun, IsWanted, IsRoom, IsPut, IsLanded, IsMissed, IsGivenUp, IsOpened, IsClosed, IsStaged, IsSealed, IsActivated, HasLeftStage}
use Rattle.store_model.specs.Calls.{Begins, Wants, MakesRoom, Puts, Lands, Opens, Closes, Stages, Seals, Activates}
use Rattle.store_model.proofs.Calls.{held_by-Does, held_by-Rests}

-- ---- the event of a call

held_acts : (h : Held) (number lane : ℕ) (e : Event) (act : Act) → e.lane ≡ lane → Acts act e → held_after_event h number e ≡ held_after_act h number lane act
held_acts h number lane e act own is =
    rw is.1 (ap (λ (l : ℕ). held_after_act h number l e.act) own ∙ ap (held_after_act h number lane) is.0)

held_breaks : (h : Held) (number broken : ℕ) (e : Event) (act : Act) → Breaks act broken number e → held_after_event h number e ≡ held_after_break h act
held_breaks h number broken e act is = rw is.2 (ap (held_after_break h) is.1)

-- the number of the call's event
abbrev pub number_of : (old new : View) (IsIts : ℕ → Event → Type 0) → Does old new IsIts → ℕ
number_of old new IsIts does = length (old.seen ++ does.others) + 1

pub acted : (old new : View) (IsIts : ℕ → Event → Type 0) (does : Does old new IsIts) (act : Act) → Acts act does.event
    → held_by new ≡ held_after_act (held_by old) (number_of old new IsIts does) old.lane act
acted old new IsIts does act is =
    held_by-Does old new IsIts does ∙ held_acts (held_by old) (number_of old new IsIts does) old.lane does.event act does.lane is

pub broke : (old new : View) (IsIts : ℕ → Event → Type 0) (does : Does old new IsIts) (act : Act) (broken : ℕ) → Breaks act broken (number_of old new IsIts does) does.event
    → held_by new ≡ held_after_break (held_by old) act
broke old new IsIts does act broken is =
    held_by-Does old new IsIts does ∙ held_breaks (held_by old) (number_of old new IsIts does) broken does.event act is

-- ---- packages and blobs

pub begun : (path : NameAndVariant) (choice : Choice) (reply : BeginReply) (old new : View) → Begins path choice reply old new → held_by new ≡ held_after_begin path reply (held_by old)
begun path choice (begin.Made ticket) old new does =
    acted old new (IsBegun path choice (begin.Made ticket)) does (acts.Begin path choice (begins.Ticket ticket.root) does.its.1.0) does.its.1.1 ∙
    ap (λ (n : ℕ). let h : Held = record (held_by old) { tickets = (held_by old).tickets ++ record { number = n; path = path; root = ticket.root } ∷ [] } in h) (sym does.its.0)
begun path choice begin.InRecovery old new does = acted old new (IsBegun path choice begin.InRecovery) does (acts.Begin path choice begins.InRecovery does.its.0) does.its.1
begun path choice begin.NotFound old new does = acted old new (IsBegun path choice begin.NotFound) does (acts.Begin path choice begins.NotFound does.its.0) does.its.1
begun path choice begin.ListingFault old new does = acted old new (IsBegun path choice begin.ListingFault) does (acts.Begin path choice begins.ListingFault does.its.0) does.its.1
begun path choice begin.DiskRead old new does = acted old new (IsBegun path choice begin.DiskRead) does (acts.Begin path choice begins.DiskRead does.its.0) does.its.1
begun path choice (begin.Rotten root got) old new does = acted old new (IsBegun path choice (begin.Rotten root got)) does (acts.Begin path choice (begins.Rotten root got) does.its.0) does.its.1
begun path choice (begin.Broken number) old new does = acted old new (IsBegun path choice (begin.Broken number)) does (acts.Refused (calls.Begin path) number) does.its
begun path choice begin.NoMemory old new rests = held_by-Rests old new rests

pub wanted : (ticket : Ticket) (reply : WantReply) (old new : View) → Wants ticket reply old new → held_by new ≡ held_after_want old.lane ticket.number reply (held_by old)
wanted ticket (want.Failed cause) old new does = acted old new (IsWanted ticket.number (want.Failed cause)) does (acts.Want ticket.number (wants.Failed cause)) does.its
wanted ticket (want.Opened dir) old new does =
    acted old new (IsWanted ticket.number (want.Opened dir)) does (acts.Want ticket.number wants.Opened) does.its.1 ∙
    ap (λ (n : ℕ). let h : Held = record (held_by old) { tickets = without_number (held_by old).tickets ticket.number; dirs = (held_by old).dirs ++ dir_of n old.lane (ticket_with (held_by old).tickets ticket.number) } in h) (sym does.its.0)
wanted ticket (want.Fetch back claim) old new does = acted old new (IsWanted ticket.number (want.Fetch back claim)) does.0 (acts.Want ticket.number (wants.Fetch claim.root)) does.0.its
wanted ticket (want.NotYet back bell) old new rests = held_by-Rests old new rests.0
wanted ticket (want.Broken number) old new does = acted old new (IsWanted ticket.number (want.Broken number)) does (acts.Refused (calls.Want ticket.number) number) does.its
wanted ticket (want.NoMemory back) old new rests = held_by-Rests old new rests.0

pub roomed : (claim : Claim) (len : ℕ) (reply : RoomReply) (old new : View) → MakesRoom claim len reply old new → held_by new ≡ held_after_room len reply (held_by old)
roomed claim len (room.Made back) old new does = acted old new (IsRoom claim.root len (room.Made back)) does.0 (acts.Room claim.root len None) does.0.its
roomed claim len (room.Ended end) old new does = acted old new (IsRoom claim.root len (room.Ended end)) does (acts.Room claim.root len (Some end)) does.its
roomed claim len (room.Broken number) old new does = acted old new (IsRoom claim.root len (room.Broken number)) does (acts.Refused (calls.Room claim.root) number) does.its
roomed claim len (room.NoMemory back) old new rests = held_by-Rests old new rests.0

put_broken : (claim : Claim) (number : ℕ) (old new : View) → Does old new (IsPut claim.root (put.Broken number)) → held_by new ≡ without_claim (held_by old)
put_broken claim number old new does =
    elim does.its [
      | inl refused ↦ acted old new (IsPut claim.root (put.Broken number)) does (acts.Refused (calls.Put claim.root) number) refused
      | inr failed ↦ broke old new (IsPut claim.root (put.Broken number)) does (acts.Put claim.root None) number failed
    ]

pub piece_put : (claim : Claim) (reply : PutReply) (old new : View) → Puts claim reply old new → held_by new ≡ held_after_put reply (held_by old)
piece_put claim (put.Taken back) old new rests = held_by-Rests old new rests.0
piece_put claim (put.Ended end) old new does = acted old new (IsPut claim.root (put.Ended end)) does (acts.Put claim.root (Some end)) does.its
piece_put claim (put.Broken number) old new does = put_broken claim number old new does

land_broken : (root : Root) (len number : ℕ) (old new : View) → Does old new (IsLanded root len (land.Broken number)) → held_by new ≡ without_claim (held_by old)
land_broken root len number old new does =
    elim does.its [
      | inl refused ↦ acted old new (IsLanded root len (land.Broken number)) does (acts.Refused (calls.Land root) number) refused
      | inr failed ↦ broke old new (IsLanded root len (land.Broken number)) does (acts.Land root len None []) number failed
    ]

pub landed : (claim : Claim) (kept : Keeping → List ℕ → Type 0) (reply : LandReply) (old new : View) → Lands claim kept reply old new → held_by new ≡ held_after_land reply (held_by old)
landed claim kept land.Landed old new does = acted old new _ does (acts.Land claim.root _ None does.its.0) does.its.1
landed claim kept (land.Ended end) old new does = acted old new _ does (acts.Land claim.root _ (Some end) []) does.its
landed claim kept (land.Broken number) old new does = land_broken claim.root _ number old new does
landed claim kept (land.NoMemory back) old new rests = held_by-Rests old new rests.0

pub landed_by_event : (root : Root) (len : ℕ) (reply : LandReply) (old new : View) → Does old new (IsLanded root len reply) → held_by new ≡ held_after_land reply (held_by old)
landed_by_event root len land.Landed old new does = acted old new (IsLanded root len land.Landed) does (acts.Land root len None does.its.0) does.its.1
landed_by_event root len (land.Ended end) old new does = acted old new (IsLanded root len (land.Ended end)) does (acts.Land root len (Some end) []) does.its
landed_by_event root len (land.Broken number) old new does = land_broken root len number old new does
landed_by_event root len (land.NoMemory back) old new does = absurd does.its

pub missed : (root : Root) (why : Miss) (old new : View) → Does old new (IsMissed root why) → held_by new ≡ without_claim (held_by old)
missed root why old new does = acted old new (IsMissed root why) does (acts.Missed root why) does.its

pub given_up : (number : ℕ) (old new : View) → Does old new (IsGivenUp number) → held_by new ≡ without_ticket number (held_by old)
given_up number old new does = acted old new (IsGivenUp number) does (acts.GaveUp number) does.its

-- ---- directories

pub opened : (path : NameAndVariant) (reply : OpenReply) (old new : View) → Opens path reply old new → IsHeldAfterOpen old.lane reply (held_by old) (held_by new)
opened path (opening.Opened dir) old new does = (
  does.its.1.0,
  acted old new (IsOpened path (opening.Opened dir)) does (acts.OpenPath path (Some does.its.1.0)) does.its.1.1 ∙
      ap (λ (n : ℕ). let h : Held = record (held_by old) { dirs = (held_by old).dirs ++ record { number = n; lane = old.lane; root = does.its.1.0 } ∷ [] } in h) (sym does.its.0),
)
opened path opening.NotHere old new does = acted old new (IsOpened path opening.NotHere) does (acts.OpenPath path None) does.its
opened path (opening.Broken number) old new does = acted old new (IsOpened path (opening.Broken number)) does (acts.Refused (calls.OpenPath path) number) does.its
opened path opening.NoMemory old new rests = held_by-Rests old new rests

pub closed : (dir : ℕ) (reply : CloseReply) (old new : View) → Closes dir reply old new → held_by new ≡ held_after_close old.lane dir reply (held_by old)
closed dir close.Closed old new does = acted old new (IsClosed dir close.Closed) does (acts.Close dir true) does.its
closed dir close.BadDir old new does = acted old new (IsClosed dir close.BadDir) does (acts.Close dir false) does.its
closed dir close.NoMemory old new rests = held_by-Rests old new rests.0

-- ---- updates

pub staged : (epoch : ℕ) (reply : StageReply) (old new : View) → Stages epoch reply old new → held_by new ≡ held_after_stage reply (held_by old)
staged epoch (stage.Turn slot) old new does = acted old new (IsStaged epoch (stage.Turn slot)) does (acts.Stage epoch (stages.Turn slot)) does.its
staged epoch stage.InRecovery old new does = acted old new (IsStaged epoch stage.InRecovery) does (acts.Stage epoch stages.InRecovery) does.its
staged epoch (stage.Busy lane) old new does = acted old new (IsStaged epoch (stage.Busy lane)) does (acts.Stage epoch (stages.Busy lane)) does.its
staged epoch stage.NotCommitted old new does = acted old new (IsStaged epoch stage.NotCommitted) does (acts.Stage epoch stages.NotCommitted) does.its
staged epoch (stage.Older have) old new does = acted old new (IsStaged epoch (stage.Older have)) does (acts.Stage epoch (stages.Older have)) does.its
staged epoch (stage.Broken number) old new does =
    elim does.its [
      | inl refused ↦ acted old new (IsStaged epoch (stage.Broken number)) does (acts.Refused (calls.Stage epoch) number) refused
      | inr failed ↦ broke old new (IsStaged epoch (stage.Broken number)) does (acts.Stage epoch (stages.Turn failed.0)) number failed.1
    ]
staged epoch stage.NoMemory old new rests = held_by-Rests old new rests

pub sealed : (sys : Sys) (reply : SealReply) (old new : View) → Seals sys reply old new → held_by new ≡ held_after_seal sys reply (held_by old)
sealed sys seal.Sealed old new does = acted old new (IsSealed sys seal.Sealed) does (acts.Seal sys None) does.its
sealed sys (seal.Differs image got) old new does = acted old new (IsSealed sys (seal.Differs image got)) does (acts.Seal sys (Some (record { image = image; got = got }))) does.its
sealed sys (seal.Broken number) old new does =
    elim does.its [
      | inl refused ↦ acted old new (IsSealed sys (seal.Broken number)) does (acts.Refused calls.Seal number) refused
      | inr failed ↦ broke old new (IsSealed sys (seal.Broken number)) does (acts.Seal sys None) number failed
    ]
sealed sys seal.NoMemory old new rests = held_by-Rests old new rests

pub activated : (reply : ActivateReply) (old new : View) → Activates reply old new → held_by new ≡ held_after_activate reply (held_by old)
activated (activate.Active slot) old new does = acted old new (IsActivated (activate.Active slot)) does (acts.Activate (activations.Active slot) does.its.0) does.its.1
activated (activate.BaseMissing root) old new does = acted old new (IsActivated (activate.BaseMissing root)) does (acts.Activate (activations.BaseMissing root) does.its.0) does.its.1
activated (activate.NotASystem why) old new does = acted old new (IsActivated (activate.NotASystem why)) does (acts.Activate (activations.NotASystem why) does.its.0) does.its.1
activated activate.DiskRead old new does = acted old new (IsActivated activate.DiskRead) does (acts.Activate activations.DiskRead does.its.0) does.its.1
activated (activate.Rotten root got) old new does = acted old new (IsActivated (activate.Rotten root got)) does (acts.Activate (activations.Rotten root got) does.its.0) does.its.1
activated (activate.Broken number) old new does =
    elim does.its [
      | inl refused ↦ acted old new (IsActivated (activate.Broken number)) does (acts.Refused calls.Activate number) refused
      | inr failed ↦ broke old new (IsActivated (activate.Broken number)) does (acts.Activate (activations.Active failed.0) failed.1) number failed.2
    ]
activated activate.NoMemory old new rests = held_by-Rests old new rests

pub left_stage : (old new : View) → Does old new HasLeftStage → held_by new ≡ record (held_by old) { stage = None }
left_stage old new does = acted old new HasLeftStage does acts.LeftStage does.its
