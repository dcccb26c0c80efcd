-- What a lane holds after a call, by its reply and what it held before.
use Rattle.std.specs.Prelude.{◌≡◌, ℕ, [], ◌∷◌, ◌++◌, Some, None}
use Rattle.std.specs.Option.{option_map}
use Rattle.image_layout.specs.declared.Sys.{Sys}
use Rattle.pkg_names.specs.NameAndVariant.{NameAndVariant}
use Rattle.pkg_names.specs.declared.root.Root.{Root}
use Rattle.open_tracker.specs.Directories.{without}
use Rattle.store_model.specs.declared.replies.BeginReply.{BeginReply}
use Rattle.store_model.specs.declared.replies.BeginReply.TheVariants as begin
use Rattle.store_model.specs.declared.replies.WantReply.{WantReply}
use Rattle.store_model.specs.declared.replies.WantReply.TheVariants as want
use Rattle.store_model.specs.declared.replies.RoomReply.{RoomReply}
use Rattle.store_model.specs.declared.replies.RoomReply.TheVariants as room
use Rattle.store_model.specs.declared.replies.PutReply.{PutReply}
use Rattle.store_model.specs.declared.replies.PutReply.TheVariants as put
use Rattle.store_model.specs.declared.replies.LandReply.{LandReply}
use Rattle.store_model.specs.declared.replies.LandReply.TheVariants as land
use Rattle.store_model.specs.declared.replies.OpenReply.{OpenReply}
use Rattle.store_model.specs.declared.replies.OpenReply.TheVariants as opening
use Rattle.store_model.specs.declared.replies.CloseReply.{CloseReply}
use Rattle.store_model.specs.declared.replies.CloseReply.TheVariants as close
use Rattle.store_model.specs.declared.replies.StageReply.{StageReply}
use Rattle.store_model.specs.declared.replies.StageReply.TheVariants as stage
use Rattle.store_model.specs.declared.replies.SealReply.{SealReply}
use Rattle.store_model.specs.declared.replies.SealReply.TheVariants as seal
use Rattle.store_model.specs.declared.replies.ActivateReply.{ActivateReply}
use Rattle.store_model.specs.declared.replies.ActivateReply.TheVariants as activate
use Rattle.store_model.specs.State.Phase.{Filling, Sealed, Done}
use Rattle.store_model.specs.Holding.{Held, without_number, ticket_with, dir_of, with_len}

-- the ticket is over
abbrev pub without_ticket : ℕ → Held → Held
without_ticket number h = record h { tickets = without_number h.tickets number }

-- the claim is over
abbrev pub without_claim : Held → Held
without_claim h = record h { claim = None }

abbrev pub held_after_begin : NameAndVariant → BeginReply → Held → Held
held_after_begin path (begin.Made ticket) h =
    record h { tickets = h.tickets ++ record { number = ticket.number; path = path; root = ticket.root } ∷ [] }
held_after_begin path reply h = h

abbrev pub held_after_want : ℕ → ℕ → WantReply → Held → Held
held_after_want lane ticket (want.Failed cause) h = without_ticket ticket h
held_after_want lane ticket (want.Opened dir) h = record h {
  tickets = without_number h.tickets ticket;
  dirs = h.dirs ++ dir_of dir.number lane (ticket_with h.tickets ticket);
}
held_after_want lane ticket (want.Fetch back claim) h =
    record h { claim = Some (record { root = claim.root; len = None }) }
held_after_want lane ticket (want.NotYet back bell) h = h
held_after_want lane ticket (want.Broken number) h = without_ticket ticket h
held_after_want lane ticket (want.NoMemory back) h = h

abbrev pub held_after_room : ℕ → RoomReply → Held → Held
held_after_room len (room.Made claim) h = record h { claim = option_map (with_len len) h.claim }
held_after_room len (room.Ended end) h = without_claim h
held_after_room len (room.Broken number) h = without_claim h
held_after_room len (room.NoMemory claim) h = h

abbrev pub held_after_put : PutReply → Held → Held
held_after_put (put.Taken claim) h = h
held_after_put (put.Ended end) h = without_claim h
held_after_put (put.Broken number) h = without_claim h

abbrev pub held_after_land : LandReply → Held → Held
held_after_land land.Landed h = without_claim h
held_after_land (land.Ended end) h = without_claim h
held_after_land (land.Broken number) h = without_claim h
held_after_land (land.NoMemory claim) h = h

-- a directory is of some package
abbrev pub IsHeldAfterOpen : ℕ → OpenReply → Held → Held → Type 0
IsHeldAfterOpen lane (opening.Opened dir) old new =
    (root : Root)
    × (new ≡ record old { dirs = old.dirs ++ record { number = dir.number; lane = lane; root = root } ∷ [] })
IsHeldAfterOpen lane reply old new = new ≡ old

abbrev pub held_after_close : ℕ → ℕ → CloseReply → Held → Held
held_after_close lane dir close.NoMemory h = h
held_after_close lane dir reply h = record h { dirs = without h.dirs dir lane }

abbrev pub held_after_stage : StageReply → Held → Held
held_after_stage (stage.Turn slot) h = record h { stage = Some Filling }
held_after_stage reply h = h

abbrev pub held_after_seal : Sys → SealReply → Held → Held
held_after_seal sys seal.Sealed h = record h { stage = Some (Sealed sys) }
held_after_seal sys reply h = h

abbrev pub held_after_activate : ActivateReply → Held → Held
held_after_activate (activate.Active slot) h = record h { stage = Some Done }
held_after_activate reply h = h
