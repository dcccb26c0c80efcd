-- How the events of a resolve serve its request: one run, from its first event to its reply.
use Rattle.std.specs.Prelude.{◌≡◌, ℕ, List, [], ◌∷◌, ◌⊎◌, Option, Some, None}
use Rattle.package_indexes.specs.declared.Choice.{Choice}
use Rattle.package_indexes.specs.declared.Choice.TheVariants as choices
use Rattle.pkg_names.specs.NameAndVariant.{NameAndVariant}
use Rattle.pkg_names.specs.declared.root.Root.{Root}
use Rattle.store_model.specs.declared.ends.Miss.{Miss}
use Rattle.store_model.specs.declared.ends.Miss.TheVariants as misses
use Rattle.store_model.specs.declared.events.Event.{Event}
use Rattle.store_model.specs.declared.replies.Dir.{Dir}
use Rattle.store_model.specs.declared.replies.Ticket.{Ticket}
use Rattle.store_model.specs.declared.replies.BeginReply.{BeginReply}
use Rattle.store_model.specs.declared.replies.BeginReply.TheVariants as begin
use Rattle.store_model.specs.declared.replies.WantReply.{WantReply}
use Rattle.store_model.specs.declared.replies.WantReply.TheVariants as want
use Rattle.store_model.specs.declared.replies.RoomReply.{RoomReply}
use Rattle.store_model.specs.declared.replies.RoomReply.TheVariants as room
use Rattle.store_model.specs.declared.replies.PutReply.{PutReply}
use Rattle.store_model.specs.declared.replies.PutReply.TheVariants as put
use Rattle.store_model.specs.declared.replies.LandReply.{LandReply}
use Rattle.store_model.specs.declared.replies.LandReply.TheVariants as land
use Rattle.store_model.specs.History.{Numbered}
use Rattle.store_model.specs.Holding.{HeldTicket}
use Rattle.store_model.specs.Replies.{IsBegun, IsWanted, IsRoom, IsPut, IsLanded, IsMissed, IsGivenUp}
use Rattle.resolver.specs.declared.reply.ResolveReply.{ResolveReply}
use Rattle.resolver.specs.declared.reply.ResolveReply.TheVariants as replies

-- how far a resolve has come
pub data Point : Type 0 where
  -- nothing was asked yet of the package that it is for
  Asking : (path : NameAndVariant) (pin : Option Root) → Point
  -- it has a ticket
  Waiting : (ticket : HeldTicket) → Point
  -- it has a ticket and a claim, without room or with it
  Granted : (ticket : HeldTicket) (root : Root) → Point
  Roomy : (ticket : HeldTicket) (root : Root) (len : ℕ) → Point
  -- it has a ticket, which it gives up, and then it replies this
  Giving : (ticket : HeldTicket) (reply : ResolveReply) → Point
  -- the package is open
  Opened : (root : Root) (dir : Dir) → Point
  -- it has nothing, and replies this
  Refused : (reply : ResolveReply) → Point

-- The choice is the pin. Without a pin it is what the repository said.
abbrev pub IsChoiceFor : Option Root → Choice → Type 0
IsChoiceFor (Some root) choice = choice ≡ choices.Pinned root
IsChoiceFor None (choices.Pinned root) = ⊥
IsChoiceFor None choice = Unit {0}

-- ---- where a reply leads

-- the ticket, with the path that was asked for
abbrev pub ticket_for : NameAndVariant → Ticket → HeldTicket
ticket_for path ticket = record { number = ticket.number; path = path; root = ticket.root }

-- want of memory makes no event, and leads nowhere
abbrev pub after_begin : NameAndVariant → Option Root → BeginReply → Point
after_begin path pin (begin.Made ticket) = Waiting (ticket_for path ticket)
after_begin path pin begin.InRecovery = Refused replies.InRecovery
after_begin path pin begin.NotFound = Refused replies.NotFound
after_begin path pin begin.ListingFault = Refused replies.ListingFault
after_begin path pin begin.DiskRead = Refused replies.DiskRead
after_begin path pin (begin.Rotten root got) = Refused (replies.Rotten root got)
after_begin path pin (begin.Broken number) = Refused (replies.Broken number)
after_begin path pin begin.NoMemory = Asking path pin

abbrev pub after_want : HeldTicket → WantReply → Point
after_want ticket (want.Failed cause) = Refused (replies.Failed cause)
after_want ticket (want.Opened dir) = Opened ticket.root dir
after_want ticket (want.Fetch back claim) = Granted ticket claim.root
after_want ticket (want.NotYet back bell) = Waiting ticket
after_want ticket (want.Broken number) = Refused (replies.Broken number)
after_want ticket (want.NoMemory back) = Waiting ticket

abbrev pub after_room : HeldTicket → Root → ℕ → RoomReply → Point
after_room ticket root len (room.Made back) = Roomy ticket root len
after_room ticket root len (room.Ended end) = Waiting ticket
after_room ticket root len (room.Broken number) = Giving ticket (replies.Broken number)
after_room ticket root len (room.NoMemory back) = Granted ticket root

abbrev pub after_put : HeldTicket → Root → ℕ → PutReply → Point
after_put ticket root len (put.Taken back) = Roomy ticket root len
after_put ticket root len (put.Ended end) = Waiting ticket
after_put ticket root len (put.Broken number) = Giving ticket (replies.Broken number)

abbrev pub after_land : HeldTicket → Root → ℕ → LandReply → Point
after_land ticket root len land.Landed = Waiting ticket
after_land ticket root len (land.Ended end) = Waiting ticket
after_land ticket root len (land.Broken number) = Giving ticket (replies.Broken number)
after_land ticket root len (land.NoMemory back) = Roomy ticket root len

abbrev pub after_miss : HeldTicket → Miss → Point
after_miss ticket misses.Absent = Waiting ticket
after_miss ticket misses.Read = Waiting ticket
after_miss ticket misses.Memory = Giving ticket replies.NoMemory

-- ---- the events that may come, and where they lead

-- the package is asked for
pub record Begins (path : NameAndVariant) (pin : Option Root) (number : ℕ) (e : Event) (to : Point) : Type 0 where
  pub choice : Choice
  pub chosen : IsChoiceFor pin choice
  pub reply : BeginReply
  pub event : IsBegun path choice reply number e
  pub leads : to ≡ after_begin path pin reply

-- what is missing is asked for
pub record Wants (ticket : HeldTicket) (number : ℕ) (e : Event) (to : Point) : Type 0 where
  pub reply : WantReply
  pub event : IsWanted ticket.number reply number e
  pub leads : to ≡ after_want ticket reply

-- room of some length is asked for
pub record MakesRoom (ticket : HeldTicket) (root : Root) (number : ℕ) (e : Event) (to : Point) : Type 0 where
  pub len : ℕ
  pub reply : RoomReply
  pub event : IsRoom root len reply number e
  pub leads : to ≡ after_room ticket root len reply

-- too many bytes came, or they could not be taken
pub record Puts (ticket : HeldTicket) (root : Root) (len number : ℕ) (e : Event) (to : Point) : Type 0 where
  pub reply : PutReply
  pub event : IsPut root reply number e
  pub leads : to ≡ after_put ticket root len reply

-- all bytes came
pub record Lands (ticket : HeldTicket) (root : Root) (len number : ℕ) (e : Event) (to : Point) : Type 0 where
  pub reply : LandReply
  pub event : IsLanded root len reply number e
  pub leads : to ≡ after_land ticket root len reply

-- the bytes don't come
pub record Misses (ticket : HeldTicket) (root : Root) (number : ℕ) (e : Event) (to : Point) : Type 0 where
  pub why : Miss
  pub event : IsMissed root why number e
  pub leads : to ≡ after_miss ticket why

-- the ticket is given up
pub record GivesUp (ticket : HeldTicket) (reply : ResolveReply) (number : ℕ) (e : Event) (to : Point) : Type 0 where
  pub event : IsGivenUp ticket.number number e
  pub leads : to ≡ Refused reply

-- From a point the event of this number may come, and leads to the other. Want of memory ends a claim by a
-- miss, and then a ticket.
abbrev pub Follows : Point → ℕ → Event → Point → Type 0
Follows (Asking path pin) number e to = Begins path pin number e to
Follows (Waiting ticket) number e to = Wants ticket number e to ⊎ GivesUp ticket replies.NoMemory number e to
Follows (Granted ticket root) number e to = MakesRoom ticket root number e to ⊎ Misses ticket root number e to
Follows (Roomy ticket root len) number e to =
    Puts ticket root len number e to ⊎ (Lands ticket root len number e to ⊎ Misses ticket root number e to)
Follows (Giving ticket reply) number e to = GivesUp ticket reply number e to
Follows (Opened root dir) number e to = ⊥
Follows (Refused reply) number e to = ⊥

-- the events lead from one point to the other
abbrev pub Leads : Point → List Numbered → Point → Type 0
Leads from [] to = from ≡ to
Leads from (e ∷ es) to = (next : Point) × Follows from e.number e.event next × Leads next es to

-- ---- one run

-- What is replied there; nothing while something is held. A run without an event was cut before its first.
abbrev pub reply_at : Point → Option ResolveReply
reply_at (Asking path pin) = Some replies.NoMemory
reply_at (Waiting ticket) = None
reply_at (Granted ticket root) = None
reply_at (Roomy ticket root len) = None
reply_at (Giving ticket reply) = None
reply_at (Opened root dir) = Some (replies.Resolved dir)
reply_at (Refused reply) = Some reply

-- These events are one run that resolves this package, and its reply.
pub record Serves (path : NameAndVariant) (pin : Option Root) (run : List Numbered) (reply : ResolveReply)
    : Type 0 where
  pub point : Point
  pub leads : Leads (Asking path pin) run point
  pub replied : reply_at point ≡ Some reply
