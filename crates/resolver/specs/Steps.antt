-- What the steps of a resolve come to. These definitions serve its proof; no public clause cites them.
use Rattle.std.specs.Prelude.{◌≡◌, ℕ, ◌+◌, ◌<◌, List, ◌++◌, take, length, Option, Some, Result, Ok, Err, All}
use Rattle.package_indexes.specs.declared.Choice.{Choice}
use Rattle.package_indexes.specs.declared.Choice.TheVariants as choices
use Rattle.pkg_names.specs.NameAndVariant.{NameAndVariant}
use Rattle.pkg_names.specs.declared.pinned.Pinned.{Pinned}
use Rattle.pkg_names.specs.declared.root.Root.{Root}
use Rattle.repo_source.specs.declared.file.RepoFile.{RepoFile}
use Rattle.repo_source.specs.Repo.{FailedBy, Reading, file_under}
use Rattle.store_model.specs.declared.events.Event.{Event}
use Rattle.store_model.specs.declared.replies.Ticket.{Ticket}
use Rattle.store_model.specs.History.{Numbered}
use Rattle.store_model.specs.Holding.{Held, HeldTicket, ticket_with, without_number, dir_of}
use Rattle.store_model.specs.HeldAfter.{without_claim}
use Rattle.store_model.specs.Desk.{View, Stays, Kept}
use Rattle.store_model.specs.Desk.Keeping.{Blob}
use Rattle.resolver.specs.declared.reply.ResolveReply.{ResolveReply}
use Rattle.resolver.specs.declared.reply.ResolveReply.TheVariants as replies
use Rattle.resolver.specs.declared.reply.Stop.{Stop}
use Rattle.resolver.specs.declared.reply.Stop.TheVariants as stops
use Rattle.resolver.specs.declared.pieces.Piece.{Piece}
use Rattle.resolver.specs.declared.pieces.Piece.TheVariants as pieces
use Rattle.resolver.specs.Serving.{Point, Leads, ticket_for}
use Rattle.resolver.specs.Serving.Point.{Asking, Waiting, Roomy, Giving, Opened, Refused}
use Rattle.resolver.specs.Counting.{grants, failures, counted}
use Rattle.resolver.specs.Fetched.{Lists, Tells, HasFile}
use Rattle.resolver.specs.Viewing.{Agrees}

-- ---- where a step leads

abbrev pub reply_of : Stop → ResolveReply
reply_of (stops.Broken number) = replies.Broken number
reply_of stops.NoMemory = replies.NoMemory

-- a fetch that is over
abbrev pub after_fetch : {A : Type 0} → HeldTicket → Result A Stop → Point
after_fetch ticket (Ok done) = Waiting ticket
after_fetch ticket (Err stop) = Giving ticket (reply_of stop)

abbrev pub after_piece : HeldTicket → Root → ℕ → Piece → Point
after_piece ticket root len (pieces.More claim left) = Roomy ticket root len
after_piece ticket root len (pieces.Last result) = after_fetch ticket result

-- a ticket that is over
abbrev pub after_arrival : HeldTicket → ResolveReply → Point
after_arrival ticket (replies.Resolved dir) = Opened ticket.root dir
after_arrival ticket reply = Refused reply

abbrev pub after_round : {A : Type 0} → HeldTicket → Result A ResolveReply → Point
after_round ticket (Ok back) = Waiting ticket
after_round ticket (Err reply) = after_arrival ticket reply

-- nothing was asked where memory was short
abbrev pub after_refusal : NameAndVariant → Option Root → ResolveReply → Point
after_refusal path pin replies.NoMemory = Asking path pin
after_refusal path pin reply = Refused reply

abbrev pub after_asking : NameAndVariant → Option Root → Result Ticket ResolveReply → Point
after_asking path pin (Ok ticket) = Waiting (ticket_for path ticket)
after_asking path pin (Err reply) = after_refusal path pin reply

-- ---- what is held after it

abbrev pub held_after_piece : Piece → Held → Held
held_after_piece (pieces.More claim left) h = h
held_after_piece (pieces.Last result) h = without_claim h

abbrev pub held_after_arrival : ℕ → ℕ → ResolveReply → Held → Held
held_after_arrival lane ticket (replies.Resolved dir) h = record h {
  tickets = without_number h.tickets ticket;
  dirs = h.dirs ++ dir_of dir.number lane (ticket_with h.tickets ticket);
}
held_after_arrival lane ticket reply h = record h { tickets = without_number h.tickets ticket }

abbrev pub held_after_round : {A : Type 0} → ℕ → ℕ → Result A ResolveReply → Held → Held
held_after_round lane ticket (Ok back) h = h
held_after_round lane ticket (Err reply) h = held_after_arrival lane ticket reply h

-- ---- what a step does

-- The lane's events led from one point to the other, with so many grants among them. They fit what the
-- repository tells, and it failed as often as they say.
pub record Goes (granted : ℕ) (from to : Point) (old new : View) (listing : Option (List Pinned))
    (files : Option (List RepoFile)) (before after : ℕ) : Type 0 where
  pub stays : Stays old new
  pub fillers : new.fillers ≡ old.fillers
  pub agrees : Agrees old → Agrees new
  pub more : List Event
  pub seen : new.seen ≡ old.seen ++ more
  pub run : List Numbered
  pub mine : new.mine ≡ old.mine ++ run
  pub leads : Leads from run to
  pub grants : grants run ≡ granted
  pub lists : (all : List Pinned) → listing ≡ Some all → All (Lists all) run
  pub tells : (all : List RepoFile) → files ≡ Some all → All (Tells all) run
  pub faults : FailedBy (failures run) before after

-- ---- the bytes on their way

-- These bytes are the front of the file under the root, which has this declared length, and what is read next
-- comes behind them.
pub record IsFront (files : List RepoFile) (root : Root) (len : ℕ) (place : Reading) (bytes : List ℕ)
    : Type 0 where
  pub file : RepoFile
  pub found : file_under files root ≡ Some file
  pub declared : file.len ≡ len
  pub reads : place ≡ record { root = root; given = length bytes }
  pub front : take (length bytes) file.bytes ≡ bytes

-- So many bytes of the room are left. What was put is the front of the file, where files are told.
pub record Fills (kept : Kept) (files : Option (List RepoFile)) (root : Root) (place : Reading) (len left : ℕ)
    : Type 0 where
  pub bytes : List ℕ
  pub put : kept Blob bytes
  pub size : length bytes + left ≡ len
  pub front : (all : List RepoFile) → files ≡ Some all → IsFront all root len place bytes

-- after a piece that was taken
abbrev pub FillsOn : Kept → Option (List RepoFile) → Root → Reading → ℕ → ℕ → Piece → Type 0
FillsOn kept files root place len left (pieces.More claim rest) =
    (claim.root ≡ root) × (rest < left) × Fills kept files root place len rest
FillsOn kept files root place len left (pieces.Last result) = Unit {0}

-- What was put is the whole file, where files are told.
pub record IsFilled (kept : Kept) (files : Option (List RepoFile)) (root : Root) : Type 0 where
  pub bytes : List ℕ
  pub put : kept Blob bytes
  pub whole : (all : List RepoFile) → files ≡ Some all → HasFile all root (λ file. file.bytes ≡ bytes)

-- ---- whole rounds

-- The lane's events led from one point to the other, and the repository was asked once for each grant.
pub record Fetches (from to : Point) (old new : View) (listing : Option (List Pinned))
    (files : Option (List RepoFile)) (before after asked asked_now : ℕ) : Type 0 where
  pub granted : ℕ
  pub goes : Goes granted from to old new listing files before after
  pub fetches : asked_now ≡ counted granted asked

-- how often a choice says that the repository failed
abbrev pub failures_of : Choice → ℕ
failures_of choices.Failed = 1
failures_of choice = 0

-- The count of faults that the events of asking for a package tell of: where the store took no package, no event has
-- the choice, and so the faults of making it are left out.
abbrev pub told_by : {A : Type 0} → Result A ResolveReply → ℕ → ℕ → ℕ
told_by (Ok ticket) before after = after
told_by (Err replies.NoMemory) before after = before
told_by (Err (replies.Broken number)) before after = before
told_by (Err reply) before after = after
