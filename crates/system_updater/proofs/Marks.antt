-- What the events of a resolve and of each call of an update do for the update.
use Rattle.std.proofs.Common.{inl, inr, ◌≡◌, ℕ, Bool, true, false, List, [], ◌∷◌, ◌++◌, Option, Some, None, refl, sym, ap, subst, ◌∙◌}
use Rattle.std.specs.Prelude.{◌⊎◌}
use Rattle.pkg_names.specs.NameAndVariant.{NameAndVariant}
use Rattle.pkg_names.specs.declared.root.Root.{Root}
use Rattle.package_indexes.specs.declared.Choice.{Choice}
use Rattle.store_model.specs.declared.ends.BeginEnd.TheVariants as begins
use Rattle.store_model.specs.declared.ends.WantEnd.TheVariants as wants
use Rattle.store_model.specs.declared.events.Act.{Act}
use Rattle.store_model.specs.declared.events.Act.TheVariants as acts
use Rattle.store_model.specs.declared.events.CallName.TheVariants as calls
use Rattle.store_model.specs.declared.events.Event.{Event}
use Rattle.store_model.specs.declared.replies.Dir.{Dir}
use Rattle.store_model.specs.declared.replies.BeginReply.{BeginReply}
use Rattle.store_model.specs.declared.replies.BeginReply.TheVariants as begin
use Rattle.store_model.specs.declared.replies.WantReply.{WantReply}
use Rattle.store_model.specs.declared.replies.WantReply.TheVariants as want
use Rattle.store_model.specs.declared.replies.RoomReply.{RoomReply}
use Rattle.store_model.specs.declared.replies.RoomReply.TheVariants as room
use Rattle.store_model.specs.declared.replies.PutReply.{PutReply}
use Rattle.store_model.specs.declared.replies.PutReply.TheVariants as put
use Rattle.store_model.specs.declared.replies.LandReply.{LandReply}
use Rattle.store_model.specs.declared.replies.LandReply.TheVariants as land
use Rattle.store_model.specs.declared.ends.Miss.{Miss}
use Rattle.store_model.specs.declared.ends.Miss.TheVariants as misses
use Rattle.store_model.specs.History.{Numbered}
use Rattle.store_model.specs.Holding.{HeldTicket}
use Rattle.store_model.specs.Replies.{IsBegun, IsWanted, IsRoom, IsPut, IsLanded}
use Rattle.resolver.specs.declared.reply.ResolveReply.{ResolveReply}
use Rattle.resolver.specs.declared.reply.ResolveReply.TheVariants as replies
use Rattle.resolver.specs.Serving.{Point, Follows, Leads, reply_at, Serves, after_begin, after_want, after_room, after_put, after_land, after_miss}
use Rattle.resolver.specs.Serving.Point.{Asking, Waiting, Granted, Roomy, Giving, Opened, Refused}
use Rattle.system_updater.specs.Laws.{Mark, mark_of, mark_if, with_mark, marks}
use Rattle.system_updater.specs.Laws.Mark.{Asked}

pub marks_then : (xs ys : List Numbered) → marks (xs ++ ys) ≡ marks xs ++ marks ys
marks_then [] ys = refl
marks_then (x ∷ xs) ys = ap (with_mark (mark_if x.event.broke (mark_of x.event.act))) (marks_then xs ys) ∙ first (mark_if x.event.broke (mark_of x.event.act)) (marks xs) (marks ys) where
  first : (o : Option Mark) (ms ns : List Mark) → with_mark o (ms ++ ns) ≡ with_mark o ms ++ ns
  first None ms ns = refl
  first (Some mark) ms ns = refl

-- the event marks nothing, by its act
pub no_mark : (e : Event) (act : Act) → e.act ≡ act → mark_of act ≡ None → mark_if e.broke (mark_of e.act) ≡ None
no_mark e act is none = ap (λ (a : Act). mark_if e.broke (mark_of a)) is ∙ ap (mark_if e.broke) none ∙ either e.broke where
  either : (b : Bool) → mark_if b None ≡ None
  either true = refl
  either false = refl

-- it marks this, where no write failed
pub marks_this : (e : Event) (act : Act) (mark : Mark) → e.act ≡ act → e.broke ≡ false → mark_of act ≡ Some mark → mark_if e.broke (mark_of e.act) ≡ Some mark
marks_this e act mark is whole same = ap (λ (b : Bool). mark_if b (mark_of e.act)) whole ∙ ap mark_of is ∙ same

-- ---- a resolve that has begun

abbrev IsLater : Point → Type 0
IsLater (Asking path pin) = ⊥
IsLater point = Unit {0}

record Moves (e : Event) (to : Point) : Type 0 where
  none : mark_if e.broke (mark_of e.act) ≡ None
  later : IsLater to

moves_to : (e : Event) (act : Act) (a b : Point) → b ≡ a → e.act ≡ act → mark_of act ≡ None → IsLater a → Moves e b
moves_to e act a b same is none later = record { none = no_mark e act is none; later = subst IsLater (sym same) later }

wanted : (ticket : HeldTicket) (reply : WantReply) (number : ℕ) (e : Event) (to : Point) → IsWanted ticket.number reply number e → to ≡ after_want ticket reply → Moves e to
wanted ticket (want.Failed cause) number e to is leads = moves_to e (acts.Want ticket.number (wants.Failed cause)) _ to leads is.0 refl tt
wanted ticket (want.Opened dir) number e to is leads = moves_to e (acts.Want ticket.number wants.Opened) _ to leads is.1.0 refl tt
wanted ticket (want.Fetch back claim) number e to is leads = moves_to e (acts.Want ticket.number (wants.Fetch claim.root)) _ to leads is.0 refl tt
wanted ticket (want.NotYet back bell) number e to is leads = absurd is
wanted ticket (want.Broken broken) number e to is leads = moves_to e (acts.Refused (calls.Want ticket.number) broken) _ to leads is.0 refl tt
wanted ticket (want.NoMemory back) number e to is leads = absurd is

roomed : (ticket : HeldTicket) (root : Root) (len : ℕ) (reply : RoomReply) (number : ℕ) (e : Event) (to : Point) → IsRoom root len reply number e → to ≡ after_room ticket root len reply → Moves e to
roomed ticket root len (room.Made back) number e to is leads = moves_to e (acts.Room root len None) _ to leads is.0 refl tt
roomed ticket root len (room.Ended end) number e to is leads = moves_to e (acts.Room root len (Some end)) _ to leads is.0 refl tt
roomed ticket root len (room.Broken broken) number e to is leads = moves_to e (acts.Refused (calls.Room root) broken) _ to leads is.0 refl tt
roomed ticket root len (room.NoMemory back) number e to is leads = absurd is

piece_put : (ticket : HeldTicket) (root : Root) (len : ℕ) (reply : PutReply) (number : ℕ) (e : Event) (to : Point) → IsPut root reply number e → to ≡ after_put ticket root len reply → Moves e to
piece_put ticket root len (put.Taken back) number e to is leads = absurd is
piece_put ticket root len (put.Ended end) number e to is leads = moves_to e (acts.Put root (Some end)) _ to leads is.0 refl tt
piece_put ticket root len (put.Broken broken) number e to is leads = elim is [
  | inl refused ↦ moves_to e (acts.Refused (calls.Put root) broken) _ to leads refused.0 refl tt
  | inr failed ↦ moves_to e (acts.Put root None) _ to leads failed.1 refl tt
]

landed : (ticket : HeldTicket) (root : Root) (len : ℕ) (reply : LandReply) (number : ℕ) (e : Event) (to : Point) → IsLanded root len reply number e → to ≡ after_land ticket root len reply → Moves e to
landed ticket root len land.Landed number e to is leads = moves_to e (acts.Land root len None is.0) _ to leads is.1.0 refl tt
landed ticket root len (land.Ended end) number e to is leads = moves_to e (acts.Land root len (Some end) []) _ to leads is.0 refl tt
landed ticket root len (land.Broken broken) number e to is leads = elim is [
  | inl refused ↦ moves_to e (acts.Refused (calls.Land root) broken) _ to leads refused.0 refl tt
  | inr failed ↦ moves_to e (acts.Land root len None []) _ to leads failed.1 refl tt
]
landed ticket root len (land.NoMemory back) number e to is leads = absurd is

missed : (ticket : HeldTicket) (root : Root) (why : Miss) (e : Event) (to : Point) → e.act ≡ acts.Missed root why → to ≡ after_miss ticket why → Moves e to
missed ticket root misses.Absent e to is leads = moves_to e (acts.Missed root misses.Absent) _ to leads is refl tt
missed ticket root misses.Read e to is leads = moves_to e (acts.Missed root misses.Read) _ to leads is refl tt
missed ticket root misses.Memory e to is leads = moves_to e (acts.Missed root misses.Memory) _ to leads is refl tt

moves : (from to : Point) (number : ℕ) (e : Event) → IsLater from → Follows from number e to → Moves e to
moves (Asking path pin) to number e later follows = absurd later
moves (Waiting ticket) to number e later follows = elim follows [
  | inl w ↦ wanted ticket w.reply number e to w.event w.leads
  | inr x ↦ moves_to e (acts.GaveUp ticket.number) _ to x.leads x.event.0 refl tt
]
moves (Granted ticket root) to number e later follows = elim follows [
  | inl r ↦ roomed ticket root r.len r.reply number e to r.event r.leads
  | inr m ↦ missed ticket root m.why e to m.event.0 m.leads
]
moves (Roomy ticket root len) to number e later follows = elim follows [
  | inl p ↦ piece_put ticket root len p.reply number e to p.event p.leads
  | inr rest ↦ elim rest [
    | inl l ↦ landed ticket root len l.reply number e to l.event l.leads
    | inr m ↦ missed ticket root m.why e to m.event.0 m.leads
  ]
]
moves (Giving ticket reply) to number e later follows = moves_to e (acts.GaveUp ticket.number) _ to follows.leads follows.event.0 refl tt
moves (Opened root dir) to number e later follows = absurd follows
moves (Refused reply) to number e later follows = absurd follows

later_marks : (from to : Point) (run : List Numbered) → IsLater from → Leads from run to → marks run ≡ []
later_marks from to [] later leads = refl
later_marks from to (e ∷ es) later leads =
    let m = moves from leads.0 e.number e.event later leads.1 in
    ap (λ (o : Option Mark). with_mark o (marks es)) m.none ∙ later_marks leads.0 to es m.later leads.2

-- ---- a whole resolve

-- it is asked for, or the resolve is over
begun : (path : NameAndVariant) (pin : Option Root) (choice : Choice) (reply : BeginReply) (number : ℕ) (e : Event) → IsBegun path choice reply number e
    → (mark_if e.broke (mark_of e.act) ≡ Some Asked) ⊎ ((broken : ℕ) × (after_begin path pin reply ≡ Refused (replies.Broken broken)))
begun path pin choice (begin.Made ticket) number e is = inl (marks_this e (acts.Begin path choice (begins.Ticket ticket.root) is.1.0) Asked is.1.1.0 is.1.1.1 refl)
begun path pin choice begin.InRecovery number e is = inl (marks_this e (acts.Begin path choice begins.InRecovery is.0) Asked is.1.0 is.1.1 refl)
begun path pin choice begin.NotFound number e is = inl (marks_this e (acts.Begin path choice begins.NotFound is.0) Asked is.1.0 is.1.1 refl)
begun path pin choice begin.ListingFault number e is = inl (marks_this e (acts.Begin path choice begins.ListingFault is.0) Asked is.1.0 is.1.1 refl)
begun path pin choice begin.DiskRead number e is = inl (marks_this e (acts.Begin path choice begins.DiskRead is.0) Asked is.1.0 is.1.1 refl)
begun path pin choice (begin.Rotten root got) number e is = inl (marks_this e (acts.Begin path choice (begins.Rotten root got) is.0) Asked is.1.0 is.1.1 refl)
begun path pin choice (begin.Broken broken) number e is = inr (broken, refl)
begun path pin choice begin.NoMemory number e is = absurd is

later_begun : (path : NameAndVariant) (pin : Option Root) (choice : Choice) (reply : BeginReply) (number : ℕ) (e : Event) → IsBegun path choice reply number e → IsLater (after_begin path pin reply)
later_begun path pin choice (begin.Made ticket) number e is = tt
later_begun path pin choice begin.InRecovery number e is = tt
later_begun path pin choice begin.NotFound number e is = tt
later_begun path pin choice begin.ListingFault number e is = tt
later_begun path pin choice begin.DiskRead number e is = tt
later_begun path pin choice (begin.Rotten root got) number e is = tt
later_begun path pin choice (begin.Broken broken) number e is = tt
later_begun path pin choice begin.NoMemory number e is = absurd is

-- a resolve that was refused stays so
stays_refused : (reply : ResolveReply) (to : Point) (run : List Numbered) → Leads (Refused reply) run to → reply_at to ≡ Some reply
stays_refused reply to [] leads = ap reply_at (sym leads)
stays_refused reply to (e ∷ es) leads = absurd leads.1

-- a package that was resolved was asked for once, and nothing else was done for the update
pub resolved_marks : (path : NameAndVariant) (pin : Option Root) (run : List Numbered) (dir : Dir) → Serves path pin run (replies.Resolved dir) → marks run ≡ Asked ∷ []
resolved_marks path pin [] dir serves = absurd (let no_run : Some replies.NoMemory ≡ Some (replies.Resolved dir) = ap reply_at serves.leads ∙ serves.replied in cc)
resolved_marks path pin (e ∷ es) dir serves =
    let next = serves.leads.0 in
    let b = serves.leads.1 in
    let rest = later_marks next serves.point es (subst IsLater (sym b.leads) (later_begun path pin b.choice b.reply e.number e.event b.event)) serves.leads.2 in
    elim (begun path pin b.choice b.reply e.number e.event b.event) [
      | inl is ↦ ap (λ (o : Option Mark). with_mark o (marks es)) is ∙ ap (λ (ms : List Mark). Asked ∷ ms) rest
      | inr broken ↦
          let leads = subst (λ (p : Point). Leads p es serves.point) (b.leads ∙ broken.1) serves.leads.2 in
          absurd (let other : Some (replies.Broken broken.0) ≡ Some (replies.Resolved dir) = sym (stays_refused (replies.Broken broken.0) serves.point es leads) ∙ serves.replied in cc)
    ]
