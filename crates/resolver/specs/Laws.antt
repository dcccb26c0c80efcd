-- The words in which the laws tell what a run is.
use Rattle.std.specs.Prelude.{◌≡◌, ℕ, Bool, true, false, List, [], ◌∷◌, ◌++◌, ◌+◌, length, ◌⊎◌, Option, Some, None, IfSome, Contains}
use Rattle.package_indexes.specs.declared.Choice.{Choice}
use Rattle.package_indexes.specs.Indexes.{chosen as root_chosen}
use Rattle.pkg_names.specs.NameAndVariant.{NameAndVariant}
use Rattle.pkg_names.specs.declared.root.Root.{Root}
use Rattle.open_tracker.specs.declared.dirs.DirEntry.{DirEntry}
use Rattle.store_model.specs.declared.ends.BeginEnd.{BeginEnd}
use Rattle.store_model.specs.declared.ends.BeginEnd.TheVariants as begins
use Rattle.store_model.specs.declared.ends.WantEnd.TheVariants as wants
use Rattle.store_model.specs.declared.events.Act.{Act}
use Rattle.store_model.specs.declared.events.Act.TheVariants as acts
use Rattle.store_model.specs.declared.events.CallName.{CallName}
use Rattle.store_model.specs.declared.events.CallName.TheVariants as calls
use Rattle.store_model.specs.declared.events.LookedAt.{LookedAt}
use Rattle.store_model.specs.declared.events.Event.{Event}
use Rattle.store_model.specs.declared.replies.Dir.{Dir}
use Rattle.store_model.specs.History.{Origin, Numbered, after}
use Rattle.store_model.specs.Lanes.{ends_claim_of, claims_of, tickets_of, dirs_of, stage_of}
use Rattle.store_model.specs.State.{State}
use Rattle.resolver.specs.declared.reply.ResolveReply.{ResolveReply}
use Rattle.resolver.specs.declared.reply.ResolveReply.TheVariants as replies
use Rattle.resolver.specs.Serving.{IsChoiceFor}
use Rattle.resolver.specs.Counting.{begins as begins_in}

-- ---- one package is asked for

-- the package is asked for by this choice
pub record IsBeginOf (path : NameAndVariant) (choice : Choice) (act : Act) : Type 0 where
  pub reply : BeginEnd
  pub seen : List LookedAt
  pub is : act ≡ acts.Begin path choice reply seen

-- or that is refused, since a write failed
pub record IsRefusedBegin (path : NameAndVariant) (act : Act) : Type 0 where
  pub broken : ℕ
  pub is : act ≡ acts.Refused (calls.Begin path) broken

-- the event asks for the package, and none of the rest asks for any
pub record AsksFirst (path : NameAndVariant) (pin : Option Root) (e : Numbered) (rest : List Numbered)
    : Type 0 where
  pub choice : Choice
  pub chosen : IsChoiceFor pin choice
  pub asks : IsBeginOf path choice e.event.act ⊎ IsRefusedBegin path e.event.act
  pub once : begins_in rest ≡ 0

abbrev pub AsksOnce : NameAndVariant → Option Root → List Numbered → Type 0
AsksOnce path pin [] = Unit {0}
AsksOnce path pin (e ∷ es) = AsksFirst path pin e es

-- ---- each grant has an end

abbrev pub is_want : Act → Bool
is_want (acts.Want ticket reply) = true
is_want act = false

abbrev pub grant_of : Act → Option Root
grant_of (acts.Want ticket (wants.Fetch root)) = Some root
grant_of act = None

abbrev pub IsEndOr : Option Root → Root → Type 0 → Type 0
IsEndOr (Some ended) root Later = ended ≡ root
IsEndOr None root Later = Later

-- The first of the events that ends a claim ends this one, and before it nothing is asked for.
abbrev pub IsEndedIn : Root → List Numbered → Type 0
IsEndedIn root [] = ⊥
IsEndedIn root (e ∷ es) =
    IsEndOr (ends_claim_of e.event) root ((is_want e.event.act ≡ false) × IsEndedIn root es)

-- each claim that is granted is ended so
abbrev pub AreEnded : List Numbered → Type 0
AreEnded [] = Unit {0}
AreEnded (e ∷ es) = IfSome (grant_of e.event.act) (λ root. IsEndedIn root es) × AreEnded es

-- ---- the last event

pub record IsAnsweredBegin (reply : BeginEnd) (e : Numbered) : Type 0 where
  pub path : NameAndVariant
  pub choice : Choice
  pub seen : List LookedAt
  pub is : e.event.act ≡ acts.Begin path choice reply seen

abbrev pub IsGivenUp : Act → Type 0
IsGivenUp act = (ticket : ℕ) × (act ≡ acts.GaveUp ticket)

abbrev pub IsRefusal : ℕ → Act → Type 0
IsRefusal broken act = (call : CallName) × (act ≡ acts.Refused call broken)

-- the event that tells the reply; of want of memory, and of a write that failed under a claim, a ticket that is
-- given up
abbrev pub Tells : ResolveReply → Numbered → Type 0
Tells (replies.Resolved dir) e =
    (dir.number ≡ e.number) × ((ticket : ℕ) × (e.event.act ≡ acts.Want ticket wants.Opened))
Tells (replies.Failed cause) e = (ticket : ℕ) × (e.event.act ≡ acts.Want ticket (wants.Failed cause))
Tells replies.InRecovery e = IsAnsweredBegin begins.InRecovery e
Tells replies.NotFound e = IsAnsweredBegin begins.NotFound e
Tells replies.ListingFault e = IsAnsweredBegin begins.ListingFault e
Tells replies.DiskRead e = IsAnsweredBegin begins.DiskRead e
Tells (replies.Rotten root got) e = IsAnsweredBegin (begins.Rotten root got) e
Tells (replies.Broken number) e = IsRefusal number e.event.act ⊎ IsGivenUp e.event.act
Tells replies.NoMemory e = IsGivenUp e.event.act

-- the last event tells the reply; without an event it is want of memory
abbrev pub EndsAs : ResolveReply → List Numbered → Type 0
EndsAs reply [] = reply ≡ replies.NoMemory
EndsAs reply (e ∷ []) = Tells reply e
EndsAs reply (e ∷ es) = EndsAs reply es

-- ---- the root that is asked for

-- a ticket is of the root that the choice gives in the state
abbrev pub IsOfChoice : State → NameAndVariant → Choice → BeginEnd → Type 0
IsOfChoice s path choice (begins.Ticket root) = root_chosen s.base s.cached path choice ≡ Some root
IsOfChoice s path choice reply = Unit {0}

-- The event stands in the history, as its number says, and asks for the package with this answer. A ticket is of the
-- root that the choice gives in the state before it.
pub record IsAskedIn (origin : Origin) (history : List Event) (path : NameAndVariant) (pin : Option Root)
    (reply : BeginEnd) (e : Numbered) : Type 0 where
  pub first : List Event
  pub later : List Event
  pub place : history ≡ first ++ e.event ∷ later
  pub number : e.number ≡ length first + 1
  pub choice : Choice
  pub chosen : IsChoiceFor pin choice
  pub seen : List LookedAt
  pub is : e.event.act ≡ acts.Begin path choice reply seen
  pub root : IsOfChoice (after origin first) path choice reply

-- so the event asks for the package, or that is refused, and none of the rest asks for any
pub record AsksFirstIn (origin : Origin) (history : List Event) (path : NameAndVariant) (pin : Option Root)
    (e : Numbered) (rest : List Numbered) : Type 0 where
  pub asks : ((reply : BeginEnd) × IsAskedIn origin history path pin reply e) ⊎ IsRefusedBegin path e.event.act
  pub once : begins_in rest ≡ 0

abbrev pub AsksOnceIn : Origin → List Event → NameAndVariant → Option Root → List Numbered → Type 0
AsksOnceIn origin history path pin [] = Unit {0}
AsksOnceIn origin history path pin (e ∷ es) = AsksFirstIn origin history path pin e es

abbrev pub OfFirst : (Numbered → Type 0) → List Numbered → Type 0
OfFirst P [] = ⊥
OfFirst P (e ∷ es) = P e

-- the run got a ticket, and the directory is the lane's, of the ticket's root
pub record OpensTicket (origin : Origin) (history : List Event) (lane : ℕ) (path : NameAndVariant) (pin : Option Root)
    (run : List Numbered) (dir : Dir) : Type 0 where
  pub root : Root
  pub asked : OfFirst (IsAskedIn origin history path pin (begins.Ticket root)) run
  pub opened : Contains (dirs_of lane (after origin history)) (record { number = dir.number; lane = lane; root = root })

-- ---- what is left

-- the lane's directories, with the one that is replied, of some package
abbrev pub HasDirsAfter : ℕ → ResolveReply → List DirEntry → List DirEntry → Type 0
HasDirsAfter lane (replies.Resolved dir) old new =
    (root : Root) × (new ≡ old ++ record { number = dir.number; lane = lane; root = root } ∷ [])
HasDirsAfter lane reply old new = new ≡ old

-- In both states the lane has the same claims, tickets and update, and in the later one of directories only the one
-- that is replied more.
pub record LeavesNothing (lane : ℕ) (reply : ResolveReply) (old new : State) : Type 0 where
  pub claims : claims_of lane new ≡ claims_of lane old
  pub tickets : tickets_of lane new ≡ tickets_of lane old
  pub stage : stage_of lane new ≡ stage_of lane old
  pub dirs : HasDirsAfter lane reply (dirs_of lane old) (dirs_of lane new)

-- the lane has no claim, no ticket and no update
pub record IsIdleIn (lane : ℕ) (s : State) : Type 0 where
  pub claims : claims_of lane s ≡ []
  pub tickets : tickets_of lane s ≡ []
  pub stage : stage_of lane s ≡ None
