-- How the events of a lane serve its requests: one run a request, in order.
use Rattle.std.specs.Prelude.{◌≡◌, ◌≢◌, ℕ, ◌==◌, List, [], ◌∷◌, ◌++◌, length, map, filter, Result, Ok, Err}
use Rattle.package_url.specs.declared.url.Url.{Url}
use Rattle.script_lang.specs.declared.request.Ask.{Ask}
use Rattle.script_lang.specs.declared.request.Ask.TheVariants as asks
use Rattle.script_lang.specs.declared.request.Request.{Request}
use Rattle.store_model.specs.declared.events.Event.{Event}
use Rattle.store_model.specs.declared.replies.OpenReply.{OpenReply}
use Rattle.store_model.specs.declared.replies.OpenReply.TheVariants as opening
use Rattle.store_model.specs.Desk.{View}
use Rattle.store_model.specs.History.{Origin, Numbered}
use Rattle.store_model.specs.Replies.{IsOpened, IsRead, IsChecked, IsClosed, IsCollected, IsRetained, IsCommitted}
use Rattle.resolver.specs.declared.reply.ResolveReply.{ResolveReply}
use Rattle.resolver.specs.declared.reply.ResolveReply.TheVariants as resolves
use Rattle.resolver.specs.Serving as resolve
use Rattle.system_updater.specs.declared.reply.UpdateReply.{UpdateReply}
use Rattle.system_updater.specs.declared.reply.UpdateReply.TheVariants as updates
use Rattle.system_updater.specs.Serving as update
use Rattle.system_updater.specs.Serving.{IsOne, joined}
use Rattle.system_updater.specs.Filled.{IsFilledBy}
use Rattle.lane_server.specs.declared.names.Binding.{Binding}
use Rattle.lane_server.specs.Names.{number_under, unbound, rebound}

-- ---- the requests of a lane

-- what the lane asks for, in order
abbrev pub asks_of : ℕ → List Request → List Ask
asks_of lane requests =
    map (λ (r : Request). r.ask) (filter (λ (r : Request). r.lane == lane) requests)

-- ---- the names after a request

-- a resolve or an open that was refused leaves its name unbound
abbrev pub after_resolve : List Binding → List ℕ → ResolveReply → List Binding
after_resolve names name (resolves.Resolved dir) = rebound names name dir.number
after_resolve names name reply = unbound names name

abbrev pub after_open : List Binding → List ℕ → OpenReply → List Binding
after_open names name (opening.Opened dir) = rebound names name dir.number
after_open names name reply = unbound names name

-- ---- where a lane is served

-- the lane, and the history of its store
pub record Place : Type 0 where
  pub lane : ℕ
  pub origin : Origin
  pub history : List Event

-- as far as the lane has seen it
abbrev pub place_of : View → Place
place_of v = record { lane = v.lane; origin = v.origin; history = v.seen }

-- What an update says of the images is so of this run of the lane: between two moments the lane did just that, and what
-- it had seen at the later one is a front of the history.
pub record IsFilled (firm : Type 0) (place : Place) (run : List Numbered) (reply : UpdateReply) : Type 0 where
  pub old : View
  pub new : View
  pub mine : new.mine ≡ old.mine ++ run
  pub lane : new.lane ≡ place.lane
  pub origin : new.origin ≡ place.origin
  pub later : List Event
  pub front : place.history ≡ new.seen ++ later
  pub is : IsFilledBy firm old new reply

-- ---- one request

-- The package is resolved, to its end.
pub record IsResolved (url : Url) (after : ResolveReply → List Binding) (run : List Numbered) (later : List Binding)
    : Type 0 where
  pub reply : ResolveReply
  pub serves : resolve.Serves url.path url.pin run reply
  pub whole : reply ≢ resolves.NoMemory
  pub leads : later ≡ after reply

-- The system is updated, to its end, and the images are filled as that says. No name changes.
pub record IsUpdated (firm : Type 0) (place : Place) (url : Url) (names : List Binding) (run : List Numbered)
    (later : List Binding) : Type 0 where
  pub reply : UpdateReply
  pub serves : update.Serves url.path url.pin run reply
  pub filled : IsFilled firm place run reply
  pub whole : reply ≢ updates.NoMemory
  pub leads : later ≡ names

-- One call is made, whose event tells of its reply.
pub record IsCalled {A : Type 0} (IsIts : A → ℕ → Event → Type 0) (after : A → List Binding) (run : List Numbered)
    (later : List Binding) : Type 0 where
  pub reply : A
  pub event : IsOne (IsIts reply) run
  pub leads : later ≡ after reply

-- The run serves the request, and leads from these names to those. A name is looked up as it stands before.
abbrev pub Serves : Type 0 → Place → List Binding → Ask → List Numbered → List Binding → Type 0
Serves firm place names (asks.Resolve name url) run later = IsResolved url (after_resolve names name) run later
Serves firm place names (asks.OpenPath name path) run later = IsCalled (IsOpened path) (after_open names name) run later
Serves firm place names (asks.Cat name file) run later =
    IsCalled (IsRead (number_under names name) file) (λ reply. names) run later
Serves firm place names (asks.Check name file) run later =
    IsCalled (IsChecked (number_under names name) file) (λ reply. names) run later
Serves firm place names (asks.Close name) run later =
    IsCalled (IsClosed (number_under names name)) (λ reply. unbound names name) run later
Serves firm place names asks.Collect run later = IsCalled IsCollected (λ reply. names) run later
Serves firm place names (asks.Retain roots) run later =
    IsCalled (IsRetained roots (length roots)) (λ reply. names) run later
Serves firm place names (asks.Update url) run later = IsUpdated firm place url names run later
Serves firm place names asks.Commit run later = IsCalled IsCommitted (λ reply. names) run later

-- The run is that of the request, cut for want of memory: nothing is held of it. A call that is cut makes no event.
abbrev pub IsCut : Ask → List Numbered → Type 0
IsCut (asks.Resolve name url) run = resolve.Serves url.path url.pin run resolves.NoMemory
IsCut (asks.Update url) run = update.Serves url.path url.pin run updates.NoMemory
IsCut ask run = run ≡ []

-- ---- all requests of a lane

-- each run serves its request, from these names on
abbrev pub Leads : Type 0 → Place → List Binding → List Ask → List (List Numbered) → List Binding → Type 0
Leads firm place names [] [] later = later ≡ names
Leads firm place names (ask ∷ asks) (run ∷ runs) later =
    (next : List Binding) × Serves firm place names ask run next × Leads firm place next asks runs later
Leads firm place names asks runs later = ⊥

-- The events are a run of each request, in order. At first no name is bound.
pub record ServesAll (firm : Type 0) (place : Place) (all : List Ask) (events : List Numbered) : Type 0 where
  pub runs : List (List Numbered)
  pub later : List Binding
  pub leads : Leads firm place [] all runs later
  pub whole : events ≡ joined runs

-- The events are a run of each of the first requests, and a run of the next, which was cut.
pub record ServesFront (firm : Type 0) (place : Place) (all : List Ask) (events : List Numbered) : Type 0 where
  pub first : List Ask
  pub next : Ask
  pub rest : List Ask
  pub split : all ≡ first ++ next ∷ rest
  pub runs : List (List Numbered)
  pub later : List Binding
  pub leads : Leads firm place [] first runs later
  pub last : List Numbered
  pub cut : IsCut next last
  pub whole : events ≡ joined runs ++ last

-- all were served, or the first ones
abbrev pub ServesTo : {A E : Type 0} → Type 0 → Place → Result A E → List Ask → List Numbered → Type 0
ServesTo firm place (Ok done) all events = ServesAll firm place all events
ServesTo firm place (Err fault) all events = ServesFront firm place all events

-- one was served, or its run was cut
abbrev pub ServesOne : {A E : Type 0} → Type 0 → Place → Result A E → List Binding → Ask → List Numbered → List Binding
    → Type 0
ServesOne firm place (Ok done) names ask run later = Serves firm place names ask run later
ServesOne firm place (Err fault) names ask run later = IsCut ask run
