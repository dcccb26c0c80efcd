-- The root of the ticket of a run, and that of the directory that is replied.
use Rattle.std.proofs.Common.{inl, inr, ◌≡◌, ◌⊎◌, ℕ, ◌+◌, ◌<◌, Bool, true, false, List, [], ◌∷◌, ◌++◌, length, map, All, Option, Some, None, refl, sym, ap, subst, ◌∙◌, arith}
use Rattle.std.specs.Prelude.{◌==◌, filter, Contains, if◌then◌else◌}
use Rattle.std.proofs.lemmas.Bool.{cases_Bool, eqb-true, ne_eqb}
use Rattle.std.proofs.lemmas.List.Elements.{All-nil, All-cons, All-head, All-tail, All-map, All-filter, All-same, All-weaker, Contains-push}
use Rattle.package_indexes.specs.declared.Choice.{Choice}
use Rattle.package_indexes.specs.declared.Choice.TheVariants as choices
use Rattle.pkg_names.specs.NameAndVariant.{NameAndVariant}
use Rattle.pkg_names.specs.declared.root.Root.{Root}
use Rattle.open_tracker.specs.declared.dirs.DirEntry.{DirEntry}
use Rattle.store_model.specs.declared.ends.Miss.{Miss}
use Rattle.store_model.specs.declared.ends.Miss.TheVariants as misses
use Rattle.store_model.specs.declared.ends.BeginEnd.{BeginEnd}
use Rattle.store_model.specs.declared.ends.BeginEnd.TheVariants as begins_
use Rattle.store_model.specs.declared.ends.WantEnd.TheVariants as wants
use Rattle.store_model.specs.declared.events.Act.{Act}
use Rattle.store_model.specs.declared.events.Act.TheVariants as acts
use Rattle.store_model.specs.declared.events.Event.{Event}
use Rattle.store_model.specs.declared.events.LookedAt.{LookedAt}
use Rattle.store_model.specs.declared.replies.Dir.{Dir}
use Rattle.store_model.specs.declared.replies.Ticket.{Ticket}
use Rattle.store_model.specs.declared.replies.BeginReply.{BeginReply}
use Rattle.store_model.specs.declared.replies.BeginReply.TheVariants as begin
use Rattle.store_model.specs.declared.replies.WantReply.{WantReply}
use Rattle.store_model.specs.declared.replies.WantReply.TheVariants as want
use Rattle.store_model.specs.declared.replies.RoomReply.{RoomReply}
use Rattle.store_model.specs.declared.replies.RoomReply.TheVariants as room
use Rattle.store_model.specs.declared.replies.PutReply.{PutReply}
use Rattle.store_model.specs.declared.replies.PutReply.TheVariants as put
use Rattle.store_model.specs.declared.replies.LandReply.{LandReply}
use Rattle.store_model.specs.declared.replies.LandReply.TheVariants as land
use Rattle.store_model.specs.State.{State, Arrival}
use Rattle.store_model.specs.Step.{IsDue, IsActDue, IsActDueIf, step}
use Rattle.store_model.specs.Acts.Begin.{ticket_for as begun_for}
use Rattle.store_model.specs.History.{Origin, start, IsLegalFrom, IsLegal, after_from, after, Numbered, of_lane_from, of_lane}
use Rattle.store_model.specs.Holding.{HeldTicket, Held, ticket_with, dir_of, held_after_event, held_from, held, nothing_held}
use Rattle.store_model.specs.Held.{ticket_in}
use Rattle.store_model.specs.Lanes.{tickets_of, dirs_of, unmarked}
use Rattle.store_model.specs.Replies.{Acts, IsBegun, IsWanted, IsRoom, IsPut, IsLanded, IsMissed}
use Rattle.store_model.proofs.Holding.{holds_as_state}
use Rattle.store_model.proofs.Histories.{front_is_legal}
use Rattle.store_model.proofs.LanesOnce.{stand_once}
use Rattle.resolver.specs.declared.reply.ResolveReply.{ResolveReply}
use Rattle.resolver.specs.declared.reply.ResolveReply.TheVariants as replies
use Rattle.resolver.specs.Serving.{Point, IsChoiceFor, ticket_for, after_begin, after_want, after_room, after_put, after_land, after_miss, Follows, Leads, reply_at, Serves}
use Rattle.resolver.specs.Serving.Point.{Asking, Waiting, Granted, Roomy, Giving, Opened, Refused}
use Rattle.resolver.specs.Laws.{IsRefusedBegin, IsOfChoice, IsAskedIn, AsksOnceIn, OpensTicket}
use Rattle.resolver.proofs.Runs.{asks_once}
use Rattle.resolver.proofs.Handles.{found_last}

-- ---- where an event of the lane stands

record Stands (lane starts : ℕ) (history : List Event) (before : List Numbered) (e : Numbered) : Type 0 where
  first : List Event
  later : List Event
  place : history ≡ first ++ e.event ∷ later
  number : e.number ≡ length first + starts
  mine : of_lane_from lane starts first ≡ before

abbrev numbered : ℕ → Event → Numbered
numbered number e = record { number = number; event = e }

same_cons : {A : Type 0} (x y : A) (xs ys : List A) → x ∷ xs ≡ y ∷ ys → (x ≡ y) × (xs ≡ ys)
same_cons x y xs ys is = (let h : x ∷ xs ≡ y ∷ ys = is in cc, let h : x ∷ xs ≡ y ∷ ys = is in cc)

module _ (lane number : ℕ) (x : Event) (xs : List Event) (e : Numbered) (es : List Numbered) where
  stands_others : (before : List Numbered) → (x.lane == lane) ≡ false → Stands lane (number + 1) xs before e → Stands lane number (x ∷ xs) before e
  stands_others before other s = record {
    first = x ∷ s.first;
    later = s.later;
    place = ap (λ (es : List Event). x ∷ es) s.place;
    number = s.number ∙ omega arith;
    mine = rw other s.mine;
  }

  stands_own : (before : List Numbered) → (x.lane == lane) ≡ true → ((behind : List Numbered) → of_lane_from lane (number + 1) xs ≡ behind ++ e ∷ es → Stands lane (number + 1) xs behind e)
      → numbered number x ∷ of_lane_from lane (number + 1) xs ≡ before ++ e ∷ es → Stands lane number (x ∷ xs) before e
  stands_own [] own later is =
      let same = (same_cons (numbered number x) e (of_lane_from lane (number + 1) xs) es is).0 in record {
        first = [];
        later = xs;
        place = ap (λ (n : Numbered). n.event ∷ xs) same;
        number = ap (λ (n : Numbered). n.number) (sym same) ∙ omega arith;
        mine = refl;
      }
  stands_own (b ∷ bs) own later is =
      let same = same_cons (numbered number x) b (of_lane_from lane (number + 1) xs) (bs ++ e ∷ es) is in
      let s = later bs same.1 in record {
        first = x ∷ s.first;
        later = s.later;
        place = ap (λ (es : List Event). x ∷ es) s.place;
        number = s.number ∙ omega arith;
        mine = rw own (ap (λ (n : Numbered). n ∷ of_lane_from lane (number + 1) s.first) same.0 ∙ ap (λ (ns : List Numbered). b ∷ ns) s.mine);
      }

stands : (lane number : ℕ) (history : List Event) (before : List Numbered) (e : Numbered) (es : List Numbered) → of_lane_from lane number history ≡ before ++ e ∷ es → Stands lane number history before e
stands lane number [] [] e es is = absurd (let h : [] ≡ e ∷ es = is in cc)
stands lane number [] (b ∷ bs) e es is = absurd (let h : [] ≡ b ∷ (bs ++ e ∷ es) = is in cc)
stands lane number (x ∷ xs) before e es is = elim (cases_Bool (x.lane == lane)) [
  | inl own ↦
      let here : numbered number x ∷ of_lane_from lane (number + 1) xs ≡ before ++ e ∷ es = rw own at is in
      stands_own lane number x xs e es before own (λ behind. stands lane (number + 1) xs behind e es) here
  | inr other ↦
      let here : of_lane_from lane (number + 1) xs ≡ before ++ e ∷ es = rw other at is in
      stands_others lane number x xs e es before other (stands lane (number + 1) xs before e es here)
]

due_from : (s : State) (number : ℕ) (history : List Event) (e : Event) (later : List Event) → IsLegalFrom s number (history ++ e ∷ later) → IsDue (after_from s number history) (length history + number) e
due_from s number [] e later legal = subst (λ (n : ℕ). IsDue s n e) (omega arith) legal.0
due_from s number (x ∷ history) e later legal =
    let rest = due_from (step s number x) (number + 1) history e later legal.1 in
    subst (λ (n : ℕ). IsDue (after_from s number (x ∷ history)) n e) (omega arith) rest

-- ---- the first event

ticket_chosen : (recovery : Bool) (choice : Choice) (o : Option Root) (root : Root) → begins_.Ticket root ≡ (if recovery then begins_.InRecovery else begun_for choice o) → o ≡ Some root
ticket_chosen true choice o root is = absurd (let h : begins_.Ticket root ≡ begins_.InRecovery = is in cc)
ticket_chosen false choice (Some r) root is = let h : begins_.Ticket root ≡ begins_.Ticket r = is in cc
ticket_chosen false choices.Failed None root is = absurd (let h : begins_.Ticket root ≡ begins_.ListingFault = is in cc)
ticket_chosen false (choices.Pinned r) None root is = absurd (let h : begins_.Ticket root ≡ begins_.NotFound = is in cc)
ticket_chosen false (choices.Listed r) None root is = absurd (let h : begins_.Ticket root ≡ begins_.NotFound = is in cc)
ticket_chosen false choices.Absent None root is = absurd (let h : begins_.Ticket root ≡ begins_.NotFound = is in cc)

module _ (origin : Origin) (history : List Event) (lane : ℕ) (before : List Numbered) (path : NameAndVariant) (pin : Option Root) (choice : Choice) (chosen_by : IsChoiceFor pin choice) (e : Numbered) (legal : IsLegal origin history) (s : Stands lane 1 history before e) where
  asked_by : (end : BeginEnd) (looks : (seen : List LookedAt) × Acts (acts.Begin path choice end seen) e.event) → IsOfChoice (after origin s.first) path choice end → IsAskedIn origin history path pin end e
  asked_by end looks root = record {
    first = s.first;
    later = s.later;
    place = s.place;
    number = s.number;
    choice = choice;
    chosen = chosen_by;
    seen = looks.0;
    is = looks.1.0;
    root = root;
  }

  ticket_asked : (root : Root) (looks : (seen : List LookedAt) × Acts (acts.Begin path choice (begins_.Ticket root) seen) e.event) → IsAskedIn origin history path pin (begins_.Ticket root) e
  ticket_asked root looks =
      let due = due_from (start origin) 1 s.first e.event s.later (subst (IsLegal origin) s.place legal) in
      let acted : IsActDueIf false (after origin s.first) (length s.first + 1) e.event.lane e.event.act =
      subst (λ (b : Bool). IsActDueIf b (after origin s.first) (length s.first + 1) e.event.lane e.event.act) looks.1.1 due.due in
      let begun : IsActDue (after origin s.first) e.event.lane (acts.Begin path choice (begins_.Ticket root) looks.0) = subst (IsActDue (after origin s.first) e.event.lane) looks.1.0 acted in
      asked_by (begins_.Ticket root) looks (ticket_chosen _ choice _ root begun)

  asked : (reply : BeginReply) → IsBegun path choice reply e.number e.event → ((reply : BeginEnd) × IsAskedIn origin history path pin reply e) ⊎ IsRefusedBegin path e.event.act
  asked (begin.Made ticket) is = inl (begins_.Ticket ticket.root, ticket_asked ticket.root is.1)
  asked begin.InRecovery is = inl (begins_.InRecovery, asked_by begins_.InRecovery is tt)
  asked begin.NotFound is = inl (begins_.NotFound, asked_by begins_.NotFound is tt)
  asked begin.ListingFault is = inl (begins_.ListingFault, asked_by begins_.ListingFault is tt)
  asked begin.DiskRead is = inl (begins_.DiskRead, asked_by begins_.DiskRead is tt)
  asked (begin.Rotten root got) is = inl (begins_.Rotten root got, asked_by (begins_.Rotten root got) is tt)
  asked (begin.Broken broken) is = inr (record { broken = broken; is = is.0 })
  asked begin.NoMemory is = absurd is

pub asks_by_choice : (origin : Origin) (history : List Event) (lane : ℕ) (before run : List Numbered) (path : NameAndVariant) (pin : Option Root) (reply : ResolveReply) → IsLegal origin history
    → of_lane lane history ≡ before ++ run → Serves path pin run reply → AsksOnceIn origin history path pin run
asks_by_choice origin history lane before [] path pin reply legal is serves = tt
asks_by_choice origin history lane before (e ∷ es) path pin reply legal is serves =
    let b = serves.leads.1 in record {
      asks = asked origin history lane before path pin b.choice b.chosen e legal (stands lane 1 history before e es is) b.reply b.event;
      once = (asks_once path pin (e ∷ es) reply serves).once;
    }

-- ---- what the lane holds on the way

abbrev IsNoDir : ResolveReply → Type 0
IsNoDir (replies.Resolved dir) = ⊥
IsNoDir reply = Unit {0}

-- The ticket is held, under its number; then the directory is there, of the ticket's root.
abbrev HasIt : HeldTicket → ℕ → Point → Held → Type 0
HasIt t lane (Asking path pin) h = ⊥
HasIt t lane (Waiting u) h = (u ≡ t) × (ticket_with h.tickets t.number ≡ Some t)
HasIt t lane (Granted u root) h = (u ≡ t) × (ticket_with h.tickets t.number ≡ Some t)
HasIt t lane (Roomy u root len) h = (u ≡ t) × (ticket_with h.tickets t.number ≡ Some t)
HasIt t lane (Giving u reply) h = IsNoDir reply
HasIt t lane (Opened root dir) h = Contains h.dirs (record { number = dir.number; lane = lane; root = t.root })
HasIt t lane (Refused reply) h = IsNoDir reply

abbrev with_act : Event → Act → Bool → Event
with_act e act broke = record e { act = act; broke = broke }

abbrev entry : ℕ → ℕ → Root → DirEntry
entry number lane root = record { number = number; lane = lane; root = root }

module _ (t : HeldTicket) (lane : ℕ) (h : Held) (number : ℕ) (e : Event) (own : e.lane ≡ lane) where
  by_act : (to : Point) (act : Act) (broke : Bool) → e.act ≡ act → e.broke ≡ broke → HasIt t lane to (held_after_event h number (with_act e act broke)) → HasIt t lane to (held_after_event h number e)
  by_act to act broke is how has =
      subst (λ (a : Act). HasIt t lane to (held_after_event h number (with_act e a e.broke))) (sym is) (subst (λ (b : Bool). HasIt t lane to (held_after_event h number (with_act e act b))) (sym how) has)

  new_dir : (dirs : List DirEntry) (o : Option HeldTicket) (dir : Dir) → dir.number ≡ number → o ≡ Some t → Contains (dirs ++ dir_of number e.lane o) (entry dir.number lane t.root)
  new_dir dirs o dir is found =
      subst (λ (o : Option HeldTicket). Contains (dirs ++ dir_of number e.lane o) (entry dir.number lane t.root)) (sym found)
      (subst (λ (n : ℕ). Contains (dirs ++ entry n e.lane t.root ∷ []) (entry dir.number lane t.root)) is
      (subst (λ (l : ℕ). Contains (dirs ++ entry dir.number l t.root ∷ []) (entry dir.number lane t.root)) (sym own)
      (Contains-push dirs (entry dir.number lane t.root))))

  wanted : (u : HeldTicket) (reply : WantReply) → HasIt t lane (Waiting u) h → IsWanted u.number reply number e → HasIt t lane (after_want u reply) (held_after_event h number e)
  wanted u (want.Failed cause) has is = tt
  wanted u (want.Opened dir) has is =
      by_act (Opened u.root dir) (acts.Want u.number wants.Opened) false is.1.0 is.1.1
      (new_dir h.dirs (ticket_with h.tickets u.number) dir is.0 (subst (λ (x : HeldTicket). ticket_with h.tickets x.number ≡ Some t) (sym has.0) has.1))
  wanted u (want.Fetch back claim) has is = by_act (Granted u claim.root) (acts.Want u.number (wants.Fetch claim.root)) false is.0 is.1 has
  wanted u (want.NotYet back bell) has is = absurd is
  wanted u (want.Broken broken) has is = tt
  wanted u (want.NoMemory back) has is = absurd is

  roomed : (u : HeldTicket) (root : Root) (len : ℕ) (reply : RoomReply) → HasIt t lane (Granted u root) h → IsRoom root len reply number e → HasIt t lane (after_room u root len reply) (held_after_event h number e)
  roomed u root len (room.Made back) has is = by_act (Roomy u root len) (acts.Room root len None) false is.0 is.1 has
  roomed u root len (room.Ended end) has is = by_act (Waiting u) (acts.Room root len (Some end)) false is.0 is.1 has
  roomed u root len (room.Broken broken) has is = tt
  roomed u root len (room.NoMemory back) has is = absurd is

  was_put : (u : HeldTicket) (root : Root) (len : ℕ) (reply : PutReply) → HasIt t lane (Roomy u root len) h → IsPut root reply number e → HasIt t lane (after_put u root len reply) (held_after_event h number e)
  was_put u root len (put.Taken back) has is = absurd is
  was_put u root len (put.Ended end) has is = by_act (Waiting u) (acts.Put root (Some end)) false is.0 is.1 has
  was_put u root len (put.Broken broken) has is = tt

  landed : (u : HeldTicket) (root : Root) (len : ℕ) (reply : LandReply) → HasIt t lane (Roomy u root len) h → IsLanded root len reply number e → HasIt t lane (after_land u root len reply) (held_after_event h number e)
  landed u root len land.Landed has is = by_act (Waiting u) (acts.Land root len None is.0) false is.1.0 is.1.1 has
  landed u root len (land.Ended end) has is = by_act (Waiting u) (acts.Land root len (Some end) []) false is.0 is.1 has
  landed u root len (land.Broken broken) has is = tt
  landed u root len (land.NoMemory back) has is = absurd is

  missed : (u : HeldTicket) (root : Root) (why : Miss) → (u ≡ t) × (ticket_with h.tickets t.number ≡ Some t) → IsMissed root why number e → HasIt t lane (after_miss u why) (held_after_event h number e)
  missed u root misses.Absent has is = by_act (Waiting u) (acts.Missed root misses.Absent) false is.0 is.1 has
  missed u root misses.Read has is = by_act (Waiting u) (acts.Missed root misses.Read) false is.0 is.1 has
  missed u root misses.Memory has is = tt

  there : (to at : Point) → to ≡ at → HasIt t lane at (held_after_event h number e) → HasIt t lane to (held_after_event h number e)
  there to at is has = subst (λ (p : Point). HasIt t lane p (held_after_event h number e)) (sym is) has

  has_then : (from to : Point) → HasIt t lane from h → Follows from number e to → HasIt t lane to (held_after_event h number e)
  has_then (Asking path pin) to has follows = absurd has
  has_then (Waiting u) to has follows = elim follows [
    | inl w ↦ there to _ w.leads (wanted u w.reply has w.event)
    | inr g ↦ there to _ g.leads tt
  ]
  has_then (Granted u root) to has follows = elim follows [
    | inl r ↦ there to _ r.leads (roomed u root r.len r.reply has r.event)
    | inr m ↦ there to _ m.leads (missed u root m.why has m.event)
  ]
  has_then (Roomy u root len) to has follows = elim follows [
    | inl p ↦ there to _ p.leads (was_put u root len p.reply has p.event)
    | inr rest ↦ elim rest [
      | inl l ↦ there to _ l.leads (landed u root len l.reply has l.event)
      | inr m ↦ there to _ m.leads (missed u root m.why has m.event)
    ]
  ]
  has_then (Giving u reply) to has follows = there to (Refused reply) follows.leads has
  has_then (Opened root dir) to has follows = absurd follows
  has_then (Refused reply) to has follows = absurd follows

-- ---- whole runs

abbrev IsOwn : ℕ → Numbered → Type 0
IsOwn lane e = e.event.lane ≡ lane

all_own : (lane number : ℕ) (history : List Event) → All (IsOwn lane) (of_lane_from lane number history)
all_own lane number [] = All-nil (IsOwn lane)
all_own lane number (x ∷ xs) = elim (cases_Bool (x.lane == lane)) [
  | inl own ↦ rw own (All-cons (IsOwn lane) (numbered number x) (of_lane_from lane (number + 1) xs) (eqb-true x.lane lane own) (all_own lane (number + 1) xs))
  | inr other ↦ rw other (all_own lane (number + 1) xs)
]

all_behind : {A : Type 0} (P : A → Type 0) (xs ys : List A) → All P (xs ++ ys) → All P ys
all_behind P [] ys all = all
all_behind P (x ∷ xs) ys all = all_behind P xs ys (All-tail P x (xs ++ ys) all)

held_then : (h : Held) (xs ys : List Numbered) → held_from h (xs ++ ys) ≡ held_from (held_from h xs) ys
held_then h [] ys = refl
held_then h (x ∷ xs) ys = held_then (held_after_event h x.number x.event) xs ys

has_along : (t : HeldTicket) (lane : ℕ) (from to : Point) (h : Held) (run : List Numbered) → All (IsOwn lane) run → HasIt t lane from h → Leads from run to → HasIt t lane to (held_from h run)
has_along t lane from to h [] own has leads = subst (λ (p : Point). HasIt t lane p h) leads has
has_along t lane from to h (e ∷ es) own has leads =
    has_along t lane leads.0 to (held_after_event h e.number e.event) es (All-tail (IsOwn lane) e es own)
    (has_then t lane h e.number e.event (All-head (IsOwn lane) e es own) from leads.0 has leads.1) leads.2

same_some : (a b : ResolveReply) → ◌≡◌ {A = Option ResolveReply} (Some a) (Some b) → a ≡ b
same_some a b is = let h : Some a ≡ Some b = is in cc

no_dir : (P : Type 0) (reply : ResolveReply) (dir : Dir) → IsNoDir reply → ◌≡◌ {A = Option ResolveReply} (Some reply) (Some (replies.Resolved dir)) → P
no_dir P reply dir none is = absurd (subst IsNoDir (same_some reply (replies.Resolved dir) is) none)

none_some : (P : Type 0) (reply : ResolveReply) → ◌≡◌ {A = Option ResolveReply} None (Some reply) → P
none_some P reply is = absurd (let h : None ≡ Some reply = is in cc)

same_dir : (a b : Dir) → replies.Resolved a ≡ replies.Resolved b → a ≡ b
same_dir a b is = let h : replies.Resolved a ≡ replies.Resolved b = is in cc

opened_at : (t : HeldTicket) (lane : ℕ) (p : Point) (h : Held) (dir : Dir) → HasIt t lane p h → reply_at p ≡ Some (replies.Resolved dir) → Contains h.dirs (entry dir.number lane t.root)
opened_at t lane (Asking path pin) h dir has is = absurd has
opened_at t lane (Waiting u) h dir has is = none_some _ (replies.Resolved dir) is
opened_at t lane (Granted u root) h dir has is = none_some _ (replies.Resolved dir) is
opened_at t lane (Roomy u root len) h dir has is = none_some _ (replies.Resolved dir) is
opened_at t lane (Giving u reply) h dir has is = none_some _ (replies.Resolved dir) is
opened_at t lane (Opened root d) h dir has is =
    subst (λ (x : Dir). Contains h.dirs (entry x.number lane t.root)) (same_dir d dir (same_some (replies.Resolved d) (replies.Resolved dir) is)) has
opened_at t lane (Refused reply) h dir has is = no_dir _ reply dir has is

stuck : (reply : ResolveReply) (from to : Point) (run : List Numbered) (dir : Dir) → IsNoDir reply → from ≡ Refused reply → Leads from run to → reply_at to ≡ Some (replies.Resolved dir) → ⊥
stuck reply from to [] dir none is leads replied = no_dir ⊥ reply dir none (ap reply_at (sym is ∙ leads) ∙ replied)
stuck reply from to (e ∷ es) dir none is leads replied = subst (λ (p : Point). Follows p e.number e.event leads.0) is leads.1

-- ---- the first event makes the ticket

module _ (origin : Origin) (history : List Event) (lane : ℕ) (before : List Numbered) (e : Numbered) (legal : IsLegal origin history) (s : Stands lane 1 history before e) (own : e.event.lane ≡ lane) where
  first_legal : IsLegal origin s.first
  first_legal = front_is_legal origin s.first (e.event ∷ s.later) (subst (IsLegal origin) s.place legal)

  tickets_below : All (λ (t : HeldTicket). t.number < length s.first + 1) (held before).tickets
  tickets_below =
      let now = after origin s.first in
      let P = λ (t : HeldTicket). t.number < length s.first + 1 in
      let once = stand_once origin s.first first_legal in
      let same = ap (λ (es : List Numbered). (held es).tickets) (sym s.mine) ∙ (holds_as_state origin s.first lane first_legal).tickets in
      All-same P (held before).tickets (map ticket_in (tickets_of lane now)) same
      (All-map P ticket_in (tickets_of lane now) (All-map (λ (a : Arrival). P (ticket_in a)) unmarked (filter (λ (a : Arrival). a.lane == lane) now.arriving)
      (All-filter (λ (a : Arrival). a.lane == lane) (λ (a : Arrival). a.ticket < length s.first + 1) now.arriving once.tickets.before)))

  made : (path : NameAndVariant) (choice : Choice) (ticket : Ticket) → IsBegun path choice (begin.Made ticket) e.number e.event
      → HasIt (ticket_for path ticket) lane (Waiting (ticket_for path ticket)) (held_after_event (held before) e.number e.event)
  made path choice ticket is =
      let t = ticket_for path ticket in
      let others : All (λ (x : HeldTicket). (x.number == ticket.number) ≡ false) (held before).tickets =
      All-weaker (λ (x : HeldTicket). x.number < length s.first + 1) (λ (x : HeldTicket). (x.number == ticket.number) ≡ false)
      (λ x lt. ne_eqb x.number ticket.number (apart x.number ticket.number (length s.first + 1) lt (is.0 ∙ s.number))) (held before).tickets tickets_below in
      by_act t lane (held before) e.number e.event own (Waiting t) (acts.Begin path choice (begins_.Ticket ticket.root) is.1.0) false is.1.1.0 is.1.1.1 (
        refl,
        subst (λ (n : ℕ). ticket_with ((held before).tickets ++ record { number = n; path = path; root = ticket.root } ∷ []) ticket.number ≡ Some t) is.0
            (found_last ticket.number t (held before).tickets refl others),
      ) where
        apart : (a b next : ℕ) → a < next → b ≡ next → a ≡ b → ⊥
        apart a b next lt same is = omega arith

module _ (origin : Origin) (history : List Event) (lane : ℕ) (before : List Numbered) (e : Numbered) (es : List Numbered) (legal : IsLegal origin history) (is : of_lane lane history ≡ before ++ e ∷ es) (path : NameAndVariant) (pin : Option Root) (dir : Dir) where
  refused : (choice : Choice) (reply : BeginReply) (answer : ResolveReply) (from to : Point) → IsNoDir answer → from ≡ Refused answer → Leads from es to → reply_at to ≡ Some (replies.Resolved dir) → OpensTicket origin history lane path pin (e ∷ es) dir
  refused choice reply answer from to none at leads replied = absurd (stuck answer from to es dir none at leads replied)

  opens_by : (choice : Choice) (reply : BeginReply) (from to : Point) → IsChoiceFor pin choice → IsBegun path choice reply e.number e.event → from ≡ after_begin path pin reply → Leads from es to
      → reply_at to ≡ Some (replies.Resolved dir) → OpensTicket origin history lane path pin (e ∷ es) dir
  opens_by choice (begin.Made ticket) from to chosen_by begun at leads replied =
      let s = stands lane 1 history before e es is in
      let own = all_behind (IsOwn lane) before (e ∷ es) (subst (All (IsOwn lane)) is (all_own lane 1 history)) in
      let t = ticket_for path ticket in
      let has = has_along t lane from to (held_after_event (held before) e.number e.event) es (All-tail (IsOwn lane) e es own)
      (subst (λ (p : Point). HasIt t lane p (held_after_event (held before) e.number e.event)) (sym at) (made origin history lane before e legal s (All-head (IsOwn lane) e es own) path choice ticket begun)) leads in
      let same : (held_from (held_after_event (held before) e.number e.event) es).dirs ≡ dirs_of lane (after origin history) =
      ap (λ (h : Held). h.dirs) (sym (held_then nothing_held before (e ∷ es))) ∙ ap (λ (ns : List Numbered). (held ns).dirs) (sym is) ∙ (holds_as_state origin history lane legal).dirs in
      record {
        root = ticket.root;
        asked = ticket_asked origin history lane before path pin choice chosen_by e legal s ticket.root begun.1;
        opened = subst (λ (ds : List DirEntry). Contains ds (entry dir.number lane ticket.root)) same (opened_at t lane to _ dir has replied);
      }
  opens_by choice begin.InRecovery from to chosen_by begun at leads replied = refused choice begin.InRecovery replies.InRecovery from to tt at leads replied
  opens_by choice begin.NotFound from to chosen_by begun at leads replied = refused choice begin.NotFound replies.NotFound from to tt at leads replied
  opens_by choice begin.ListingFault from to chosen_by begun at leads replied = refused choice begin.ListingFault replies.ListingFault from to tt at leads replied
  opens_by choice begin.DiskRead from to chosen_by begun at leads replied = refused choice begin.DiskRead replies.DiskRead from to tt at leads replied
  opens_by choice (begin.Rotten root got) from to chosen_by begun at leads replied = refused choice (begin.Rotten root got) (replies.Rotten root got) from to tt at leads replied
  opens_by choice (begin.Broken broken) from to chosen_by begun at leads replied = refused choice (begin.Broken broken) (replies.Broken broken) from to tt at leads replied
  opens_by choice begin.NoMemory from to chosen_by begun at leads replied = absurd begun

pub opens_ticket : (origin : Origin) (history : List Event) (lane : ℕ) (before run : List Numbered) (path : NameAndVariant) (pin : Option Root) (dir : Dir) → IsLegal origin history
    → of_lane lane history ≡ before ++ run → Serves path pin run (replies.Resolved dir) → OpensTicket origin history lane path pin run dir
opens_ticket origin history lane before [] path pin dir legal is serves = no_dir _ replies.NoMemory dir tt (ap reply_at serves.leads ∙ serves.replied)
opens_ticket origin history lane before (e ∷ es) path pin dir legal is serves =
    let b = serves.leads.1 in
    opens_by origin history lane before e es legal is path pin dir b.choice b.reply serves.leads.0 serves.point b.chosen b.event b.leads serves.leads.2 serves.replied
