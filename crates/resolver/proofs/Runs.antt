-- What the steps of a run have in common, and what that makes of whole runs.
use Rattle.std.proofs.Common.{inl, inr, ◌≡◌, ◌⊎◌, ℕ, ◌+◌, Bool, true, false, cond, List, [], ◌∷◌, Option, Some, None, IfSome, refl, sym, ap, subst, ◌∙◌, arith}
use Rattle.std.specs.Prelude.{is_some}
use Rattle.std.proofs.lemmas.List.Sums.{sum_by-cons}
use Rattle.pkg_names.specs.NameAndVariant.{NameAndVariant}
use Rattle.pkg_names.specs.declared.root.Root.{Root}
use Rattle.package_indexes.specs.declared.Choice.{Choice}
use Rattle.store_model.specs.declared.ends.Miss.{Miss}
use Rattle.store_model.specs.declared.ends.Miss.TheVariants as misses
use Rattle.store_model.specs.declared.ends.BeginEnd.{BeginEnd}
use Rattle.store_model.specs.declared.ends.BeginEnd.TheVariants as begins_
use Rattle.store_model.specs.declared.ends.WantEnd.TheVariants as wants
use Rattle.store_model.specs.declared.events.Act.{Act}
use Rattle.store_model.specs.declared.events.Act.TheVariants as acts
use Rattle.store_model.specs.declared.events.CallName.TheVariants as calls
use Rattle.store_model.specs.declared.events.Event.{Event}
use Rattle.store_model.specs.declared.replies.BeginReply.{BeginReply}
use Rattle.store_model.specs.declared.replies.BeginReply.TheVariants as begin
use Rattle.store_model.specs.declared.replies.WantReply.{WantReply}
use Rattle.store_model.specs.declared.replies.WantReply.TheVariants as want
use Rattle.store_model.specs.declared.replies.RoomReply.{RoomReply}
use Rattle.store_model.specs.declared.replies.RoomReply.TheVariants as room
use Rattle.store_model.specs.declared.replies.PutReply.{PutReply}
use Rattle.store_model.specs.declared.replies.PutReply.TheVariants as put
use Rattle.store_model.specs.declared.replies.LandReply.{LandReply}
use Rattle.store_model.specs.declared.replies.LandReply.TheVariants as land
use Rattle.store_model.specs.History.{Numbered}
use Rattle.store_model.specs.Holding.{HeldTicket}
use Rattle.store_model.specs.Lanes.{ends_claim_of}
use Rattle.store_model.specs.Replies.{Acts, IsBegun, IsWanted, IsRoom, IsPut, IsLanded, IsMissed, IsGivenUp}
use Rattle.resolver.specs.declared.reply.ResolveReply.{ResolveReply}
use Rattle.resolver.specs.declared.reply.ResolveReply.TheVariants as replies
use Rattle.resolver.specs.Serving.{Point, after_begin, after_want, after_room, after_put, after_land, after_miss, Begins, Follows, Leads, reply_at, Serves}
use Rattle.resolver.specs.Serving.Point.{Asking, Waiting, Granted, Roomy, Giving, Opened, Refused}
use Rattle.resolver.specs.Counting.{is_begin, is_grant, begins, grants, ends}
use Rattle.resolver.specs.Laws.{IsBeginOf, IsRefusedBegin, AsksOnce, is_want, grant_of, IsEndOr, IsEndedIn, AreEnded, Tells, EndsAs}

-- ---- points

-- the claim that is held there
abbrev claimed : Point → Option Root
claimed (Asking path pin) = None
claimed (Waiting ticket) = None
claimed (Granted ticket root) = Some root
claimed (Roomy ticket root len) = Some root
claimed (Giving ticket reply) = None
claimed (Opened root dir) = None
claimed (Refused reply) = None

-- a ticket is given up for want of memory, or since a write failed
abbrev IsStop : ResolveReply → Type 0
IsStop (replies.Broken number) = Unit {0}
IsStop replies.NoMemory = Unit {0}
IsStop reply = ⊥

-- the package was asked for
abbrev HasBegun : Point → Type 0
HasBegun (Asking path pin) = ⊥
HasBegun (Waiting ticket) = Unit {0}
HasBegun (Granted ticket root) = Unit {0}
HasBegun (Roomy ticket root len) = Unit {0}
HasBegun (Giving ticket reply) = IsStop reply
HasBegun (Opened root dir) = Unit {0}
HasBegun (Refused reply) = Unit {0}

-- ---- steps

-- what a step makes of the claim that is held, and what it tells where it is the last one
record IsMove (from to : Point) (number : ℕ) (e : Event) : Type 0 where
  begun : HasBegun to
  begin : is_begin e.act ≡ false
  count : cond (is_some (claimed to)) 1 0 + cond (is_some (ends_claim_of e)) 1 0 ≡ cond (is_some (claimed from)) 1 0 + cond (is_grant e.act) 1 0
  ends : (root : Root) → claimed from ≡ Some root → IsEndOr (ends_claim_of e) root ((is_want e.act ≡ false) × (claimed to ≡ Some root))
  grants : IfSome (grant_of e.act) (λ root. claimed to ≡ Some root)
  tells : (reply : ResolveReply) → reply_at to ≡ Some reply → Tells reply (record { number = number; event = e })

abbrev with_act : Event → Act → Bool → Event
with_act e act broke = record e { act = act; broke = broke }

by_act : (from to : Point) (number : ℕ) (e : Event) (act : Act) (broke : Bool) → e.act ≡ act → e.broke ≡ broke → IsMove from to number (with_act e act broke) → IsMove from to number e
by_act from to number e act broke is how moves =
    subst (λ (a : Act). IsMove from to number (with_act e a e.broke)) (sym is) (subst (λ (b : Bool). IsMove from to number (with_act e act b)) (sym how) moves)

none_is_some : (P : Type 0) (root : Root) → ◌≡◌ {A = Option Root} None (Some root) → P
none_is_some P root is = absurd (let h : None ≡ Some root = is in cc)

no_reply : (P : Type 0) (reply : ResolveReply) → ◌≡◌ {A = Option ResolveReply} None (Some reply) → P
no_reply P reply is = absurd (let h : None ≡ Some reply = is in cc)

same_root : (a b : Root) → ◌≡◌ {A = Option Root} (Some a) (Some b) → a ≡ b
same_root a b is = let h : Some a ≡ Some b = is in cc

same_reply : (a b : ResolveReply) → ◌≡◌ {A = Option ResolveReply} (Some a) (Some b) → a ≡ b
same_reply a b is = let h : Some a ≡ Some b = is in cc

-- the reply is this one
told : (a : ResolveReply) (e : Numbered) → Tells a e → (reply : ResolveReply) → reply_at (Refused a) ≡ Some reply → Tells reply e
told a e tells reply is = subst (λ (r : ResolveReply). Tells r e) (same_reply a reply is) tells

-- ---- each call

wanted_moves : (ticket : HeldTicket) (reply : WantReply) (number : ℕ) (e : Event) → IsWanted ticket.number reply number e → IsMove (Waiting ticket) (after_want ticket reply) number e
wanted_moves ticket (want.Failed cause) number e is =
    by_act (Waiting ticket) (Refused (replies.Failed cause)) number e (acts.Want ticket.number (wants.Failed cause)) false is.0 is.1 (record {
      begun = tt;
      begin = refl;
      count = refl;
      ends = λ root none. none_is_some _ root none;
      grants = tt;
      tells = told (replies.Failed cause) _ (ticket.number, refl);
    })
wanted_moves ticket (want.Opened dir) number e is =
    by_act (Waiting ticket) (Opened ticket.root dir) number e (acts.Want ticket.number wants.Opened) false is.1.0 is.1.1 (record {
      begun = tt;
      begin = refl;
      count = refl;
      ends = λ root none. none_is_some _ root none;
      grants = tt;
      tells = told (replies.Resolved dir) _ (is.0, (ticket.number, refl));
    })
wanted_moves ticket (want.Fetch back claim) number e is =
    by_act (Waiting ticket) (Granted ticket claim.root) number e (acts.Want ticket.number (wants.Fetch claim.root)) false is.0 is.1 (record {
      begun = tt;
      begin = refl;
      count = refl;
      ends = λ root none. none_is_some _ root none;
      grants = refl;
      tells = λ reply none. no_reply _ reply none;
    })
wanted_moves ticket (want.NotYet back bell) number e is = absurd is
wanted_moves ticket (want.Broken broken) number e is =
    by_act (Waiting ticket) (Refused (replies.Broken broken)) number e (acts.Refused (calls.Want ticket.number) broken) false is.0 is.1 (record {
      begun = tt;
      begin = refl;
      count = refl;
      ends = λ root none. none_is_some _ root none;
      grants = tt;
      tells = told (replies.Broken broken) _ (inl (calls.Want ticket.number, refl));
    })
wanted_moves ticket (want.NoMemory back) number e is = absurd is

-- the claim is over, and the reply isn't known yet
ended_moves : (from : Point) (root : Root) (to : Point) (number : ℕ) (e : Event) (act : Act) (broke : Bool) → claimed from ≡ Some root → claimed to ≡ None → HasBegun to → reply_at to ≡ None
    → e.act ≡ act → e.broke ≡ broke → ends_claim_of (with_act e act broke) ≡ Some root → is_begin act ≡ false → is_grant act ≡ false → grant_of act ≡ None
    → IsMove from to number e
ended_moves from root to number e act broke had has begun none is how ends begin grant granted =
    by_act from to number e act broke is how (record {
      begun = begun;
      begin = begin;
      count = ap (λ (o : Option Root). cond (is_some o) 1 0 + cond (is_some (ends_claim_of (with_act e act broke))) 1 0) has ∙ ap (λ (o : Option Root). 0 + cond (is_some o) 1 0) ends ∙
          sym (ap (λ (o : Option Root). cond (is_some o) 1 0 + cond (is_grant act) 1 0) had ∙ ap (λ (b : Bool). 1 + cond b 1 0) grant);
      ends = λ other at. subst (λ (o : Option Root). IsEndOr o other ((is_want act ≡ false) × (claimed to ≡ Some other))) (sym ends) (same_root root other (sym had ∙ at));
      grants = subst (λ (o : Option Root). IfSome o (λ root. claimed to ≡ Some root)) (sym granted) tt;
      tells = λ reply at. no_reply _ reply (sym none ∙ at);
    })

room_moves : (ticket : HeldTicket) (root : Root) (len : ℕ) (reply : RoomReply) (number : ℕ) (e : Event) → IsRoom root len reply number e → IsMove (Granted ticket root) (after_room ticket root len reply) number e
room_moves ticket root len (room.Made back) number e is =
    by_act (Granted ticket root) (Roomy ticket root len) number e (acts.Room root len None) false is.0 is.1 (record {
      begun = tt;
      begin = refl;
      count = refl;
      ends = λ other at. (refl, at);
      grants = tt;
      tells = λ reply none. no_reply _ reply none;
    })
room_moves ticket root len (room.Ended end) number e is =
    ended_moves (Granted ticket root) root (Waiting ticket) number e (acts.Room root len (Some end)) false refl refl tt refl is.0 is.1 refl refl refl refl
room_moves ticket root len (room.Broken broken) number e is =
    ended_moves (Granted ticket root) root (Giving ticket (replies.Broken broken)) number e (acts.Refused (calls.Room root) broken) false refl refl tt refl is.0 is.1 refl refl refl refl
room_moves ticket root len (room.NoMemory back) number e is = absurd is

put_moves : (ticket : HeldTicket) (root : Root) (len : ℕ) (reply : PutReply) (number : ℕ) (e : Event) → IsPut root reply number e → IsMove (Roomy ticket root len) (after_put ticket root len reply) number e
put_moves ticket root len (put.Taken back) number e is = absurd is
put_moves ticket root len (put.Ended end) number e is =
    ended_moves (Roomy ticket root len) root (Waiting ticket) number e (acts.Put root (Some end)) false refl refl tt refl is.0 is.1 refl refl refl refl
put_moves ticket root len (put.Broken broken) number e is = elim is [
  | inl refused ↦ ended_moves (Roomy ticket root len) root (Giving ticket (replies.Broken broken)) number e (acts.Refused (calls.Put root) broken) false refl refl tt refl refused.0 refused.1 refl refl refl refl
  | inr failed ↦ ended_moves (Roomy ticket root len) root (Giving ticket (replies.Broken broken)) number e (acts.Put root None) true refl refl tt refl failed.1 failed.2 refl refl refl refl
]

land_moves : (ticket : HeldTicket) (root : Root) (len : ℕ) (reply : LandReply) (number : ℕ) (e : Event) → IsLanded root len reply number e → IsMove (Roomy ticket root len) (after_land ticket root len reply) number e
land_moves ticket root len land.Landed number e is =
    ended_moves (Roomy ticket root len) root (Waiting ticket) number e (acts.Land root len None is.0) false refl refl tt refl is.1.0 is.1.1 refl refl refl refl
land_moves ticket root len (land.Ended end) number e is =
    ended_moves (Roomy ticket root len) root (Waiting ticket) number e (acts.Land root len (Some end) []) false refl refl tt refl is.0 is.1 refl refl refl refl
land_moves ticket root len (land.Broken broken) number e is = elim is [
  | inl refused ↦ ended_moves (Roomy ticket root len) root (Giving ticket (replies.Broken broken)) number e (acts.Refused (calls.Land root) broken) false refl refl tt refl refused.0 refused.1 refl refl refl refl
  | inr failed ↦ ended_moves (Roomy ticket root len) root (Giving ticket (replies.Broken broken)) number e (acts.Land root len None []) true refl refl tt refl failed.1 failed.2 refl refl refl refl
]
land_moves ticket root len (land.NoMemory back) number e is = absurd is

miss_moves : (from : Point) (ticket : HeldTicket) (root : Root) (why : Miss) (number : ℕ) (e : Event) → claimed from ≡ Some root → IsMissed root why number e → IsMove from (after_miss ticket why) number e
miss_moves from ticket root misses.Absent number e had is = ended_moves from root (Waiting ticket) number e (acts.Missed root misses.Absent) false had refl tt refl is.0 is.1 refl refl refl refl
miss_moves from ticket root misses.Read number e had is = ended_moves from root (Waiting ticket) number e (acts.Missed root misses.Read) false had refl tt refl is.0 is.1 refl refl refl refl
miss_moves from ticket root misses.Memory number e had is = ended_moves from root (Giving ticket replies.NoMemory) number e (acts.Missed root misses.Memory) false had refl tt refl is.0 is.1 refl refl refl refl

given_tells : (ticket : ℕ) (reply : ResolveReply) (e : Numbered) → IsStop reply → e.event.act ≡ acts.GaveUp ticket → Tells reply e
given_tells ticket (replies.Broken broken) e stop is = inr (ticket, is)
given_tells ticket replies.NoMemory e stop is = (ticket, is)
given_tells ticket (replies.Resolved dir) e stop is = absurd stop
given_tells ticket replies.InRecovery e stop is = absurd stop
given_tells ticket replies.NotFound e stop is = absurd stop
given_tells ticket replies.ListingFault e stop is = absurd stop
given_tells ticket (replies.Failed cause) e stop is = absurd stop
given_tells ticket replies.DiskRead e stop is = absurd stop
given_tells ticket (replies.Rotten root got) e stop is = absurd stop

given_moves : (from : Point) (ticket : HeldTicket) (reply : ResolveReply) (number : ℕ) (e : Event) → claimed from ≡ None → IsStop reply → IsGivenUp ticket.number number e → IsMove from (Refused reply) number e
given_moves from ticket reply number e free stop is =
    by_act from (Refused reply) number e (acts.GaveUp ticket.number) false is.0 is.1 (record {
      begun = tt;
      begin = refl;
      count = sym (ap (λ (o : Option Root). cond (is_some o) 1 0 + 0) free);
      ends = λ root at. none_is_some _ root (sym free ∙ at);
      grants = tt;
      tells = told reply _ (given_tells ticket.number reply _ stop refl);
    })

-- ---- any step

to_there : (from to there : Point) (number : ℕ) (e : Event) → to ≡ there → IsMove from there number e → IsMove from to number e
to_there from to there number e is moves = subst (λ (p : Point). IsMove from p number e) (sym is) moves

moves : (from to : Point) (number : ℕ) (e : Event) → HasBegun from → Follows from number e to → IsMove from to number e
moves (Asking path pin) to number e begun follows = absurd begun
moves (Waiting ticket) to number e begun follows = elim follows [
  | inl w ↦ to_there (Waiting ticket) to _ number e w.leads (wanted_moves ticket w.reply number e w.event)
  | inr g ↦ to_there (Waiting ticket) to _ number e g.leads (given_moves (Waiting ticket) ticket replies.NoMemory number e refl tt g.event)
]
moves (Granted ticket root) to number e begun follows = elim follows [
  | inl r ↦ to_there (Granted ticket root) to _ number e r.leads (room_moves ticket root r.len r.reply number e r.event)
  | inr m ↦ to_there (Granted ticket root) to _ number e m.leads (miss_moves (Granted ticket root) ticket root m.why number e refl m.event)
]
moves (Roomy ticket root len) to number e begun follows = elim follows [
  | inl p ↦ to_there (Roomy ticket root len) to _ number e p.leads (put_moves ticket root len p.reply number e p.event)
  | inr rest ↦ elim rest [
    | inl l ↦ to_there (Roomy ticket root len) to _ number e l.leads (land_moves ticket root len l.reply number e l.event)
    | inr m ↦ to_there (Roomy ticket root len) to _ number e m.leads (miss_moves (Roomy ticket root len) ticket root m.why number e refl m.event)
  ]
]
moves (Giving ticket reply) to number e begun follows =
    to_there (Giving ticket reply) to _ number e follows.leads (given_moves (Giving ticket reply) ticket reply number e refl begun follows.event)
moves (Opened root dir) to number e begun follows = absurd follows
moves (Refused reply) to number e begun follows = absurd follows

-- ---- runs that have begun

ends-cons : (e : Numbered) (es : List Numbered) → ends (e ∷ es) ≡ cond (is_some (ends_claim_of e.event)) 1 0 + ends es
ends-cons e es = sum_by-cons (λ (x : Numbered). cond (is_some (ends_claim_of x.event)) 1 0) e es

grants-cons : (e : Numbered) (es : List Numbered) → grants (e ∷ es) ≡ cond (is_grant e.event.act) 1 0 + grants es
grants-cons e es = sum_by-cons (λ (x : Numbered). cond (is_grant x.event.act) 1 0) e es

later_begins : (from to : Point) (run : List Numbered) → HasBegun from → Leads from run to → begins run ≡ 0
later_begins from to [] begun leads = refl
later_begins from to (e ∷ es) begun leads =
    let m = moves from leads.0 e.number e.event begun leads.1 in
    sum_by-cons (λ (x : Numbered). cond (is_begin x.event.act) 1 0) e es ∙ ap (λ (b : Bool). cond b 1 0 + begins es) m.begin ∙ ap (λ (n : ℕ). 0 + n) (later_begins leads.0 to es m.begun leads.2)

later_counts : (from to : Point) (run : List Numbered) → HasBegun from → Leads from run to → cond (is_some (claimed to)) 1 0 + ends run ≡ cond (is_some (claimed from)) 1 0 + grants run
later_counts from to [] begun leads = ap (λ (p : Point). cond (is_some (claimed p)) 1 0 + 0) (sym leads)
later_counts from to (e ∷ es) begun leads =
    let m = moves from leads.0 e.number e.event begun leads.1 in
    adds (cond (is_some (claimed from)) 1 0) (cond (is_some (claimed leads.0)) 1 0) (cond (is_some (claimed to)) 1 0) (cond (is_some (ends_claim_of e.event)) 1 0) (cond (is_grant e.event.act) 1 0) (ends es) (grants es) (ends (e ∷ es)) (grants (e ∷ es))
    m.count (later_counts leads.0 to es m.begun leads.2) (ends-cons e es) (grants-cons e es) where
      adds : (a b c x y p q r s : ℕ) → b + x ≡ a + y → c + p ≡ b + q → r ≡ x + p → s ≡ y + q → c + r ≡ a + s
      adds a b c x y p q r s h k l m = omega arith

end_or : (o : Option Root) (root : Root) (A B : Type 0) → (A → B) → IsEndOr o root A → IsEndOr o root B
end_or None root A B f h = f h
end_or (Some ended) root A B f h = h

if_some : (o : Option Root) (P Q : Root → Type 0) → ((root : Root) → P root → Q root) → IfSome o P → IfSome o Q
if_some None P Q f h = h
if_some (Some root) P Q f h = f root h

no_claim_at : (p : Point) (reply : ResolveReply) → reply_at p ≡ Some reply → claimed p ≡ None
no_claim_at (Asking path pin) reply is = refl
no_claim_at (Waiting ticket) reply is = refl
no_claim_at (Granted ticket root) reply is = no_reply _ reply is
no_claim_at (Roomy ticket root len) reply is = no_reply _ reply is
no_claim_at (Giving ticket reply) other is = refl
no_claim_at (Opened root dir) reply is = refl
no_claim_at (Refused reply) other is = refl

-- the claim that is held is ended, and each that is granted
later_ended : (from to : Point) (run : List Numbered) (reply : ResolveReply) → HasBegun from → reply_at to ≡ Some reply → Leads from run to
    → ((root : Root) → claimed from ≡ Some root → IsEndedIn root run) × AreEnded run
later_ended from to [] reply begun replied leads =
    (λ root at. none_is_some _ root (sym (no_claim_at to reply replied) ∙ ap claimed (sym leads) ∙ at), tt)
later_ended from to (e ∷ es) reply begun replied leads =
    let m = moves from leads.0 e.number e.event begun leads.1 in
    let rest = later_ended leads.0 to es reply m.begun replied leads.2 in (
      λ root at. end_or (ends_claim_of e.event) root ((is_want e.event.act ≡ false) × (claimed leads.0 ≡ Some root)) ((is_want e.event.act ≡ false) × IsEndedIn root es) (λ h. (h.0, rest.0 root h.1)) (m.ends root at),
      (if_some (grant_of e.event.act) (λ root. claimed leads.0 ≡ Some root) (λ root. IsEndedIn root es) rest.0 m.grants, rest.1),
    )

-- the last event tells the reply
last_tells : (from next to : Point) (e : Numbered) (run : List Numbered) (reply : ResolveReply) → HasBegun next → ((reply : ResolveReply) → reply_at next ≡ Some reply → Tells reply e) → reply_at to ≡ Some reply → Leads next run to → EndsAs reply (e ∷ run)
last_tells from next to e [] reply begun tells replied leads = tells reply (ap reply_at leads ∙ replied)
last_tells from next to e (x ∷ xs) reply begun tells replied leads =
    let m = moves next leads.0 x.number x.event begun leads.1 in last_tells next leads.0 to x xs reply m.begun m.tells replied leads.2

-- ---- the first event

record IsFirst (path : NameAndVariant) (choice : Choice) (to : Point) (number : ℕ) (e : Event) : Type 0 where
  begun : HasBegun to
  free : claimed to ≡ None
  asks : IsBeginOf path choice e.act ⊎ IsRefusedBegin path e.act
  begin : is_begin e.act ≡ true
  grant : is_grant e.act ≡ false
  granted : grant_of e.act ≡ None
  ends : ends_claim_of e ≡ None
  tells : (reply : ResolveReply) → reply_at to ≡ Some reply → Tells reply (record { number = number; event = e })

first_act : (path : NameAndVariant) (choice : Choice) (to : Point) (number : ℕ) (e : Event) (act : Act) → Acts act e → IsFirst path choice to number (with_act e act false) → IsFirst path choice to number e
first_act path choice to number e act is first =
    subst (λ (a : Act). IsFirst path choice to number (with_act e a e.broke)) (sym is.0) (subst (λ (b : Bool). IsFirst path choice to number (with_act e act b)) (sym is.1) first)

refusal_first : (path : NameAndVariant) (choice : Choice) (end : BeginEnd) (refused : ResolveReply) (number : ℕ) (e : Event) (looks : (seen : _) × Acts (acts.Begin path choice end seen) e)
    → Tells refused (record { number = number; event = with_act e (acts.Begin path choice end looks.0) false }) → IsFirst path choice (Refused refused) number e
refusal_first path choice end refused number e looks tells =
    first_act path choice (Refused refused) number e (acts.Begin path choice end looks.0) looks.1 (record {
      begun = tt;
      free = refl;
      asks = inl (record { reply = end; seen = looks.0; is = refl });
      begin = refl;
      grant = refl;
      granted = refl;
      ends = refl;
      tells = told refused _ tells;
    })

first_of : (path : NameAndVariant) (pin : Option Root) (choice : Choice) (reply : BeginReply) (number : ℕ) (e : Event) → IsBegun path choice reply number e → IsFirst path choice (after_begin path pin reply) number e
first_of path pin choice (begin.Made ticket) number e is =
    first_act path choice (after_begin path pin (begin.Made ticket)) number e (acts.Begin path choice (begins_.Ticket ticket.root) is.1.0) is.1.1 (record {
      begun = tt;
      free = refl;
      asks = inl (record { reply = begins_.Ticket ticket.root; seen = is.1.0; is = refl });
      begin = refl;
      grant = refl;
      granted = refl;
      ends = refl;
      tells = λ reply none. no_reply _ reply none;
    })
first_of path pin choice begin.InRecovery number e is = refusal_first path choice begins_.InRecovery replies.InRecovery number e is (record { path = path; choice = choice; seen = is.0; is = refl })
first_of path pin choice begin.NotFound number e is = refusal_first path choice begins_.NotFound replies.NotFound number e is (record { path = path; choice = choice; seen = is.0; is = refl })
first_of path pin choice begin.ListingFault number e is = refusal_first path choice begins_.ListingFault replies.ListingFault number e is (record { path = path; choice = choice; seen = is.0; is = refl })
first_of path pin choice begin.DiskRead number e is = refusal_first path choice begins_.DiskRead replies.DiskRead number e is (record { path = path; choice = choice; seen = is.0; is = refl })
first_of path pin choice (begin.Rotten root got) number e is = refusal_first path choice (begins_.Rotten root got) (replies.Rotten root got) number e is (record { path = path; choice = choice; seen = is.0; is = refl })
first_of path pin choice (begin.Broken broken) number e is =
    first_act path choice (Refused (replies.Broken broken)) number e (acts.Refused (calls.Begin path) broken) is (record {
      begun = tt;
      free = refl;
      asks = inr (record { broken = broken; is = refl });
      begin = refl;
      grant = refl;
      granted = refl;
      ends = refl;
      tells = told (replies.Broken broken) _ (inl (calls.Begin path, refl));
    })
first_of path pin choice begin.NoMemory number e is = absurd is

first : (path : NameAndVariant) (pin : Option Root) (to : Point) (number : ℕ) (e : Event) (b : Begins path pin number e to) → IsFirst path b.choice to number e
first path pin to number e b = subst (λ (p : Point). IsFirst path b.choice p number e) (sym b.leads) (first_of path pin b.choice b.reply number e b.event)

-- ---- whole runs

cut_first : (path : NameAndVariant) (pin : Option Root) (point : Point) (reply : ResolveReply) → Asking path pin ≡ point → reply_at point ≡ Some reply → reply ≡ replies.NoMemory
cut_first path pin point reply same replied = sym (same_reply replies.NoMemory reply (ap reply_at same ∙ replied))

-- one package is asked for
pub asks_once : (path : NameAndVariant) (pin : Option Root) (run : List Numbered) (reply : ResolveReply) → Serves path pin run reply → AsksOnce path pin run
asks_once path pin [] reply serves = tt
asks_once path pin (e ∷ es) reply serves =
    let l = serves.leads in
    let f = first path pin l.0 e.number e.event l.1 in
    record { choice = l.1.choice; chosen = l.1.chosen; asks = f.asks; once = later_begins l.0 serves.point es f.begun l.2 }

-- as many claims are ended as were granted
pub ends_grants : (path : NameAndVariant) (pin : Option Root) (run : List Numbered) (reply : ResolveReply) → Serves path pin run reply → ends run ≡ grants run
ends_grants path pin [] reply serves = refl
ends_grants path pin (e ∷ es) reply serves =
    let l = serves.leads in
    let f = first path pin l.0 e.number e.event l.1 in
    let rest = later_counts l.0 serves.point es f.begun l.2 in
    let last : cond (is_some (claimed serves.point)) 1 0 ≡ 0 = ap (λ (o : Option Root). let n : ℕ = cond (is_some o) 1 0 in n) (no_claim_at serves.point reply serves.replied) in
    let start : cond (is_some (claimed l.0)) 1 0 ≡ 0 = ap (λ (o : Option Root). let n : ℕ = cond (is_some o) 1 0 in n) f.free in
    let ended : cond (is_some (ends_claim_of e.event)) 1 0 ≡ 0 = ap (λ (o : Option Root). let n : ℕ = cond (is_some o) 1 0 in n) f.ends in
    let granted : cond (is_grant e.event.act) 1 0 ≡ 0 = ap (λ (b : Bool). let n : ℕ = cond b 1 0 in n) f.grant in
    adds (cond (is_some (claimed serves.point)) 1 0) (cond (is_some (claimed l.0)) 1 0) (cond (is_some (ends_claim_of e.event)) 1 0) (cond (is_grant e.event.act) 1 0) (ends es) (grants es) (ends (e ∷ es)) (grants (e ∷ es))
    last start ended granted rest (ends-cons e es) (grants-cons e es) where
      adds : (a b x y p q r s : ℕ) → a ≡ 0 → b ≡ 0 → x ≡ 0 → y ≡ 0 → a + p ≡ b + q → r ≡ x + p → s ≡ y + q → r ≡ s
      adds a b x y p q r s ha hb hx hy h k l = omega arith

-- each grant has its end
pub grants_end : (path : NameAndVariant) (pin : Option Root) (run : List Numbered) (reply : ResolveReply) → Serves path pin run reply → AreEnded run
grants_end path pin [] reply serves = tt
grants_end path pin (e ∷ es) reply serves =
    let l = serves.leads in
    let f = first path pin l.0 e.number e.event l.1 in
    (subst (λ (o : Option Root). IfSome o (λ root. IsEndedIn root es)) (sym f.granted) tt, (later_ended l.0 serves.point es reply f.begun serves.replied l.2).1)

-- the last event tells the reply
pub ends_as : (path : NameAndVariant) (pin : Option Root) (run : List Numbered) (reply : ResolveReply) → Serves path pin run reply → EndsAs reply run
ends_as path pin [] reply serves = cut_first path pin serves.point reply serves.leads serves.replied
ends_as path pin (e ∷ es) reply serves =
    let l = serves.leads in
    let f = first path pin l.0 e.number e.event l.1 in
    last_tells (Asking path pin) l.0 serves.point e es reply f.begun f.tells serves.replied l.2
