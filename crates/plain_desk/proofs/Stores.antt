-- A call of a ledger, as a call at a desk.
use Rattle.std.proofs.Common.{◌≡◌, ◌≢◌, ◌≤◌, ℕ, ◌+◌, Bool, true, false, cond, inl, inr, List, [], ◌∷◌, ◌++◌, length, append-nil, Option, Some, None, refl, sym, ap, subst, arith, eq-eqb, ◌∙◌}
use Rattle.std.specs.Prelude.{IsSomeAnd, ◌==◌, Result, Ok, Err, IfOk, OnErr, map, filter}
use Rattle.std.specs.Option.{option_to_list}
use Rattle.fetch_queue.specs.declared.queue.ClaimEntry.{ClaimEntry}
use Rattle.std.proofs.lemmas.Bool.{cases_Bool, eqb-true, true≢false}
use Rattle.std.proofs.lemmas.List.Elements.{All-nil, All-push}
use Rattle.pkg_names.specs.declared.root.Root.{Root}
use Rattle.pkg_merkle.specs.declared.hasher.TheConstants.{BYTES_LIMIT}
use Rattle.open_tracker.specs.Directories.{root_of}
use Rattle.store_model.specs.declared.events.Act.{Act}
use Rattle.store_model.specs.declared.events.Act.TheVariants as acts
use Rattle.store_model.specs.declared.events.Event.{Event}
use Rattle.store_model.specs.declared.events.LookedAt.{LookedAt}
use Rattle.store_model.specs.declared.replies.Ticket.{Ticket}
use Rattle.store_model.specs.State.{State, Stored, Arrival, arrival_of, is_stored}
use Rattle.store_model.specs.Step.{IsDue, next}
use Rattle.store_model.specs.History.{Numbered, Origin, after, of_lane}
use Rattle.store_model.specs.Footprints.{footprint_of}
use Rattle.store_model.specs.Held.{HasHandles, IsTicketIn, claim_in}
use Rattle.store_model.specs.Files.{found}
use Rattle.store_model.specs.Holding.{Held, HeldTicket, HeldClaim, held, held_after_act, ticket_with}
use Rattle.store_model.specs.Desk.{View, Fillers, Does, Rests}
use Rattle.store_model.proofs.Views.{of_lane-push, of_lane-others}
use Rattle.store_model.proofs.Calls.{held-push}
use Rattle.store_model.proofs.SameBooks.{found_same}
use Rattle.store_model.proofs.Sound.{files_there}
use Rattle.store_model.proofs.Frames.{keeps_next}
use Rattle.store_model.proofs.Holding.{holds_as_state}
use Rattle.store_model.proofs.HoldingThere.{handles_there}
use Rattle.plain_stock.specs.Contents.{AreBytesOf}
use Rattle.plain_ledger.specs.Ledgers.{LedgerOf, Agrees, Notes, Stays, Tells, event_by, next_number}
use Rattle.plain_desk.specs.Memory.{AreOfMemory, InMemory, IsOfMemory}
use Rattle.plain_desk.specs.Stores.{Clears, DraftOf, Drafted, ImagesOf, StoreOf, HaveRoom, IsStore, draft_of, room_in, len_of, room_of, view_of, IsFileThere}

-- the store with this ledger and these drafts and images
abbrev pub store_of : LedgerOf → List DraftOf → ImagesOf → StoreOf
store_of l drafts images = record { origin = l.origin; history = l.history; drafts = drafts; images = images }

-- the number of the event after a history, as the desk counts it
abbrev number_after : List Event → ℕ
number_after seen = length seen + 1

-- what is seen of a lane's desk at a store with this ledger
abbrev pub view_at : List ℕ → ℕ → LedgerOf → Fillers → View
view_at tie lane l fillers = record {
  lane = lane;
  tie = tie;
  origin = l.origin;
  seen = l.history;
  mine = of_lane lane l.history;
  fillers = fillers;
}

-- ---- what a call does

pub does_at : (tie : List ℕ) {lane : ℕ} {old new : LedgerOf} (fillers fillers' : Fillers) {act : Act}
    (IsIts : ℕ → Event → Type 0) → Notes old lane act new → IsIts (next_number old) (event_by lane act)
    → Does (view_at tie lane old fillers) (view_at tie lane new fillers') IsIts
does_at tie {lane} {old} {new} fillers fillers' {act} IsIts n its =
    let e : Event = event_by lane act in
    let front : old.history ++ [] ≡ old.history = append-nil old.history in
    record {
      stays = record { lane = refl; tie = refl; origin = n.origin };
      others = [];
      are_others = All-nil (λ (x : Event). x.lane ≢ lane);
      event = e;
      lane = refl;
      its = subst (λ (h : List Event). IsIts (number_after h) e) (sym front) its;
      seen = n.history ∙ ap (λ (h : List Event). h ++ e ∷ []) (sym front);
      mine = ap (of_lane lane) n.history ∙ of_lane-push lane old.history e refl
          ∙ ap (λ (h : List Event). of_lane lane old.history ++ record { number = number_after h; event = e } ∷ []) (sym front);
      due = subst (λ (h : List Event). IsDue (after old.origin h) (number_after h) e) (sym front) n.due;
      own = refl;
      legal = n.holds.legal;
    }

-- The call's event came: `was` is the store before it.
pub does : {tie : List ℕ} {lane : ℕ} {old new : LedgerOf} {drafts : List DraftOf} {images : ImagesOf} {fillers : Fillers}
    {was : StoreOf} {act : Act} (IsIts : ℕ → Event → Type 0) → store_of old drafts images ≡ was → Notes old lane act new
    → IsIts (next_number old) (event_by lane act) → Does (view_of tie lane was) (view_at tie lane new fillers) IsIts
does {tie} {lane} {old} {new} {drafts} {images} {fillers} IsIts is n its =
    subst (λ (s : StoreOf). Does (view_of tie lane s) (view_at tie lane new fillers) IsIts) is
    (does_at tie images.fillers fillers IsIts n its)

pub tells : {tie : List ℕ} {lane : ℕ} {old new : LedgerOf} {drafts : List DraftOf} {images : ImagesOf} {fillers : Fillers}
    {was : StoreOf} (IsIts : ℕ → Event → Type 0) → store_of old drafts images ≡ was → Tells lane (InMemory IsIts) old new
    → Does (view_of tie lane was) (view_at tie lane new fillers) IsIts
tells IsIts is t = does IsIts is t.notes t.its.its

rests_at : (tie : List ℕ) (lane : ℕ) {old new : LedgerOf} (fillers fillers' : Fillers)
    → Stays old new → Rests (view_at tie lane old fillers) (view_at tie lane new fillers')
rests_at tie lane {old} {new} fillers fillers' s = record {
  stays = record { lane = refl; tie = refl; origin = s.origin };
  others = [];
  are_others = All-nil (λ (x : Event). x.lane ≢ lane);
  seen = s.history ∙ sym (append-nil old.history);
  mine = ap (of_lane lane) s.history;
  own = refl;
  legal = s.holds.legal;
}

-- Nothing came.
pub rests : {tie : List ℕ} {lane : ℕ} {old new : LedgerOf} {drafts : List DraftOf} {images : ImagesOf} {fillers : Fillers}
    {was : StoreOf} → store_of old drafts images ≡ was → Stays old new
    → Rests (view_of tie lane was) (view_at tie lane new fillers)
rests {tie} {lane} {old} {new} {drafts} {images} {fillers} is stays =
    subst (λ (s : StoreOf). Rests (view_of tie lane s) (view_at tie lane new fillers)) is
    (rests_at tie lane images.fillers fillers stays)

-- ---- what holds of the parts after a call

-- the room that the lane has after its event
own_room : (old new : LedgerOf) (lane : ℕ) (act : Act) → Notes old lane act new
    → room_of lane new.history ≡ len_of (held_after_act (held (of_lane lane old.history)) (next_number old) lane act).claim
own_room old new lane act n =
    let e : Event = event_by lane act in
    ap (λ (h : List Event). room_of lane h) n.history
    ∙ ap (λ (mine : List Numbered). len_of (held mine).claim) (of_lane-push lane old.history e refl)
    ∙ ap (λ (h : Held). len_of h.claim) (held-push (of_lane lane old.history) (record { number = length old.history + 1; event = e }))

-- another lane has the room that it had
others_room : (old new : LedgerOf) (lane : ℕ) (act : Act) → Notes old lane act new → (other : ℕ) → (lane == other) ≡ false → room_of other new.history ≡ room_of other old.history
others_room old new lane act n other differs =
    let e : Event = event_by lane act in
    ap (λ (h : List Event). room_of other h) n.history
    ∙ ap (λ (mine : List Numbered). len_of (held mine).claim)
    (of_lane-others other old.history (e ∷ [])
    (All-push (λ (x : Event). x.lane ≢ other) [] e (All-nil (λ (x : Event). x.lane ≢ other)) (λ (same : lane ≡ other). true≢false (sym (eq-eqb lane other same) ∙ differs))))

-- the drafts, where the lane has this room now
have_room : {h h2 : List Event} {lane room : ℕ} {bytes : List ℕ} {drafts drafts' : List DraftOf} → HaveRoom drafts h
    → Drafted lane room bytes drafts drafts' → room ≡ room_of lane h2
    → ((other : ℕ) → (lane == other) ≡ false → room_of other h2 ≡ room_of other h)
    → length bytes ≤ room → room ≤ BYTES_LIMIT → HaveRoom drafts' h2
have_room {h} {h2} {lane} {room} {bytes} {drafts} {drafts'} had d is others few low = record {
  rooms = λ other. elim (cases_Bool (lane == other)) [
    | inl same ↦ own other same ∙ is ∙ ap (λ (l : ℕ). room_of l h2) (eqb-true lane other same)
    | inr differs ↦ kept other differs ∙ had.rooms other ∙ sym (others other differs)
  ];
  enough = λ other. elim (cases_Bool (lane == other)) [
    | inl same ↦
        let b : draft_of drafts' other ≡ bytes =
        d.drafts other ∙ ap (λ (t : Bool). cond t bytes (draft_of drafts other)) same in
        omega (arith, own other same, ap length b, few)
    | inr differs ↦
        let b : draft_of drafts' other ≡ draft_of drafts other =
        d.drafts other ∙ ap (λ (t : Bool). cond t bytes (draft_of drafts other)) differs in
        omega (arith, kept other differs, ap length b, had.enough other)
  ];
  short = λ other. elim (cases_Bool (lane == other)) [
    | inl same ↦ omega (arith, own other same, low)
    | inr differs ↦ omega (arith, kept other differs, had.short other)
  ];
} where
  own : (other : ℕ) → (lane == other) ≡ true → room_in drafts' other ≡ room
  own other same = d.rooms other ∙ ap (λ (t : Bool). cond t room (room_in drafts other)) same

  kept : (other : ℕ) → (lane == other) ≡ false → room_in drafts' other ≡ room_in drafts other
  kept other differs = d.rooms other ∙ ap (λ (t : Bool). cond t room (room_in drafts other)) differs

none_left : (xs : List ℕ) → length xs ≤ 0 → xs ≡ []
none_left [] few = refl
none_left (x ∷ xs) few = absurd (omega (arith, few))

-- a lane without room has put no bytes
pub no_draft : (drafts : List DraftOf) (history : List Event) (lane : ℕ) → HaveRoom drafts history → room_of lane history ≡ 0 → draft_of drafts lane ≡ []
no_draft drafts history lane had none = none_left (draft_of drafts lane) (omega (arith, had.enough lane, had.rooms lane, none))

-- ---- what most calls leave

-- The blobs that are stored, and the room that each lane has. What comes tells of no disk.
pub record Moves (old new : LedgerOf) : Type 0 where
  pub holds : Agrees new
  pub stock : new.state.stock ≡ old.state.stock
  pub rooms : (lane : ℕ) → room_of lane new.history ≡ room_of lane old.history
  pub broken : new.state.broken ≡ old.state.broken
  pub steady : AreOfMemory old.history → AreOfMemory new.history

pub moved : {old new : LedgerOf} {blobs : List LookedAt} {drafts : List DraftOf} {images : ImagesOf}
    → IsStore old blobs drafts images → Moves old new → IsStore new blobs drafts images
moved {old} {new} {blobs} {drafts} {images} is m = record {
  holds = m.holds;
  stored = subst (λ (x : List Stored). AreBytesOf blobs x) (sym m.stock) is.stored;
  roomy = record { rooms = λ lane. is.roomy.rooms lane ∙ sym (m.rooms lane); enough = is.roomy.enough; short = is.roomy.short };
  filled = is.filled;
  unbroken = m.broken ∙ is.unbroken;
  steady = m.steady is.steady;
}

pub stays_moves : {old new : LedgerOf} → Stays old new → Moves old new
stays_moves s = record {
  holds = s.holds;
  stock = ap (λ (x : State). x.stock) s.state.rest;
  rooms = λ lane. ap (room_of lane) s.history;
  broken = ap (λ (x : State). x.broken) s.state.rest;
  steady = λ are. subst AreOfMemory (sym s.history) are;
}

-- one event more, of memory
pub steady_more : {old new : LedgerOf} {lane : ℕ} {act : Act} → Notes old lane act new → IsOfMemory (event_by lane act)
    → AreOfMemory old.history → AreOfMemory new.history
steady_more {old} {new} {lane} {act} n is are = subst AreOfMemory (sym n.history) (All-push IsOfMemory old.history (event_by lane act) are is)

-- no act notes a write that failed
none_breaks : (act : Act) → (footprint_of act).broken ≡ false
none_breaks acts.LeftStage = refl
none_breaks act = refl

pub notes_unbroken : {old new : LedgerOf} {lane : ℕ} {act : Act} → Notes old lane act new → new.state.broken ≡ old.state.broken
notes_unbroken {old} {new} {lane} {act} n =
    ap (λ (s : State). s.broken) n.state.rest ∙ (keeps_next old.state (next_number old) lane act).broken (none_breaks act)

-- an event that leaves the stock and its lane's room
pub notes_moves : {old new : LedgerOf} {lane : ℕ} {act : Act} → Notes old lane act new
    → (next old.state (next_number old) lane act).stock ≡ old.state.stock
    → len_of (held_after_act (held (of_lane lane old.history)) (next_number old) lane act).claim ≡ room_of lane old.history
    → IsOfMemory (event_by lane act) → Moves old new
notes_moves {old} {new} {lane} {act} n stock room steady = record {
  holds = n.holds;
  stock = ap (λ (s : State). s.stock) n.state.rest ∙ stock;
  rooms = λ other. elim (cases_Bool (lane == other)) [
    | inl own ↦
        ap (λ (l : ℕ). room_of l new.history) (sym (eqb-true lane other own)) ∙ own_room old new lane act n ∙ room
        ∙ ap (λ (l : ℕ). room_of l old.history) (eqb-true lane other own)
    | inr differs ↦ others_room old new lane act n other differs
  ];
  broken = notes_unbroken n;
  steady = steady_more n steady;
}

same_claim : (a b : Option HeldClaim) → option_to_list a ≡ option_to_list b → a ≡ b
same_claim None None e = refl
same_claim None (Some y) e = absurd cc
same_claim (Some x) None e = absurd cc
same_claim (Some x) (Some y) e = let same : x ≡ y = cc in ap Some same

-- the lane's claim, by the claims of the state
claim_there : (l : LedgerOf) (lane : ℕ) → Agrees l → option_to_list (held (of_lane lane l.history)).claim
    ≡ map claim_in (filter (λ (claim : ClaimEntry). claim.lane == lane) l.state.claims)
claim_there l lane a =
    (holds_as_state l.origin l.history lane a.legal).claim
    ∙ sym (ap (λ (s : State). map claim_in (filter (λ (claim : ClaimEntry). claim.lane == lane) s.claims)) a.mirrors.rest)

-- the lanes have the rooms of the claims that the state has
same_rooms : {old new : LedgerOf} → Agrees old → Agrees new → new.state.claims ≡ old.state.claims
    → (other : ℕ) → room_of other new.history ≡ room_of other old.history
same_rooms {old} {new} a b claims = λ other.
    ap len_of (same_claim (held (of_lane other new.history)).claim (held (of_lane other old.history)).claim
    (claim_there new other b
    ∙ ap (λ (cs : List ClaimEntry). map claim_in (filter (λ (claim : ClaimEntry). claim.lane == other) cs)) claims
    ∙ sym (claim_there old other a)))

pub tells_moves : {old new : LedgerOf} {lane : ℕ} {IsIts : ℕ → Event → Type 0} → Agrees old → Tells lane (InMemory IsIts) old new
    → Moves old new
tells_moves a t = record {
  holds = t.notes.holds;
  stock = t.stock;
  rooms = same_rooms a t.notes.holds t.claims;
  broken = notes_unbroken t.notes;
  steady = steady_more t.notes t.its.steady;
}

-- an event that leaves the stock and the claims
pub told : {old new : LedgerOf} {lane : ℕ} {act : Act} {IsIts : ℕ → Event → Type 0} → Notes old lane act new
    → IsIts (next_number old) (event_by lane act) → (next old.state (next_number old) lane act).stock ≡ old.state.stock
    → (next old.state (next_number old) lane act).claims ≡ old.state.claims → Tells lane IsIts old new
told {old} {new} {lane} {act} n its stock claims = record {
  act = act;
  its = its;
  notes = n;
  stock = ap (λ (s : State). s.stock) n.state.rest ∙ stock;
  claims = ap (λ (s : State). s.claims) n.state.rest ∙ claims;
}

-- what was so of the store that was seen is so of the store
pub here : (l : LedgerOf) {drafts : List DraftOf} {images : ImagesOf} {was : StoreOf} (P : StoreOf → Type 0)
    → store_of l drafts images ≡ was → P was → P (store_of l drafts images)
here l P is so = subst P (sym is) so

-- nothing was done
pub still : {l : LedgerOf} → Agrees l → Stays l l
still {l} a = record {
  origin = refl;
  history = refl;
  state = record { rest = refl; books = λ root. refl };
  holds = a;
}

-- a call that did nothing
pub rests_still : {tie : List ℕ} {lane : ℕ} {l : LedgerOf} {fillers : Fillers} → Agrees l
    → Rests (view_at tie lane l fillers) (view_at tie lane l fillers)
rests_still {tie} {lane} {l} {fillers} a = rests_at tie lane fillers fillers (still a)

-- what the desk saw it sees
pub on_stays : {old new : LedgerOf} (P : State → Type 0) → Stays old new → P (after old.origin old.history)
    → P (after new.origin new.history)
on_stays {old} {new} P s so =
    subst (λ (h : List Event). P (after new.origin h)) (sym s.history)
    (subst (λ (o : Origin). P (after o old.history)) (sym s.origin) so)

pub same_stays : {old new : LedgerOf} → new ≡ old → Agrees old → Stays old new
same_stays {old} {new} same a = subst (λ (l : LedgerOf). Stays old l) (sym same) (still a)

-- the desk sees that no write failed
pub unbroken_at : {l : LedgerOf} → Agrees l → l.state.broken ≡ None → (after l.origin l.history).broken ≡ None
unbroken_at {l} a none = sym (ap (λ (s : State). s.broken) a.mirrors.rest) ∙ none

-- so it is either way
pub either : {A E : Type 0} {P : A → Type 0} {Q X : Type 0} (r : Result A E) → ((a : A) → P a → X) → (Q → X)
    → IfOk r P → OnErr r Q → X
either (Ok a) on_ok on_err ok err = on_ok a ok
either (Err e) on_ok on_err ok err = on_err err

pub answered : {A E : Type 0} {old new : LedgerOf} {blobs : List LookedAt} {drafts : List DraftOf} {images : ImagesOf}
    (lane : ℕ) (IsIts : A → ℕ → Event → Type 0) (r : Result A E) → IsStore old blobs drafts images
    → IfOk r (λ reply. Tells lane (InMemory (IsIts reply)) old new) → OnErr r (Stays old new) → IsStore new blobs drafts images
answered lane IsIts (Ok a) is ok err = moved is (tells_moves is.holds ok)
answered lane IsIts (Err e) is ok err = moved is (stays_moves err)

-- blobs were removed
pub cleared : {A E : Type 0} {old new : LedgerOf} {blobs blobs' : List LookedAt} {drafts : List DraftOf} {images : ImagesOf}
    (lane : ℕ) (IsIts : A → ℕ → Event → Type 0) (r : Result A E) → IsStore old blobs drafts images
    → IfOk r (λ reply. Clears lane (InMemory (IsIts reply)) old new) → OnErr r (Stays old new) → AreBytesOf blobs' new.state.stock
    → IsStore new blobs' drafts images
cleared lane IsIts (Ok a) is ok err bytes = record {
  holds = ok.notes.holds;
  stored = bytes;
  roomy = record {
    rooms = λ other. is.roomy.rooms other ∙ sym (same_rooms is.holds ok.notes.holds ok.claims other);
    enough = is.roomy.enough;
    short = is.roomy.short;
  };
  filled = is.filled;
  unbroken = notes_unbroken ok.notes ∙ is.unbroken;
  steady = steady_more ok.notes ok.its.steady is.steady;
}
cleared lane IsIts (Err e) is ok err bytes =
    let m = moved is (stays_moves err) in
    record { holds = m.holds; stored = bytes; roomy = m.roomy; filled = m.filled; unbroken = m.unbroken; steady = m.steady }

-- an event that gives its lane this room
pub drafted : {old new : LedgerOf} {lane room : ℕ} {bytes : List ℕ} {act : Act} {blobs blobs' : List LookedAt}
    {drafts drafts' : List DraftOf} {images : ImagesOf} → IsStore old blobs drafts images → Notes old lane act new
    → AreBytesOf blobs' new.state.stock → Drafted lane room bytes drafts drafts'
    → room ≡ len_of (held_after_act (held (of_lane lane old.history)) (next_number old) lane act).claim
    → length bytes ≤ room → room ≤ BYTES_LIMIT → IsOfMemory (event_by lane act) → IsStore new blobs' drafts' images
drafted {old} {new} {lane} {room} {bytes} {act} is n stored d room_is few low steady = record {
  holds = n.holds;
  stored = stored;
  roomy = have_room is.roomy d (room_is ∙ sym (own_room old new lane act n)) (others_room old new lane act n) few low;
  filled = is.filled;
  unbroken = notes_unbroken n ∙ is.unbroken;
  steady = steady_more n steady is.steady;
}

-- nothing came, and the lane has this room
pub drafted_still : {old new : LedgerOf} {lane room : ℕ} {bytes : List ℕ} {blobs : List LookedAt}
    {drafts drafts' : List DraftOf} {images : ImagesOf} → IsStore old blobs drafts images → Stays old new
    → Drafted lane room bytes drafts drafts' → room ≡ room_of lane old.history
    → length bytes ≤ room → room ≤ BYTES_LIMIT → IsStore new blobs drafts' images
drafted_still {old} {new} {lane} {room} {bytes} is s d room_is few low =
    let m = moved is (stays_moves s) in
    record {
      holds = m.holds;
      stored = m.stored;
      roomy = have_room is.roomy d (room_is ∙ sym (ap (room_of lane) s.history)) (λ other differs. ap (room_of other) s.history) few low;
      filled = m.filled;
      unbroken = m.unbroken;
      steady = m.steady;
    }

-- the bytes of what is stored, after an event that leaves the stock
pub bytes_stay : {old new : LedgerOf} {lane : ℕ} {act : Act} {blobs : List LookedAt} → AreBytesOf blobs old.state.stock
    → Notes old lane act new → (footprint_of act).stock ≡ false → AreBytesOf blobs new.state.stock
bytes_stay {old} {new} {lane} {act} {blobs} are n kept =
    subst (λ (x : List Stored). AreBytesOf blobs x)
    (sym (ap (λ (s : State). s.stock) n.state.rest ∙ (keeps_next old.state (next_number old) lane act).stock kept)) are

-- a directory that isn't open, as the desk sees it
pub not_open : {old new : LedgerOf} (dir lane : ℕ) → Stays old new → root_of old.state.dirs dir lane ≡ None
    → root_of (after new.origin new.history).dirs dir lane ≡ None
not_open {old} {new} dir lane s none =
    sym (ap (λ (t : State). root_of t.dirs dir lane) s.holds.mirrors.rest)
    ∙ ap (λ (t : State). root_of t.dirs dir lane) s.state.rest ∙ none

-- ---- files

pub file_there : (l : LedgerOf) (lane dir : ℕ) (file : List ℕ) → Agrees l → IsFileThere l.state lane dir file
file_there l lane dir file a = λ root is.
    let t : State = after l.origin l.history in
    let same : found t lane dir file ≡ found l.state lane dir file =
    found_same t l.state.books a.mirrors.books lane dir file ∙ ap (λ (s : State). found s lane dir file) (sym a.mirrors.rest) in
    ap (λ (s : State). is_stored s.stock root) a.mirrors.rest ∙ files_there l.origin l.history a.legal lane dir file root (same ∙ is)

-- ---- what a lane holds, in the state

pub handles : (l : LedgerOf) (lane : ℕ) → Agrees l → HasHandles lane (held (of_lane lane l.history)) l.state
handles l lane a =
    let t = handles_there l.origin l.history lane a.legal in
    subst (λ (s : State). HasHandles lane (held (of_lane lane l.history)) s) (sym a.mirrors.rest)
    (record { ticket = t.ticket; claim = t.claim; free = t.free; dir = t.dir; stage = t.stage })

-- the ticket is the lane's, and its package's
pub record IsOf (by : ℕ) (of : Root) (arrival : Arrival) : Type 0 where
  pub lane : arrival.lane ≡ by
  pub root : arrival.root ≡ of

pub ticket_at : (s : State) (h : Held) (lane : ℕ) (ticket : Ticket) → HasHandles lane h s → IsSomeAnd (ticket_with h.tickets ticket.number) (λ (of : HeldTicket). of.root ≡ ticket.root)
    → IsSomeAnd (arrival_of s.arriving ticket.number) (IsOf lane ticket.root)
ticket_at s h lane ticket has holds = first (ticket_with h.tickets ticket.number) refl holds where
  second : (of : HeldTicket) → of.root ≡ ticket.root → (a : Option Arrival) → IsSomeAnd a (IsTicketIn lane of) → IsSomeAnd a (IsOf lane ticket.root)
  second of is None there = absurd there
  second of is (Some arrival) there = record { lane = there.lane; root = ap (λ (t : HeldTicket). t.root) there.same ∙ is }

  first : (o : Option HeldTicket) → ticket_with h.tickets ticket.number ≡ o → IsSomeAnd o (λ (of : HeldTicket). of.root ≡ ticket.root) → IsSomeAnd (arrival_of s.arriving ticket.number) (IsOf lane ticket.root)
  first None is none = absurd none
  first (Some of) is some = second of some (arrival_of s.arriving ticket.number) (has.ticket ticket.number of is)

pub ticket_there : (l : LedgerOf) (lane : ℕ) (ticket : Ticket) → Agrees l → IsSomeAnd (ticket_with (held (of_lane lane l.history)).tickets ticket.number) (λ (of : HeldTicket). of.root ≡ ticket.root)
    → IsSomeAnd (arrival_of l.state.arriving ticket.number) (IsOf lane ticket.root)
ticket_there l lane ticket agrees holds = ticket_at l.state (held (of_lane lane l.history)) lane ticket (handles l lane agrees) holds
