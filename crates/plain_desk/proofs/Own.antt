-- What comes to the history at a call is the lane's own.
use Rattle.std.proofs.Common.{false, cond, ◌≡◌, ◌≢◌, ◌≤◌, ℕ, List, [], ◌∷◌, ◌++◌, length, Option, Some, None, refl, sym, ap, subst, ◌∙◌, arith, length-append}
use Rattle.std.specs.Prelude.{All, Bool, Result, Ok, Err, IfOk, OnErr, MatchOption, true, ◌==◌, take, drop}
use Rattle.std.specs.List.{list_all}
use Rattle.std.proofs.lemmas.Bool.{and_from, and_parts, eq-eqb, eqb-true, ne_eqb}
use Rattle.std.proofs.lemmas.List.{append-nil, drop-append-le, drop_all, take-append-drop, take_at}
use Rattle.std.proofs.lemmas.List.Elements.{All-nil, All-push, All-weaker}
use Rattle.std.proofs.lemmas.List.Folds.{list_all-append}
use Rattle.std.proofs.lemmas.List.Sums.{AllPass-from_list_all, list_all-from_AllPass}
use Rattle.image_layout.specs.declared.ImageKind.{ImageKind}
use Rattle.fetch_queue.specs.declared.FetchEnd.{FetchEnd}
use Rattle.pkg_names.specs.declared.root.Root.{Root}
use Rattle.store_model.specs.declared.events.Act.{Act}
use Rattle.store_model.specs.declared.events.Event.{Event}
use Rattle.store_model.specs.declared.replies.CopyReply.{CopyReply}
use Rattle.store_model.specs.declared.replies.CopyReply.TheVariants as copy
use Rattle.store_model.specs.declared.replies.StageReply.{StageReply}
use Rattle.store_model.specs.declared.replies.StageReply.TheVariants as stage
use Rattle.store_model.specs.History.{of_lane}
use Rattle.store_model.proofs.Views.{of_lane-others}
use Rattle.plain_ledger.specs.Ledgers.{LedgerOf, Notes, Stays, event_by}
use Rattle.plain_desk.specs.Memory.{IsOfMemory, is_of_memory}
use Rattle.plain_desk.specs.Stores.{AddsOwn, DraftOf, Drafted, ImagesOf, IsLandedAs, IsOwnCall, LeavesDrafts, LeavesOthers, StoreOf, are_own, draft_of, room_in}
use Rattle.plain_desk.specs.Filling.{StagedBy}
use Rattle.plain_desk.specs.Copying.{CopiedBy}
use Rattle.plain_desk.proofs.Stores.{store_of}

-- ---- a call

-- the lane's event came
pub by_event : {old new : LedgerOf} {lane : ℕ} {act : Act} {drafts : List DraftOf} {i : ImagesOf} {was : StoreOf} → store_of old drafts i ≡ was
    → Notes old lane act new → IsOfMemory (event_by lane act) → AddsOwn lane was.history new.history
by_event {old} {new} {lane} {act} is n steady =
    subst (λ (s : StoreOf). AddsOwn lane s.history new.history) is (record {
      more = event_by lane act ∷ [];
      own = All-push (λ (e : Event). e.lane ≡ lane) [] (event_by lane act) (All-nil (λ (e : Event). e.lane ≡ lane)) refl;
      steady = All-push IsOfMemory [] (event_by lane act) (All-nil IsOfMemory) steady;
      history = n.history;
    })

-- nothing came
pub by_none : {drafts : List DraftOf} {i : ImagesOf} {was : StoreOf} (lane : ℕ) (old new : LedgerOf) → store_of old drafts i ≡ was
    → new.history ≡ old.history → AddsOwn lane was.history new.history
by_none lane old new is same =
    subst (λ (s : StoreOf). AddsOwn lane s.history new.history) is (record {
      more = [];
      own = All-nil (λ (e : Event). e.lane ≡ lane);
      steady = All-nil IsOfMemory;
      history = same ∙ sym (append-nil old.history);
    })

-- the event came, or for want of memory nothing
pub apart : {A E : Type 0} {P : A → Type 0} {drafts : List DraftOf} {i : ImagesOf} {was : StoreOf} (lane : ℕ) (old new : LedgerOf) (r : Result A E) → store_of old drafts i ≡ was
    → ((a : A) → P a → AddsOwn lane was.history new.history) → IfOk r P → OnErr r (Stays old new) → AddsOwn lane was.history new.history
apart lane old new (Ok a) is event ok err = event a ok
apart lane old new (Err e) is event ok err = by_none lane old new is err.history

pub put_apart : {A : Type 0} {P : A → Type 0} {drafts : List DraftOf} {i : ImagesOf} {was : StoreOf} (lane : ℕ) (old new : LedgerOf) (r : Option A) → store_of old drafts i ≡ was
    → ((a : A) → P a → AddsOwn lane was.history new.history) → MatchOption r (new ≡ old) P → AddsOwn lane was.history new.history
put_apart lane old new None is event same = by_none lane old new is (ap (λ (l : LedgerOf). l.history) same)
put_apart lane old new (Some a) is event so = event a so

pub landed_apart : {drafts : List DraftOf} {i : ImagesOf} {was : StoreOf} (lane : ℕ) (old new : LedgerOf) (root : Root) (len : ℕ) (bytes : List ℕ) → store_of old drafts i ≡ was
    → (end : Option FetchEnd) → IsLandedAs lane root len bytes end old new → AddsOwn lane was.history new.history
landed_apart lane old new root len bytes is None so = by_event is so.2.notes refl
landed_apart lane old new root len bytes is (Some end) so = by_event is so.1 refl

pub stage_apart : {drafts : List DraftOf} {i : ImagesOf} {was : StoreOf} (lane epoch : ℕ) (old new : LedgerOf) (reply : StageReply) → store_of old drafts i ≡ was
    → StagedBy lane epoch reply old new → AddsOwn lane was.history new.history
stage_apart lane epoch old new stage.NoMemory is s = by_none lane old new is s.history
stage_apart lane epoch old new reply is t = by_event is t.notes t.its.steady

pub copy_apart : {drafts : List DraftOf} {i : ImagesOf} {was : StoreOf} (i2 : ImagesOf) (lane : ℕ) (old new : LedgerOf) (image : ImageKind) (dir : ℕ) (file : List ℕ) (reply : CopyReply) → store_of old drafts i ≡ was
    → CopiedBy lane image dir file old new i i2 reply → AddsOwn lane was.history new.history
copy_apart i2 lane old new image dir file (copy.More have) is by = by_none lane old new is (ap (λ (l : LedgerOf). l.history) by.ledger)
copy_apart i2 lane old new image dir file (copy.Whole len) is by = by_none lane old new is (ap (λ (l : LedgerOf). l.history) by.ledger)
copy_apart i2 lane old new image dir file copy.NoMemory is by = by_none lane old new is by.0.history
copy_apart i2 lane old new image dir file reply is by = by_event is by.0.notes by.0.its.steady

-- ---- what other lanes have put

pub left_same : {lane : ℕ} {old new : List DraftOf} → new ≡ old → LeavesDrafts lane old new
left_same same = λ other differs. (ap (λ (ds : List DraftOf). room_in ds other) same, ap (λ (ds : List DraftOf). draft_of ds other) same)

pub left_by : {lane room : ℕ} {bytes : List ℕ} {old new : List DraftOf} → Drafted lane room bytes old new → LeavesDrafts lane old new
left_by {lane} {room} {bytes} {old} {new} d = λ other differs.
    let apart : (lane == other) ≡ false = ne_eqb lane other differs in
    (d.rooms other ∙ ap (λ (t : Bool). cond t room (room_in old other)) apart, d.drafts other ∙ ap (λ (t : Bool). cond t bytes (draft_of old other)) apart)

pub left_put : {A : Type 0} (lane room : ℕ) (bytes : List ℕ) (old new : List DraftOf) (r : Option A) → MatchOption r (Drafted lane room bytes old new) (λ end. Drafted lane 0 [] old new)
    → LeavesDrafts lane old new
left_put lane room bytes old new None d = left_by d
left_put lane room bytes old new (Some end) d = left_by d

-- a call that leaves these drafts
pub own_call : {drafts : List DraftOf} {i : ImagesOf} {was now : StoreOf} (lane : ℕ) (old : LedgerOf) → store_of old drafts i ≡ was → LeavesDrafts lane drafts now.drafts
    → AddsOwn lane was.history now.history → IsOwnCall lane was now
own_call {now = now} lane old is left own = record { events = own; drafts = subst (λ (s : StoreOf). LeavesDrafts lane s.drafts now.drafts) is left }

-- ---- a loan

-- the loan has just begun
pub own_none : (lane began : ℕ) (history : List Event) → began ≡ length history → are_own lane began history ≡ true
own_none lane began history is = rw (drop_all began history (omega (arith, is))) refl

-- a test of each event since the loan began, after a call more
each_more : (p : Event → Bool) (P : Event → Type 0) → ((e : Event) → P e → p e ≡ true) → (began : ℕ) (old new more : List Event) → began ≤ length old
    → new ≡ old ++ more → list_all p (drop began old) ≡ true → All P more → list_all p (drop began new) ≡ true
each_more p P passes began old new more short grown had all =
    rw (grown, drop-append-le began old more short, list_all-append p (drop began old) more, had)
    (list_all-from_AllPass p more (All-weaker P (λ (e : Event). p e ≡ true) passes more all))

-- a call more
pub own_more : (lane began : ℕ) (old new : List Event) → began ≤ length old → are_own lane began old ≡ true → AddsOwn lane old new
    → are_own lane began new ≡ true
own_more lane began old new short own adds =
    let had = and_parts (list_all (λ (e : Event). e.lane == lane) (drop began old)) (list_all is_of_memory (drop began old)) own in
    and_from (list_all (λ (e : Event). e.lane == lane) (drop began new)) (list_all is_of_memory (drop began new))
    (each_more (λ (e : Event). e.lane == lane) (λ (e : Event). e.lane ≡ lane) (λ e is. eq-eqb e.lane lane is) began old new adds.more short adds.history had.0 adds.own)
    (each_more is_of_memory IsOfMemory (λ e is. is) began old new adds.more short adds.history had.1 adds.steady)

pub begun_more : (lane began : ℕ) (old new : List Event) → began ≤ length old → AddsOwn lane old new → began ≤ length new
begun_more lane began old new short adds = rw adds.history (omega (arith, short, length-append old adds.more))

-- what came since the loan began
pub own_since : (lane began : ℕ) (history : List Event) → are_own lane began history ≡ true → AddsOwn lane (take began history) history
own_since lane began history own =
    let are = and_parts (list_all (λ (e : Event). e.lane == lane) (drop began history)) (list_all is_of_memory (drop began history)) own in
    record {
      more = drop began history;
      own = All-weaker (λ (e : Event). (e.lane == lane) ≡ true) (λ (e : Event). e.lane ≡ lane) (λ e is. eqb-true e.lane lane is) (drop began history)
          (AllPass-from_list_all (λ (e : Event). e.lane == lane) (drop began history) are.0);
      steady = AllPass-from_list_all is_of_memory (drop began history) are.1;
      history = sym (take-append-drop began history);
    }

-- ---- other lanes

pub leaves_others : (lane : ℕ) (old new : List Event) → AddsOwn lane old new → LeavesOthers lane old new
leaves_others lane old new adds = λ other differs.
    ap (of_lane other) adds.history
    ∙ of_lane-others other old adds.more (All-weaker (λ (e : Event). e.lane ≡ lane) (λ (e : Event). e.lane ≢ other) (λ e is same. differs (sym is ∙ same)) adds.more adds.own)

-- What came since the loan began came to what there was: the history grew at its end alone.
pub own_from : (lane began : ℕ) (old new more : List Event) → began ≡ length old → new ≡ old ++ more
    → AddsOwn lane (take began new) new → AddsOwn lane old new
own_from lane began old new more len grown own =
    subst (λ (h : List Event). AddsOwn lane h new) (ap (take began) grown ∙ take_at old more began (sym len)) own
