-- Calls after which the books know more, or less.
use Rattle.std.proofs.Common.{◌≡◌, ◌≤◌, ◌+◌, ℕ, not, ◌&&◌, Bool, true, false, List, [], ◌∷◌, ◌++◌, length, Option, Some, None, is_some, inl, inr, refl, sym, ap, subst, arith, ◌∙◌}
use Rattle.std.specs.Prelude.{IfSome, IsSome, IsSomeAnd, ◌==◌, find, nat_le}
use Rattle.std.specs.Option.{option_map}
use Rattle.std.proofs.lemmas.List.{length_push}
use Rattle.std.proofs.lemmas.Bool.{cases_Bool, true≢false, and_parts, leb-true}
use Rattle.pkg_names.specs.NameAndVariant.{NameAndVariant}
use Rattle.pkg_names.specs.declared.root.Root.{Root}
use Rattle.pkg_names.specs.Root.{root_eq}
use Rattle.pkg_names.proofs.Roots.{root_eq-refl}
use Rattle.pkg_merkle.specs.Merkle.{merkle_root}
use Rattle.fetch_queue.specs.declared.queue.ClaimEntry.{ClaimEntry}
use Rattle.open_tracker.specs.declared.dirs.DirEntry.{DirEntry}
use Rattle.open_tracker.specs.Directories.{is_of}
use Rattle.package_book.specs.declared.book.TheConstants.{META_LIMIT}
use Rattle.package_book.specs.Books.{book_at}
use Rattle.package_indexes.specs.declared.Choice.{Choice}
use Rattle.store_model.specs.declared.ends.BeginEnd.TheVariants as begins
use Rattle.store_model.specs.declared.ends.Cause.{Cause}
use Rattle.store_model.specs.declared.ends.WantEnd.{WantEnd}
use Rattle.store_model.specs.declared.ends.WantEnd.TheVariants as wants
use Rattle.store_model.specs.declared.events.Act.TheVariants as acts
use Rattle.store_model.specs.declared.events.Event.{Event}
use Rattle.store_model.specs.declared.events.LookedAt.{LookedAt}
use Rattle.store_model.specs.State.{State, Arrival, Stored, arrival_of, claim_of, has_root, is_stored, protected_in, stored_len, without_ticket}
use Rattle.store_model.specs.Settling.{IsSeen}
use Rattle.store_model.specs.History.{Origin}
use Rattle.store_model.specs.Acts.Begin.{begin_answer, has_to_read, next_begin}
use Rattle.store_model.specs.Acts.Land.{IsDueLand, next_land}
use Rattle.store_model.specs.Acts.Want.{IsAnswered, IsDueWant, next_want, with_directory}
use Rattle.store_model.specs.Acts.GaveUp.{IsDueGaveUp, next_gave_up}
use Rattle.store_model.specs.Acts.Close.{IsDueClose, next_close}
use Rattle.store_model.specs.Acts.Retain.{IsFree, next_retain}
use Rattle.store_model.specs.declared.ends.RetainEnd.TheVariants as retains
use Rattle.store_model.proofs.LanesOnce.{claimed_missing}
use Rattle.plain_state.specs.Holdings.{ends_due, stage_ends}
use Rattle.plain_state.specs.Learning.{IsSettled, seen_of}
use Rattle.plain_ledger.specs.Ledgers.{LedgerOf, IsLedger, Noted, Pushes}
use Rattle.plain_ledger.proofs.Counting.{found, no_longer, shorter}
use Rattle.plain_ledger.proofs.Ledgers.{Came, came, here, once, quietly, seen_as}

-- ---- tickets

seen_begun : (s : State) (root : Root) (meta : Option (List ℕ)) → is_some meta ≡ has_to_read s root
    → IfSome meta (λ bytes. (merkle_root bytes ≡ root) × (stored_len s.stock root ≡ Some (length bytes))) → IsSeen (seen_of root meta) s.stock
seen_begun s root None read bytes = tt
seen_begun s root (Some b) read bytes =
    let test = rw bytes.1 at (sym read) in
    (bytes.0, bytes.1, leb-true (length b) META_LIMIT (and_parts (nat_le (length b) META_LIMIT) (not (is_some (book_at s.books root))) test).0, tt)

-- the meta blob that a call was given is what it has to look at
pub record IsMeta (s : State) (root : Root) (meta : Option (List ℕ)) (seen : List LookedAt) : Type 0 where
  pub read : is_some meta ≡ has_to_read s root
  pub bytes : IfSome meta (λ bytes. (merkle_root bytes ≡ root) × (stored_len s.stock root ≡ Some (length bytes)))
  pub looked : seen ≡ seen_of root meta

pub begun : {o : Origin} {h : List Event} {spare : ℕ} {s s2 : State} {n1 n2 : Noted} {old : LedgerOf} {lane number : ℕ} {path : NameAndVariant} {choice : Choice} {root : Root} {meta : Option (List ℕ)} {seen : List LookedAt}
    → seen_as o h s ≡ old → IsLedger o h spare s → n1.events ≡ h → ends_due s + 2 ≤ n1.spare
    → Pushes lane (acts.Begin path choice (begins.Ticket root) seen) n1 n2
    → begin_answer old.state path choice ≡ begins.Ticket root → IsMeta old.state root meta seen → number ≡ length h + 1
    → IsSettled (seen_of root meta) (next_begin s number lane path (begins.Ticket root)) s2
    → Came o n2 s2 old lane (acts.Begin path choice (begins.Ticket root) seen)
begun {o} {h} {spare} {s} {s2} {n1} {n2} {old} {lane} {number} {path} {choice} {root} {meta} {seen} view l same room pushed answer was_meta own settled =
    let given : IsMeta s root meta seen = here (λ (t : State). IsMeta t root meta seen) view was_meta in
    let next_settled : IsSettled (seen_of root meta) (next_begin s (length h + 1) lane path (begins.Ticket root)) s2 =
    subst (λ (n : ℕ). IsSettled (seen_of root meta) (next_begin s n lane path (begins.Ticket root)) s2) own settled in
    came view l same pushed (record {
      later = refl;
      due = sym (here (λ (t : State). begin_answer t path choice ≡ begins.Ticket root) view answer);
      seen = subst (λ (x : List LookedAt). IsSeen x s.stock) (sym given.looked) (seen_begun s root meta given.read given.bytes);
      settled = subst (λ (x : List LookedAt). IsSettled x (next_begin s (length h + 1) lane path (begins.Ticket root)) s2) (sym given.looked) next_settled;
      booted = refl;
      broken = refl;
      enough = omega (arith, pushed.spare, room, length_push s.arriving (record { ticket = length h + 1; lane = lane; path = path; root = root; mark = None }));
    })

-- a place is held for a ticket's end
pub held_ticket : {o : Origin} {h : List Event} {spare : ℕ} {s : State} {old : LedgerOf} (ticket : ℕ) (P : Arrival → Type 0)
    → seen_as o h s ≡ old → IsLedger o h spare s → IsSomeAnd (arrival_of old.state.arriving ticket) P
    → ends_due (next_gave_up s ticket) + 1 ≤ spare
held_ticket {s = s} ticket P view l due =
    let there = found (arrival_of s.arriving ticket) P (here (λ (t : State). IsSomeAnd (arrival_of t.arriving ticket) P) view due) in
    omega (arith, l.enough, shorter (λ (a : Arrival). a.ticket == ticket) there.it s.arriving there.is)

pub failed : {o : Origin} {h : List Event} {s s2 : State} {n1 n2 : Noted} {old : LedgerOf} {lane ticket : ℕ} {cause : Cause}
    → seen_as o h s ≡ old → IsLedger o h n1.spare s → n1.events ≡ h → Pushes lane (acts.Want ticket (wants.Failed cause)) n1 n2
    → IsDueWant old.state lane ticket (wants.Failed cause) → IsSettled [] (next_gave_up s ticket) s2
    → Came o n2 s2 old lane (acts.Want ticket (wants.Failed cause))
failed {ticket = ticket} view l same pushed due settled =
    quietly view l same pushed due refl refl refl refl settled (omega (arith, pushed.spare, held_ticket ticket _ view l due))

pub given_up : {o : Origin} {h : List Event} {s s2 : State} {n1 n2 : Noted} {old : LedgerOf} {lane ticket : ℕ}
    → seen_as o h s ≡ old → IsLedger o h n1.spare s → n1.events ≡ h → Pushes lane (acts.GaveUp ticket) n1 n2
    → IsDueGaveUp old.state lane ticket → IsSettled [] (next_gave_up s ticket) s2 → Came o n2 s2 old lane (acts.GaveUp ticket)
given_up {ticket = ticket} view l same pushed due settled =
    quietly view l same pushed due refl refl refl refl settled (omega (arith, pushed.spare, held_ticket ticket _ view l due))

-- what arrives under a ticket that is answered
arrives_so : (a : Option Arrival) (P : Arrival → Type 0) → IsSomeAnd a P → IsSome a
arrives_so None P none = absurd none
arrives_so (Some arrival) P answered = refl

pub arrives : {o : Origin} {h : List Event} {s : State} {old : LedgerOf} (lane ticket : ℕ) (reply : WantEnd)
    → seen_as o h s ≡ old → IsDueWant old.state lane ticket reply → IsSome (arrival_of s.arriving ticket)
arrives {o} {h} {s} {old} lane ticket reply view due =
    arrives_so (arrival_of s.arriving ticket) _ (here (λ (t : State). IsDueWant t lane ticket reply) view due)

-- the ticket goes, and its directory comes
opened_ends : (s : State) (left lane ticket number : ℕ) (a : Option Arrival) → arrival_of s.arriving ticket ≡ a
    → IsSomeAnd a (IsAnswered s lane wants.Opened) → ends_due s ≤ left
    → length s.claims + length (without_ticket s.arriving ticket) + length (with_directory s.dirs number lane a) + stage_ends s.stage ≤ left
opened_ends s left lane ticket number None is none room = absurd none
opened_ends s left lane ticket number (Some a) is answered room =
    omega (arith, room, length_push s.dirs (record { number = number; lane = lane; root = a.root }), shorter (λ (x : Arrival). x.ticket == ticket) a s.arriving is)

pub opened : {o : Origin} {h : List Event} {spare : ℕ} {s s2 : State} {n1 n2 : Noted} {old : LedgerOf} {lane ticket number : ℕ}
    → seen_as o h s ≡ old → IsLedger o h spare s → n1.events ≡ h → ends_due s + 1 ≤ n1.spare
    → Pushes lane (acts.Want ticket wants.Opened) n1 n2 → IsDueWant old.state lane ticket wants.Opened → number ≡ length h + 1
    → IsSettled [] (next_want s number lane ticket wants.Opened) s2 → Came o n2 s2 old lane (acts.Want ticket wants.Opened)
opened {h = h} {s = s} {s2 = s2} {n2 = n2} {lane = lane} {ticket = ticket} view l same room pushed due own settled =
    quietly view l same pushed due refl refl refl refl
    (subst (λ (n : ℕ). IsSettled [] (next_want s n lane ticket wants.Opened) s2) own settled)
    (opened_ends s n2.spare lane ticket (length h + 1) (arrival_of s.arriving ticket) refl
    (here (λ (t : State). IsDueWant t lane ticket wants.Opened) view due) (omega (arith, pushed.spare, room)))

-- ---- a blob is stored

own_len : (stock : List Stored) (root : Root) (len : ℕ) → is_stored stock root ≡ false → stored_len (stock ++ record { root = root; len = len } ∷ []) root ≡ Some len
own_len [] root len missing = rw (root_eq-refl root) refl
own_len (other ∷ stock) root len missing =
    elim (cases_Bool (root_eq other.root root)) [
      | inl same ↦ absurd (true≢false (sym (let s : is_stored (other ∷ stock) root ≡ true = rw same refl in s) ∙ missing))
      | inr differs ↦ rw differs (own_len stock root len (rw differs at missing))
    ]

seen_landed : (s : State) (root : Root) (len : ℕ) (meta : Option (List ℕ)) → is_stored s.stock root ≡ false → is_some meta ≡ (has_root (protected_in s) root && nat_le len META_LIMIT)
    → IfSome meta (λ bytes. (merkle_root bytes ≡ root) × (length bytes ≡ len)) → IsSeen (seen_of root meta) (next_land s root len None).stock
seen_landed s root len None missing read bytes = tt
seen_landed s root len (Some b) missing read bytes =
    let short : len ≤ META_LIMIT = leb-true len META_LIMIT (and_parts (has_root (protected_in s) root) (nat_le len META_LIMIT) (sym read)).1 in
    (bytes.0, own_len s.stock root len missing ∙ ap Some (sym bytes.1), subst (λ (n : ℕ). n ≤ META_LIMIT) (sym bytes.1) short, tt)

-- a claimed blob isn't stored
pub not_there : {o : Origin} {h : List Event} {spare : ℕ} {s : State} {old : LedgerOf} (lane : ℕ) (root : Root) (len : ℕ)
    → seen_as o h s ≡ old → IsLedger o h spare s → IsDueLand old.state lane root len None → is_stored s.stock root ≡ false
not_there {s = s} lane root len view l due =
    claimed_missing s root _ (claim_of s.claims root) refl (here (λ (t : State). IsDueLand t lane root len None) view due).0 (once l).claims

-- the bytes that a landing was given are what it has to look at
pub record IsLanding (s : State) (root : Root) (len : ℕ) (meta : Option (List ℕ)) (seen : List LookedAt) : Type 0 where
  pub read : is_some meta ≡ (has_root (protected_in s) root && nat_le len META_LIMIT)
  pub bytes : IfSome meta (λ bytes. (merkle_root bytes ≡ root) × (length bytes ≡ len))
  pub looked : seen ≡ seen_of root meta

pub landed : {o : Origin} {h : List Event} {s s2 : State} {n1 n2 : Noted} {old : LedgerOf} {lane len : ℕ} {root : Root} {meta : Option (List ℕ)} {seen : List LookedAt}
    → seen_as o h s ≡ old → IsLedger o h n1.spare s → n1.events ≡ h → Pushes lane (acts.Land root len None seen) n1 n2
    → IsDueLand old.state lane root len None → IsLanding old.state root len meta seen
    → IsSettled (seen_of root meta) (next_land s root len None) s2 → Came o n2 s2 old lane (acts.Land root len None seen)
landed {o} {h} {s} {s2} {n1} {n2} {old} {lane} {len} {root} {meta} {seen} view l same pushed was_due was_given settled =
    let due : IsDueLand s lane root len None = here (λ (t : State). IsDueLand t lane root len None) view was_due in
    let given : IsLanding s root len meta seen = here (λ (t : State). IsLanding t root len meta seen) view was_given in
    let there = found (claim_of s.claims root) _ due.0 in
    came view l same pushed (record {
      later = refl;
      due = due;
      seen = subst (λ (x : List LookedAt). IsSeen x (next_land s root len None).stock) (sym given.looked)
          (seen_landed s root len meta (not_there lane root len view l was_due) given.read given.bytes);
      settled = subst (λ (x : List LookedAt). IsSettled x (next_land s root len None) s2) (sym given.looked) settled;
      booted = refl;
      broken = refl;
      enough = omega (arith, pushed.spare, l.enough, shorter (λ (c : ClaimEntry). root_eq c.root root) there.it s.claims there.is);
    })

-- ---- directories

pub open_goes : (s : State) (lane dir : ℕ) (root : Root) (d : Option DirEntry) → find (λ (x : DirEntry). is_of x dir lane) s.dirs ≡ d
    → option_map (λ (x : DirEntry). x.root) d ≡ Some root → ends_due (next_close s lane dir) + 1 ≤ ends_due s
open_goes s lane dir root None e none = absurd cc
open_goes s lane dir root (Some d) e some = omega (arith, shorter (λ (x : DirEntry). is_of x dir lane) d s.dirs e)

pub no_more : (s : State) (lane dir room : ℕ) → ends_due s + 1 ≤ room → ends_due (next_close s lane dir) + 1 ≤ room
no_more s lane dir room enough = omega (arith, enough, no_longer (λ (x : DirEntry). not (is_of x dir lane)) s.dirs)

pub closed : {o : Origin} {h : List Event} {spare : ℕ} {s s2 : State} {n1 n2 : Noted} {old : LedgerOf} {lane dir : ℕ} {was : Bool}
    → seen_as o h s ≡ old → IsLedger o h spare s → n1.events ≡ h → ends_due (next_close s lane dir) + 1 ≤ n1.spare
    → Pushes lane (acts.Close dir was) n1 n2 → IsDueClose s lane dir was → IsSettled [] (next_close s lane dir) s2
    → Came o n2 s2 old lane (acts.Close dir was)
closed {lane = lane} {dir = dir} {was = was} view l same room pushed due settled =
    quietly view l same pushed (subst (λ (t : LedgerOf). IsDueClose t.state lane dir was) view due) refl refl refl refl settled
    (omega (arith, pushed.spare, room))

-- ---- packages are retained

pub retained : {o : Origin} {h : List Event} {spare : ℕ} {s s2 : State} {n1 n2 : Noted} {old : LedgerOf} {lane : ℕ} {given roots : List Root} {seen : List LookedAt}
    → seen_as o h s ≡ old → IsLedger o h spare s → n1.events ≡ h → ends_due s + 1 ≤ n1.spare
    → Pushes lane (acts.Retain roots retains.Done seen) n1 n2 → roots ≡ given → IsFree old.state → IsSeen seen s.stock
    → IsSettled seen (next_retain s given retains.Done) s2 → Came o n2 s2 old lane (acts.Retain given retains.Done seen)
retained {n1 = n1} {n2 = n2} {lane = lane} {seen = seen} view l same room pushed copied free there settled =
    came view l same (subst (λ (r : List Root). Pushes lane (acts.Retain r retains.Done seen) n1 n2) copied pushed) (record {
      later = refl;
      due = here IsFree view free;
      seen = there;
      settled = settled;
      booted = refl;
      broken = refl;
      enough = omega (arith, pushed.spare, room);
    })
