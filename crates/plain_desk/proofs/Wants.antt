-- What the holder of a ticket is answered, as the desk has it.
use Rattle.std.proofs.Common.{◌≡◌, ℕ, Bool, true, false, Option, Some, None, refl, sym, ap, ◌∙◌}
use Rattle.std.specs.Prelude.{IsSomeAnd, option_and_then}
use Rattle.std.proofs.lemmas.Bool.{true≢false}
use Rattle.pkg_names.specs.declared.root.Root.{Root}
use Rattle.fetch_queue.specs.declared.FetchEnd.{FetchEnd}
use Rattle.package_book.specs.declared.fault.PackageFault.{PackageFault}
use Rattle.store_model.specs.declared.ends.Cause.TheVariants as causes
use Rattle.store_model.specs.declared.ends.WantEnd.{WantEnd}
use Rattle.store_model.specs.declared.ends.WantEnd.TheVariants as wants
use Rattle.store_model.specs.declared.replies.Ticket.{Ticket}
use Rattle.store_model.specs.State.{State, Arrival, arrival_of}
use Rattle.store_model.specs.Packages.{known_fault}
use Rattle.store_model.specs.Quiet.{IsQuiet}
use Rattle.store_model.specs.History.{after, of_lane}
use Rattle.store_model.specs.Holding.{HeldTicket, held, ticket_with}
use Rattle.store_model.specs.Acts.GaveUp.{IsDueGaveUp}
use Rattle.store_model.specs.Acts.Want.{IsAnswered, IsDueWant, answer_for, want_answer}
use Rattle.store_model.proofs.HoldingThere.{handles_there}
use Rattle.store_model.proofs.LanesQuiet.{knows_always, waits}
use Rattle.store_model.proofs.SameBooks.{same_fault, want_same}
use Rattle.plain_ledger.specs.Ledgers.{LedgerOf, Agrees, Stays}
use Rattle.plain_desk.proofs.Stores.{IsOf, on_stays, handles, ticket_at, ticket_there}

-- the lane has the ticket
abbrev pub Has : LedgerOf → ℕ → Ticket → Type 0
Has l lane ticket = IsSomeAnd (ticket_with (held (of_lane lane l.history)).tickets ticket.number) (λ (of : HeldTicket). of.root ≡ ticket.root)

-- the lane fetches nothing
abbrev pub IsFree : LedgerOf → ℕ → Type 0
IsFree l lane = (held (of_lane lane l.history)).claim ≡ None

-- what the state answers to the ticket
abbrev pub answer_to : State → Ticket → Option WantEnd
answer_to s ticket = option_and_then (want_answer s) (arrival_of s.arriving ticket.number)

pub give_up_due : (l : LedgerOf) (lane : ℕ) (ticket : Ticket) → Agrees l → Has l lane ticket → IsDueGaveUp l.state lane ticket.number
give_up_due l lane ticket a has = first (arrival_of l.state.arriving ticket.number) (ticket_there l lane ticket a has) where
  first : (o : Option Arrival) → IsSomeAnd o (IsOf lane ticket.root) → IsSomeAnd o (λ (arrival : Arrival). arrival.lane ≡ lane)
  first None none = absurd none
  first (Some arrival) there = there.lane

-- what the state was asked
pub answers : {s t : State} (ticket : Ticket) {found : Option WantEnd} → s ≡ t → found ≡ answer_to s ticket → answer_to t ticket ≡ found
answers ticket same is = sym (ap (λ (x : State). answer_to x ticket) same) ∙ sym is

pub want_due : (l : LedgerOf) (lane : ℕ) (ticket : Ticket) (reply : WantEnd) → Agrees l → Has l lane ticket → IsFree l lane → answer_to l.state ticket ≡ Some reply → IsDueWant l.state lane ticket.number reply
want_due l lane ticket reply a has free answer = first (arrival_of l.state.arriving ticket.number) (ticket_there l lane ticket a has) answer where
  first : (o : Option Arrival) → IsSomeAnd o (IsOf lane ticket.root) → option_and_then (want_answer l.state) o ≡ Some reply → IsSomeAnd o (IsAnswered l.state lane reply)
  first None none e = absurd none
  first (Some arrival) there e = record { lane = there.lane; free = (handles l lane a).free free; answer = e }

no_answer : (reply : WantEnd) → ◌≡◌ {A = Option WantEnd} (Some reply) None → ⊥
no_answer reply e = absurd cc

-- where the state has no answer, it is quiet for the lane
pub quiet : (l : LedgerOf) (lane : ℕ) (ticket : Ticket) → Agrees l → Has l lane ticket → IsFree l lane → answer_to l.state ticket ≡ None → IsQuiet (after l.origin l.history) lane ticket.number
quiet l lane ticket a has free none =
    (waits (after l.origin l.history) lane ticket.number (knows_always l.origin l.history a.legal) own ((handles_there l.origin l.history lane a.legal).free free)).1
    (λ reply due. clash reply (arrival_of (after l.origin l.history).arriving ticket.number) due still) where
      own : IsSomeAnd (arrival_of (after l.origin l.history).arriving ticket.number) (λ (arrival : Arrival). arrival.lane ≡ lane)
      own = first (arrival_of (after l.origin l.history).arriving ticket.number) (ticket_at (after l.origin l.history) (held (of_lane lane l.history)) lane ticket (handles_there l.origin l.history lane a.legal) has) where
        first : (o : Option Arrival) → IsSomeAnd o (IsOf lane ticket.root) → IsSomeAnd o (λ (arrival : Arrival). arrival.lane ≡ lane)
        first None none = absurd none
        first (Some arrival) is = is.lane

      still : option_and_then (want_answer l.state) (arrival_of (after l.origin l.history).arriving ticket.number) ≡ None
      still = sym (ap (λ (s : State). option_and_then (want_answer l.state) (arrival_of s.arriving ticket.number)) a.mirrors.rest) ∙ none

      same : (arrival : Arrival) → want_answer (after l.origin l.history) arrival ≡ want_answer l.state arrival
      same arrival = want_same (after l.origin l.history) l.state.books a.mirrors.books arrival ∙ ap (λ (s : State). want_answer s arrival) (sym a.mirrors.rest)

      clash : (reply : WantEnd) (o : Option Arrival) → IsSomeAnd o (IsAnswered (after l.origin l.history) lane reply) → option_and_then (want_answer l.state) o ≡ None → ⊥
      clash reply None due e = absurd due
      clash reply (Some arrival) due e = no_answer reply (sym due.answer ∙ same arrival ∙ e)

-- ---- a package that hasn't failed

abbrev pub is_failure : WantEnd → Bool
is_failure (wants.Failed cause) = true
is_failure reply = false

record GoesOn (first : Option FetchEnd) (why : Option PackageFault) : Type 0 where
  mark : first ≡ None
  fault : why ≡ None

goes_on : (mark : Option FetchEnd) (fault : Option PackageFault) (complete : Bool) (free : Option Root) (reply : WantEnd) → answer_for mark fault complete free ≡ Some reply → is_failure reply ≡ false → GoesOn mark fault
goes_on (Some end) fault complete free reply e kept = absurd (true≢false (failure (wants.Failed (causes.Fetch end)) reply e refl ∙ kept)) where
  failure : (given reply : WantEnd) → Some given ≡ Some reply → is_failure given ≡ true → true ≡ is_failure reply
  failure given reply same is = let so : given ≡ reply = cc in sym is ∙ ap is_failure so
goes_on None (Some why) complete free reply e kept = absurd (true≢false (failure (wants.Failed (causes.NotAPackage why)) reply e refl ∙ kept)) where
  failure : (given reply : WantEnd) → Some given ≡ Some reply → is_failure given ≡ true → true ≡ is_failure reply
  failure given reply same is = let so : given ≡ reply = cc in sym is ∙ ap is_failure so
goes_on None None complete free reply e kept = record { mark = refl; fault = refl }

-- the package of the ticket has no mark, and isn't known to be none
pub may_go_on : (l : LedgerOf) (lane : ℕ) (ticket : Ticket) (reply : WantEnd) → Agrees l → answer_to l.state ticket ≡ Some reply → is_failure reply ≡ false
    → IsSomeAnd (arrival_of (after l.origin l.history).arriving ticket.number) (λ (arrival : Arrival). (arrival.mark ≡ None) × (known_fault (after l.origin l.history).books arrival.root ≡ None))
may_go_on l lane ticket reply a answer kept =
    first (arrival_of (after l.origin l.history).arriving ticket.number)
    (sym (ap (λ (s : State). option_and_then (want_answer l.state) (arrival_of s.arriving ticket.number)) a.mirrors.rest) ∙ answer) where
      first : (o : Option Arrival) → option_and_then (want_answer l.state) o ≡ Some reply → IsSomeAnd o (λ (arrival : Arrival). (arrival.mark ≡ None) × (known_fault (after l.origin l.history).books arrival.root ≡ None))
      first None e = absurd cc
      first (Some arrival) e =
          let on = goes_on arrival.mark (known_fault l.state.books arrival.root) _ _ reply e kept in
          (on.mark, same_fault (after l.origin l.history).books l.state.books a.mirrors.books arrival.root ∙ on.fault)

-- and so the desk sees it after a call that did nothing
pub may_go_on_still : {old new : LedgerOf} (lane : ℕ) (ticket : Ticket) (reply : WantEnd) → Agrees old → Stays old new
    → answer_to old.state ticket ≡ Some reply → is_failure reply ≡ false
    → IsSomeAnd (arrival_of (after new.origin new.history).arriving ticket.number)
    (λ (arrival : Arrival). (arrival.mark ≡ None) × (known_fault (after new.origin new.history).books arrival.root ≡ None))
may_go_on_still {old} {new} lane ticket reply a s answer kept =
    on_stays (λ (t : State). IsSomeAnd (arrival_of t.arriving ticket.number)
    (λ (arrival : Arrival). (arrival.mark ≡ None) × (known_fault t.books arrival.root ≡ None))) s
    (may_go_on old lane ticket reply a answer kept)
