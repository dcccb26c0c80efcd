-- One event more.
use Rattle.std.proofs.Common.{◌≡◌, ◌≢◌, ◌<◌, ◌≤◌, ℕ, ◌+◌, Bool, true, false, not, List, [], ◌∷◌, ◌++◌, length, All, Option, Some, None, is_some, refl, sym, ap, subst, arith, ◌∙◌}
use Rattle.std.specs.Prelude.{◌||◌}
use Rattle.std.proofs.lemmas.List.Elements.{All-weaker}
use Rattle.open_tracker.specs.declared.dirs.DirEntry.{DirEntry}
use Rattle.store_model.specs.declared.events.Act.{Act}
use Rattle.store_model.specs.declared.events.Event.{Event}
use Rattle.store_model.specs.declared.events.LookedAt.{LookedAt}
use Rattle.store_model.specs.State.{State, Arrival}
use Rattle.store_model.specs.Lanes.{StandOnce}
use Rattle.store_model.specs.Settling.{IsSeen}
use Rattle.store_model.specs.Step.{IsActDue, IsDue, is_boot, is_end, next, seen_by}
use Rattle.store_model.specs.History.{Origin, after}
use Rattle.store_model.specs.Mirrors.{Mirrors}
use Rattle.store_model.proofs.LanesOnce.{stand_once}
use Rattle.store_model.proofs.Histories.{goes_on}
use Rattle.store_model.proofs.SameSteps.{mirrors_back, mirrors_on, same_due, same_step}
use Rattle.plain_state.specs.Holdings.{ends_due}
use Rattle.plain_state.specs.Learning.{IsReady, IsSettled}
use Rattle.plain_state.proofs.Ready.{ready_after}
use Rattle.plain_ledger.specs.Ledgers.{LedgerOf, IsLedger, Noted, Notes, Pushes, Stays, event_by, next_number}

-- what is seen of a ledger with these parts
abbrev pub seen_as : Origin → List Event → State → LedgerOf
seen_as o h s = record { origin = o; history = h; state = s }

-- what was so of the state that was seen is so of the state
pub here : {o : Origin} {h : List Event} {s : State} {old : LedgerOf} (P : State → Type 0) → seen_as o h s ≡ old
    → P old.state → P s
here P view so = subst (λ (l : LedgerOf). P l.state) (sym view) so

-- an act that is due in the state, and what it leaves
pub record Goes (h : List Event) (spare : ℕ) (s s2 : State) (lane : ℕ) (act : Act) : Type 0 where
  pub later : is_boot act ≡ false
  pub due : IsActDue s lane act
  pub seen : IsSeen (seen_by act) (next s (length h + 1) lane act).stock
  pub settled : IsSettled (seen_by act) (next s (length h + 1) lane act) s2
  pub booted : (next s (length h + 1) lane act).booted ≡ s.booted
  pub broken : (next s (length h + 1) lane act).broken ≡ s.broken
  pub enough : ends_due (next s (length h + 1) lane act) ≤ spare

either_on : (b : Bool) (o : Option ℕ) → o ≡ None → (b || not (is_some o)) ≡ true
either_on true o none = refl
either_on false None none = refl
either_on false (Some n) none = absurd cc

is_due : (o : Origin) (h : List Event) (spare spare2 : ℕ) (s s2 : State) (lane : ℕ) (act : Act)
    → IsLedger o h spare s → Goes h spare2 s s2 lane act → IsDue (after o h) (length h + 1) (event_by lane act)
is_due o h spare spare2 s s2 lane act l g =
    same_due s (after o h) (length h + 1) (event_by lane act) (mirrors_back (after o h) s l.mirrors) (record {
      boots = g.later ∙ sym (ap not l.booted);
      goes_on = either_on (is_end act) s.broken l.unbroken;
      due = g.due;
      looked = g.settled.looked;
      seen = g.seen;
    })

acted : (o : Origin) (h : List Event) (spare spare2 : ℕ) (s s2 : State) (lane : ℕ) (act : Act)
    → IsLedger o h spare s → Goes h spare2 s s2 lane act → IsLedger o (h ++ event_by lane act ∷ []) spare2 s2
acted o h spare spare2 s s2 lane act l g =
    let e = event_by lane act in
    let on = goes_on o h e l.legal (is_due o h spare spare2 s s2 lane act l g) in
    record {
      legal = on.legal;
      mirrors = subst (λ (t : State). Mirrors t s2) (sym on.state)
          (mirrors_on _ _ s2 (same_step (after o h) s (length h + 1) e l.mirrors) g.settled.state);
      booted = ap (λ (t : State). t.booted) g.settled.state.rest ∙ g.booted ∙ l.booted;
      unbroken = ap (λ (t : State). t.broken) g.settled.state.rest ∙ g.broken ∙ l.unbroken;
      enough = subst (λ (t : State). ends_due t ≤ spare2) (sym g.settled.state.rest) g.enough;
    }

-- a call's event came
pub record Came (o : Origin) (n2 : Noted) (s2 : State) (old : LedgerOf) (lane : ℕ) (act : Act) : Type 0 where
  pub holds : IsLedger o n2.events n2.spare s2
  pub told : Notes old lane act (seen_as o n2.events s2)

pub came : {o : Origin} {h : List Event} {spare : ℕ} {s s2 : State} {n1 n2 : Noted} {old : LedgerOf} {lane : ℕ} {act : Act}
    → seen_as o h s ≡ old → IsLedger o h spare s → n1.events ≡ h → Pushes lane act n1 n2 → Goes h n2.spare s s2 lane act
    → Came o n2 s2 old lane act
came {o} {h} {spare} {s} {s2} {n1} {n2} {old} {lane} {act} view l same pushed g =
    let is : n2.events ≡ h ++ event_by lane act ∷ [] =
    pushed.events ∙ ap (λ (x : List Event). x ++ event_by lane act ∷ []) same in
    let holds : IsLedger o n2.events n2.spare s2 =
    subst (λ (x : List Event). IsLedger o x n2.spare s2) (sym is) (acted o h spare n2.spare s s2 lane act l g) in
    record {
      holds = holds;
      told = subst (λ (x : LedgerOf). Notes x lane act (seen_as o n2.events s2)) view (record {
        origin = refl;
        history = is;
        due = is_due o h spare n2.spare s s2 lane act l g;
        state = g.settled.state;
        holds = record { legal = holds.legal; mirrors = holds.mirrors };
      });
    }

-- the event of an act that looks at nothing
pub quietly : {o : Origin} {h : List Event} {spare : ℕ} {s s2 : State} {n1 n2 : Noted} {old : LedgerOf} {lane : ℕ} {act : Act}
    → seen_as o h s ≡ old → IsLedger o h spare s → n1.events ≡ h → Pushes lane act n1 n2 → IsActDue old.state lane act
    → is_boot act ≡ false → seen_by act ≡ [] → (next s (length h + 1) lane act).booted ≡ s.booted
    → (next s (length h + 1) lane act).broken ≡ s.broken → IsSettled [] (next s (length h + 1) lane act) s2
    → ends_due (next s (length h + 1) lane act) ≤ n2.spare → Came o n2 s2 old lane act
quietly {h = h} {s = s} {s2 = s2} {lane = lane} {act = act} view l same pushed due later nothing booted broken settled enough =
    let n : State = next s (length h + 1) lane act in
    came view l same pushed (record {
      later = later;
      due = here (λ (t : State). IsActDue t lane act) view due;
      seen = subst (λ (seen : List LookedAt). IsSeen seen n.stock) (sym nothing) tt;
      settled = subst (λ (seen : List LookedAt). IsSettled seen n s2) (sym nothing) settled;
      booted = booted;
      broken = broken;
      enough = enough;
    })

-- the number of the event, as the call took it
pub numbered : {o : Origin} {h : List Event} {s : State} {old : LedgerOf} {number : ℕ} → seen_as o h s ≡ old
    → number ≡ length h + 1 → number ≡ next_number old
numbered view is = is ∙ ap next_number view

-- ---- what a ledger's state is known by

pub once : {o : Origin} {h : List Event} {spare : ℕ} {s : State} → IsLedger o h spare s → StandOnce s (length h + 1)
once {o} {h} {spare} {s} l =
    let t = stand_once o h l.legal in
    subst (λ (x : State). StandOnce x (length h + 1)) (sym l.mirrors.rest)
    (record { claims = t.claims; tickets = t.tickets; dirs = t.dirs })

pub ready : {o : Origin} {h : List Event} {spare : ℕ} {s : State} → IsLedger o h spare s → IsReady s
ready {o} {h} {spare} {s} l = ready_after o h s l.legal l.mirrors

-- the event's number is new
pub fresh_ticket : {o : Origin} {h : List Event} {spare : ℕ} {s : State} {number : ℕ} → IsLedger o h spare s
    → number ≡ length h + 1 → All (λ (a : Arrival). a.ticket ≢ number) s.arriving
fresh_ticket {o} {h} {spare} {s} {number} l is =
    All-weaker (λ (a : Arrival). a.ticket < length h + 1) (λ (a : Arrival). a.ticket ≢ number)
    (λ a below same. absurd (omega (arith, below, same, is))) s.arriving (once l).tickets.before

pub fresh_dir : {o : Origin} {h : List Event} {spare : ℕ} {s : State} {number : ℕ} → IsLedger o h spare s
    → number ≡ length h + 1 → All (λ (d : DirEntry). d.number ≢ number) s.dirs
fresh_dir {o} {h} {spare} {s} {number} l is =
    All-weaker (λ (d : DirEntry). d.number < length h + 1) (λ (d : DirEntry). d.number ≢ number)
    (λ d below same. absurd (omega (arith, below, same, is))) s.dirs (once l).dirs.before

-- ---- nothing came

pub waits : {o : Origin} {h : List Event} {spare : ℕ} {s s2 : State} {n : Noted} → IsLedger o h spare s → n.events ≡ h
    → spare ≤ n.spare → Mirrors s s2 → IsLedger o n.events n.spare s2
waits {o} {h} {spare} {s} {s2} {n} l same more mirrors = subst (λ (x : List Event). IsLedger o x n.spare s2) (sym same) (record {
  legal = l.legal;
  mirrors = mirrors_on (after o h) s s2 l.mirrors mirrors;
  booted = ap (λ (t : State). t.booted) mirrors.rest ∙ l.booted;
  unbroken = ap (λ (t : State). t.broken) mirrors.rest ∙ l.unbroken;
  enough = subst (λ (t : State). ends_due t ≤ n.spare) (sym mirrors.rest) (omega (arith, l.enough, more));
})

pub rests : {o : Origin} {h h2 : List Event} {spare : ℕ} {s s2 : State} {old : LedgerOf} → seen_as o h s ≡ old
    → IsLedger o h spare s → h2 ≡ h → Mirrors s s2 → Stays old (seen_as o h2 s2)
rests {o} {h} {h2} {spare} {s} {s2} {old} view l same mirrors =
    subst (λ (x : LedgerOf). Stays x (seen_as o h2 s2)) view
    (subst (λ (x : List Event). Stays (seen_as o h s) (seen_as o x s2)) (sym same) (record {
      origin = refl;
      history = refl;
      state = mirrors;
      holds = record { legal = l.legal; mirrors = mirrors_on (after o h) s s2 l.mirrors mirrors };
    }))
