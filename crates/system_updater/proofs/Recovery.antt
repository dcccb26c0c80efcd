-- In recovery no package arrives, is open, or is known by its path.
use Rattle.std.proofs.Common.{◌≡◌, ℕ, Bool, true, false, not, cond, List, [], Option, Some, None, refl, sym, ap, subst, ◌∙◌}
use Rattle.std.specs.Prelude.{if◌then◌else◌, IsSomeAnd}
use Rattle.abr_record.specs.Boot.{boot_slot}
use Rattle.abr_record.specs.declared.Slot.{Slot}
use Rattle.abr_record.specs.declared.Slot.TheVariants as slots
use Rattle.fetch_queue.specs.declared.FetchEnd.{FetchEnd}
use Rattle.open_tracker.specs.declared.dirs.DirEntry.{DirEntry}
use Rattle.open_tracker.specs.Directories.{without}
use Rattle.pkg_names.specs.NameAndVariant.{NameAndVariant}
use Rattle.pkg_names.specs.declared.pinned.Pinned.{Pinned}
use Rattle.pkg_names.specs.declared.root.Root.{Root}
use Rattle.package_indexes.specs.declared.Choice.{Choice}
use Rattle.package_indexes.specs.Indexes.{chosen, root_at, or_else}
use Rattle.store_model.specs.declared.ends.BeginEnd.{BeginEnd}
use Rattle.store_model.specs.declared.ends.BeginEnd.TheVariants as begins
use Rattle.store_model.specs.declared.ends.Miss.{Miss}
use Rattle.store_model.specs.declared.ends.Miss.TheVariants as misses
use Rattle.store_model.specs.declared.events.Act.{Act}
use Rattle.store_model.specs.declared.events.Act.TheVariants.{Boot, Begin, Want, Room, Put, Land, Missed, GaveUp, OpenPath, Close, Refused}
use Rattle.store_model.specs.declared.events.CallName.{CallName}
use Rattle.store_model.specs.declared.events.CallName.TheVariants as calls
use Rattle.store_model.specs.declared.events.Event.{Event}
use Rattle.store_model.specs.declared.events.LookedAt.{LookedAt}
use Rattle.store_model.specs.Acts.Begin.{IsDueBegin, ticket_for, arriving_after_begin}
use Rattle.store_model.specs.Acts.Boot.{base_after_boot, cached_after_boot}
use Rattle.store_model.specs.Acts.Marking.{marked_arrivals}
use Rattle.store_model.specs.Acts.Missed.{next_missed}
use Rattle.store_model.specs.Acts.OpenPath.{root_to_open, if_complete, dirs_after_open}
use Rattle.store_model.specs.Acts.Refused.{next_refused}
use Rattle.store_model.specs.Acts.Want.{IsAnswered}
use Rattle.store_model.specs.History.{Beginning, Origin, IsLegal, after, start}
use Rattle.store_model.specs.History.Beginning.{Lasted, Factory}
use Rattle.store_model.specs.State.{State, Arrival, sys_of, is_recovery, arrival_of, without_ticket}
use Rattle.store_model.specs.Step.{IsActDue, IsActDueIf, IsDue, next, next_broken, is_boot, step}
use Rattle.store_model.proofs.Frames.{keeps_next}
use Rattle.store_model.proofs.Sound.{holds_from}

pub record IsBare (s : State) : Type 0 where
  pub arriving : s.arriving ≡ []
  pub dirs : s.dirs ≡ []
  pub base : s.base ≡ []
  pub cached : s.cached ≡ []
  pub active : s.active ≡ []

-- before the boot recovery runs
record IsBareIn (s : State) : Type 0 where
  before : s.booted ≡ false → is_recovery s.running ≡ true
  bare : is_recovery s.running ≡ true → IsBare s

-- ---- what each act makes of it

-- no package is asked for
no_ticket : (A : Type 0) (recovery : Bool) (root : Root) (answer : BeginEnd) → recovery ≡ true → begins.Ticket root ≡ (if recovery then begins.InRecovery else answer) → A
no_ticket A true root answer is same = absurd (cc same)
no_ticket A false root answer is same = absurd (cc is)

begin_bare : (s : State) (number lane : ℕ) (path : NameAndVariant) (choice : Choice) (reply : BeginEnd) → is_recovery s.running ≡ true → IsDueBegin s path choice reply → arriving_after_begin s number lane path reply ≡ s.arriving
begin_bare s number lane path choice (begins.Ticket root) is due =
    no_ticket (arriving_after_begin s number lane path (begins.Ticket root) ≡ s.arriving) (is_recovery s.running) root (ticket_for choice (chosen s.base s.cached path choice)) is due
begin_bare s number lane path choice begins.InRecovery is due = refl
begin_bare s number lane path choice begins.NotFound is due = refl
begin_bare s number lane path choice begins.ListingFault is due = refl
begin_bare s number lane path choice begins.DiskRead is due = refl
begin_bare s number lane path choice (begins.Rotten root got) is due = refl

-- no package is to be opened
nothing_opens : (s : State) (path : NameAndVariant) → IsBare s → root_to_open s path ≡ None
nothing_opens s path bare =
    ap (λ (pairs : List Pinned). or_else (root_at pairs path) (or_else (root_at s.active path) (if_complete s (root_at s.cached path)))) bare.base ∙
    ap (λ (pairs : List Pinned). or_else (root_at pairs path) (if_complete s (root_at s.cached path))) bare.active ∙
    ap (λ (pairs : List Pinned). if_complete s (root_at pairs path)) bare.cached

no_arrival : (A : Type 0) (s : State) (ticket : ℕ) (P : Arrival → Type 0) → IsBare s → IsSomeAnd (arrival_of s.arriving ticket) P → A
no_arrival A s ticket P bare there = absurd (subst (λ (arriving : List Arrival). IsSomeAnd (arrival_of arriving ticket) P) bare.arriving there)

-- none is marked
marked_bare : (s : State) (root : Root) (end : FetchEnd) → IsBare s → marked_arrivals s root end ≡ []
marked_bare s root end bare = ap (λ (arriving : List Arrival). let with : State = record s { arriving = arriving } in marked_arrivals with root end) bare.arriving

with_arriving : (s n : State) → n.arriving ≡ [] → n.dirs ≡ s.dirs → n.base ≡ s.base → n.cached ≡ s.cached → n.active ≡ s.active → IsBare s → IsBare n
with_arriving s n arriving dirs base cached active bare =
    record { arriving = arriving; dirs = dirs ∙ bare.dirs; base = base ∙ bare.base; cached = cached ∙ bare.cached; active = active ∙ bare.active }

missed_bare : (s : State) (root : Root) (why : Miss) → IsBare s → IsBare (next_missed s root why)
missed_bare s root misses.Absent bare = with_arriving s (next_missed s root misses.Absent) (marked_bare s root _ bare) refl refl refl refl bare
missed_bare s root misses.Read bare = with_arriving s (next_missed s root misses.Read) (marked_bare s root _ bare) refl refl refl refl bare
missed_bare s root misses.Memory bare = with_arriving s (next_missed s root misses.Memory) bare.arriving refl refl refl refl bare

refused_bare : (s : State) (call : CallName) → IsBare s → IsBare (next_refused s call)
refused_bare s (calls.Want ticket) bare =
    with_arriving s (next_refused s (calls.Want ticket)) (ap (λ (arriving : List Arrival). without_ticket arriving ticket) bare.arriving) refl refl refl refl bare
refused_bare s (calls.Room root) bare = with_arriving s (next_refused s (calls.Room root)) bare.arriving refl refl refl refl bare
refused_bare s (calls.Put root) bare = with_arriving s (next_refused s (calls.Put root)) bare.arriving refl refl refl refl bare
refused_bare s (calls.Land root) bare = with_arriving s (next_refused s (calls.Land root)) bare.arriving refl refl refl refl bare
refused_bare s call bare = bare

open_bare : (s : State) (number lane : ℕ) (reply : Option Root) → reply ≡ None → IsBare s → dirs_after_open s.dirs number lane reply ≡ []
open_bare s number lane reply none bare = ap (λ (o : Option Root). dirs_after_open s.dirs number lane o) none ∙ bare.dirs

act_bare : (s : State) (number lane : ℕ) (act : Act) → IsActDue s lane act → is_boot act ≡ false → is_recovery s.running ≡ true → IsBare s → IsBare (next s number lane act)
act_bare s number lane (Boot slot seen) due never is bare = absurd (cc never)
act_bare s number lane (Begin path choice reply seen) due other is bare =
    with_arriving s (next s number lane (Begin path choice reply seen)) (begin_bare s number lane path choice reply is due ∙ bare.arriving) refl refl refl refl bare
act_bare s number lane (Want ticket reply) due other is bare =
    no_arrival (IsBare (next s number lane (Want ticket reply))) s ticket (IsAnswered s lane reply) bare due
act_bare s number lane (Room root len None) due other is bare = with_arriving s (next s number lane (Room root len None)) bare.arriving refl refl refl refl bare
act_bare s number lane (Room root len (Some end)) due other is bare = with_arriving s (next s number lane (Room root len (Some end))) (marked_bare s root end bare) refl refl refl refl bare
act_bare s number lane (Put root None) due other is bare = with_arriving s (next s number lane (Put root None)) bare.arriving refl refl refl refl bare
act_bare s number lane (Put root (Some end)) due other is bare = with_arriving s (next s number lane (Put root (Some end))) (marked_bare s root end bare) refl refl refl refl bare
act_bare s number lane (Land root len None seen) due other is bare = with_arriving s (next s number lane (Land root len None seen)) bare.arriving refl refl refl refl bare
act_bare s number lane (Land root len (Some end) seen) due other is bare = with_arriving s (next s number lane (Land root len (Some end) seen)) (marked_bare s root end bare) refl refl refl refl bare
act_bare s number lane (Missed root why) due other is bare = missed_bare s root why bare
act_bare s number lane (GaveUp ticket) due other is bare =
    with_arriving s (next s number lane (GaveUp ticket)) (ap (λ (arriving : List Arrival). without_ticket arriving ticket) bare.arriving) refl refl refl refl bare
act_bare s number lane (OpenPath path reply) due other is bare =
    record { arriving = bare.arriving; dirs = open_bare s number lane reply (due ∙ nothing_opens s path bare) bare; base = bare.base; cached = bare.cached; active = bare.active }
act_bare s number lane (Close dir closed) due other is bare =
    record { arriving = bare.arriving; dirs = ap (λ (dirs : List DirEntry). without dirs dir lane) bare.dirs; base = bare.base; cached = bare.cached; active = bare.active }
act_bare s number lane (Refused call broken) due other is bare = refused_bare s call bare
act_bare s number lane act due other is bare =
    let keeps = keeps_next s number lane act in
    with_arriving s (next s number lane act) (keeps.arriving refl ∙ bare.arriving) (keeps.dirs refl) (keeps.base refl) (keeps.cached refl) (keeps.active refl) bare

-- ---- the boot

base_bare : (s : State) (seen : List LookedAt) (slot : Slot) → is_recovery slot ≡ true → base_after_boot s seen (sys_of s slot) ≡ []
base_bare s seen slots.A is = absurd (cc is)
base_bare s seen slots.B is = absurd (cc is)
base_bare s seen slots.R is = refl

cached_bare : (s : State) (seen : List LookedAt) (slot : Slot) → is_recovery slot ≡ true → cached_after_boot s seen (sys_of s slot) ≡ []
cached_bare s seen slots.A is = absurd (cc is)
cached_bare s seen slots.B is = absurd (cc is)
cached_bare s seen slots.R is = refl

not_yet : (booted : Bool) → true ≡ not booted → booted ≡ false
not_yet true is = absurd (cc is)
not_yet false is = refl

-- ---- a step

next_bare : (s : State) (number lane : ℕ) (act : Act) → IsActDue s lane act → is_boot act ≡ not s.booted → IsBareIn s → IsBareIn (next s number lane act)
next_bare s number lane (Boot slot seen) due boots h =
    let bare = h.bare (h.before (not_yet s.booted boots)) in
    record {
      before = λ never. absurd (cc never);
      bare = λ is. record {
        arriving = bare.arriving;
        dirs = bare.dirs;
        base = base_bare s seen (boot_slot s.abr) is;
        cached = cached_bare s seen (boot_slot s.abr) is;
        active = bare.active;
      };
    }
next_bare s number lane act due boots h =
    let keeps = keeps_next s number lane act in
    record {
      before = λ not_booted. ap is_recovery (keeps.running refl) ∙ h.before (sym (keeps.booted refl) ∙ not_booted);
      bare = λ is.
          let was : is_recovery s.running ≡ true = sym (ap is_recovery (keeps.running refl)) ∙ is in
          act_bare s number lane act due refl was (h.bare was);
    }

if_bare : (s : State) (number lane : ℕ) (act : Act) (broke : Bool) → IsActDueIf broke s number lane act → is_boot act ≡ not s.booted → IsBareIn s → IsBareIn (cond broke (next_broken s number act) (next s number lane act))
if_bare s number lane act true due boots h =
    record { before = h.before; bare = λ is. let bare = h.bare is in record { arriving = bare.arriving; dirs = bare.dirs; base = bare.base; cached = bare.cached; active = bare.active } }
if_bare s number lane act false due boots h = next_bare s number lane act due boots h

step_bare : (s : State) (number : ℕ) (e : Event) → IsDue s number e → IsBareIn s → IsBareIn (step s number e)
step_bare s number e due h =
    let stepped = if_bare s number e.lane e.act e.broke due.due due.boots h in
    record {
      before = stepped.before;
      bare = λ is. let bare = stepped.bare is in record { arriving = bare.arriving; dirs = bare.dirs; base = bare.base; cached = bare.cached; active = bare.active };
    }

begins_bare : (origin : Origin) (b : Beginning) → origin.beginning ≡ b → IsBareIn (start (record { geometry = origin.geometry; beginning = b }))
begins_bare origin (Lasted d) is = record { before = λ not_booted. refl; bare = λ recovery. record { arriving = refl; dirs = refl; base = refl; cached = refl; active = refl } }
begins_bare origin Factory is = record { before = λ never. absurd (cc never); bare = λ never. absurd (cc never) }

-- so it is in every legal history
pub bare_after : (origin : Origin) (history : List Event) → IsLegal origin history → is_recovery (after origin history).running ≡ true → IsBare (after origin history)
bare_after origin history legal =
    (holds_from IsBareIn step_bare (start origin) 1 history (begins_bare origin origin.beginning refl) legal).bare
