-- What each step keeps holds after each legal history.
use Rattle.std.proofs.Common.{sym, is_some, ◌++◌, cond, not, ◌≡◌, ℕ, ◌+◌, Bool, true, false, List, [], ◌∷◌, length, Option, Some, None, refl, subst, ◌∙◌, arith, rules}
use Rattle.std.specs.Prelude.{IfSome}
use Rattle.std.proofs.lemmas.List.Elements.{All-nil}
use Rattle.image_layout.specs.declared.geometry.Geometry.{Geometry}
use Rattle.store_model.specs.declared.events.Event.{Event}
use Rattle.store_model.specs.declared.events.Act.{Act}
use Rattle.store_model.specs.declared.events.Act.TheVariants.{Boot, Put, Land, Copy, Seal}
use Rattle.abr_record.specs.declared.Slot.{Slot}
use Rattle.abr_record.specs.Boot.{is_bootable}
use Rattle.image_layout.specs.declared.Sys.{Sys}
use Rattle.std.proofs.lemmas.Bool.{true≢false}
use Rattle.store_model.specs.State.{is_stored, opened, Standing, protected_in, Stage, State, durable}
use Rattle.store_model.specs.Step.{IsActDue, IsActDueIf, MayWrite, IsDue, next, next_broken, is_boot, meant, step}
use Rattle.store_model.specs.History.{Beginning, Origin, start, IsLegalFrom, IsLegal, after_from, after}
use Rattle.store_model.specs.History.Beginning.{Lasted, Factory}
use Rattle.store_model.specs.Sound.{HaveSystems, KnowsExactly, AreComplete, IsActivated, IsInPhase, IsSound, RunsItsSystem, IsSameFile, IsStanding, IsWellFormed, IsInRoom, CanBegin}
use Rattle.fetch_queue.specs.declared.FetchEnd.{FetchEnd}
use Rattle.store_model.proofs.Frames.{keeps_next}
use Rattle.store_model.proofs.SoundSteps.{InRoom, room_next, room_step}
use Rattle.store_model.proofs.SoundBooks.{knows_exactly, knows_nothing}
use Rattle.store_model.proofs.SoundPackages.{complete_step}
use Rattle.pkg_names.specs.declared.root.Root.{Root}
use Rattle.open_tracker.specs.Directories.{root_of}
use Rattle.store_model.specs.Files.{found}
use Rattle.store_model.specs.Files.Found.{Outer}
use Rattle.store_model.proofs.SoundFiles.{outer_there, same_file}
use Rattle.store_model.proofs.SoundBase.{base_step}
use Rattle.store_model.proofs.SoundSlots.{have_next, have_step}
use Rattle.store_model.proofs.SoundUpdates.{IsUpdateSound, updates_step}
use Rattle.store_model.specs.Lanes.{AreBlobs, AreClaims}
use Rattle.store_model.proofs.LanesOnce.{once_start, claims_next, broken_claims, blobs_next, blobs_after}

-- what each step keeps holds after each legal history
pub holds_from : (P : State → Type 0) → ((s : State) (number : ℕ) (e : Event) → IsDue s number e → P s → P (step s number e))
    → (s : State) (number : ℕ) (history : List Event) → P s → IsLegalFrom s number history → P (after_from s number history)
holds_from P keeps s number [] h legal = h
holds_from P keeps s number (e ∷ es) h legal =
    holds_from P keeps (step s number e) (number + 1) es (keeps s number e legal.0 h) legal.1

-- ---- the stock and the claims

record InRoomOf (g : Geometry) (s : State) : Type 0 where
  geometry : s.geometry ≡ g
  claims : AreClaims s.claims s.stock
  blobs : AreBlobs s.stock
  room : InRoom s

keeps_geometry : (s : State) (number : ℕ) (e : Event) → (step s number e).geometry ≡ s.geometry
keeps_geometry s number e = search rules

claims_step : (s : State) (number : ℕ) (e : Event) → IsDue s number e → AreClaims s.claims s.stock → AreClaims (step s number e).claims (step s number e).stock
claims_step s number e due once = by_broke e.broke due.due where
  by_broke : (b : Bool) → IsActDueIf b s number e.lane e.act → AreClaims (cond b (next_broken s number e.act) (next s number e.lane e.act)).claims (cond b (next_broken s number e.act) (next s number e.lane e.act)).stock
  by_broke true may = broken_claims s number e.act once
  by_broke false act_due = claims_next s number e.lane e.act act_due once

room_begins : (g : Geometry) (b : Beginning) → CanBegin g b → InRoom (start (record { geometry = g; beginning = b }))
room_begins g (Lasted d) h =
    let pages = h.pages in
    let nodes = h.nodes in
    record {
      lengths = h.lengths;
      rooms = All-nil _;
      pages = omega (arith, pages);
      nodes = omega (arith, nodes);
    }
room_begins g Factory h = record {
  lengths = All-nil _;
  rooms = All-nil _;
  pages = omega arith;
  nodes = omega arith;
}

blobs_begin : (g : Geometry) (b : Beginning) → CanBegin g b → AreBlobs (start (record { geometry = g; beginning = b })).stock
blobs_begin g (Lasted d) h = h.blobs
blobs_begin g Factory h = λ i j d lt past. absurd (omega (arith, past))

geometry_begins : (g : Geometry) (b : Beginning) → (start (record { geometry = g; beginning = b })).geometry ≡ g
geometry_begins g (Lasted d) = refl
geometry_begins g Factory = refl

room_after : (origin : Origin) (history : List Event) → IsWellFormed origin → IsLegal origin history → InRoomOf origin.geometry (after origin history)
room_after origin history begins legal =
    holds_from (InRoomOf origin.geometry)
    (λ s number e due h. record {
      geometry = keeps_geometry s number e ∙ h.geometry;
      claims = claims_step s number e due h.claims;
      blobs = blobs_after s number e due h.claims h.blobs;
      room = room_step s number e due h.claims.roots h.room;
    })
    (start origin) 1 history
    (record {
      geometry = geometry_begins origin.geometry origin.beginning;
      claims = (once_start origin).claims;
      blobs = blobs_begin origin.geometry origin.beginning begins;
      room = room_begins origin.geometry origin.beginning begins;
    })
    legal

pub in_room : (origin : Origin) (history : List Event) → IsWellFormed origin → IsLegal origin history → IsInRoom origin.geometry (after origin history).stock (after origin history).claims
in_room origin history begins legal =
    let h = room_after origin history begins legal in
    subst (λ (g : Geometry). IsInRoom g (after origin history).stock (after origin history).claims) h.geometry h.room

-- ---- the books and the packages

books_begin : (g : Geometry) (b : Beginning) → KnowsExactly (start (record { geometry = g; beginning = b })).books (protected_in (start (record { geometry = g; beginning = b }))) (start (record { geometry = g; beginning = b })).stock
books_begin g (Lasted d) = knows_nothing d.stock
books_begin g Factory = knows_nothing []

pub books_after : (origin : Origin) (history : List Event) → IsLegal origin history → KnowsExactly (after origin history).books (protected_in (after origin history)) (after origin history).stock
books_after origin history legal =
    holds_from (λ s. KnowsExactly s.books (protected_in s) s.stock) (λ s number e due h. knows_exactly s number e due)
    (start origin) 1 history (books_begin origin.geometry origin.beginning) legal

packages_begin : (g : Geometry) (b : Beginning) → AreComplete (start (record { geometry = g; beginning = b }))
packages_begin g (Lasted d) = record { base = All-nil _; active = All-nil _; dirs = All-nil _ }
packages_begin g Factory = record { base = All-nil _; active = All-nil _; dirs = All-nil _ }

pub complete_after : (origin : Origin) (history : List Event) → IsLegal origin history → AreComplete (after origin history)
complete_after origin history legal =
    holds_from AreComplete complete_step (start origin) 1 history (packages_begin origin.geometry origin.beginning) legal

-- ---- updates

updates_begin : (g : Geometry) (b : Beginning) → IsUpdateSound (start (record { geometry = g; beginning = b }))
updates_begin g (Lasted d) = record { staged = tt; stage = tt; before = λ opening. (refl, refl) }
updates_begin g Factory = record { staged = tt; stage = tt; before = λ opening. (refl, refl) }

updates_after : (origin : Origin) (history : List Event) → IsLegal origin history → IsUpdateSound (after origin history)
updates_after origin history legal =
    holds_from IsUpdateSound updates_step (start origin) 1 history (updates_begin origin.geometry origin.beginning) legal

pub staged_after : (origin : Origin) (history : List Event) → IsLegal origin history → IfSome (after origin history).staged (IsActivated (after origin history))
staged_after origin history legal = (updates_after origin history legal).staged

pub stage_after : (origin : Origin) (history : List Event) → IsLegal origin history → IfSome (after origin history).stage (λ (stage : Stage). IsInPhase (after origin history) stage.phase)
stage_after origin history legal = (updates_after origin history legal).stage

-- ---- the slots

record HasSlots (s : State) : Type 0 where
  updates : IsUpdateSound s
  slots : HaveSystems s

slots_begin : (g : Geometry) (b : Beginning) → CanBegin g b → HaveSystems (start (record { geometry = g; beginning = b }))
slots_begin g (Lasted d) h = record {
  a = λ bootable. h.a ∙ bootable;
  b = λ bootable. h.b ∙ bootable;
  running = λ never. absurd (true≢false never);
}
slots_begin g Factory h = record { a = λ never. absurd (true≢false (sym never)); b = λ bootable. refl; running = λ usual. refl }

have_after : (origin : Origin) (history : List Event) → IsWellFormed origin → IsLegal origin history → HaveSystems (after origin history)
have_after origin history begins legal =
    (holds_from HasSlots (λ s number e due h. record { updates = updates_step s number e due h.updates; slots = have_step s number e due h.updates h.slots })
    (start origin) 1 history
    (record { updates = updates_begin origin.geometry origin.beginning; slots = slots_begin origin.geometry origin.beginning begins }) legal).slots

-- ---- what lasts

same_bootable : (bootable : Bool) (sys : Option Sys) → (bootable ≡ true → is_some sys ≡ true) → is_some (cond bootable sys None) ≡ bootable
same_bootable true sys h = h refl
same_bootable false sys h = refl

standing_in : (g : Geometry) (s : State) → AreBlobs s.stock → IsInRoom g s.stock s.claims → HaveSystems s → IsStanding g (durable s)
standing_in g s blobs h have =
    let pages = h.pages in
    let nodes = h.nodes in
    record {
      blobs = blobs;
      lengths = h.lengths;
      pages = omega (arith, pages);
      nodes = omega (arith, nodes);
      a = same_bootable (is_bootable s.abr.a) s.a have.a;
      b = same_bootable (is_bootable s.abr.b) s.b have.b;
    }

pub lasts_well : (origin : Origin) (history : List Event) → IsWellFormed origin → IsLegal origin history → IsStanding origin.geometry (durable (after origin history))
lasts_well origin history begins legal = standing_in origin.geometry (after origin history) (room_after origin history begins legal).blobs (in_room origin history begins legal) (have_after origin history begins legal)

-- what a call meant whose write failed
record Lasting (s : State) : Type 0 where
  claims : AreClaims s.claims s.stock
  blobs : AreBlobs s.stock
  room : InRoom s
  updates : IsUpdateSound s
  slots : HaveSystems s

meant_next : (s : State) (number lane : ℕ) (act : Act) → IsActDue s lane act → Lasting s → IsStanding s.geometry (durable (next s number lane act))
meant_next s number lane act due h =
    let n = next s number lane act in
    subst (λ (g : Geometry). IsStanding g (durable n)) (keeps_next s number lane act).geometry
    (standing_in n.geometry n (blobs_next s number lane act due h.claims h.blobs) (room_next s number lane act due h.claims.roots h.room) (have_next s number lane act due h.updates h.slots))

meant_in : (s : State) (number lane : ℕ) (act : Act) → MayWrite s number lane act → Lasting s → IsStanding s.geometry (meant s number lane act)
meant_in s number lane (Put root reply) due h = standing_in s.geometry s h.blobs h.room h.slots
meant_in s number lane (Copy image dir file reply) due h = standing_in s.geometry s h.blobs h.room h.slots
meant_in s number lane (Seal sys reply) due h = standing_in s.geometry s h.blobs h.room h.slots
meant_in s number lane (Land root len None seen) due h = meant_next s number lane (Land root len None seen) (due.2, tt) h
meant_in s number lane (Land root len (Some end) seen) due h = absurd (no_end due.0) where
  no_end : ◌≡◌ {A = Option FetchEnd} (Some end) None → ⊥
  no_end e = cc
meant_in s number lane act due h = meant_next s number lane act due.0 h

broken_due : (s : State) (number : ℕ) (e : Event) (broke : Bool) → broke ≡ true → IsActDueIf broke s number e.lane e.act → MayWrite s number e.lane e.act
broken_due s number e true is due = due.0
broken_due s number e false is due = absurd cc

pub means_well : (origin : Origin) (history : List Event) (e : Event) → IsWellFormed origin → IsLegal origin history → IsDue (after origin history) (length history + 1) e → e.broke ≡ true
    → IsStanding origin.geometry (meant (after origin history) (length history + 1) e.lane e.act)
means_well origin history e begins legal due broke =
    let s = after origin history in
    let h = room_after origin history begins legal in
    subst (λ (g : Geometry). IsStanding g (meant s (length history + 1) e.lane e.act)) h.geometry
    (meant_in s (length history + 1) e.lane e.act (broken_due s (length history + 1) e e.broke broke due.due)
    (record { claims = h.claims; blobs = h.blobs; room = h.room; updates = updates_after origin history legal; slots = have_after origin history begins legal }))

-- what begins is what lasted
kept_sys : (sys : Option Sys) (bootable : Bool) → is_some sys ≡ bootable → cond bootable sys None ≡ sys
kept_sys sys true e = refl
kept_sys None false e = refl
kept_sys (Some sys) false e = absurd (true≢false e)

pub begins_as_lasted : (g : Geometry) (d : Standing) → IsStanding g d → durable (opened g d) ≡ d
begins_as_lasted g d h =
    let in_a = kept_sys d.a (is_bootable d.abr.a) h.a in
    let in_b = kept_sys d.b (is_bootable d.abr.b) h.b in
    λ i. record { stock = d.stock; abr = d.abr; a = in_a i; b = in_b i }

-- ---- all of it

pub sound_after : (origin : Origin) (history : List Event) → IsWellFormed origin → IsLegal origin history → IsSound (after origin history)
sound_after origin history begins legal =
    let stock = room_after origin history begins legal in
    let updates = updates_after origin history legal in
    record {
      blobs = stock.blobs;
      claims = stock.claims;
      room = stock.room;
      books = books_after origin history legal;
      packages = complete_after origin history legal;
      slots = have_after origin history begins legal;
      staged = updates.staged;
      stage = updates.stage;
    }

-- ---- what runs

record RunsOn (slot : Slot) (s : State) : Type 0 where
  booted : s.booted ≡ true
  running : s.running ≡ slot

no_boot : (booted : Bool) → true ≡ not booted → booted ≡ true → ⊥
no_boot true e is = absurd cc
no_boot false e is = absurd cc

runs_next : (s : State) (number lane : ℕ) (act : Act) (slot : Slot) → is_boot act ≡ not s.booted → RunsOn slot s → RunsOn slot (next s number lane act)
runs_next s number lane (Boot to seen) slot boots h = absurd (no_boot s.booted boots h.booted)
runs_next s number lane act slot boots h =
    let keeps = keeps_next s number lane act in
    record { booted = keeps.booted refl ∙ h.booted; running = keeps.running refl ∙ h.running }

runs_if : (s : State) (number lane : ℕ) (act : Act) (broke : Bool) (slot : Slot) → is_boot act ≡ not s.booted → RunsOn slot s → RunsOn slot (cond broke (next_broken s number act) (next s number lane act))
runs_if s number lane act true slot boots h = record { booted = h.booted; running = h.running }
runs_if s number lane act false slot boots h = runs_next s number lane act slot boots h

runs_step : (slot : Slot) (s : State) (number : ℕ) (e : Event) → IsDue s number e → RunsOn slot s → RunsOn slot (step s number e)
runs_step slot s number e due h =
    let runs = runs_if s number e.lane e.act e.broke slot due.boots h in
    record { booted = runs.booted; running = runs.running }

runs_from : (s : State) (number : ℕ) (history more : List Event) → IsLegalFrom s number (history ++ more) → (after_from s number history).booted ≡ true → (after_from s number (history ++ more)).running ≡ (after_from s number history).running
runs_from s number [] more legal booted = (holds_from (RunsOn s.running) (runs_step s.running) s number more (record { booted = booted; running = refl }) legal).running
runs_from s number (e ∷ history) more legal booted = runs_from (step s number e) (number + 1) history more legal.1 booted

pub runs_on : (origin : Origin) (history more : List Event) → IsLegal origin (history ++ more) → (after origin history).booted ≡ true → (after origin (history ++ more)).running ≡ (after origin history).running
runs_on origin history more legal booted = runs_from (start origin) 1 history more legal booted

-- ---- the base of what runs

pub runs_its_system : (g : Geometry) (d : Standing) (history : List Event) → IsLegal (record { geometry = g; beginning = Lasted d }) history → RunsItsSystem (after (record { geometry = g; beginning = Lasted d }) history)
runs_its_system g d history legal =
    holds_from RunsItsSystem base_step (opened g d) 1 history (record { base = λ never. absurd (true≢false never) }) legal

-- ---- the files of open packages

pub files_there : (origin : Origin) (history : List Event) → IsLegal origin history → (lane dir : ℕ) (file : List ℕ) (root : Root) → found (after origin history) lane dir file ≡ Outer root → is_stored (after origin history).stock root ≡ true
files_there origin history legal = outer_there (after origin history) (complete_after origin history legal)

pub files_stay : (origin : Origin) (history : List Event) (e : Event) → IsLegal origin history → IsDue (after origin history) (length history + 1) e → (lane dir : ℕ) (top : Root) → root_of (after origin history).dirs dir lane ≡ Some top
    → root_of (step (after origin history) (length history + 1) e).dirs dir lane ≡ Some top → (file : List ℕ) → IsSameFile (after origin history) (step (after origin history) (length history + 1) e) lane dir file
files_stay origin history e legal due = same_file (after origin history) (length history + 1) e due (complete_after origin history legal)
