-- The packages of the base, the active and the open ones stay complete.
use Rattle.std.proofs.Common.{inl, inr, ◌≡◌, ℕ, Bool, true, false, cond, not, List, [], ◌∷◌, ◌++◌, map, Option, Some, None, is_some, All, refl, sym, ap, subst, ◌∙◌}
use Rattle.std.specs.Prelude.{◌==◌}
use Rattle.std.proofs.lemmas.Bool.{cases_Bool, and_from}
use Rattle.std.proofs.lemmas.List.Elements.{All-nil, All-cons, All-head, All-tail, All-weaker, All-filter, All-push}
use Rattle.pkg_names.specs.NameAndVariant.{NameAndVariant, path_eq}
use Rattle.pkg_names.specs.declared.root.Root.{Root}
use Rattle.pkg_names.specs.declared.pinned.Pinned.{Pinned}
use Rattle.abr_record.specs.Boot.{boot_slot}
use Rattle.image_layout.specs.declared.Sys.{Sys}
use Rattle.fetch_queue.specs.declared.FetchEnd.{FetchEnd}
use Rattle.open_tracker.specs.declared.dirs.DirEntry.{DirEntry}
use Rattle.open_tracker.specs.Directories.{is_of}
use Rattle.package_book.specs.declared.fault.PackageFault.{PackageFault}
use Rattle.package_book.specs.Names.{names}
use Rattle.package_indexes.specs.Indexes.{root_at, with_root, or_else, roots_of}
use Rattle.system_lists.specs.Judging.{Verdict, AtHand, judged}
use Rattle.system_lists.specs.Judging.Verdict.{Whole}
use Rattle.store_model.specs.declared.events.Event.{Event}
use Rattle.store_model.specs.declared.events.LookedAt.{LookedAt}
use Rattle.store_model.specs.declared.events.Act.{Act}
use Rattle.store_model.specs.declared.events.Act.TheVariants.{Boot, Want, Land, OpenPath, Close, Collect}
use Rattle.store_model.specs.declared.ends.WantEnd.TheVariants as wants
use Rattle.store_model.specs.State.{State, Stored, Arrival, is_stored, has_root, arrival_of, sys_of, is_committed, protected_in}
use Rattle.store_model.specs.Packages.{known_fault, is_complete, rest}
use Rattle.store_model.specs.Settling.{looked_books}
use Rattle.store_model.specs.Systems.{at_hand, booted_verdict, base_of}
use Rattle.store_model.specs.Step.{IsActDue, IsActDueIf, IsDue, next, next_broken, next_of, seen_by, step}
use Rattle.store_model.specs.Acts.Boot.{base_after_boot}
use Rattle.store_model.specs.Acts.Want.{IsAnswered, answer_for, first_free, with_active}
use Rattle.store_model.specs.Acts.OpenPath.{root_to_open, if_complete}
use Rattle.store_model.specs.Acts.Collect.{collect_answer}
use Rattle.store_model.specs.Sound.{AreComplete}
use Rattle.store_model.proofs.Frames.{keeps_next, books_next}
use Rattle.store_model.proofs.LanesLists.{found_all}
use Rattle.store_model.proofs.SoundSteps.{some_and}
use Rattle.store_model.proofs.SoundBooks.{complete_in, complete_more, complete_looked, settles_complete, stored_more, collected_stored, each_in, has_left, has_right}
use Rattle.store_model.proofs.SoundSystems.{IsGood, good_system}

-- ---- which packages are protected

abbrev pub Protected : State → Root → Type 0
Protected s root = has_root (protected_in s) root ≡ true

abbrev arriving_roots : State → List Root
arriving_roots s = map (λ (a : Arrival). a.root) s.arriving

abbrev dir_roots : State → List Root
dir_roots s = map (λ (d : DirEntry). d.root) s.dirs

-- the sets of packages, up to each
abbrev up_to_cached : State → List Root
up_to_cached s = roots_of s.base ++ roots_of s.cached

abbrev up_to_active : State → List Root
up_to_active s = up_to_cached s ++ roots_of s.active

abbrev up_to_retained : State → List Root
up_to_retained s = up_to_active s ++ s.retained

abbrev up_to_arriving : State → List Root
up_to_arriving s = up_to_retained s ++ arriving_roots s

from_arriving : (s : State) (root : Root) → has_root (up_to_arriving s) root ≡ true → Protected s root
from_arriving s root h = has_left (up_to_arriving s) (dir_roots s) root h

from_retained : (s : State) (root : Root) → has_root (up_to_retained s) root ≡ true → Protected s root
from_retained s root h = from_arriving s root (has_left (up_to_retained s) (arriving_roots s) root h)

from_active : (s : State) (root : Root) → has_root (up_to_active s) root ≡ true → Protected s root
from_active s root h = from_retained s root (has_left (up_to_active s) s.retained root h)

from_cached : (s : State) (root : Root) → has_root (up_to_cached s) root ≡ true → Protected s root
from_cached s root h = from_active s root (has_left (up_to_cached s) (roots_of s.active) root h)

by_base : (s : State) (root : Root) → has_root (roots_of s.base) root ≡ true → Protected s root
by_base s root h = from_cached s root (has_left (roots_of s.base) (roots_of s.cached) root h)

by_cached : (s : State) (root : Root) → has_root (roots_of s.cached) root ≡ true → Protected s root
by_cached s root h = from_cached s root (has_right (roots_of s.base) (roots_of s.cached) root h)

by_active : (s : State) (root : Root) → has_root (roots_of s.active) root ≡ true → Protected s root
by_active s root h = from_active s root (has_right (up_to_cached s) (roots_of s.active) root h)

pub by_retained : (s : State) (root : Root) → has_root s.retained root ≡ true → Protected s root
by_retained s root h = from_retained s root (has_right (up_to_active s) s.retained root h)

by_arriving : (s : State) (root : Root) → has_root (arriving_roots s) root ≡ true → Protected s root
by_arriving s root h = from_arriving s root (has_right (up_to_retained s) (arriving_roots s) root h)

by_dirs : (s : State) (root : Root) → has_root (dir_roots s) root ≡ true → Protected s root
by_dirs s root h = has_right (up_to_arriving s) (dir_roots s) root h

all_base : (s : State) → All (λ (pair : Pinned). Protected s pair.root) s.base
all_base s = All-weaker (λ (pair : Pinned). has_root (roots_of s.base) pair.root ≡ true) (λ (pair : Pinned). Protected s pair.root) (λ pair h. by_base s pair.root h) s.base (each_in (λ (pair : Pinned). pair.root) s.base)

all_cached : (s : State) → All (λ (pair : Pinned). Protected s pair.root) s.cached
all_cached s = All-weaker (λ (pair : Pinned). has_root (roots_of s.cached) pair.root ≡ true) (λ (pair : Pinned). Protected s pair.root) (λ pair h. by_cached s pair.root h) s.cached (each_in (λ (pair : Pinned). pair.root) s.cached)

all_active : (s : State) → All (λ (pair : Pinned). Protected s pair.root) s.active
all_active s = All-weaker (λ (pair : Pinned). has_root (roots_of s.active) pair.root ≡ true) (λ (pair : Pinned). Protected s pair.root) (λ pair h. by_active s pair.root h) s.active (each_in (λ (pair : Pinned). pair.root) s.active)

all_arriving : (s : State) → All (λ (a : Arrival). Protected s a.root) s.arriving
all_arriving s = All-weaker (λ (a : Arrival). has_root (arriving_roots s) a.root ≡ true) (λ (a : Arrival). Protected s a.root) (λ a h. by_arriving s a.root h) s.arriving (each_in (λ (a : Arrival). a.root) s.arriving)

pub all_dirs : (s : State) → All (λ (d : DirEntry). Protected s d.root) s.dirs
all_dirs s = All-weaker (λ (d : DirEntry). has_root (dir_roots s) d.root ≡ true) (λ (d : DirEntry). Protected s d.root) (λ d h. by_dirs s d.root h) s.dirs (each_in (λ (d : DirEntry). d.root) s.dirs)

-- ---- a package that is protected and complete before an event

pub record Was (s : State) (root : Root) : Type 0 where
  pub protected : has_root (protected_in s) root ≡ true
  pub complete : is_complete s root ≡ true

-- an act leaves stored what a protected package names
pub collects : (s : State) (roots : List Root) → ◌≡◌ {A = Option (List Root)} (Some roots) (collect_answer s) → roots ≡ rest s
collects s roots e = go (is_committed s) e where
  go : (test : Bool) → ◌≡◌ {A = Option (List Root)} (Some roots) (cond test (Some (rest s)) None) → roots ≡ rest s
  go true same = cc
  go false same = absurd cc

names_stay : (s : State) (number lane : ℕ) (act : Act) → IsActDue s lane act → (top root : Root) → Protected s top → has_root (names top s.books) root ≡ true → is_stored s.stock root ≡ true → is_stored (next s number lane act).stock root ≡ true
names_stay s number lane (Land name len None seen) due top root among named stored = stored_more s.stock (record { root = name; len = len }) root stored
names_stay s number lane (Land name len (Some end) seen) due top root among named stored = stored
names_stay s number lane (Collect None) due top root among named stored = stored
names_stay s number lane (Collect (Some roots)) due top root among named stored =
    rw (collects s roots due) (collected_stored s.stock (protected_in s) s.books top root among named stored)
names_stay s number lane act due top root among named stored =
    ap (λ (stock : List Stored). is_stored stock root) ((keeps_next s number lane act).stock refl) ∙ stored

names_stay_if : (s : State) (number lane : ℕ) (act : Act) (broke : Bool) → IsActDueIf broke s number lane act → (top root : Root) → Protected s top → has_root (names top s.books) root ≡ true → is_stored s.stock root ≡ true → is_stored (cond broke (next_broken s number act) (next s number lane act)).stock root ≡ true
names_stay_if s number lane act true due top root among named stored = stored
names_stay_if s number lane act false due top root among named stored = names_stay s number lane act due top root among named stored

pub books_if : (s : State) (number lane : ℕ) (act : Act) (broke : Bool) → (cond broke (next_broken s number act) (next s number lane act)).books ≡ s.books
books_if s number lane act true = refl
books_if s number lane act false = books_next s number lane act

-- ---- the packages after an event

-- a package that is opened is complete
answer_opened : (mark : Option FetchEnd) (fault : Option PackageFault) (complete : Bool) (free : Option Root) → answer_for mark fault complete free ≡ Some wants.Opened → complete ≡ true
answer_opened (Some end) fault complete free e = absurd cc
answer_opened None (Some why) complete free e = absurd cc
answer_opened None None true free e = refl
answer_opened None None false (Some root) e = absurd cc
answer_opened None None false None e = absurd cc

was_all : {X : Type 0} (s : State) (key : X → Root) (xs : List X) → All (λ x. has_root (protected_in s) (key x) ≡ true) xs → All (λ x. is_complete s (key x) ≡ true) xs → All (λ x. Was s (key x)) xs
was_all s key xs among complete = λ k d lt. record { protected = among k d lt; complete = complete k d lt }

was_base : (s : State) → AreComplete s → All (λ (pair : Pinned). Was s pair.root) s.base
was_base s h = was_all s (λ (pair : Pinned). pair.root) s.base (all_base s) h.base

was_active : (s : State) → AreComplete s → All (λ (pair : Pinned). Was s pair.root) s.active
was_active s h = was_all s (λ (pair : Pinned). pair.root) s.active (all_active s) h.active

was_dirs : (s : State) → AreComplete s → All (λ (d : DirEntry). Was s d.root) s.dirs
was_dirs s h = was_all s (λ (d : DirEntry). d.root) s.dirs (all_dirs s) h.dirs

-- the package of a ticket that is answered
was_opened : (s : State) (lane : ℕ) (arrival : Arrival) (ticket : ℕ) → arrival_of s.arriving ticket ≡ Some arrival → IsAnswered s lane wants.Opened arrival → Was s arrival.root
was_opened s lane arrival ticket found answered = record {
  protected = found_all (λ (a : Arrival). a.ticket == ticket) (λ (a : Arrival). has_root (protected_in s) a.root ≡ true) s.arriving arrival found (all_arriving s);
  complete = answer_opened arrival.mark (known_fault s.books arrival.root) (is_complete s arrival.root) (first_free s arrival.root) answered.answer;
}

with_root_all : (P : Root → Type 0) (pairs : List Pinned) (path : NameAndVariant) (root : Root) → All (λ (pair : Pinned). P pair.root) pairs → P root → All (λ (pair : Pinned). P pair.root) (with_root pairs path root)
with_root_all P [] path root all here = All-cons (λ (pair : Pinned). P pair.root) (record { path = path; root = root }) [] here all
with_root_all P (pair ∷ pairs) path root all here =
    elim (cases_Bool (path_eq pair.path path)) [
      | inl same ↦ rw same (All-cons (λ (p : Pinned). P p.root) (record { path = pair.path; root = root }) pairs here (All-tail (λ (p : Pinned). P p.root) pair pairs all))
      | inr other ↦ rw other (All-cons (λ (p : Pinned). P p.root) pair (with_root pairs path root) (All-head (λ (p : Pinned). P p.root) pair pairs all) (with_root_all P pairs path root (All-tail (λ (p : Pinned). P p.root) pair pairs all) here))
    ]

with_active_all : (P : Root → Type 0) (base active : List Pinned) (arrival : Arrival) → All (λ (pair : Pinned). P pair.root) active → P arrival.root → All (λ (pair : Pinned). P pair.root) (with_active base active (Some arrival))
with_active_all P base active arrival all here =
    elim (cases_Bool (is_some (root_at base arrival.path))) [
      | inl in_base ↦ rw in_base all
      | inr apart ↦ rw apart (with_root_all P active arrival.path arrival.root all here)
    ]

active_next : (s : State) (number lane : ℕ) (act : Act) → IsActDue s lane act → AreComplete s → All (λ (pair : Pinned). Was s pair.root) (next s number lane act).active
active_next s number lane (Want ticket wants.Opened) due h =
    let found = some_and (arrival_of s.arriving ticket) due in
    rw found.1 (with_active_all (Was s) s.base s.active found.0 (was_active s h) (was_opened s lane found.0 ticket found.1 found.2))
active_next s number lane (Want ticket (wants.Fetch root)) due h = was_active s h
active_next s number lane (Want ticket (wants.Failed cause)) due h = was_active s h
active_next s number lane act due h =
    subst (λ (pairs : List Pinned). All (λ (pair : Pinned). Was s pair.root) pairs) (sym ((keeps_next s number lane act).active refl)) (was_active s h)

-- what is opened by its path
root_at_has : (P : Root → Type 0) (pairs : List Pinned) (path : NameAndVariant) (root : Root) → All (λ (pair : Pinned). P pair.root) pairs → root_at pairs path ≡ Some root → P root
root_at_has P [] path root all e = absurd cc
root_at_has P (pair ∷ pairs) path root all e =
    elim (cases_Bool (path_eq pair.path path)) [
      | inl same ↦ subst P (first pair.root root (rw same at e)) (All-head (λ (p : Pinned). P p.root) pair pairs all)
      | inr other ↦ root_at_has P pairs path root (All-tail (λ (p : Pinned). P p.root) pair pairs all) (rw other at e)
    ]
  where
    first : (a b : Root) → ◌≡◌ {A = Option Root} (Some a) (Some b) → a ≡ b
    first a b same = cc

or_else_cases : (P : Root → Type 0) (first later : Option Root) (root : Root) → (first ≡ Some root → P root) → (later ≡ Some root → P root) → or_else first later ≡ Some root → P root
or_else_cases P (Some other) later root f g e = f e
or_else_cases P None later root f g e = g e

cached_cases : (s : State) (found : Option Root) (root : Root) → (found ≡ Some root → has_root (protected_in s) root ≡ true) → if_complete s found ≡ Some root → Was s root
cached_cases s None root f e = absurd cc
cached_cases s (Some other) root f e = go (is_complete s other) refl e where
  same_root : (a b : Root) → ◌≡◌ {A = Option Root} (Some a) (Some b) → a ≡ b
  same_root a b same = cc

  go : (test : Bool) → is_complete s other ≡ test → cond test (Some other) None ≡ Some root → Was s root
  go true complete same = record { protected = f same; complete = ap (is_complete s) (sym (same_root other root same)) ∙ complete }
  go false complete same = absurd cc

was_to_open : (s : State) (path : NameAndVariant) (root : Root) → AreComplete s → root_to_open s path ≡ Some root → Was s root
was_to_open s path root h e =
    or_else_cases (Was s) (root_at s.base path) (or_else (root_at s.active path) (if_complete s (root_at s.cached path))) root
    (root_at_has (Was s) s.base path root (was_base s h))
    (or_else_cases (Was s) (root_at s.active path) (if_complete s (root_at s.cached path)) root
    (root_at_has (Was s) s.active path root (was_active s h))
    (cached_cases s (root_at s.cached path) root (root_at_has (λ r. has_root (protected_in s) r ≡ true) s.cached path root (all_cached s))))
    e

dirs_next : (s : State) (number lane : ℕ) (act : Act) → IsActDue s lane act → AreComplete s → All (λ (d : DirEntry). Was s d.root) (next s number lane act).dirs
dirs_next s number lane (Want ticket wants.Opened) due h =
    let found = some_and (arrival_of s.arriving ticket) due in
    rw found.1 (All-push (λ (d : DirEntry). Was s d.root) s.dirs (record { number = number; lane = lane; root = found.0.root }) (was_dirs s h) (was_opened s lane found.0 ticket found.1 found.2))
dirs_next s number lane (Want ticket (wants.Fetch root)) due h = was_dirs s h
dirs_next s number lane (Want ticket (wants.Failed cause)) due h = was_dirs s h
dirs_next s number lane (OpenPath path None) due h = was_dirs s h
dirs_next s number lane (OpenPath path (Some root)) due h =
    All-push (λ (d : DirEntry). Was s d.root) s.dirs (record { number = number; lane = lane; root = root }) (was_dirs s h) (was_to_open s path root h (sym due))
dirs_next s number lane (Close dir closed) due h =
    All-filter (λ (d : DirEntry). not (is_of d dir lane)) (λ (d : DirEntry). Was s d.root) s.dirs (was_dirs s h)
dirs_next s number lane act due h =
    subst (λ (dirs : List DirEntry). All (λ (d : DirEntry). Was s d.root) dirs) (sym ((keeps_next s number lane act).dirs refl)) (was_dirs s h)

-- ---- the base after a boot

-- what a verdict finds good is complete once the blobs that were looked at are known
pub good_complete : (s : State) (seen : List LookedAt) (is_kept : Root → Bool) (root : Root) → IsGood (at_hand s seen is_kept) root → complete_in (looked_books seen s) s.stock root ≡ true
good_complete s seen is_kept root good = and_from _ _ good.book good.names

verdict_good : (at : AtHand) (system : Root) (verdict : Verdict) → judged at system ≡ verdict → All (λ (pair : Pinned). IsGood at pair.root) (base_of verdict)
verdict_good at system (Whole base cached) e = (good_system at system base cached e).good
verdict_good at system verdict e = All-nil (λ (pair : Pinned). IsGood at pair.root)

boot_good : (s : State) (seen : List LookedAt) (sys : Option Sys) → All (λ (pair : Pinned). complete_in (looked_books seen s) s.stock pair.root ≡ true) (base_after_boot s seen sys)
boot_good s seen None = All-nil (λ (pair : Pinned). complete_in (looked_books seen s) s.stock pair.root ≡ true)
boot_good s seen (Some sys) =
    let at = at_hand s seen (λ root. true) in
    All-weaker (λ (pair : Pinned). IsGood at pair.root) (λ (pair : Pinned). complete_in (looked_books seen s) s.stock pair.root ≡ true)
    (λ pair good. good_complete s seen (λ root. true) pair.root good) (base_of (booted_verdict s seen sys)) (verdict_good at sys.system (judged at sys.system) refl)

-- ---- all of them

-- before the books are settled, the package is complete by what they are settled from
abbrev pub IsReady : List LookedAt → State → Root → Type 0
IsReady seen n root = complete_in (looked_books seen n) n.stock root ≡ true

pub still_ready : (s : State) (number : ℕ) (e : Event) → IsDue s number e → (root : Root) → Was s root → IsReady (seen_by e.act) (next_of s number e) root
still_ready s number e due root was =
    let n = next_of s number e in
    let stays : complete_in s.books n.stock root ≡ true = complete_more s.books s.stock n.stock root (λ name named stored. names_stay_if s number e.lane e.act e.broke due.due root name was.protected named stored) was.complete in
    let same : complete_in n.books n.stock root ≡ true = rw (books_if s number e.lane e.act e.broke) stays in
    complete_looked n.books (seen_by e.act) n.stock root same

abbrev pub after_if : State → ℕ → ℕ → Act → Bool → State
after_if s number lane act broke = cond broke (next_broken s number act) (next s number lane act)

base_if : (s : State) (number lane : ℕ) (act : Act) (broke : Bool) → ((root : Root) → Was s root → IsReady (seen_by act) (after_if s number lane act broke) root) → AreComplete s
    → All (λ (pair : Pinned). IsReady (seen_by act) (after_if s number lane act broke) pair.root) (after_if s number lane act broke).base
base_if s number lane act true ready h =
    All-weaker (λ (pair : Pinned). Was s pair.root) (λ (pair : Pinned). IsReady (seen_by act) (next_broken s number act) pair.root) (λ pair was. ready pair.root was) s.base (was_base s h)
base_if s number lane (Boot slot seen) false ready h = boot_good s seen (sys_of s (boot_slot s.abr))
base_if s number lane act false ready h =
    let n = next s number lane act in
    All-weaker (λ (pair : Pinned). Was s pair.root) (λ (pair : Pinned). IsReady (seen_by act) n pair.root) (λ pair was. ready pair.root was) n.base
    (subst (λ (pairs : List Pinned). All (λ (pair : Pinned). Was s pair.root) pairs) (sym ((keeps_next s number lane act).base refl)) (was_base s h))

active_if : (s : State) (number lane : ℕ) (act : Act) (broke : Bool) → IsActDueIf broke s number lane act → AreComplete s → All (λ (pair : Pinned). Was s pair.root) (after_if s number lane act broke).active
active_if s number lane act true due h = was_active s h
active_if s number lane act false due h = active_next s number lane act due h

dirs_if : (s : State) (number lane : ℕ) (act : Act) (broke : Bool) → IsActDueIf broke s number lane act → AreComplete s → All (λ (d : DirEntry). Was s d.root) (after_if s number lane act broke).dirs
dirs_if s number lane act true due h = was_dirs s h
dirs_if s number lane act false due h = dirs_next s number lane act due h

pub complete_step : (s : State) (number : ℕ) (e : Event) → IsDue s number e → AreComplete s → AreComplete (step s number e)
complete_step s number e due h =
    let n = next_of s number e in
    let seen = seen_by e.act in
    let ready = still_ready s number e due in
    let base = base_if s number e.lane e.act e.broke ready h in
    let active = active_if s number e.lane e.act e.broke due.due h in
    let dirs = dirs_if s number e.lane e.act e.broke due.due h in
    let base_in = all_base n in
    let active_in = all_active n in
    let dirs_in = all_dirs n in
    record {
      base = λ k d lt. settles_complete seen n _ (base k d lt) (base_in k d lt);
      active = λ k d lt. settles_complete seen n _ (ready _ (active k d lt)) (active_in k d lt);
      dirs = λ k d lt. settles_complete seen n _ (ready _ (dirs k d lt)) (dirs_in k d lt);
    }
