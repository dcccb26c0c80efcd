-- The packages that arrive, each with its mark.
use Rattle.std.proofs.Common.{◌≢◌, All, ◌≡◌, inl, inr, ℕ, Bool, true, false, cond, List, [], ◌∷◌, ◌++◌, map, Option, Some, None, is_some, refl, sym, ap, ◌∙◌}
use Rattle.std.specs.Prelude.{◌==◌, option_and_then}
use Rattle.std.specs.Option.{option_map}
use Rattle.std.proofs.lemmas.Bool.{cases_Bool, eq-eqb, ne_eqb}
use Rattle.std.proofs.lemmas.List.Elements.{All-nil, All-cons, All-head, All-tail}
use Rattle.open_tracker.specs.declared.dirs.DirEntry.{DirEntry}
use Rattle.pkg_names.specs.declared.pinned.Pinned.{Pinned}
use Rattle.package_indexes.specs.declared.Arriving.{Arriving}
use Rattle.package_indexes.specs.Sets.{arriving_with, without_ticket as arriving_without, with_active as activated}
use Rattle.fetch_queue.specs.declared.FetchEnd.{FetchEnd}
use Rattle.fetch_queue.specs.declared.queue.MarkEntry.{MarkEntry}
use Rattle.fetch_queue.specs.Fetches.{mark_of, without_ticket as marks_without}
use Rattle.store_model.specs.State.{State, Arrival, arrival_of, without_ticket}
use Rattle.store_model.specs.Acts.Want.{with_directory, with_active, answer_for, first_free, want_answer}
use Rattle.store_model.specs.Packages.{known_fault, is_complete}
use Rattle.package_book.specs.declared.fault.PackageFault.{PackageFault}
use Rattle.pkg_names.specs.declared.root.Root.{Root}
use Rattle.package_indexes.specs.Indexes.{root_at}
use Rattle.plain_state.specs.Views.{joined, AreMarked, with_mark}
use Rattle.plain_state.specs.Opening.{replaced_by, replaced}

-- the package of a ticket, and its mark
pub joined_find : (arriving : List Arriving) (marks : List MarkEntry) (ticket : ℕ) → AreMarked arriving marks
    → arrival_of (joined arriving marks) ticket ≡ option_map (with_mark (mark_of marks ticket)) (arriving_with arriving ticket)
joined_find [] marks ticket h = refl
joined_find (a ∷ arriving) [] ticket h = absurd h
joined_find (a ∷ arriving) (m ∷ marks) ticket h = elim (cases_Bool (a.ticket == ticket)) [
  | inl holds ↦
      let mark_holds : (m.ticket == ticket) ≡ true = ap (λ (n : ℕ). n == ticket) (sym h.0) ∙ holds in
      rw (holds, mark_holds) refl
  | inr lacks ↦
      let mark_lacks : (m.ticket == ticket) ≡ false = ap (λ (n : ℕ). n == ticket) (sym h.0) ∙ lacks in
      rw (lacks, mark_lacks) (joined_find arriving marks ticket h.1)
]

pub joined_last : (arriving : List Arriving) (marks : List MarkEntry) (a : Arriving) (m : MarkEntry) → AreMarked arriving marks
    → joined (arriving ++ a ∷ []) (marks ++ m ∷ []) ≡ joined arriving marks ++ with_mark m.end a ∷ []
joined_last [] [] a m h = refl
joined_last [] (n ∷ marks) a m h = absurd h
joined_last (b ∷ arriving) [] a m h = absurd h
joined_last (b ∷ arriving) (n ∷ marks) a m h = ap (λ (rest : List Arrival). with_mark n.end b ∷ rest) (joined_last arriving marks a m h.1)

pub marked_last : (arriving : List Arriving) (marks : List MarkEntry) (a : Arriving) (m : MarkEntry) → AreMarked arriving marks → a.ticket ≡ m.ticket
    → AreMarked (arriving ++ a ∷ []) (marks ++ m ∷ [])
marked_last [] [] a m h e = (e, tt)
marked_last [] (n ∷ marks) a m h e = absurd h
marked_last (b ∷ arriving) [] a m h e = absurd h
marked_last (b ∷ arriving) (n ∷ marks) a m h e = (h.0, marked_last arriving marks a m h.1 e)

pub joined_without : (arriving : List Arriving) (marks : List MarkEntry) (ticket : ℕ) → AreMarked arriving marks
    → joined (arriving_without arriving ticket) (marks_without marks ticket) ≡ without_ticket (joined arriving marks) ticket
joined_without [] [] ticket h = refl
joined_without [] (n ∷ marks) ticket h = absurd h
joined_without (a ∷ arriving) [] ticket h = absurd h
joined_without (a ∷ arriving) (m ∷ marks) ticket h = elim (cases_Bool (a.ticket == ticket)) [
  | inl holds ↦
      let mark_holds : (m.ticket == ticket) ≡ true = ap (λ (n : ℕ). n == ticket) (sym h.0) ∙ holds in
      rw (holds, mark_holds) (joined_without arriving marks ticket h.1)
  | inr lacks ↦
      let mark_lacks : (m.ticket == ticket) ≡ false = ap (λ (n : ℕ). n == ticket) (sym h.0) ∙ lacks in
      rw (lacks, mark_lacks) (ap (λ (rest : List Arrival). with_mark m.end a ∷ rest) (joined_without arriving marks ticket h.1))
]

pub marked_without : (arriving : List Arriving) (marks : List MarkEntry) (ticket : ℕ) → AreMarked arriving marks
    → AreMarked (arriving_without arriving ticket) (marks_without marks ticket)
marked_without [] [] ticket h = tt
marked_without [] (n ∷ marks) ticket h = absurd h
marked_without (a ∷ arriving) [] ticket h = absurd h
marked_without (a ∷ arriving) (m ∷ marks) ticket h = elim (cases_Bool (a.ticket == ticket)) [
  | inl holds ↦
      let mark_holds : (m.ticket == ticket) ≡ true = ap (λ (n : ℕ). n == ticket) (sym h.0) ∙ holds in
      rw (holds, mark_holds) (marked_without arriving marks ticket h.1)
  | inr lacks ↦
      let mark_lacks : (m.ticket == ticket) ≡ false = ap (λ (n : ℕ). n == ticket) (sym h.0) ∙ lacks in
      rw (lacks, mark_lacks) (h.0, marked_without arriving marks ticket h.1)
]

-- the answer to the holder of a ticket, where it arrives and where it doesn't
pub want_at : (s : State) (arriving : List Arriving) (marks : List MarkEntry) (ticket : ℕ) → AreMarked arriving marks → s.arriving ≡ joined arriving marks
    → (at : Option Arriving) → arriving_with arriving ticket ≡ at
    → option_and_then (want_answer s) (arrival_of s.arriving ticket) ≡ option_and_then (λ (a : Arriving). want_answer s (with_mark (mark_of marks ticket) a)) at
want_at s arriving marks ticket marked is_joined at found =
    ap (λ (arrivals : List Arrival). option_and_then (want_answer s) (arrival_of arrivals ticket)) is_joined
    ∙ ap (option_and_then (want_answer s)) (joined_find arriving marks ticket marked)
    ∙ ap (λ (o : Option Arriving). option_and_then (want_answer s) (option_map (with_mark (mark_of marks ticket)) o)) found
    ∙ last at where
      last : (at : Option Arriving) → option_and_then (want_answer s) (option_map (with_mark (mark_of marks ticket)) at) ≡ option_and_then (λ (a : Arriving). want_answer s (with_mark (mark_of marks ticket) a)) at
      last None = refl
      last (Some a) = refl

pub want_by : (s : State) (mark : Option FetchEnd) (a : Arriving) (fault : Option PackageFault) (complete : Bool) (free : Option Root)
    → fault ≡ known_fault s.books a.root → complete ≡ is_complete s a.root → free ≡ first_free s a.root → answer_for mark fault complete free ≡ want_answer s (with_mark mark a)
want_by s mark a fault complete free f c r = rw (f, c, r) refl

-- ---- a new ticket

pub fresh_arriving : (arriving : List Arriving) (marks : List MarkEntry) (ticket : ℕ) → AreMarked arriving marks → All (λ (a : Arrival). a.ticket ≢ ticket) (joined arriving marks)
    → All (λ (a : Arriving). a.ticket ≢ ticket) arriving
fresh_arriving [] marks ticket h fresh = All-nil (λ (a : Arriving). a.ticket ≢ ticket)
fresh_arriving (a ∷ arriving) [] ticket h fresh = absurd h
fresh_arriving (a ∷ arriving) (m ∷ marks) ticket h fresh =
    All-cons (λ (b : Arriving). b.ticket ≢ ticket) a arriving
    (All-head (λ (b : Arrival). b.ticket ≢ ticket) (with_mark m.end a) (joined arriving marks) fresh)
    (fresh_arriving arriving marks ticket h.1 (All-tail (λ (b : Arrival). b.ticket ≢ ticket) (with_mark m.end a) (joined arriving marks) fresh))

pub fresh_marks : (arriving : List Arriving) (marks : List MarkEntry) (ticket : ℕ) → AreMarked arriving marks → All (λ (a : Arrival). a.ticket ≢ ticket) (joined arriving marks)
    → All (λ (m : MarkEntry). m.ticket ≢ ticket) marks
fresh_marks [] [] ticket h fresh = All-nil (λ (m : MarkEntry). m.ticket ≢ ticket)
fresh_marks [] (m ∷ marks) ticket h fresh = absurd h
fresh_marks (a ∷ arriving) [] ticket h fresh = absurd h
fresh_marks (a ∷ arriving) (m ∷ marks) ticket h fresh =
    All-cons (λ (n : MarkEntry). n.ticket ≢ ticket) m marks
    (λ same. All-head (λ (b : Arrival). b.ticket ≢ ticket) (with_mark m.end a) (joined arriving marks) fresh (h.0 ∙ same))
    (fresh_marks arriving marks ticket h.1 (All-tail (λ (b : Arrival). b.ticket ≢ ticket) (with_mark m.end a) (joined arriving marks) fresh))

-- a package that came last under a new ticket goes again
pub last_goes : (arriving : List Arriving) (a : Arriving) (ticket : ℕ) → All (λ (b : Arriving). b.ticket ≢ ticket) arriving → a.ticket ≡ ticket
    → arriving_without (arriving ++ a ∷ []) ticket ≡ arriving
last_goes [] a ticket fresh e =
    let here : (a.ticket == ticket) ≡ true = eq-eqb a.ticket ticket e in
    rw here refl
last_goes (b ∷ arriving) a ticket fresh e =
    let other : (b.ticket == ticket) ≡ false = ne_eqb b.ticket ticket (All-head (λ (x : Arriving). x.ticket ≢ ticket) b arriving fresh) in
    rw other (ap (λ (rest : List Arriving). b ∷ rest) (last_goes arriving a ticket (All-tail (λ (x : Arriving). x.ticket ≢ ticket) b arriving fresh) e))

-- ---- a package that is opened

pub directory_same : (dirs : List DirEntry) (number lane : ℕ) (at : Option Arrival) (root : Root) → Some root ≡ option_map (λ (a : Arrival). a.root) at
    → dirs ++ record { number = number; lane = lane; root = root } ∷ [] ≡ with_directory dirs number lane at
directory_same dirs number lane None root h = absurd cc
directory_same dirs number lane (Some a) root h =
    let same : root ≡ a.root = cc in
    ap (λ (r : Root). let entry : DirEntry = record { number = number; lane = lane; root = r } in dirs ++ entry ∷ []) same

pub active_same : (base active : List Pinned) (mark : Option FetchEnd) (at : Option Arriving) → activated base active at ≡ with_active base active (option_map (with_mark mark) at)
active_same base active mark None = refl
active_same base active mark (Some a) = refl

pub root_at_ticket : (arriving : List Arriving) (marks : List MarkEntry) (ticket : ℕ) → AreMarked arriving marks
    → option_map (λ (a : Arrival). a.root) (arrival_of (joined arriving marks) ticket) ≡ option_map (λ (a : Arriving). a.root) (arriving_with arriving ticket)
root_at_ticket arriving marks ticket h =
    ap (option_map (λ (a : Arrival). a.root)) (joined_find arriving marks ticket h) ∙ last (arriving_with arriving ticket) where
      last : (at : Option Arriving) → option_map (λ (a : Arrival). a.root) (option_map (with_mark (mark_of marks ticket)) at) ≡ option_map (λ (a : Arriving). a.root) at
      last None = refl
      last (Some a) = refl

pub activated_same : (base active : List Pinned) (arriving : List Arriving) (marks : List MarkEntry) (ticket : ℕ) → AreMarked arriving marks
    → activated base active (arriving_with arriving ticket) ≡ with_active base active (arrival_of (joined arriving marks) ticket)
activated_same base active arriving marks ticket h =
    active_same base active (mark_of marks ticket) (arriving_with arriving ticket) ∙ ap (with_active base active) (sym (joined_find arriving marks ticket h))

-- ---- the packages that are protected, and what an opening replaces

pub joined_roots : (arriving : List Arriving) (marks : List MarkEntry) → AreMarked arriving marks
    → map (λ (a : Arriving). a.root) arriving ≡ map (λ (a : Arrival). a.root) (joined arriving marks)
joined_roots [] marks h = refl
joined_roots (a ∷ arriving) [] h = absurd h
joined_roots (a ∷ arriving) (m ∷ marks) h = ap (λ (rest : List Root). a.root ∷ rest) (joined_roots arriving marks h.1)

-- what the opening of a package that arrives replaces
abbrev pub replaced_from : State → Option Arriving → Option Root
replaced_from s None = None
replaced_from s (Some a) = cond (is_some (root_at s.base a.path)) None (root_at s.active a.path)

pub replaced_at : (s : State) (arriving : List Arriving) (marks : List MarkEntry) (ticket : ℕ) → AreMarked arriving marks → s.arriving ≡ joined arriving marks
    → replaced s ticket ≡ replaced_from s (arriving_with arriving ticket)
replaced_at s arriving marks ticket marked is_joined =
    ap (λ (arrivals : List Arrival). replaced_by s (arrival_of arrivals ticket)) is_joined
    ∙ ap (replaced_by s) (joined_find arriving marks ticket marked)
    ∙ last (arriving_with arriving ticket) where
      last : (at : Option Arriving) → replaced_by s (option_map (with_mark (mark_of marks ticket)) at) ≡ replaced_from s at
      last None = refl
      last (Some a) = refl
