-- What is opened is whole, and what opening leaves.
use Rattle.std.proofs.Common.{◌≡◌, ◌≢◌, ℕ, ◌<◌, Bool, true, false, cond, List, [], ◌∷◌, ◌++◌, Option, Some, None, is_some, inl, inr, refl, sym, ap, subst, ◌∙◌, arith}
use Rattle.std.specs.Prelude.{find, IsSomeAnd, Contains}
use Rattle.std.specs.Option.{option_map}
use Rattle.std.proofs.lemmas.Bool.{cases_Bool, and_parts, and_left, eq-eqb, ne_eqb, false_from_ne_true}
use Rattle.std.proofs.lemmas.List.Elements.{All-contains, All-weaker}
use Rattle.std.proofs.lemmas.List.Folds.{find-append}
use Rattle.pkg_names.specs.NameAndVariant.{NameAndVariant, path_eq}
use Rattle.pkg_names.specs.declared.root.Root.{Root}
use Rattle.pkg_names.specs.declared.pinned.Pinned.{Pinned}
use Rattle.pkg_names.proofs.Roots.{path_eq-true, path_eq-refl}
use Rattle.fetch_queue.specs.declared.FetchEnd.{FetchEnd}
use Rattle.open_tracker.specs.declared.dirs.DirEntry.{DirEntry}
use Rattle.open_tracker.specs.Directories.{is_of, root_of}
use Rattle.package_indexes.specs.Indexes.{root_at, with_root}
use Rattle.package_book.specs.declared.fault.PackageFault.{PackageFault}
use Rattle.package_book.specs.Names.{names}
use Rattle.store_model.specs.declared.events.Event.{Event}
use Rattle.store_model.specs.declared.events.Act.{Act}
use Rattle.store_model.specs.declared.events.Act.TheVariants.{Want}
use Rattle.store_model.specs.declared.ends.WantEnd.{WantEnd}
use Rattle.store_model.specs.declared.ends.WantEnd.TheVariants as wants
use Rattle.store_model.specs.State.{State, Arrival, arrival_of, is_stored}
use Rattle.store_model.specs.Packages.{known_fault, is_complete}
use Rattle.store_model.specs.Acts.Want.{first_free, answer_for, IsAnswered, IsDueWant, with_active}
use Rattle.store_model.specs.Step.{IsDue, IsActDue, IsActDueIf, MayWrite, step}
use Rattle.store_model.specs.Lanes.{StandOnce, AreDirs}
use Rattle.store_model.proofs.LanesLists.{all_passes, find_none}

-- ---- the event

-- no write fails in a want
pub want_due : (s : State) (number lane ticket : ℕ) (reply : WantEnd) (act : Act) (broke : Bool) → act ≡ Want ticket reply → IsActDueIf broke s number lane act → (broke ≡ false) × IsDueWant s lane ticket reply
want_due s number lane ticket reply act true is due = absurd (changes (subst (MayWrite s number lane) is due.0)) where
  changes : MayWrite s number lane (Want ticket reply) → ⊥
  changes may = may.1 refl refl
want_due s number lane ticket reply act false is due = (refl, subst (IsActDue s lane) is due)

opened_answer : (mark : Option FetchEnd) (fault : Option PackageFault) (complete : Bool) (free : Option Root) → answer_for mark fault complete free ≡ Some wants.Opened → complete ≡ true
opened_answer (Some end) fault complete free is = absurd (cc)
opened_answer None (Some why) complete free is = absurd (cc)
opened_answer None None true free is = refl
opened_answer None None false (Some root) is = absurd (cc)
opened_answer None None false None is = absurd (cc)

complete_for : (s : State) (lane : ℕ) (arrival : Arrival) (found : Option Arrival) → found ≡ Some arrival → IsSomeAnd found (IsAnswered s lane wants.Opened) → is_complete s arrival.root ≡ true
complete_for s lane arrival None is due = absurd due
complete_for s lane arrival (Some other) is due =
    let same : other ≡ arrival = cc is in
    subst (λ (a : Arrival). is_complete s a.root ≡ true) same (opened_answer other.mark (known_fault s.books other.root) (is_complete s other.root) (first_free s other.root) due.answer)

pub opened_whole : (s : State) (number : ℕ) (e : Event) (ticket : ℕ) (arrival : Arrival) (root : Root) → IsDue s number e → e.act ≡ Want ticket wants.Opened → arrival_of s.arriving ticket ≡ Some arrival → Contains (names arrival.root s.books) root → is_stored s.stock root ≡ true
opened_whole s number e ticket arrival root due is found named =
    let whole = complete_for s e.lane arrival (arrival_of s.arriving ticket) found (want_due s number e.lane ticket wants.Opened e.act e.broke is due.due).1 in
    All-contains (λ r. is_stored s.stock r ≡ true) (names arrival.root s.books) root (all_passes (is_stored s.stock) (names arrival.root s.books) (and_parts _ _ whole).1) named

-- ---- its directory

new_dir : (dirs : List DirEntry) (number lane : ℕ) (root : Root) → AreDirs dirs number → root_of (dirs ++ record { number = number; lane = lane; root = root } ∷ []) number lane ≡ Some root
new_dir dirs number lane root once =
    let is = λ (d : DirEntry). is_of d number lane in
    let none : find is dirs ≡ None = find_none is dirs (All-weaker (λ (d : DirEntry). d.number < number) (λ (d : DirEntry). is_of d number lane ≡ false) (λ d lt. and_left _ _ (ne_eqb d.number number (λ same. absurd (omega arith)))) dirs once.before) in
    let last : find is (dirs ++ record { number = number; lane = lane; root = root } ∷ []) ≡ Some (record { number = number; lane = lane; root = root }) =
    find-append is dirs (record { number = number; lane = lane; root = root } ∷ []) ∙ rw (none, eq-eqb number number refl, eq-eqb lane lane refl) refl in
    ap (option_map (λ (d : DirEntry). d.root)) last

pub opened_dir : (s : State) (number : ℕ) (e : Event) (ticket : ℕ) (arrival : Arrival) → StandOnce s number → IsDue s number e → e.act ≡ Want ticket wants.Opened → arrival_of s.arriving ticket ≡ Some arrival → root_of (step s number e).dirs number e.lane ≡ Some arrival.root
opened_dir s number e ticket arrival once due is found =
    let whole = (want_due s number e.lane ticket wants.Opened e.act e.broke is due.due).0 in
    rw (whole, is, found) (new_dir s.dirs number e.lane arrival.root once.dirs)

-- ---- what is active

at_path : (pairs : List Pinned) (path : NameAndVariant) (root : Root) → root_at (with_root pairs path root) path ≡ Some root
at_path [] path root = rw (path_eq-refl path) refl
at_path (pair ∷ pairs) path root =
    elim (cases_Bool (path_eq pair.path path)) [ inl here ↦ rw (here, here) refl | inr other ↦ rw (other, other) (at_path pairs path root) ]

at_other : (pairs : List Pinned) (path other : NameAndVariant) (root : Root) → path ≢ other → root_at (with_root pairs path root) other ≡ root_at pairs other
at_other [] path other root differs = rw (false_from_ne_true (path_eq path other) (λ same. differs (path_eq-true path other same))) refl
at_other (pair ∷ pairs) path other root differs =
    elim (cases_Bool (path_eq pair.path path)) [
      | inl here ↦
          let lacks : path_eq pair.path other ≡ false = false_from_ne_true (path_eq pair.path other) (λ same. differs (sym (path_eq-true pair.path path here) ∙ path_eq-true pair.path other same)) in
          rw (here, lacks) refl
      | inr away ↦ elim (cases_Bool (path_eq pair.path other)) [
        | inl there ↦ rw (away, there) refl
        | inr lacks ↦ rw (away, lacks) (at_other pairs path other root differs)
      ]
    ]

active_then : (s : State) (number : ℕ) (e : Event) (ticket : ℕ) (arrival : Arrival) → IsDue s number e → e.act ≡ Want ticket wants.Opened → arrival_of s.arriving ticket ≡ Some arrival → (step s number e).active ≡ with_active s.base s.active (Some arrival)
active_then s number e ticket arrival due is found =
    let whole = (want_due s number e.lane ticket wants.Opened e.act e.broke is due.due).0 in
    rw (whole, is, found) refl

pub opened_active : (s : State) (number : ℕ) (e : Event) (ticket : ℕ) (arrival : Arrival) → IsDue s number e → e.act ≡ Want ticket wants.Opened → arrival_of s.arriving ticket ≡ Some arrival → root_at s.base arrival.path ≡ None → root_at (step s number e).active arrival.path ≡ Some arrival.root
opened_active s number e ticket arrival due is found free =
    ap (λ (pairs : List Pinned). root_at pairs arrival.path) (active_then s number e ticket arrival due is found) ∙ rw free (at_path s.active arrival.path arrival.root)

pub opened_based : (s : State) (number : ℕ) (e : Event) (ticket : ℕ) (arrival : Arrival) (root : Root) → IsDue s number e → e.act ≡ Want ticket wants.Opened → arrival_of s.arriving ticket ≡ Some arrival → root_at s.base arrival.path ≡ Some root → (step s number e).active ≡ s.active
opened_based s number e ticket arrival root due is found based = active_then s number e ticket arrival due is found ∙ rw based refl

pub opened_others : (s : State) (number : ℕ) (e : Event) (ticket : ℕ) (arrival : Arrival) (other : NameAndVariant) → IsDue s number e → e.act ≡ Want ticket wants.Opened → arrival_of s.arriving ticket ≡ Some arrival → arrival.path ≢ other → root_at (step s number e).active other ≡ root_at s.active other
opened_others s number e ticket arrival other due is found differs =
    ap (λ (pairs : List Pinned). root_at pairs other) (active_then s number e ticket arrival due is found) ∙ by_base (root_at s.base arrival.path) where
      by_base : (base : Option Root) → root_at (cond (is_some base) s.active (with_root s.active arrival.path arrival.root)) other ≡ root_at s.active other
      by_base (Some root) = refl
      by_base None = at_other s.active arrival.path other arrival.root differs
