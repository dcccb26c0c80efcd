-- Two states that know the same of a system's packages, of which the same lists were looked at, give the same verdict on it.
use Rattle.std.proofs.Common.{◌≡◌, ℕ, true, false, cond, not, List, [], ◌∷◌, ◌++◌, Option, Some, None, is_some, Result, Ok, Err, refl, ap, ap₂, ◌∙◌}
use Rattle.std.specs.Prelude.{find}
use Rattle.std.specs.Option.{option_map}
use Rattle.std.proofs.lemmas.Bool.{or_left, or_right}
use Rattle.pkg_names.specs.declared.root.Root.{Root}
use Rattle.pkg_names.specs.declared.pinned.Pinned.{Pinned}
use Rattle.pkg_names.specs.Root.{root_eq}
use Rattle.pkg_names.proofs.Roots.{root_eq-refl}
use Rattle.package_book.specs.Books.{Books, book_at}
use Rattle.package_book.specs.Book.{MetaAndFiles, each_once}
use Rattle.package_book.specs.Names.{names, roots_known}
use Rattle.system_lists.specs.declared.fault.SystemFault.{SystemFault}
use Rattle.system_lists.specs.declared.fault.SystemFault.TheVariants.{NoBook, BadBase}
use Rattle.system_lists.specs.Static.{static_of}
use Rattle.system_lists.specs.Cached.{cached_of}
use Rattle.system_lists.specs.Judging.{AtHand, Verdict, static_name, cached_name, system_path, first_of, absent, no_book, missing_name, text_of, static_from, cached_from, static_list, cached_list, long_len, unread, unread_text, unread_named, base_faults, judged, judged_files, judged_lists}
use Rattle.system_lists.specs.Judging.Verdict.{Missing, Faulty, Whole}
use Rattle.system_judge.specs.Listed.{listed, base_pairs, pairs_in, pinned_roots}
use Rattle.store_model.specs.declared.events.LookedAt.{LookedAt}
use Rattle.store_model.specs.State.{State, stored_len, is_stored, has_root}
use Rattle.store_model.specs.Systems.{seen_bytes}
use Rattle.store_model.proofs.SameBooks.{with_books}
use Rattle.plain_state.specs.Judged.{outer_in, hand_of}
use Rattle.plain_state.proofs.Protected.{left_has}
use Rattle.plain_boot.proofs.AllBooks.{SameBook}

abbrev pub hand : State → Books → List LookedAt → AtHand
hand t books seen = hand_of (with_books t books) seen false

-- ---- a package

names_by : (root : Root) (books others : Books) → roots_known (book_at books root) ≡ roots_known (book_at others root) → names root books ≡ names root others
unfolding names
names_by root books others same = ap (λ (roots : List Root). each_once (root ∷ roots)) same

same_no_book : (t : State) (books others : Books) (seen more : List LookedAt) (fault : SystemFault) (root : Root) → SameBook (book_at books root) (book_at others root) → no_book (hand t books seen) fault root ≡ no_book (hand t others more) fault root
same_no_book t books others seen more fault root same = ap (λ (o : Option MetaAndFiles). cond (is_some o) None (Some (Faulty fault))) same.book

same_missing : (t : State) (books others : Books) (seen more : List LookedAt) (root : Root) → SameBook (book_at books root) (book_at others root) → missing_name (hand t books seen) root ≡ missing_name (hand t others more) root
same_missing t books others seen more root same = ap (λ (roots : List Root). option_map Missing (find (λ name. not (is_stored t.stock name)) roots)) (names_by root books others same.roots)

same_outer : (t : State) (books others : Books) (seen more : List LookedAt) (root : Root) (name : List ℕ) → SameBook (book_at books root) (book_at others root) → (hand t books seen).outer root name ≡ (hand t others more).outer root name
same_outer t books others seen more root name same = ap (λ (o : Option MetaAndFiles). outer_in o name) same.book

-- ---- a list

-- the list has the same bytes, unless it is too long to be read
abbrev pub SameList : State → List LookedAt → List LookedAt → Root → Type 0
SameList t seen more root = long_len (stored_len t.stock root) ≡ None → seen_bytes seen root ≡ seen_bytes more root

unread_so : (root : Root) (long : Option ℕ) (a b : Option (List ℕ)) → (long ≡ None → a ≡ b) → unread_text root long a ≡ unread_text root long b
unread_so root None a b same = ap (unread_text root None) (same refl)
unread_so root (Some len) a b same = refl

static_so : (long : Option ℕ) (a b : Option (List ℕ)) → (long ≡ None → a ≡ b) → static_from long (static_of (text_of a)) ≡ static_from long (static_of (text_of b))
static_so None a b same = ap (λ (o : Option (List ℕ)). static_from None (static_of (text_of o))) (same refl)
static_so (Some len) a b same = refl

cached_so : (long : Option ℕ) (a b : Option (List ℕ)) → (long ≡ None → a ≡ b) → cached_from long (cached_of (text_of a)) ≡ cached_from long (cached_of (text_of b))
cached_so None a b same = ap (λ (o : Option (List ℕ)). cached_from None (cached_of (text_of o))) (same refl)
cached_so (Some len) a b same = refl

same_unread : (t : State) (books others : Books) (seen more : List LookedAt) (root : Root) → SameList t seen more root → unread (hand t books seen) root ≡ unread (hand t others more) root
same_unread t books others seen more root same = unread_so root (long_len (stored_len t.stock root)) (seen_bytes seen root) (seen_bytes more root) same

same_static : (t : State) (books others : Books) (seen more : List LookedAt) (root : Root) → SameList t seen more root → static_list (hand t books seen) root ≡ static_list (hand t others more) root
same_static t books others seen more root same = static_so (long_len (stored_len t.stock root)) (seen_bytes seen root) (seen_bytes more root) same

same_cached : (t : State) (books others : Books) (seen more : List LookedAt) (root : Option Root) → ((list : Root) → root ≡ Some list → SameList t seen more list) → cached_list (hand t books seen) root ≡ cached_list (hand t others more) root
same_cached t books others seen more None same = refl
same_cached t books others seen more (Some root) same = cached_so (long_len (stored_len t.stock root)) (seen_bytes seen root) (seen_bytes more root) (same root refl)

same_named : (t : State) (books others : Books) (seen more : List LookedAt) (root : Option Root) → ((list : Root) → root ≡ Some list → SameList t seen more list) → unread_named (hand t books seen) root ≡ unread_named (hand t others more) root
same_named t books others seen more None same = refl
same_named t books others seen more (Some root) same = same_unread t books others seen more root (same root refl)

-- ---- the packages of the base

same_faults : (t : State) (books others : Books) (seen more : List LookedAt) (pairs : List Pinned) → ((root : Root) → has_root (pinned_roots pairs) root ≡ true → SameBook (book_at books root) (book_at others root))
    → base_faults (hand t books seen) pairs ≡ base_faults (hand t others more) pairs
same_faults t books others seen more [] same = refl
same_faults t books others seen more (pair ∷ pairs) same =
    let here = same pair.root (or_left (root_eq pair.root pair.root) (has_root (pinned_roots pairs) pair.root) (root_eq-refl pair.root)) in
    ap₂ (λ (book missing : Option Verdict). absent (hand t books seen) pair.root ∷ book ∷ missing ∷ base_faults (hand t books seen) pairs)
    (same_no_book t books others seen more (BadBase pair.root) pair.root here) (same_missing t books others seen more pair.root here)
    ∙ ap (λ (faults : List (Option Verdict)). absent (hand t others more) pair.root ∷ no_book (hand t others more) (BadBase pair.root) pair.root ∷ missing_name (hand t others more) pair.root ∷ faults)
    (same_faults t books others seen more pairs (λ root among. same root (or_right (root_eq pair.root root) (has_root (pinned_roots pairs) root) among)))

-- ---- the system

-- They know the same of the system's package, have the same lists, and know the same of the packages of the base.
pub record Agree (t : State) (books others : Books) (seen more : List LookedAt) (system : Root) : Type 0 where
  pub known : SameBook (book_at books system) (book_at others system)
  pub base_of_it : (list : Root) → (hand t others more).outer system static_name ≡ Some list → SameList t seen more list
  pub cached_of_it : (list : Root) → (hand t others more).outer system cached_name ≡ Some list → SameList t seen more list

pub same_listed : (t : State) (books others : Books) (seen more : List LookedAt) (system : Root) → Agree t books others seen more system → listed (hand t books seen) system ≡ listed (hand t others more) system
same_listed t books others seen more system same =
    ap₂ (λ (base cached : List Pinned). pinned_roots base ++ pinned_roots cached)
    (ap (base_pairs (hand t books seen)) (same_outer t books others seen more system static_name same.known) ∙ base ((hand t others more).outer system static_name) refl)
    (ap (λ (root : Option Root). pairs_in (cached_list (hand t books seen) root)) (same_outer t books others seen more system cached_name same.known)
    ∙ ap pairs_in (same_cached t books others seen more ((hand t others more).outer system cached_name) same.cached_of_it)) where
      base : (root : Option Root) → (hand t others more).outer system static_name ≡ root → base_pairs (hand t books seen) root ≡ base_pairs (hand t others more) root
      base None e = refl
      base (Some list) e = ap pairs_in (same_static t books others seen more list (same.base_of_it list e))

same_lists : (t : State) (books others : Books) (seen more : List LookedAt) (system : Root) (base cached : Result (List Pinned) SystemFault)
    → ((root : Root) → has_root (pinned_roots (pairs_in base)) root ≡ true → SameBook (book_at books root) (book_at others root)) → judged_lists (hand t books seen) system base cached ≡ judged_lists (hand t others more) system base cached
same_lists t books others seen more system (Err fault) cached same = refl
same_lists t books others seen more system (Ok base) (Err fault) same = refl
same_lists t books others seen more system (Ok base) (Ok cached) same =
    ap (λ (faults : List (Option Verdict)). first_of faults (Whole (record { path = system_path; root = system } ∷ base) cached)) (same_faults t books others seen more base same)

same_files : (t : State) (books others : Books) (seen more : List LookedAt) (system : Root) (base cached : Option Root) → Agree t books others seen more system → (hand t others more).outer system static_name ≡ base → (hand t others more).outer system cached_name ≡ cached
    → ((root : Root) → has_root (pinned_roots (base_pairs (hand t others more) base)) root ≡ true → SameBook (book_at books root) (book_at others root)) → judged_files (hand t books seen) system base cached ≡ judged_files (hand t others more) system base cached
same_files t books others seen more system None cached same e f packages = refl
same_files t books others seen more system (Some list) cached same e f packages =
    let at = hand t books seen in
    let to = hand t others more in
    let in_cached : (other : Root) → cached ≡ Some other → SameList t seen more other = λ other is. same.cached_of_it other (f ∙ is) in
    ap₂ (λ (one two : Result (List Pinned) SystemFault). first_of (missing_name at system ∷ unread at list ∷ unread_named at cached ∷ []) (judged_lists at system one two))
    (same_static t books others seen more list (same.base_of_it list e)) (same_cached t books others seen more cached in_cached)
    ∙ ap (λ (rest : Verdict). first_of (missing_name at system ∷ unread at list ∷ unread_named at cached ∷ []) rest) (same_lists t books others seen more system (static_list to list) (cached_list to cached) packages)
    ∙ ap (λ (missing : Option Verdict). first_of (missing ∷ unread at list ∷ unread_named at cached ∷ []) (judged_lists to system (static_list to list) (cached_list to cached))) (same_missing t books others seen more system same.known)
    ∙ ap₂ (λ (one two : Option Verdict). first_of (missing_name to system ∷ one ∷ two ∷ []) (judged_lists to system (static_list to list) (cached_list to cached)))
    (same_unread t books others seen more list (same.base_of_it list e)) (same_named t books others seen more cached in_cached)

pub same_verdict : (t : State) (books others : Books) (seen more : List LookedAt) (system : Root) → Agree t books others seen more system
    → ((root : Root) → has_root (listed (hand t others more) system) root ≡ true → SameBook (book_at books root) (book_at others root)) → judged (hand t books seen) system ≡ judged (hand t others more) system
same_verdict t books others seen more system same packages =
    let at = hand t books seen in
    let to = hand t others more in
    ap₂ (λ (base cached : Option Root). first_of (absent at system ∷ no_book at NoBook system ∷ []) (judged_files at system base cached))
    (same_outer t books others seen more system static_name same.known) (same_outer t books others seen more system cached_name same.known)
    ∙ ap (λ (book : Option Verdict). first_of (absent at system ∷ book ∷ []) (judged_files at system (to.outer system static_name) (to.outer system cached_name))) (same_no_book t books others seen more NoBook system same.known)
    ∙ ap (λ (rest : Verdict). first_of (absent to system ∷ no_book to NoBook system ∷ []) rest)
    (same_files t books others seen more system (to.outer system static_name) (to.outer system cached_name) same refl refl
    (λ root among. packages root (left_has (pinned_roots (base_pairs to (to.outer system static_name))) (pinned_roots (pairs_in (cached_list to (to.outer system cached_name)))) root among)))
