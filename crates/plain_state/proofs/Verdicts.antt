-- A judgement wants for no list where both were looked at.
use Rattle.std.proofs.Common.{◌≡◌, ◌≤◌, ℕ, Bool, true, false, cond, not, ◌&&◌, List, [], ◌∷◌, length, Option, Some, None, is_some, Result, Ok, Err, refl, sym, ap, subst, ◌∙◌}
use Rattle.std.specs.Prelude.{find, nat_lt, option_and_then}
use Rattle.std.specs.Option.{option_map}
use Rattle.std.proofs.lemmas.Bool.{true≢false, and_parts, ltb-false}
use Rattle.pkg_names.specs.declared.root.Root.{Root}
use Rattle.pkg_names.specs.declared.pinned.Pinned.{Pinned}
use Rattle.package_book.specs.declared.book.TheConstants.{META_LIMIT}
use Rattle.package_book.specs.Books.{Meta, book_at}
use Rattle.package_book.specs.Book.{MetaAndFiles}
use Rattle.package_book.specs.Names.{names}
use Rattle.system_lists.specs.declared.list.TheConstants.{LIST_LIMIT}
use Rattle.system_lists.specs.declared.fault.SystemFault.{SystemFault}
use Rattle.system_lists.specs.declared.fault.SystemFault.TheVariants.{NoBook, BadBase}
use Rattle.system_lists.specs.Judging.{AtHand, Verdict, static_name, cached_name, system_path, first_of, absent, no_book, missing_name, unread, unread_text, unread_named, long_len, base_faults, judged, judged_files, judged_lists, static_list, cached_list}
use Rattle.system_lists.specs.Judging.Verdict.{Missing, Faulty, Whole}
use Rattle.store_model.specs.declared.events.LookedAt.{LookedAt}
use Rattle.store_model.specs.State.{State, Stored, stored_len, is_stored, has_root}
use Rattle.store_model.specs.Packages.{book_of, the_book, known_book}
use Rattle.store_model.specs.Systems.{seen_bytes}
use Rattle.plain_stock.specs.Contents.{AreBytesOf}
use Rattle.plain_stock.proofs.Named.{outer_passes}
use Rattle.plain_state.specs.Learning.{looked_at, IsReady}
use Rattle.plain_state.specs.Looking.{LearnsAll, Sees, IsLookedAt}
use Rattle.plain_state.specs.Judged.{outer_in, hand_of, IsListSeen, AreListsSeen, IsJudged}
use Rattle.plain_state.proofs.Protected.{from_retained}
use Rattle.plain_state.proofs.Settled.{first_of_some}

-- ---- of anything that is at hand

-- Where the system's package may be counted on and all that it names is there, no list has to be read.
pub record AreListsRead (at : AtHand) (system : Root) : Type 0 where
  pub base : absent at system ≡ None → missing_name at system ≡ None → (root : Root) → at.outer system static_name ≡ Some root → unread at root ≡ None
  pub cached : absent at system ≡ None → missing_name at system ≡ None → (root : Root) → at.outer system cached_name ≡ Some root → unread at root ≡ None

-- what holds of each verdict that something is missing or wrong
pub record Refuses (P : Verdict → Type 0) : Type 0 where
  pub missing : (root : Root) → P (Missing root)
  pub wrong : (why : SystemFault) → P (Faulty why)

abbrev pub IsFault : (Verdict → Type 0) → Option Verdict → Type 0
IsFault P None = Unit {0}
IsFault P (Some verdict) = P verdict

abbrev pub AreFaults : (Verdict → Type 0) → List (Option Verdict) → Type 0
AreFaults P [] = Unit {0}
AreFaults P (fault ∷ faults) = IsFault P fault × AreFaults P faults

pub first_holds : (P : Verdict → Type 0) (faults : List (Option Verdict)) (rest : Verdict) → AreFaults P faults → P rest → P (first_of faults rest)
first_holds P [] rest all h = h
first_holds P (None ∷ faults) rest all h = first_holds P faults rest all.1 h
first_holds P (Some fault ∷ faults) rest all h = all.0

pub absent_fault : (P : Verdict → Type 0) → Refuses P → (at : AtHand) (root : Root) → IsFault P (absent at root)
absent_fault P r at root = first (is_some (at.len root) && at.is_kept root) where
  first : (test : Bool) → IsFault P (cond test None (Some (Missing root)))
  first true = tt
  first false = r.missing root

pub book_fault : (P : Verdict → Type 0) → Refuses P → (at : AtHand) (why : SystemFault) (root : Root) → IsFault P (no_book at why root)
book_fault P r at why root = first (at.is_book root) where
  first : (test : Bool) → IsFault P (cond test None (Some (Faulty why)))
  first true = tt
  first false = r.wrong why

pub missing_fault : (P : Verdict → Type 0) → Refuses P → (found : Option Root) → IsFault P (option_map Missing found)
missing_fault P r None = tt
missing_fault P r (Some root) = r.missing root

pub base_holds : (P : Verdict → Type 0) → Refuses P → (at : AtHand) (pairs : List Pinned) → AreFaults P (base_faults at pairs)
base_holds P r at [] = tt
base_holds P r at (pair ∷ pairs) =
    (absent_fault P r at pair.root, (book_fault P r at (BadBase pair.root) pair.root, (missing_fault P r (find (λ name. not (is_some (at.len name))) (at.names pair.root)), base_holds P r at pairs)))

refused_judged : Refuses IsJudged
refused_judged = record { missing = λ root. tt; wrong = λ why. tt }

lists_judged : (at : AtHand) (system : Root) (base cached : Result (List Pinned) SystemFault) → IsJudged (judged_lists at system base cached)
lists_judged at system (Err fault) cached = tt
lists_judged at system (Ok base) (Err fault) = tt
lists_judged at system (Ok base) (Ok cached) = first_holds IsJudged (base_faults at base) (Whole (record { path = system_path; root = system } ∷ base) cached) (base_holds IsJudged refused_judged at base) tt

none_read : (found : Option Verdict) → found ≡ None → IsFault IsJudged found
none_read None e = tt
none_read (Some verdict) e = absurd cc

files_judged : (at : AtHand) (system : Root) (base cached : Option Root) → (missing_name at system ≡ None → (root : Root) → base ≡ Some root → unread at root ≡ None)
    → (missing_name at system ≡ None → (root : Root) → cached ≡ Some root → unread at root ≡ None) → IsJudged (judged_files at system base cached)
files_judged at system None cached h k = tt
files_judged at system (Some base) cached h k = first (missing_name at system) refl where
  rest : Verdict
  rest = judged_lists at system (static_list at base) (cached_list at cached)

  named : (found : Option Root) → cached ≡ found → missing_name at system ≡ None → unread_named at found ≡ None
  named None e none = refl
  named (Some root) e none = k none root e

  first : (missing : Option Verdict) → missing_name at system ≡ missing → IsJudged (first_of (missing ∷ unread at base ∷ unread_named at cached ∷ []) rest)
  first (Some verdict) e = subst (IsFault IsJudged) e (missing_fault IsJudged refused_judged (find (λ name. not (is_some (at.len name))) (at.names system)))
  first None e =
      first_holds IsJudged (unread at base ∷ unread_named at cached ∷ []) rest
      (none_read (unread at base) (h e base refl), (none_read (unread_named at cached) (named cached refl e), tt))
      (lists_judged at system (static_list at base) (cached_list at cached))

pub judged_by : (at : AtHand) (system : Root) → AreListsRead at system → IsJudged (judged at system)
judged_by at system lists = first (absent at system) refl where
  rest : Verdict
  rest = judged_files at system (at.outer system static_name) (at.outer system cached_name)

  first : (gone : Option Verdict) → absent at system ≡ gone → IsJudged (first_of (gone ∷ no_book at NoBook system ∷ []) rest)
  first (Some verdict) e = subst (IsFault IsJudged) e (absent_fault IsJudged refused_judged at system)
  first None e =
      first_holds IsJudged (no_book at NoBook system ∷ []) rest (book_fault IsJudged refused_judged at NoBook system, tt)
      (files_judged at system (at.outer system static_name) (at.outer system cached_name) (lists.base e) (lists.cached e))

-- ---- of a state with its contents

-- a list that is stored has been seen, or is too long to be read
list_read : (contents seen : List LookedAt) (stock : List Stored) (file : Root) → AreBytesOf contents stock → IsLookedAt contents seen file → is_stored stock file ≡ true
    → unread_text file (long_len (stored_len stock file)) (seen_bytes seen file) ≡ None
list_read contents seen stock file all looked stored = first (stored_len stock file) refl stored where
  third : (found : Option (List ℕ)) → is_some found ≡ true → unread_text file None found ≡ None
  third None h = absurd cc
  third (Some bytes) h = refl

  second : (len : ℕ) (long : Bool) → nat_lt LIST_LIMIT len ≡ long → stored_len stock file ≡ Some len → unread_text file (cond long (Some len) None) (seen_bytes seen file) ≡ None
  second len true e at = refl
  second len false e at = third (seen_bytes seen file) (fourth (seen_bytes contents file) refl) where
    fourth : (found : Option (List ℕ)) → seen_bytes contents file ≡ found → is_some (seen_bytes seen file) ≡ true
    fourth None is = absurd (cc (sym at ∙ sym (all.lengths file) ∙ ap (option_map length) is))
    fourth (Some bytes) is =
        let some : Some len ≡ Some (length bytes) = sym at ∙ sym (all.lengths file) ∙ ap (option_map length) is in
        let same : len ≡ length bytes = cc in
        looked bytes is (subst (λ n. n ≤ META_LIMIT) same (ltb-false LIST_LIMIT len e))

  first : (len : Option ℕ) → stored_len stock file ≡ len → is_some len ≡ true → unread_text file (long_len len) (seen_bytes seen file) ≡ None
  first None at h = absurd cc
  first (Some len) at h = second len (nat_lt LIST_LIMIT len) refl at

none_under : (found : Option Root) → option_map Missing found ≡ None → found ≡ None
none_under None h = refl
none_under (Some root) h = absurd cc

-- a list of a system whose package the books know as before
list_known : (contents seen : List LookedAt) (t u : State) (retained : Bool) (system : Root) (name : List ℕ) → AreBytesOf contents t.stock → u.stock ≡ t.stock → book_at u.books system ≡ book_at t.books system
    → IsListSeen contents seen t system name → missing_name (hand_of u seen retained) system ≡ None → (root : Root) → outer_in (known_book u.books system) name ≡ Some root → unread (hand_of u seen retained) root ≡ None
list_known contents seen t u retained system name all stock same looked none root at =
    list_read contents seen u.stock root (subst (λ (s : List Stored). AreBytesOf contents s) (sym stock) all)
    (looked root (sym (ap (λ (m : Option Meta). outer_in (option_and_then (λ meta. the_book (book_of meta)) m) name) same) ∙ at))
    (stored_if (is_stored u.stock root) (passes (known_book u.books system) refl at)) where
      stored_if : (b : Bool) → not b ≡ false → b ≡ true
      stored_if true h = refl
      stored_if false h = absurd cc

      passes : (found : Option MetaAndFiles) → known_book u.books system ≡ found → outer_in found name ≡ Some root → not (is_stored u.stock root) ≡ false
      passes None e h = absurd cc
      passes (Some found) e h =
          outer_passes (λ other. not (is_stored u.stock other)) system u.books found name root e h
          (none_under (find (λ other. not (is_stored u.stock other)) (names system u.books)) none)

-- one list was looked at after the other
pub lists_seen : (contents seen more : List LookedAt) (t u v : State) (system : Root) → IsListSeen contents seen t system static_name → ((root : Root) → is_some (book_at t.books root) ≡ true → book_at u.books root ≡ book_at t.books root)
    → Sees contents seen more u v → IsListSeen contents more u system cached_name → AreListsSeen contents more t system
lists_seen contents seen more t u v system one stays sees two = record {
  base = λ root at bytes has short. sees.stays root (one root at bytes has short);
  cached = λ root at. two root (ap (λ (m : Option Meta). outer_in (option_and_then (λ meta. the_book (book_of meta)) m) cached_name) (stays system (known (book_at t.books system) root at)) ∙ at);
} where
  known : (m : Option Meta) (root : Root) → outer_in (option_and_then (λ meta. the_book (book_of meta)) m) cached_name ≡ Some root → is_some m ≡ true
  known None root at = absurd cc
  known (Some meta) root at = refl

-- the lists of a system were looked at, and its package is known as before if it is known at all
pub lists_read : (contents seen : List LookedAt) (t u : State) (retained : Bool) (system : Root) → AreBytesOf contents t.stock → u.stock ≡ t.stock → (absent (hand_of u seen retained) system ≡ None → book_at u.books system ≡ book_at t.books system)
    → AreListsSeen contents seen t system → AreListsRead (hand_of u seen retained) system
lists_read contents seen t u retained system all stock same looked = record {
  base = λ here none root at. list_known contents seen t u retained system static_name all stock (same here) looked.base none root at;
  cached = λ here none root at. list_known contents seen t u retained system cached_name all stock (same here) looked.cached none root at;
}

-- a package that is retained is known
pub retained_known : (seen : List LookedAt) (t u : State) (system : Root) → IsReady t → LearnsAll seen t u → absent (hand_of u seen true) system ≡ None → book_at u.books system ≡ book_at t.books system
retained_known seen t u system ready learns here =
    learns.books system ∙ first_of_some (book_at t.books system) (looked_at seen system) (known (is_stored t.stock system && has_root t.retained system) refl) where
      here_so : (is_stored u.stock system && has_root u.retained system) ≡ (is_stored t.stock system && has_root t.retained system)
      here_so = ap (λ (s : State). is_stored s.stock system && has_root s.retained system) learns.rest

      kept : (test : Bool) → (is_stored u.stock system && has_root u.retained system) ≡ test → cond test None (Some (Missing system)) ≡ None → test ≡ true
      kept true e h = refl
      kept false e h = absurd cc

      known : (test : Bool) → (is_stored t.stock system && has_root t.retained system) ≡ test → is_some (book_at t.books system) ≡ true
      known false e = absurd (true≢false (sym (kept (is_stored u.stock system && has_root u.retained system) refl here) ∙ here_so ∙ e))
      known true e =
          let both = and_parts (is_stored t.stock system) (has_root t.retained system) e in
          ready.books.all system (from_retained t system both.1) both.0
