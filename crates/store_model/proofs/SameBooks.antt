-- Of the books the model takes look-ups alone: what it says of a state, and which event is due in it, is the
-- same for books that know the same of each root, and so are those that an event leaves.
use Rattle.std.proofs.Common.{◌≡◌, ℕ, Bool, true, false, cond, ◌&&◌, ◌||◌, not, List, [], ◌∷◌, ◌++◌, map, filter, Option, Some, None, is_some, refl, sym, ap, ap₂, ◌∙◌}
use Rattle.std.proofs.Math.Path.{fun_ext}
use Rattle.std.specs.Prelude.{nat_lt}
use Rattle.pkg_names.specs.declared.root.Root.{Root}
use Rattle.pkg_names.specs.NameAndVariant.{NameAndVariant}
use Rattle.package_indexes.specs.Indexes.{root_at}
use Rattle.pkg_names.specs.Root.{root_eq}
use Rattle.pkg_names.proofs.Roots.{root_eq-true}
use Rattle.image_layout.specs.declared.Sys.{Sys}
use Rattle.image_layout.specs.declared.ImageKind.{ImageKind}
use Rattle.fetch_queue.specs.declared.FetchEnd.{FetchEnd}
use Rattle.open_tracker.specs.Directories.{root_of}
use Rattle.package_book.specs.declared.book.TheConstants.{META_LIMIT}
use Rattle.package_book.specs.Books.{Meta, Known, Books, book_at}
use Rattle.package_book.specs.Books.Meta.{Read, Long}
use Rattle.package_book.specs.Names.{names}
use Rattle.package_book.specs.Unprotected.{has_root as is_among, is_named, unprotected}
use Rattle.package_book.proofs.NameLaws.{depends_on}
use Rattle.system_lists.specs.Judging.{AtHand, judged}
use Rattle.store_model.specs.declared.events.LookedAt.{LookedAt}
use Rattle.store_model.specs.Mirrors.{SameBooks}
use Rattle.store_model.specs.State.{State, Stored, Arrival, stored_len, is_stored, has_root, stock_roots, protected_in}
use Rattle.store_model.specs.Packages.{known_book, known_fault, is_complete, rest as unnamed}
use Rattle.store_model.specs.Settling.{with_looked, with_long, kept_books, looked_books}
use Rattle.store_model.specs.Systems.{seen_bytes, at_hand, booted_verdict, staged_verdict}
use Rattle.store_model.specs.Files.{found}
use Rattle.store_model.specs.Acts.Marking.{marked, marked_arrivals}
use Rattle.store_model.specs.Acts.Begin.{has_to_read}
use Rattle.store_model.specs.Acts.Want.{first_free, want_answer}
use Rattle.store_model.specs.Acts.OpenPath.{root_to_open}
use Rattle.store_model.specs.Acts.Copy.{copy_end}
use Rattle.store_model.specs.Acts.Collect.{collect_answer}

-- ---- books

-- the first of two that is there
abbrev first_known : Option Meta → Option Meta → Option Meta
first_known (Some meta) other = Some meta
first_known None other = other

at_more : (books : Books) (k : Known) (root : Root) → book_at (books ++ k ∷ []) root ≡ first_known (book_at books root) (cond (root_eq k.root root) (Some k.meta) None)
at_more [] k root = refl
at_more (b ∷ books) k root = first (root_eq b.root root) (at_more books k root) where
  first : (test : Bool) → book_at (books ++ k ∷ []) root ≡ first_known (book_at books root) (cond (root_eq k.root root) (Some k.meta) None)
      → cond test (Some b.meta) (book_at (books ++ k ∷ []) root) ≡ first_known (cond test (Some b.meta) (book_at books root)) (cond (root_eq k.root root) (Some k.meta) None)
  first true rest = refl
  first false rest = rest

pub same_more : (books others : Books) → SameBooks books others → (k : Known) → SameBooks (books ++ k ∷ []) (others ++ k ∷ [])
same_more books others same k root =
    at_more books k root
    ∙ ap (λ (meta : Option Meta). first_known meta (cond (root_eq k.root root) (Some k.meta) None)) (same root)
    ∙ sym (at_more others k root)

either_same : (test other : Bool) (a b c d : Books) → test ≡ other → SameBooks a c → SameBooks b d → SameBooks (cond test a b) (cond other c d)
either_same true true a b c d e p q = p
either_same false false a b c d e p q = q
either_same true false a b c d e p q = absurd cc
either_same false true a b c d e p q = absurd cc

same_known : (books others : Books) → SameBooks books others → (root : Root) → is_some (book_at books root) ≡ is_some (book_at others root)
same_known books others same root = ap (λ (meta : Option Meta). is_some meta) (same root)

pub same_looked : (seen : List LookedAt) (books others : Books) → SameBooks books others → SameBooks (with_looked books seen) (with_looked others seen)
same_looked [] books others same = same
same_looked (pair ∷ seen) books others same =
    either_same (is_some (book_at books pair.root)) (is_some (book_at others pair.root))
    (with_looked books seen) (with_looked (books ++ record { root = pair.root; meta = Read pair.bytes } ∷ []) seen)
    (with_looked others seen) (with_looked (others ++ record { root = pair.root; meta = Read pair.bytes } ∷ []) seen)
    (same_known books others same pair.root)
    (same_looked seen books others same)
    (same_looked seen (books ++ record { root = pair.root; meta = Read pair.bytes } ∷ []) (others ++ record { root = pair.root; meta = Read pair.bytes } ∷ [])
    (same_more books others same (record { root = pair.root; meta = Read pair.bytes })))

pub same_long : (stock : List Stored) (books others : Books) → SameBooks books others → SameBooks (with_long books stock) (with_long others stock)
same_long [] books others same = same
same_long (blob ∷ stock) books others same =
    either_same (nat_lt META_LIMIT blob.len && not (is_some (book_at books blob.root))) (nat_lt META_LIMIT blob.len && not (is_some (book_at others blob.root)))
    (with_long (books ++ record { root = blob.root; meta = Long blob.len } ∷ []) stock) (with_long books stock)
    (with_long (others ++ record { root = blob.root; meta = Long blob.len } ∷ []) stock) (with_long others stock)
    (ap (λ known. nat_lt META_LIMIT blob.len && not known) (same_known books others same blob.root))
    (same_long stock (books ++ record { root = blob.root; meta = Long blob.len } ∷ []) (others ++ record { root = blob.root; meta = Long blob.len } ∷ [])
    (same_more books others same (record { root = blob.root; meta = Long blob.len })))
    (same_long stock books others same)

-- what is kept of a root: its entry, where it is protected and stored
pub kept_at : (books : Books) (packages : List Root) (stock : List Stored) (root : Root)
    → book_at (kept_books books packages stock) root ≡ cond (has_root packages root && is_stored stock root) (book_at books root) None
kept_at [] packages stock root = first (has_root packages root && is_stored stock root) where
  none : Option Meta
  none = None

  first : (test : Bool) → none ≡ cond test None None
  first true = refl
  first false = refl
kept_at (b ∷ books) packages stock root = first (root_eq b.root root) refl (kept_at books packages stock root) where
  here : (test : Bool) → root_eq b.root root ≡ true → book_at (kept_books books packages stock) root ≡ cond test (book_at books root) None
      → book_at (cond test (b ∷ kept_books books packages stock) (kept_books books packages stock)) root ≡ cond test (Some b.meta) None
  here true e rest = rw e refl
  here false e rest = rest

  there : (test : Bool) → root_eq b.root root ≡ false
      → book_at (cond test (b ∷ kept_books books packages stock) (kept_books books packages stock)) root ≡ book_at (kept_books books packages stock) root
  there true e = rw e refl
  there false e = refl

  first : (test : Bool) → root_eq b.root root ≡ test
      → book_at (kept_books books packages stock) root ≡ cond (has_root packages root && is_stored stock root) (book_at books root) None
      → book_at (kept_books (b ∷ books) packages stock) root ≡ cond (has_root packages root && is_stored stock root) (cond test (Some b.meta) (book_at books root)) None
  first true e rest =
      let same : b.root ≡ root = root_eq-true b.root root e in
      let test : (has_root packages b.root && is_stored stock b.root) ≡ (has_root packages root && is_stored stock root) =
      ap (λ (r : Root). has_root packages r && is_stored stock r) same in
      rw test (here (has_root packages root && is_stored stock root) e rest)
  first false e rest = there (has_root packages b.root && is_stored stock b.root) e ∙ rest

pub same_kept : (books others : Books) (packages : List Root) (stock : List Stored) → SameBooks books others
    → SameBooks (kept_books books packages stock) (kept_books others packages stock)
same_kept books others packages stock same root =
    kept_at books packages stock root
    ∙ ap (λ (meta : Option Meta). cond (has_root packages root && is_stored stock root) meta None) (same root)
    ∙ sym (kept_at others packages stock root)

-- ---- what books say of a package

pub same_book : (books others : Books) → SameBooks books others → (root : Root) → known_book books root ≡ known_book others root
same_book books others same root = rw (same root) refl

pub same_fault : (books others : Books) → SameBooks books others → (root : Root) → known_fault books root ≡ known_fault others root
same_fault books others same root = rw (same root) refl

pub same_names : (books others : Books) → SameBooks books others → (root : Root) → names root books ≡ names root others
same_names books others same root = (depends_on root books others (λ other level. same other)).names

pub same_named : (books others : Books) → SameBooks books others → (tops : List Root) (root : Root) → is_named tops books root ≡ is_named tops others root
same_named books others same [] root = refl
same_named books others same (top ∷ tops) root =
    ap₂ (λ a b. a || b) (ap (λ roots. is_among roots root) (same_names books others same top)) (same_named books others same tops root)

pub same_unprotected : (books others : Books) → SameBooks books others → (stock protected : List Root) → unprotected stock protected books ≡ unprotected stock protected others
same_unprotected books others same stock protected =
    ap (λ (test : Root → Bool). filter test stock) (fun_ext (λ root. ap not (same_named books others same protected root)))

pub same_marked : (books others : Books) → SameBooks books others → (root : Root) (end : FetchEnd) → marked books root end ≡ marked others root end
same_marked books others same root end = fun_ext (λ (arrival : Arrival). rw (same_names books others same arrival.root) refl)

-- ---- states

-- the state with other books
abbrev pub with_books : State → Books → State
with_books s books = record s { books = books }

pub complete_same : (s : State) (others : Books) → SameBooks s.books others → (root : Root) → is_complete s root ≡ is_complete (with_books s others) root
complete_same s others same root = rw (same_book s.books others same root, same_names s.books others same root) refl

pub rest_same : (s : State) (others : Books) → SameBooks s.books others → unnamed s ≡ unnamed (with_books s others)
rest_same s others same = same_unprotected s.books others same (stock_roots s.stock) (protected_in s)

pub free_same : (s : State) (others : Books) → SameBooks s.books others → (root : Root) → first_free s root ≡ first_free (with_books s others) root
free_same s others same root = rw (same_names s.books others same root) refl

pub want_same : (s : State) (others : Books) → SameBooks s.books others → (arrival : Arrival) → want_answer s arrival ≡ want_answer (with_books s others) arrival
want_same s others same arrival =
    rw (same_fault s.books others same arrival.root, complete_same s others same arrival.root, free_same s others same arrival.root) refl

pub read_same : (s : State) (others : Books) → SameBooks s.books others → (root : Root) → has_to_read s root ≡ has_to_read (with_books s others) root
read_same s others same root = rw (same root) refl

pub found_same : (s : State) (others : Books) → SameBooks s.books others → (lane dir : ℕ) (file : List ℕ) → found s lane dir file ≡ found (with_books s others) lane dir file
found_same s others same lane dir file = first (root_of s.dirs dir lane) refl where
  first : (open_root : Option Root) → root_of s.dirs dir lane ≡ open_root → found s lane dir file ≡ found (with_books s others) lane dir file
  first None e = rw e refl
  first (Some root) e = rw (e, same_book s.books others same root) refl

pub copy_same : (s : State) (others : Books) → SameBooks s.books others → (lane : ℕ) (image : ImageKind) (dir : ℕ) (file : List ℕ)
    → copy_end s lane image dir file ≡ copy_end (with_books s others) lane image dir file
copy_same s others same lane image dir file = rw (found_same s others same lane dir file) refl

pub looked_same : (s : State) (others : Books) → SameBooks s.books others → (seen : List LookedAt) → SameBooks (looked_books seen s) (looked_books seen (with_books s others))
looked_same s others same seen =
    same_long s.stock (with_looked s.books seen) (with_looked others seen) (same_looked seen s.books others same)

pub hand_same : (s : State) (others : Books) → SameBooks s.books others → (seen : List LookedAt) (is_kept : Root → Bool) → at_hand s seen is_kept ≡ at_hand (with_books s others) seen is_kept
hand_same s others same seen is_kept =
    let before : Books = looked_books seen s in
    let after : Books = looked_books seen (with_books s others) in
    let looked : SameBooks before after = looked_same s others same seen in
    let book : (root : Root) → (at_hand s seen is_kept).is_book root ≡ (at_hand (with_books s others) seen is_kept).is_book root =
    λ root. rw (same_book before after looked root) refl in
    let outer : (root : Root) → (at_hand s seen is_kept).outer root ≡ (at_hand (with_books s others) seen is_kept).outer root =
    λ root. fun_ext (λ path. rw (same_book before after looked root) refl) in
    let are_books : (at_hand s seen is_kept).is_book ≡ (at_hand (with_books s others) seen is_kept).is_book = fun_ext book in
    let are_outer : (at_hand s seen is_kept).outer ≡ (at_hand (with_books s others) seen is_kept).outer = fun_ext outer in
    let are_names : (at_hand s seen is_kept).names ≡ (at_hand (with_books s others) seen is_kept).names =
    fun_ext (λ root. same_names before after looked root) in
    λ i. record {
      len = stored_len s.stock;
      is_kept = is_kept;
      is_book = are_books i;
      names = are_names i;
      outer = are_outer i;
      bytes = seen_bytes seen;
    }

pub booted_same : (s : State) (others : Books) → SameBooks s.books others → (seen : List LookedAt) (sys : Sys) → booted_verdict s seen sys ≡ booted_verdict (with_books s others) seen sys
booted_same s others same seen sys = ap (λ (at : AtHand). judged at sys.system) (hand_same s others same seen (λ root. true))

pub staged_same : (s : State) (others : Books) → SameBooks s.books others → (seen : List LookedAt) (sys : Sys) → staged_verdict s seen sys ≡ staged_verdict (with_books s others) seen sys
staged_same s others same seen sys = ap (λ (at : AtHand). judged at sys.system) (hand_same s others same seen (has_root s.retained))

pub marks_same : (s : State) (others : Books) → SameBooks s.books others → (root : Root) (end : FetchEnd) → marked_arrivals s root end ≡ marked_arrivals (with_books s others) root end
marks_same s others same root end = ap (λ (mark : Arrival → Arrival). map mark s.arriving) (same_marked s.books others same root end)

pub open_same : (s : State) (others : Books) → SameBooks s.books others → (path : NameAndVariant) → root_to_open s path ≡ root_to_open (with_books s others) path
open_same s others same path = first (root_at s.cached path) refl where
  first : (cached : Option Root) → root_at s.cached path ≡ cached → root_to_open s path ≡ root_to_open (with_books s others) path
  first None e = rw e refl
  first (Some root) e = rw (e, complete_same s others same root) refl

pub collect_same : (s : State) (others : Books) → SameBooks s.books others → collect_answer s ≡ collect_answer (with_books s others)
collect_same s others same = rw (rest_same s others same) refl
