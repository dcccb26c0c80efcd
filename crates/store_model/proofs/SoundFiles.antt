-- The files of an open package are there, and stay as they are.
use Rattle.std.proofs.Common.{inl, inr, ◌≡◌, ℕ, Bool, true, false, cond, not, List, [], ◌∷◌, ◌++◌, map, Option, Some, None, is_some, Result, Ok, Err, All, refl, sym, ap, subst, ◌∙◌, ◌||◌}
use Rattle.std.specs.Prelude.{filter, find, option_and_then}
use Rattle.std.specs.List.{list_all}
use Rattle.std.specs.Option.{option_map}
use Rattle.std.specs.Str.{bytes_eq}
use Rattle.std.proofs.lemmas.Bool.{and_right, cases_Bool, true≢false, or_cases, or_left, or_right, and_parts, not_from_false}
use Rattle.pkg_names.specs.declared.root.Root.{Root}
use Rattle.pkg_names.specs.Root.{root_eq}
use Rattle.pkg_names.proofs.Roots.{root_eq-true, root_eq-same}
use Rattle.far_archive.specs.Named.{file_named}
use Rattle.open_tracker.specs.declared.dirs.DirEntry.{DirEntry}
use Rattle.open_tracker.specs.Directories.{is_of, root_of}
use Rattle.package_book.specs.declared.fault.PackageFault.{PackageFault}
use Rattle.package_book.specs.Books.{Meta, Books, book_at}
use Rattle.package_book.specs.Books.Meta.{Read, Long}
use Rattle.package_book.specs.Book.{MetaAndFiles, book, outer_at, outer_roots, each_once}
use Rattle.package_book.specs.Names.{roots_from, listed_roots, roots_known, names}
use Rattle.store_model.specs.declared.events.Event.{Event}
use Rattle.store_model.specs.declared.events.Act.{Act}
use Rattle.store_model.specs.declared.events.Act.TheVariants.{Land, Collect}
use Rattle.store_model.specs.State.{is_committed, is_successful, is_other_bootable, State, Stored, stored_len, is_stored, stock_roots, without_blobs, has_root, protected_in}
use Rattle.store_model.specs.Step.{IsActDue, IsActDueIf, IsDue, next, next_of, seen_by, step}
use Rattle.store_model.specs.Settling.{looked_books}
use Rattle.store_model.specs.Acts.Collect.{collect_answer}
use Rattle.store_model.specs.Packages.{rest, book_of, the_book, known_book, is_complete}
use Rattle.store_model.specs.Files.{Found, found, found_len, found_at, found_of, found_in, found_outer}
use Rattle.store_model.specs.Files.Found.{NotOpen, NoSuchFile, Inner, Outer}
use Rattle.store_model.specs.Sound.{AreComplete, IsSameFile}
use Rattle.package_book.specs.Unprotected.{is_named}
use Rattle.store_model.proofs.Knowing.{kept_same}
use Rattle.store_model.proofs.Frames.{keeps_next}
use Rattle.store_model.proofs.SoundPackages.{Was, Protected, after_if, all_dirs, collects, books_if, still_ready}
use Rattle.store_model.proofs.LanesLists.{found_all}
use Rattle.store_model.proofs.LanesLasting.{left_len}
use Rattle.store_model.proofs.SoundBooks.{all_pass, all_same, not_left, named_by, complete_known, complete_stored}

-- ---- an outer file of a package is among its names

has_filter : (p : Root → Bool) (roots : List Root) (root : Root) → p root ≡ true → has_root roots root ≡ true → has_root (filter p roots) root ≡ true
has_filter p [] root passes among = among
has_filter p (other ∷ roots) root passes among =
    elim (or_cases (root_eq other root) (has_root roots root) among) [
      | inl same ↦ rw (ap p (root_eq-true other root same) ∙ passes) (or_left (root_eq other root) (has_root (filter p roots) root) same)
      | inr later ↦
          let rest = has_filter p roots root passes later in
          elim (cases_Bool (p other)) [
            | inl stays ↦ rw stays (or_right (root_eq other root) (has_root (filter p roots) root) rest)
            | inr goes ↦ rw goes rest
          ]
    ]

has_each_once : (roots : List Root) (root : Root) → has_root roots root ≡ true → has_root (each_once roots) root ≡ true
has_each_once [] root among = among
has_each_once (other ∷ roots) root among =
    elim (cases_Bool (root_eq other root)) [
      | inl same ↦ or_left (root_eq other root) (has_root (filter (λ r. not (root_eq other r)) (each_once roots)) root) same
      | inr differs ↦
          or_right (root_eq other root) (has_root (filter (λ r. not (root_eq other r)) (each_once roots)) root)
          (has_filter (λ r. not (root_eq other r)) (each_once roots) root (not_from_false (root_eq other root) differs) (has_each_once roots root (later (root_eq other root) (has_root roots root) differs among)))
    ]
  where
    later : (a b : Bool) → a ≡ false → (a || b) ≡ true → b ≡ true
    later true b e f = absurd cc
    later false b e f = f

outer_has : (path : List ℕ) (outer : List (List ℕ × Root)) (root : Root) → outer_at path outer ≡ Some root → has_root (map (λ (pair : List ℕ × Root). pair.1) outer) root ≡ true
outer_has path [] root e = absurd cc
outer_has path (pair ∷ outer) root e =
    elim (cases_Bool (bytes_eq pair.0 path)) [
      | inl same ↦ or_left (root_eq pair.1 root) (has_root (map (λ (p : List ℕ × Root). p.1) outer) root) (root_eq-same pair.1 root (some_same pair.1 root (rw same at e)))
      | inr other ↦ or_right (root_eq pair.1 root) (has_root (map (λ (p : List ℕ × Root). p.1) outer) root) (outer_has path outer root (rw other at e))
    ]
  where
    some_same : (a b : Root) → ◌≡◌ {A = Option Root} (Some a) (Some b) → a ≡ b
    some_same a b e2 = cc

-- the book of a package that is known
record IsKnown (books : Books) (top : Root) (found : MetaAndFiles) : Type 0 where
  bytes : List ℕ
  known : book_at books top ≡ Some (Read bytes)
  read : book bytes ≡ Ok found

is_known : (books : Books) (top : Root) (found : MetaAndFiles) → known_book books top ≡ Some found → IsKnown books top found
is_known books top found e = go (book_at books top) refl e where
  same_book : (a b : MetaAndFiles) → ◌≡◌ {A = Option MetaAndFiles} (Some a) (Some b) → a ≡ b
  same_book a b same = cc

  read_as : (result : Result MetaAndFiles PackageFault) → the_book result ≡ Some found → result ≡ Ok found
  read_as (Ok other) same = ap Ok (same_book other found same)
  read_as (Err fault) same = absurd cc

  go : (m : Option Meta) → book_at books top ≡ m → option_and_then (λ meta. the_book (book_of meta)) m ≡ Some found → IsKnown books top found
  go None is same = absurd cc
  go (Some (Read bytes)) is same = record { bytes = bytes; known = is; read = read_as (book bytes) same }
  go (Some (Long len)) is same = absurd cc

-- what its book lists outside the archive, the package names
outer_named : (books : Books) (top : Root) (found : MetaAndFiles) (path : List ℕ) (root : Root) → known_book books top ≡ Some found → outer_at path found.outer ≡ Some root → has_root (names top books) root ≡ true
unfolding names listed_roots
outer_named books top found path root e listed =
    let known = is_known books top found e in
    let roots : roots_known (book_at books top) ≡ outer_roots found.outer = ap roots_known known.known ∙ ap roots_from known.read in
    has_each_once (top ∷ roots_known (book_at books top)) root
    (or_right (root_eq top root) (has_root (roots_known (book_at books top)) root)
    (ap (λ (rs : List Root). has_root rs root) roots ∙ has_each_once (map (λ (pair : List ℕ × Root). pair.1) found.outer) root (outer_has path found.outer root listed)))

-- ---- where a file is found

-- an outer file is one that the package of the lane's directory lists
record IsOuterOf (s : State) (lane dir : ℕ) (root : Root) : Type 0 where
  top : Root
  open_as : root_of s.dirs dir lane ≡ Some top
  book_found : MetaAndFiles
  known : known_book s.books top ≡ Some book_found
  path : List ℕ
  listed : outer_at path book_found.outer ≡ Some root

outer_same : (a b : Root) → Outer a ≡ Outer b → a ≡ b
outer_same a b e = cc

is_outer : (s : State) (lane dir : ℕ) (file : List ℕ) (root : Root) → found s lane dir file ≡ Outer root → IsOuterOf s lane dir root
is_outer s lane dir file root e = at_dir (root_of s.dirs dir lane) refl e where
  in_outer : (top : Root) → root_of s.dirs dir lane ≡ Some top → (b : MetaAndFiles) → known_book s.books top ≡ Some b → (o : Option Root) → outer_at file b.outer ≡ o → found_outer o ≡ Outer root → IsOuterOf s lane dir root
  in_outer top opened b known None is same = absurd cc
  in_outer top opened b known (Some other) is same = record { top = top; open_as = opened; book_found = b; known = known; path = file; listed = is ∙ ap Some (outer_same other root same) }

  in_book : (top : Root) → root_of s.dirs dir lane ≡ Some top → (b : MetaAndFiles) → known_book s.books top ≡ Some b → (inner : Option (List ℕ)) → found_in b file inner ≡ Outer root → IsOuterOf s lane dir root
  in_book top opened b known (Some bytes) same = absurd cc
  in_book top opened b known None same = in_outer top opened b known (outer_at file b.outer) refl same

  at_book : (top : Root) → root_of s.dirs dir lane ≡ Some top → (o : Option MetaAndFiles) → known_book s.books top ≡ o → found_of o file ≡ Outer root → IsOuterOf s lane dir root
  at_book top opened None known same = absurd cc
  at_book top opened (Some b) known same = in_book top opened b known (file_named file b.inner) same

  at_dir : (o : Option Root) → root_of s.dirs dir lane ≡ o → found_at s o file ≡ Outer root → IsOuterOf s lane dir root
  at_dir None opened same = absurd cc
  at_dir (Some top) opened same = at_book top opened (known_book s.books top) refl same

-- a directory that is open is one of the list
of_open : (P : Root → Type 0) (dirs : List DirEntry) (lane dir : ℕ) (top : Root) → All (λ (d : DirEntry). P d.root) dirs → root_of dirs dir lane ≡ Some top → P top
of_open P dirs lane dir top all e = go (find (λ (d : DirEntry). is_of d dir lane) dirs) refl e where
  some_same : (a b : Root) → ◌≡◌ {A = Option Root} (Some a) (Some b) → a ≡ b
  some_same a b same = cc

  go : (o : Option DirEntry) → find (λ (d : DirEntry). is_of d dir lane) dirs ≡ o → option_map (λ (d : DirEntry). d.root) o ≡ Some top → P top
  go None is same = absurd cc
  go (Some d) is same = subst P (some_same d.root top same) (found_all (λ (x : DirEntry). is_of x dir lane) (λ (x : DirEntry). P x.root) dirs d is all)

pub outer_there : (s : State) → AreComplete s → (lane dir : ℕ) (file : List ℕ) (root : Root) → found s lane dir file ≡ Outer root → is_stored s.stock root ≡ true
outer_there s h lane dir file root e =
    let outer = is_outer s lane dir file root e in
    let complete = of_open (λ r. is_complete s r ≡ true) s.dirs lane dir outer.top h.dirs outer.open_as in
    all_pass (is_stored s.stock) (names outer.top s.books) root (and_parts (is_some (known_book s.books outer.top)) (list_all (is_stored s.stock) (names outer.top s.books)) complete).1
    (outer_named s.books outer.top outer.book_found outer.path root outer.known outer.listed)

-- ---- what a protected package names stays stored, with its length

len_more : (stock : List Stored) (blob : Stored) (root : Root) (len : ℕ) → stored_len stock root ≡ Some len → stored_len (stock ++ blob ∷ []) root ≡ Some len
len_more [] blob root len stored = absurd cc
len_more (other ∷ stock) blob root len stored =
    elim (cases_Bool (root_eq other.root root)) [
      | inl same ↦ rw same (rw same at stored)
      | inr differs ↦ rw differs (len_more stock blob root len (rw differs at stored))
    ]

len_left : (stock : List Stored) (roots : List Root) (root : Root) (len : ℕ) → stored_len stock root ≡ Some len → has_root roots root ≡ false → stored_len (without_blobs stock roots) root ≡ Some len
len_left stock roots root len stored stays = left_len stock roots root ∙ rw stays stored

lens_next : (s : State) (number lane : ℕ) (act : Act) → IsActDue s lane act → (top root : Root) (len : ℕ) → Protected s top → has_root (names top s.books) root ≡ true → stored_len s.stock root ≡ Some len → stored_len (next s number lane act).stock root ≡ Some len
lens_next s number lane (Land name long None seen) due top root len among named stored = len_more s.stock (record { root = name; len = long }) root len stored
lens_next s number lane (Land name long (Some end) seen) due top root len among named stored = stored
lens_next s number lane (Collect None) due top root len among named stored = stored
lens_next s number lane (Collect (Some roots)) due top root len among named stored =
    rw (collects s roots due)
    (len_left s.stock (rest s) root len stored
    (not_left (is_named (protected_in s) s.books) (stock_roots s.stock) root (named_by (protected_in s) s.books top root among named)))
lens_next s number lane act due top root len among named stored =
    ap (λ (stock : List Stored). stored_len stock root) ((keeps_next s number lane act).stock refl) ∙ stored

lens_if : (s : State) (number lane : ℕ) (act : Act) (broke : Bool) → IsActDueIf broke s number lane act → (top root : Root) (len : ℕ) → Protected s top → has_root (names top s.books) root ≡ true → stored_len s.stock root ≡ Some len → stored_len (after_if s number lane act broke).stock root ≡ Some len
lens_if s number lane act true due top root len among named stored = stored
lens_if s number lane act false due top root len among named stored = lens_next s number lane act due top root len among named stored

pub named_stays : (s : State) (number : ℕ) (e : Event) → IsDue s number e → (top root : Root) (len : ℕ) → has_root (protected_in s) top ≡ true → has_root (names top s.books) root ≡ true → stored_len s.stock root ≡ Some len → stored_len (step s number e).stock root ≡ Some len
named_stays s number e due top root len among named stored =
    lens_if s number e.lane e.act e.broke due.due top root len among named stored

-- ---- an open package keeps its files

-- the book of a package that was complete, and is protected before and after
book_stays : (s : State) (number : ℕ) (e : Event) → IsDue s number e → (top : Root) → Was s top → Protected (next_of s number e) top → book_at (step s number e).books top ≡ book_at s.books top
book_stays s number e due top was among =
    let n = next_of s number e in
    let seen = seen_by e.act in
    let same : n.books ≡ s.books = books_if s number e.lane e.act e.broke in
    let known : is_some (book_at n.books top) ≡ true = ap (λ (bs : Books). is_some (book_at bs top)) same ∙ complete_known s.books s.stock top was.complete in
    let there = complete_stored (looked_books seen n) n.stock top (still_ready s number e due top was) in
    kept_same (looked_books seen n) (protected_in n) n.stock top among there ∙ all_same n.books seen n.stock top known ∙ ap (λ (bs : Books). book_at bs top) same

file_stays : (s : State) (number : ℕ) (e : Event) → IsDue s number e → AreComplete s → (lane dir : ℕ) (top : Root) → root_of s.dirs dir lane ≡ Some top → root_of (step s number e).dirs dir lane ≡ Some top → (file : List ℕ) → found (step s number e) lane dir file ≡ found s lane dir file
file_stays s number e due h lane dir top before now file =
    let new = step s number e in
    let protected = of_open (λ r. has_root (protected_in s) r ≡ true) s.dirs lane dir top (all_dirs s) before in
    let complete = of_open (λ r. is_complete s r ≡ true) s.dirs lane dir top h.dirs before in
    let among = of_open (λ r. has_root (protected_in (next_of s number e)) r ≡ true) (next_of s number e).dirs lane dir top (all_dirs (next_of s number e)) now in
    let same = book_stays s number e due top (record { protected = protected; complete = complete }) among in
    ap (λ (o : Option Root). found_at new o file) now
    ∙ ap (λ (m : Option Meta). found_of (option_and_then (λ meta. the_book (book_of meta)) m) file) same
    ∙ ap (λ (o : Option Root). found_at s o file) (sym before)

len_stays : (s : State) (number : ℕ) (e : Event) → IsDue s number e → AreComplete s → (lane dir : ℕ) (file : List ℕ) (f : Found) → found s lane dir file ≡ f → found_len (step s number e) f ≡ found_len s f
len_stays s number e due h lane dir file NotOpen is = refl
len_stays s number e due h lane dir file NoSuchFile is = refl
len_stays s number e due h lane dir file (Inner bytes) is = refl
len_stays s number e due h lane dir file (Outer root) is =
    let outer = is_outer s lane dir file root is in
    let named = outer_named s.books outer.top outer.book_found outer.path root outer.known outer.listed in
    let protected = of_open (λ r. has_root (protected_in s) r ≡ true) s.dirs lane dir outer.top (all_dirs s) outer.open_as in
    go (stored_len s.stock root) refl (outer_there s h lane dir file root is) (λ len stored. named_stays s number e due outer.top root len protected named stored) where
      go : (o : Option ℕ) → stored_len s.stock root ≡ o → is_some o ≡ true → ((len : ℕ) → stored_len s.stock root ≡ Some len → stored_len (step s number e).stock root ≡ Some len) → stored_len (step s number e).stock root ≡ stored_len s.stock root
      go None same there stays = absurd (true≢false (sym there))
      go (Some len) same there stays = stays len same ∙ sym same

pub same_file : (s : State) (number : ℕ) (e : Event) → IsDue s number e → AreComplete s → (lane dir : ℕ) (top : Root) → root_of s.dirs dir lane ≡ Some top → root_of (step s number e).dirs dir lane ≡ Some top → (file : List ℕ) → IsSameFile s (step s number e) lane dir file
same_file s number e due h lane dir top before now file =
    let same = file_stays s number e due h lane dir top before now file in
    record {
      same = same;
      len = ap (found_len (step s number e)) same ∙ len_stays s number e due h lane dir file (found s lane dir file) refl;
    }

-- ---- while the running system isn't committed

not_collected : (s : State) (roots : List Root) → is_committed s ≡ false → ◌≡◌ {A = Option (List Root)} (Some roots) (collect_answer s) → ⊥
not_collected s roots pending e = go (is_committed s) pending e where
  go : (test : Bool) → test ≡ false → ◌≡◌ {A = Option (List Root)} (Some roots) (cond test (Some (rest s)) None) → ⊥
  go true is same = true≢false is
  go false is same = cc

all_next : (s : State) (number lane : ℕ) (act : Act) → IsActDue s lane act → is_committed s ≡ false → (root : Root) (len : ℕ) → stored_len s.stock root ≡ Some len → stored_len (next s number lane act).stock root ≡ Some len
all_next s number lane (Land name long None seen) due pending root len stored = len_more s.stock (record { root = name; len = long }) root len stored
all_next s number lane (Land name long (Some end) seen) due pending root len stored = stored
all_next s number lane (Collect None) due pending root len stored = stored
all_next s number lane (Collect (Some roots)) due pending root len stored = absurd (not_collected s roots pending due)
all_next s number lane act due pending root len stored =
    ap (λ (stock : List Stored). stored_len stock root) ((keeps_next s number lane act).stock refl) ∙ stored

all_if : (s : State) (number lane : ℕ) (act : Act) (broke : Bool) → IsActDueIf broke s number lane act → is_committed s ≡ false → (root : Root) (len : ℕ) → stored_len s.stock root ≡ Some len → stored_len (after_if s number lane act broke).stock root ≡ Some len
all_if s number lane act true due pending root len stored = stored
all_if s number lane act false due pending root len stored = all_next s number lane act due pending root len stored

pub all_stay : (s : State) (number : ℕ) (e : Event) → IsDue s number e → is_committed s ≡ false → (root : Root) (len : ℕ) → stored_len s.stock root ≡ Some len → stored_len (step s number e).stock root ≡ Some len
all_stay s number e due pending root len stored = all_if s number e.lane e.act e.broke due.due pending root len stored

pub other_pends : (s : State) → is_other_bootable s.abr s.running ≡ true → s.staged ≡ None → is_committed s ≡ false
other_pends s other none = and_right (is_successful s.abr s.running) (not (is_other_bootable s.abr s.running) || is_some s.staged) (rw (other, none) refl)
