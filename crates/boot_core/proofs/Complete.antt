-- A system of which nothing is wrong is complete.
use Rattle.std.proofs.Common.{◌≡◌, inl, inr, ℕ, ◌≤◌, Bool, true, false, not, List, [], ◌∷◌, length, Option, Some, None, is_some, refl, sym, ap, ◌∙◌, subst, cond, lt-ltb, le-ltb}
use Rattle.std.specs.Prelude.{find, ◌&&◌, Result, Ok, Err}
use Rattle.std.specs.List.{AllByRecursion}
use Rattle.std.specs.Option.{option_map}
use Rattle.std.proofs.lemmas.Bool.{cases_Bool, cases_lt}
use Rattle.pkg_names.specs.declared.root.Root.{Root}
use Rattle.pkg_names.specs.declared.pinned.Pinned.{Pinned}
use Rattle.package_book.specs.Books.{book_at}
use Rattle.package_book.specs.Book.{MetaAndFiles, outer_at}
use Rattle.package_book.specs.Names.{names}
use Rattle.system_lists.specs.declared.list.TheConstants.{LIST_LIMIT}
use Rattle.system_lists.specs.declared.fault.StaticFault.{StaticFault}
use Rattle.system_lists.specs.declared.fault.CachedFault.{CachedFault}
use Rattle.system_lists.specs.declared.fault.SystemFault.{SystemFault}
use Rattle.system_lists.specs.declared.fault.SystemFault.TheVariants.{NoBook, BadBase}
use Rattle.system_lists.specs.Static.{static_of}
use Rattle.system_lists.specs.Cached.{cached_of}
use Rattle.system_lists.specs.Judging.{AtHand, Verdict, first_of, absent, no_book, missing_name, long_len, unread_text, unread, unread_named, static_from, cached_from, text_of, static_list, cached_list, base_faults, judged_lists, judged_files, judged, static_name, cached_name, system_path}
use Rattle.system_lists.specs.Judging.Verdict.{Missing, Faulty, Unread, Whole}
use Rattle.boot_core.specs.declared.looking.SeenBlob.{SeenBlob}
use Rattle.boot_core.specs.Look.{len_in, bytes_in, stock_of}
use Rattle.boot_core.specs.Seen.{book_known, outer_of, books_in, hand_of}
use Rattle.boot_core.specs.Complete.{IsComplete, HasList, IsCachedBy, IsCompleteSystem}
use Rattle.boot_core.proofs.Entries.{len_of_bytes}

-- ---- what comes first isn't wrong where the verdict is that all is whole

abbrev IsFault : Option Verdict → Type 0
IsFault x = (v : Verdict) (base cached : List Pinned) → x ≡ Some v → v ≡ Whole base cached → ⊥

passed : (x : Option Verdict) (xs : List (Option Verdict)) (v : Verdict) (base cached : List Pinned) → IsFault x → first_of (x ∷ xs) v ≡ Whole base cached → (x ≡ None) × (first_of xs v ≡ Whole base cached)
passed None xs v base cached fault h = (refl, h)
passed (Some u) xs v base cached fault h = absurd (fault u base cached refl h)

if_fault : (test : Bool) (root : Root) → IsFault (cond test None (Some (Missing root)))
if_fault true root v base cached e f = absurd cc
if_fault false root v base cached e f = let same : Missing root ≡ v = cc in absurd (cc (same ∙ f))

book_fault : (test : Bool) (why : SystemFault) → IsFault (cond test None (Some (Faulty why)))
book_fault true why v base cached e f = absurd cc
book_fault false why v base cached e f = let same : Faulty why ≡ v = cc in absurd (cc (same ∙ f))

missing_fault : (found : Option Root) → IsFault (option_map Missing found)
missing_fault None v base cached e f = absurd cc
missing_fault (Some root) v base cached e f = let same : Missing root ≡ v = cc in absurd (cc (same ∙ f))

unread_fault : (root : Root) (long : Option ℕ) (text : Option (List ℕ)) → IsFault (unread_text root long text)
unread_fault root None None v base cached e f = let same : Unread root ≡ v = cc in absurd (cc (same ∙ f))
unread_fault root None (Some text) v base cached e f = absurd cc
unread_fault root (Some len) None v base cached e f = absurd cc
unread_fault root (Some len) (Some text) v base cached e f = absurd cc

-- ---- what isn't wrong is so

if_holds : (test : Bool) (v : Verdict) → cond test None (Some v) ≡ None → test ≡ true
if_holds true v h = refl
if_holds false v h = absurd cc

and_left : (test : Bool) → (test && true) ≡ true → test ≡ true
and_left true h = refl
and_left false h = absurd cc

nothing_found : (p : Root → Bool) (xs : List Root) → option_map Missing (find p xs) ≡ None → AllByRecursion (λ x. p x ≡ false) xs
nothing_found p [] h = tt
nothing_found p (y ∷ xs) h = elim (cases_Bool (p y)) [
  | inl holds ↦ let some : option_map Missing (find p (y ∷ xs)) ≡ Some (Missing y) = rw holds refl in absurd (cc (sym some ∙ h))
  | inr fails ↦
      let later : option_map Missing (find p (y ∷ xs)) ≡ option_map Missing (find p xs) = rw fails refl in
      (fails, nothing_found p xs (sym later ∙ h))
]

some_map : (x : Option (List ℕ)) → is_some (option_map (λ (text : List ℕ). length text) x) ≡ is_some x
some_map None = refl
some_map (Some text) = refl

bytes_of : (x : Option (List ℕ)) → is_some x ≡ true → (bytes : List ℕ) × (x ≡ Some bytes)
bytes_of None h = absurd cc
bytes_of (Some bytes) h = (bytes, refl)

book_of : (x : Option MetaAndFiles) → is_some x ≡ true → (book : MetaAndFiles) × (x ≡ Some book)
book_of None h = absurd cc
book_of (Some book) h = (book, refl)

not_false : (test : Bool) → not test ≡ false → test ≡ true
not_false true h = refl
not_false false h = absurd cc

static_ok : (r : Result (List Pinned) StaticFault) (packages : List Pinned) → static_from None r ≡ Ok packages → r ≡ Ok packages
static_ok (Ok list) packages h = let same : list ≡ packages = cc in ap (λ (l : List Pinned). Ok l) same
static_ok (Err fault) packages h = absurd cc

cached_ok : (r : Result (List Pinned) CachedFault) (packages : List Pinned) → cached_from None r ≡ Ok packages → r ≡ Ok packages
cached_ok (Ok list) packages h = let same : list ≡ packages = cc in ap (λ (l : List Pinned). Ok l) same
cached_ok (Err fault) packages h = absurd cc

module _ (all : List SeenBlob) where
  abbrev at : AtHand
  at = hand_of all (stock_of all)

  stored : (root : Root) → is_some (len_in (stock_of all) root) ≡ true → is_some (bytes_in all root) ≡ true
  stored root h = sym (some_map (bytes_in all root)) ∙ ap (λ (x : Option ℕ). is_some x) (sym (len_of_bytes all root)) ∙ h

  all_stored : (roots : List Root) → AllByRecursion (λ name. not (is_some (len_in (stock_of all) name)) ≡ false) roots → AllByRecursion (λ name. is_some (bytes_in all name) ≡ true) roots
  all_stored [] h = tt
  all_stored (root ∷ roots) h = (stored root (not_false (is_some (len_in (stock_of all) root)) h.0), all_stored roots h.1)

  complete : (root : Root) → is_some (len_in (stock_of all) root) ≡ true → is_some (book_known (book_at (books_in all) root)) ≡ true → missing_name at root ≡ None → IsComplete all root
  complete root there known named =
      let b = bytes_of (bytes_in all root) (stored root there) in
      let k = book_of (book_known (book_at (books_in all) root)) known in
      record {
        bytes = b.0;
        stored = b.1;
        book = k.0;
        is_book = k.1;
        named = all_stored (names root (books_in all)) (nothing_found (λ name. not (is_some (len_in (stock_of all) name))) (names root (books_in all)) named);
      }

  there_of : (root : Root) → absent at root ≡ None → is_some (len_in (stock_of all) root) ≡ true
  there_of root h = and_left (is_some (len_in (stock_of all) root)) (if_holds (is_some (len_in (stock_of all) root) && true) (Missing root) h)

  known_of : (root : Root) (why : SystemFault) → no_book at why root ≡ None → is_some (book_known (book_at (books_in all) root)) ≡ true
  known_of root why h = if_holds (is_some (book_known (book_at (books_in all) root))) (Faulty why) h

  missing_is : (root : Root) → IsFault (missing_name at root)
  missing_is root = missing_fault (find (λ name. not (is_some (len_in (stock_of all) name))) (names root (books_in all)))

  absent_is : (root : Root) → IsFault (absent at root)
  absent_is root = if_fault (is_some (len_in (stock_of all) root) && true) root

  book_is : (root : Root) (why : SystemFault) → IsFault (no_book at why root)
  book_is root why = book_fault (is_some (book_known (book_at (books_in all) root))) why

  base_complete : (pairs : List Pinned) (w : Verdict) (base cached : List Pinned) → first_of (base_faults at pairs) w ≡ Whole base cached → AllByRecursion (λ (pair : Pinned). IsComplete all pair.root) pairs × (w ≡ Whole base cached)
  base_complete [] w base cached h = (tt, h)
  base_complete (pair ∷ pairs) w base cached h =
      let root : Root = pair.root in
      let a = passed (absent at root) (no_book at (BadBase root) root ∷ missing_name at root ∷ base_faults at pairs) w base cached (absent_is root) h in
      let b = passed (no_book at (BadBase root) root) (missing_name at root ∷ base_faults at pairs) w base cached (book_is root (BadBase root)) a.1 in
      let m = passed (missing_name at root) (base_faults at pairs) w base cached (missing_is root) b.1 in
      let rest = base_complete pairs w base cached m.1 in
      ((complete root (there_of root a.0) (known_of root (BadBase root) b.0) m.0, rest.0), rest.1)

  -- ---- lists

  short_by : (root : Root) (text : List ℕ) → long_len (len_in (stock_of all) root) ≡ None → bytes_in all root ≡ Some text → length text ≤ LIST_LIMIT
  short_by root text long is =
      let len : len_in (stock_of all) root ≡ Some (length text) = len_of_bytes all root ∙ ap (option_map (λ (t : List ℕ). length t)) is in
      let none : long_len (Some (length text)) ≡ None = ap long_len (sym len) ∙ long in
      elim (cases_lt LIST_LIMIT (length text)) [
        | inl past ↦ let some : long_len (Some (length text)) ≡ Some (length text) = rw (lt-ltb LIST_LIMIT (length text) past) refl in absurd (cc (sym some ∙ none))
        | inr short ↦ short
      ]

  static_by : (root : Root) (long : Option ℕ) (bytes : Option (List ℕ)) (packages : List Pinned) → long_len (len_in (stock_of all) root) ≡ long → bytes_in all root ≡ bytes → unread_text root long bytes ≡ None → static_from long (static_of (text_of bytes)) ≡ Ok packages → (list : HasList all root) × (static_of list.text ≡ Ok packages)
  static_by root (Some len) bytes packages l b u h = absurd cc
  static_by root None None packages l b u h = absurd cc
  static_by root None (Some text) packages l b u h = (record { text = text; stored = b; short = short_by root text l b }, static_ok (static_of text) packages h)

  cached_by : (root : Root) (long : Option ℕ) (bytes : Option (List ℕ)) (packages : List Pinned) → long_len (len_in (stock_of all) root) ≡ long → bytes_in all root ≡ bytes → unread_text root long bytes ≡ None → cached_from long (cached_of (text_of bytes)) ≡ Ok packages → (list : HasList all root) × (cached_of list.text ≡ Ok packages)
  cached_by root (Some len) bytes packages l b u h = absurd cc
  cached_by root None None packages l b u h = absurd cc
  cached_by root None (Some text) packages l b u h = (record { text = text; stored = b; short = short_by root text l b }, cached_ok (cached_of text) packages h)

  named_is : (cached : Option Root) → IsFault (unread_named at cached)
  named_is None = λ v base cached e f. absurd (cc e)
  named_is (Some root) = unread_fault root (long_len (len_in (stock_of all) root)) (bytes_in all root)

  cached_says : (root : Option Root) (packages : List Pinned) → unread_named at root ≡ None → cached_list at root ≡ Ok packages → IsCachedBy all root packages
  cached_says None packages u h = cc
  cached_says (Some root) packages u h = cached_by root (long_len (len_in (stock_of all) root)) (bytes_in all root) packages refl refl u h

  module _ (system : Root) (base cached : List Pinned) (own : IsComplete all system) where
    by_lists : (list : Root) (named : Option Root) (x y : Result (List Pinned) SystemFault) → Some list ≡ outer_at static_name own.book.outer → named ≡ outer_at cached_name own.book.outer → unread at list ≡ None → unread_named at named ≡ None → static_list at list ≡ x → cached_list at named ≡ y → judged_lists at system x y ≡ Whole base cached → IsCompleteSystem all system base cached
    by_lists list named (Err fault) y lists names_it u v e f h = absurd cc
    by_lists list named (Ok packages) (Err fault) lists names_it u v e f h = absurd cc
    by_lists list named (Ok packages) (Ok others) lists names_it u v e f h =
        let first : Pinned = record { path = system_path; root = system } in
        let z = base_complete packages (Whole (first ∷ packages) others) base cached h in
        let s = static_by list (long_len (len_in (stock_of all) list)) (bytes_in all list) packages refl refl u e in
        let same : others ≡ cached = cc z.1 in
        record {
          own = own;
          listed = list;
          lists = sym lists;
          list = s.0;
          packages = packages;
          says = s.1;
          cached_says = subst (λ (root : Option Root). IsCachedBy all root cached) names_it (cached_says named cached v (f ∙ ap (λ (l : List Pinned). Ok l) same));
          base_is = cc z.1;
          complete = z.0;
        }

    by_files : (list named : Option Root) → list ≡ outer_at static_name own.book.outer → named ≡ outer_at cached_name own.book.outer → judged_files at system list named ≡ Whole base cached → IsCompleteSystem all system base cached
    by_files None named lists names_it h = absurd cc
    by_files (Some list) named lists names_it h =
        let w : Verdict = judged_lists at system (static_list at list) (cached_list at named) in
        let m = passed (missing_name at system) (unread at list ∷ unread_named at named ∷ []) w base cached (missing_is system) h in
        let u = passed (unread at list) (unread_named at named ∷ []) w base cached (unread_fault list (long_len (len_in (stock_of all) list)) (bytes_in all list)) m.1 in
        let v = passed (unread_named at named) [] w base cached (named_is named) u.1 in
        by_lists list named (static_list at list) (cached_list at named) lists names_it u.0 v.0 refl refl v.1

  no_missing : (system : Root) (list named : Option Root) (base cached : List Pinned) → judged_files at system list named ≡ Whole base cached → missing_name at system ≡ None
  no_missing system None named base cached h = absurd cc
  no_missing system (Some list) named base cached h =
      (passed (missing_name at system) (unread at list ∷ unread_named at named ∷ []) (judged_lists at system (static_list at list) (cached_list at named)) base cached (missing_is system) h).0

  pub whole_complete : (system : Root) (base cached : List Pinned) → judged at system ≡ Whole base cached → IsCompleteSystem all system base cached
  whole_complete system base cached h =
      let w : Verdict = judged_files at system (at.outer system static_name) (at.outer system cached_name) in
      let a = passed (absent at system) (no_book at NoBook system ∷ []) w base cached (absent_is system) h in
      let b = passed (no_book at NoBook system) [] w base cached (book_is system NoBook) a.1 in
      let own = complete system (there_of system a.0) (known_of system NoBook b.0) (no_missing system (at.outer system static_name) (at.outer system cached_name) base cached b.1) in
      by_files system base cached own (at.outer system static_name) (at.outer system cached_name)
      (ap (λ (m : Option MetaAndFiles). outer_of m static_name) own.is_book) (ap (λ (m : Option MetaAndFiles). outer_of m cached_name) own.is_book) b.1

-- ---- a complete system is judged to be whole

skip : (x : Option Verdict) (xs : List (Option Verdict)) (v : Verdict) → x ≡ None → first_of (x ∷ xs) v ≡ first_of xs v
skip x xs v none = ap (λ (z : Option Verdict). first_of (z ∷ xs) v) none

read_text : (root : Root) (long : Option ℕ) (text : List ℕ) → unread_text root long (Some text) ≡ None
read_text root None text = refl
read_text root (Some len) text = refl

module _ (all : List SeenBlob) where
  len_by : (root : Root) → is_some (bytes_in all root) ≡ true → is_some (len_in (stock_of all) root) ≡ true
  len_by root h = ap (λ (x : Option ℕ). is_some x) (len_of_bytes all root) ∙ some_map (bytes_in all root) ∙ h

  bytes_by : (root : Root) → IsComplete all root → is_some (bytes_in all root) ≡ true
  bytes_by root is = ap (λ (x : Option (List ℕ)). is_some x) is.stored

  not_absent : (root : Root) → IsComplete all root → absent (at all) root ≡ None
  not_absent root is = ap (λ (t : Bool). cond (t && true) None (Some (Missing root))) (len_by root (bytes_by root is))

  not_unknown : (root : Root) (why : SystemFault) → IsComplete all root → no_book (at all) why root ≡ None
  not_unknown root why is = ap (λ (m : Option MetaAndFiles). cond (is_some m) None (Some (Faulty why))) is.is_book

  none_missing : (roots : List Root) → AllByRecursion (λ name. is_some (bytes_in all name) ≡ true) roots → find (λ name. not (is_some (len_in (stock_of all) name))) roots ≡ None
  none_missing [] h = refl
  none_missing (root ∷ roots) h =
      ap (λ (t : Bool). cond (not t) (Some root) (find (λ name. not (is_some (len_in (stock_of all) name))) roots)) (len_by root h.0) ∙ none_missing roots h.1

  not_missing : (root : Root) → IsComplete all root → missing_name (at all) root ≡ None
  not_missing root is = ap (option_map Missing) (none_missing (names root (books_in all)) is.named)

  base_passes : (pairs : List Pinned) (w : Verdict) → AllByRecursion (λ (pair : Pinned). IsComplete all pair.root) pairs → first_of (base_faults (at all) pairs) w ≡ w
  base_passes [] w h = refl
  base_passes (pair ∷ pairs) w h =
      let root : Root = pair.root in
      skip (absent (at all) root) (no_book (at all) (BadBase root) root ∷ missing_name (at all) root ∷ base_faults (at all) pairs) w (not_absent root h.0)
      ∙ skip (no_book (at all) (BadBase root) root) (missing_name (at all) root ∷ base_faults (at all) pairs) w (not_unknown root (BadBase root) h.0)
      ∙ skip (missing_name (at all) root) (base_faults (at all) pairs) w (not_missing root h.0)
      ∙ base_passes pairs w h.1

  not_long : (root : Root) (list : HasList all root) → long_len (len_in (stock_of all) root) ≡ None
  not_long root list =
      let short : long_len (Some (length list.text)) ≡ None = rw (le-ltb LIST_LIMIT (length list.text) list.short) refl in
      ap long_len (len_of_bytes all root ∙ ap (option_map (λ (t : List ℕ). length t)) list.stored) ∙ short

  is_read : (root : Root) → HasList all root → unread (at all) root ≡ None
  is_read root list = ap (λ (t : Option (List ℕ)). unread_text root (long_len (len_in (stock_of all) root)) t) list.stored ∙ read_text root (long_len (len_in (stock_of all) root)) list.text

  static_is : (root : Root) (list : HasList all root) (packages : List Pinned) → static_of list.text ≡ Ok packages → static_list (at all) root ≡ Ok packages
  static_is root list packages says =
      ap (λ (l : Option ℕ). static_from l (static_of (text_of (bytes_in all root)))) (not_long root list)
      ∙ ap (λ (t : Option (List ℕ)). static_from None (static_of (text_of t))) list.stored
      ∙ ap (λ (r : Result (List Pinned) StaticFault). static_from None r) says

  cached_is : (root : Option Root) (packages : List Pinned) → IsCachedBy all root packages → (unread_named (at all) root ≡ None) × (cached_list (at all) root ≡ Ok packages)
  cached_is None packages h = (refl, ap (λ (l : List Pinned). Ok l) (sym h))
  cached_is (Some root) packages h = (
    is_read root h.0,
    ap (λ (l : Option ℕ). cached_from l (cached_of (text_of (bytes_in all root)))) (not_long root h.0)
        ∙ ap (λ (t : Option (List ℕ)). cached_from None (cached_of (text_of t))) h.0.stored
        ∙ ap (λ (r : Result (List Pinned) CachedFault). cached_from None r) h.1,
  )

  pub complete_whole : (system : Root) (base cached : List Pinned) → IsCompleteSystem all system base cached → judged (at all) system ≡ Whole base cached
  complete_whole system base cached is =
      let named : Option Root = outer_at cached_name is.own.book.outer in
      let c = cached_is named cached is.cached_says in
      let first : Pinned = record { path = system_path; root = system } in
      let v : Verdict = judged_lists (at all) system (static_list (at all) is.listed) (cached_list (at all) named) in
      let w : Verdict = judged_files (at all) system ((at all).outer system static_name) ((at all).outer system cached_name) in
      let st : (at all).outer system static_name ≡ Some is.listed = ap (λ (m : Option MetaAndFiles). outer_of m static_name) is.own.is_book ∙ is.lists in
      let ca : (at all).outer system cached_name ≡ named = ap (λ (m : Option MetaAndFiles). outer_of m cached_name) is.own.is_book in
      skip (absent (at all) system) (no_book (at all) NoBook system ∷ []) w (not_absent system is.own)
      ∙ skip (no_book (at all) NoBook system) [] w (not_unknown system NoBook is.own)
      ∙ ap (λ (s : Option Root). judged_files (at all) system s ((at all).outer system cached_name)) st
      ∙ ap (λ (s : Option Root). judged_files (at all) system (Some is.listed) s) ca
      ∙ skip (missing_name (at all) system) (unread (at all) is.listed ∷ unread_named (at all) named ∷ []) v (not_missing system is.own)
      ∙ skip (unread (at all) is.listed) (unread_named (at all) named ∷ []) v (is_read is.listed is.list)
      ∙ skip (unread_named (at all) named) [] v c.0
      ∙ ap (λ (r : Result (List Pinned) SystemFault). judged_lists (at all) system r (cached_list (at all) named)) (static_is is.listed is.list is.packages is.says)
      ∙ ap (λ (r : Result (List Pinned) SystemFault). judged_lists (at all) system (Ok is.packages) r) c.1
      ∙ base_passes is.packages (Whole (first ∷ is.packages) cached) is.complete
      ∙ ap (λ (l : List Pinned). Whole l cached) (sym is.base_is)
