-- A judgement by what was looked at is the one by all blobs, unless it rests on one that wasn't looked at.
use Rattle.std.proofs.Common.{◌≡◌, ◌⊎◌, inl, inr, ℕ, true, false, not, List, [], ◌∷◌, length, Option, Some, None, is_some, refl, sym, ap, ◌∙◌, subst, cond}
use Rattle.std.specs.Prelude.{find, nat_lt, Result, Ok, Err}
use Rattle.std.specs.Option.{option_map}
use Rattle.std.proofs.lemmas.Bool.{cases_Bool}
use Rattle.pkg_names.specs.declared.root.Root.{Root}
use Rattle.pkg_names.specs.declared.pinned.Pinned.{Pinned}
use Rattle.package_book.specs.Books.{Meta, Books, book_at}
use Rattle.system_lists.specs.declared.list.TheConstants.{LIST_LIMIT}
use Rattle.system_lists.specs.declared.fault.SystemFault.{SystemFault}
use Rattle.system_lists.specs.declared.fault.SystemFault.TheVariants.{NoBook, BadBase}
use Rattle.system_lists.specs.Static.{static_of}
use Rattle.system_lists.specs.Cached.{cached_of}
use Rattle.system_lists.specs.Judging.{AtHand, Verdict, first_of, absent, no_book, missing_name, long_len, unread_text, unread, unread_named, static_from, cached_from, text_of, static_list, cached_list, base_faults, judged_lists, judged_files, judged, static_name, cached_name, system_path}
use Rattle.system_lists.specs.Judging.Verdict.{Missing, Faulty, Unread, Whole}
use Rattle.boot_core.specs.declared.looking.SeenBlob.{SeenBlob}
use Rattle.boot_core.specs.Look.{Stocked, len_in, bytes_in, stock_of}
use Rattle.boot_core.specs.Seen.{book_known, outer_of, hand}
use Rattle.boot_core.specs.Whole.{is_open}
use Rattle.boot_core.proofs.Named.{names_known}
use Rattle.boot_core.proofs.Entries.{len_of_bytes}

-- ---- verdicts of which the first has P or they are one

module _ (P : Verdict → Type 0) where
  abbrev pub Alike : Verdict → Verdict → Type 0
  Alike v w = P v ⊎ (v ≡ w)

  -- the same comes first
  past : (x : Option Verdict) (xs ys : List (Option Verdict)) (v w : Verdict) → Alike (first_of xs v) (first_of ys w) → Alike (first_of (x ∷ xs) v) (first_of (x ∷ ys) w)
  past None xs ys v w rest = rest
  past (Some verdict) xs ys v w rest = inr refl

  pub past_same : (x y : Option Verdict) (xs ys : List (Option Verdict)) (v w : Verdict) → x ≡ y → Alike (first_of xs v) (first_of ys w) → Alike (first_of (x ∷ xs) v) (first_of (y ∷ ys) w)
  past_same x y xs ys v w same rest = subst (λ (z : Option Verdict). Alike (first_of (x ∷ xs) v) (first_of (z ∷ ys) w)) same (past x xs ys v w rest)

  -- the first comes to a verdict with P
  pub stops : (x : Option Verdict) (verdict : Verdict) (xs : List (Option Verdict)) (v w : Verdict) → x ≡ Some verdict → P verdict → Alike (first_of (x ∷ xs) v) w
  stops x verdict xs v w is p = inl (subst (λ (z : Option Verdict). P (first_of (z ∷ xs) v)) (sym is) p)

module _ (stock : List Stocked) (books more : Books) (blobs all : List SeenBlob) (system : Root)
    (same_book : (root : Root) → (book_at books root ≡ None) ⊎ (book_at books root ≡ book_at more root))
    (same_bytes : (root : Root) → (bytes_in blobs root ≡ None) ⊎ (bytes_in blobs root ≡ bytes_in all root))
    (agree : stock ≡ stock_of all) where
  abbrev a : AtHand
  a = hand stock books blobs

  abbrev b : AtHand
  b = hand stock more all

  abbrev Open : Verdict → Type 0
  Open verdict = is_open stock books system verdict ≡ true

  -- ---- a package

  book_same : (root : Root) (fault : SystemFault) → book_at books root ≡ book_at more root → no_book a fault root ≡ no_book b fault root
  book_same root fault same = ap (λ (meta : Option Meta). cond (is_some (book_known meta)) None (Some (Faulty fault))) same

  missing_same : (root : Root) → book_at books root ≡ book_at more root → missing_name a root ≡ missing_name b root
  missing_same root same = ap (λ (roots : List Root). option_map Missing (find (λ name. not (is_some (len_in stock name))) roots)) (names_known root books more same)

  book_open : (root : Root) (fault : SystemFault) → book_at books root ≡ None → no_book a fault root ≡ Some (Faulty fault)
  book_open root fault none = ap (λ (meta : Option Meta). cond (is_some (book_known meta)) None (Some (Faulty fault))) none

  unknown : (root : Root) → book_at books root ≡ None → not (is_some (book_at books root)) ≡ true
  unknown root none = ap (λ (meta : Option Meta). not (is_some meta)) none

  -- ---- a list

  bytes_same : (root : Root) → len_in stock root ≡ None → bytes_in all root ≡ None
  bytes_same root none = of (bytes_in all root) (sym (len_of_bytes all root) ∙ ap (λ (s : List Stocked). len_in s root) (sym agree) ∙ none) where
    of : (bytes : Option (List ℕ)) → option_map (λ (text : List ℕ). length text) bytes ≡ None → bytes ≡ None
    of None h = refl
    of (Some text) h = absurd cc

  unread_same : (root : Root) → bytes_in blobs root ≡ bytes_in all root → unread a root ≡ unread b root
  unread_same root same = ap (λ (text : Option (List ℕ)). unread_text root (long_len (len_in stock root)) text) same

  static_same : (root : Root) → bytes_in blobs root ≡ bytes_in all root → static_list a root ≡ static_list b root
  static_same root same = ap (λ (text : Option (List ℕ)). static_from (long_len (len_in stock root)) (static_of (text_of text))) same

  cached_same : (root : Root) → bytes_in blobs root ≡ bytes_in all root → cached_list a (Some root) ≡ cached_list b (Some root)
  cached_same root same = ap (λ (text : Option (List ℕ)). cached_from (long_len (len_in stock root)) (cached_of (text_of text))) same

  -- a list that wasn't looked at has to be read, or is too long for that, or isn't stored
  record ListAlike (root : Root) : Type 0 where
    unread_alike : unread a root ≡ unread b root
    static_alike : static_list a root ≡ static_list b root
    cached_alike : cached_list a (Some root) ≡ cached_list b (Some root)

  by_bytes : (root : Root) → bytes_in blobs root ≡ bytes_in all root → ListAlike root
  by_bytes root same = record { unread_alike = unread_same root same; static_alike = static_same root same; cached_alike = cached_same root same }

  record ToRead (root : Root) : Type 0 where
    stored : is_some (len_in stock root) ≡ true
    to_read : unread a root ≡ Some (Unread root)

  by_len : (root : Root) (len : Option ℕ) → len_in stock root ≡ len → bytes_in blobs root ≡ None → ToRead root ⊎ ListAlike root
  by_len root None is none = inr (by_bytes root (none ∙ sym (bytes_same root is)))
  by_len root (Some len) is none = elim (cases_Bool (nat_lt LIST_LIMIT len)) [
    | inl long ↦
        let l : long_len (len_in stock root) ≡ Some len = ap long_len is ∙ rw long refl in
        inr (record {
          unread_alike = ap (λ (z : Option ℕ). unread_text root z (bytes_in blobs root)) l ∙ sym (ap (λ (z : Option ℕ). unread_text root z (bytes_in all root)) l);
          static_alike = ap (λ (z : Option ℕ). static_from z (static_of (text_of (bytes_in blobs root)))) l ∙ sym (ap (λ (z : Option ℕ). static_from z (static_of (text_of (bytes_in all root)))) l);
          cached_alike = ap (λ (z : Option ℕ). cached_from z (cached_of (text_of (bytes_in blobs root)))) l ∙ sym (ap (λ (z : Option ℕ). cached_from z (cached_of (text_of (bytes_in all root)))) l);
        })
    | inr short ↦
        let l : long_len (len_in stock root) ≡ None = ap long_len is ∙ rw short refl in
        inl (record {
          stored = ap (λ (z : Option ℕ). is_some z) is;
          to_read = ap (λ (z : Option ℕ). unread_text root z (bytes_in blobs root)) l ∙ ap (λ (z : Option (List ℕ)). unread_text root None z) none;
        })
  ]

  list_alike : (root : Root) → ToRead root ⊎ ListAlike root
  list_alike root = elim (same_bytes root) [
    | inl none ↦ by_len root (len_in stock root) refl none
    | inr same ↦ inr (by_bytes root same)
  ]

  -- ---- the system

  base_alike : (base : List Pinned) (w : Verdict) → Alike Open (first_of (base_faults a base) w) (first_of (base_faults b base) w)
  base_alike [] w = inr refl
  base_alike (pair ∷ pairs) w =
      let root : Root = pair.root in
      past_same Open (absent a root) (absent b root) (no_book a (BadBase root) root ∷ missing_name a root ∷ base_faults a pairs) (no_book b (BadBase root) root ∷ missing_name b root ∷ base_faults b pairs) w w refl
      (elim (same_book root) [
        | inl none ↦ stops Open (no_book a (BadBase root) root) (Faulty (BadBase root)) (missing_name a root ∷ base_faults a pairs) w (first_of (no_book b (BadBase root) root ∷ missing_name b root ∷ base_faults b pairs) w) (book_open root (BadBase root) none) (unknown root none)
        | inr same ↦
            past_same Open (no_book a (BadBase root) root) (no_book b (BadBase root) root) (missing_name a root ∷ base_faults a pairs) (missing_name b root ∷ base_faults b pairs) w w (book_same root (BadBase root) same)
            (past_same Open (missing_name a root) (missing_name b root) (base_faults a pairs) (base_faults b pairs) w w (missing_same root same) (base_alike pairs w))
      ])

  lists_alike : (x y : Result (List Pinned) SystemFault) → Alike Open (judged_lists a system x y) (judged_lists b system x y)
  lists_alike (Err fault) y = inr refl
  lists_alike (Ok base) (Err fault) = inr refl
  lists_alike (Ok base) (Ok cached) = base_alike base (Whole (record { path = system_path; root = system } ∷ base) cached)

  lists_same : (x x2 y y2 : Result (List Pinned) SystemFault) → x ≡ x2 → y ≡ y2 → Alike Open (judged_lists a system x y) (judged_lists b system x2 y2)
  lists_same x x2 y y2 e f =
      subst (λ (z : Result (List Pinned) SystemFault). Alike Open (judged_lists a system x y) (judged_lists b system x2 z)) f
      (subst (λ (z : Result (List Pinned) SystemFault). Alike Open (judged_lists a system x y) (judged_lists b system z y)) e (lists_alike x y))

  named_alike : (list : Root) (cached : Option Root) → ListAlike list → Alike Open (first_of (unread_named a cached ∷ []) (judged_lists a system (static_list a list) (cached_list a cached))) (first_of (unread_named b cached ∷ []) (judged_lists b system (static_list b list) (cached_list b cached)))
  named_alike list None is = lists_same (static_list a list) (static_list b list) (cached_list a None) (cached_list b None) is.static_alike refl
  named_alike list (Some root) is = elim (list_alike root) [
    | inl read ↦ stops Open (unread a root) (Unread root) [] (judged_lists a system (static_list a list) (cached_list a (Some root))) (first_of (unread b root ∷ []) (judged_lists b system (static_list b list) (cached_list b (Some root)))) read.to_read read.stored
    | inr same ↦ past_same Open (unread a root) (unread b root) [] [] (judged_lists a system (static_list a list) (cached_list a (Some root))) (judged_lists b system (static_list b list) (cached_list b (Some root))) same.unread_alike (lists_same (static_list a list) (static_list b list) (cached_list a (Some root)) (cached_list b (Some root)) is.static_alike same.cached_alike)
  ]

  files_alike : (list cached : Option Root) → missing_name a system ≡ missing_name b system → Alike Open (judged_files a system list cached) (judged_files b system list cached)
  files_alike None cached missing = inr refl
  files_alike (Some list) cached missing =
      let v : Verdict = judged_lists a system (static_list a list) (cached_list a cached) in
      let w : Verdict = judged_lists b system (static_list b list) (cached_list b cached) in
      past_same Open (missing_name a system) (missing_name b system) (unread a list ∷ unread_named a cached ∷ []) (unread b list ∷ unread_named b cached ∷ []) v w missing
      (elim (list_alike list) [
        | inl read ↦ stops Open (unread a list) (Unread list) (unread_named a cached ∷ []) v (first_of (unread b list ∷ unread_named b cached ∷ []) w) read.to_read read.stored
        | inr same ↦ past_same Open (unread a list) (unread b list) (unread_named a cached ∷ []) (unread_named b cached ∷ []) v w same.unread_alike (named_alike list cached same)
      ])

  outer_same : (path : List ℕ) → book_at books system ≡ book_at more system → a.outer system path ≡ b.outer system path
  outer_same path same = ap (λ (meta : Option Meta). outer_of (book_known meta) path) same

  files_same : book_at books system ≡ book_at more system → Alike Open (judged_files a system (a.outer system static_name) (a.outer system cached_name)) (judged_files b system (b.outer system static_name) (b.outer system cached_name))
  files_same same =
      let v : Verdict = judged_files a system (a.outer system static_name) (a.outer system cached_name) in
      subst (λ (z : Option Root). Alike Open v (judged_files b system (b.outer system static_name) z)) (outer_same cached_name same)
      (subst (λ (z : Option Root). Alike Open v (judged_files b system z (a.outer system cached_name))) (outer_same static_name same)
      (files_alike (a.outer system static_name) (a.outer system cached_name) (missing_same system same)))

  pub judged_alike : Alike Open (judged a system) (judged b system)
  judged_alike =
      let v : Verdict = judged_files a system (a.outer system static_name) (a.outer system cached_name) in
      let w : Verdict = judged_files b system (b.outer system static_name) (b.outer system cached_name) in
      past_same Open (absent a system) (absent b system) (no_book a NoBook system ∷ []) (no_book b NoBook system ∷ []) v w refl
      (elim (same_book system) [
        | inl none ↦ stops Open (no_book a NoBook system) (Faulty NoBook) [] v (first_of (no_book b NoBook system ∷ []) w) (book_open system NoBook none) (unknown system none)
        | inr same ↦ past_same Open (no_book a NoBook system) (no_book b NoBook system) [] [] v w (book_same system NoBook same) (files_same same)
      ])

  pub judged_told : is_open stock books system (judged a system) ≡ false → judged a system ≡ judged b system
  judged_told closed = elim judged_alike [
    | inl open_ ↦ absurd (cc (sym open_ ∙ closed))
    | inr same ↦ same
  ]
