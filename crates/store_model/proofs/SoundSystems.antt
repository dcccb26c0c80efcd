-- What the verdict on a whole system says: each package of its base is there, is counted on, is a book,
-- and has all blobs that it names.
use Rattle.std.proofs.Common.{inl, inr, ◌≡◌, ◌≢◌, Bool, true, false, cond, not, List, [], ◌∷◌, Option, Some, None, is_some, Result, Ok, Err, All, refl, sym, subst, ◌&&◌}
use Rattle.std.specs.Prelude.{find, ℕ}
use Rattle.std.specs.List.{list_all}
use Rattle.std.specs.Option.{option_map}
use Rattle.std.proofs.lemmas.Bool.{cases_Bool, and_parts}
use Rattle.std.proofs.lemmas.List.Elements.{All-nil, All-cons}
use Rattle.pkg_names.specs.declared.root.Root.{Root}
use Rattle.pkg_names.specs.declared.pinned.Pinned.{Pinned}
use Rattle.system_lists.specs.declared.fault.SystemFault.{SystemFault}
use Rattle.system_lists.specs.declared.fault.SystemFault.TheVariants.{NoBook, BadBase}
use Rattle.system_lists.specs.Judging.{AtHand, Verdict, system_path, static_name, cached_name, first_of, absent, no_book, missing_name, long_len, unread_text, unread, unread_named, static_list, cached_list, base_faults, judged_lists, judged_files, judged}
use Rattle.system_lists.specs.Judging.Verdict.{Missing, Faulty, Unread, Whole}

-- the package is there, is counted on, is a book, and has all blobs that it names
pub record IsGood (at : AtHand) (root : Root) : Type 0 where
  pub there : is_some (at.len root) ≡ true
  pub kept : at.is_kept root ≡ true
  pub book : at.is_book root ≡ true
  pub names : list_all (λ name. is_some (at.len name)) (at.names root) ≡ true

-- the rest's verdict, where the first fault is none
abbrev Rest : List (Option Verdict) → Verdict → List Pinned → List Pinned → Type 0
Rest faults rest base cached = first_of faults rest ≡ Whole base cached

no_fault : (test : Bool) (fault : Verdict) (faults : List (Option Verdict)) (rest : Verdict) (base cached : List Pinned) → fault ≢ Whole base cached → Rest (cond test None (Some fault) ∷ faults) rest base cached → (test ≡ true) × Rest faults rest base cached
no_fault true fault faults rest base cached other e = (refl, e)
no_fault false fault faults rest base cached other e = absurd (other e)

not_missing : (root : Root) (base cached : List Pinned) → Missing root ≢ Whole base cached
not_missing root base cached e = cc

not_faulty : (fault : SystemFault) (base cached : List Pinned) → Faulty fault ≢ Whole base cached
not_faulty fault base cached e = cc

nothing_missing : (found : Option Root) (faults : List (Option Verdict)) (rest : Verdict) (base cached : List Pinned) → Rest (option_map Missing found ∷ faults) rest base cached → (found ≡ None) × Rest faults rest base cached
nothing_missing None faults rest base cached e = (refl, e)
nothing_missing (Some root) faults rest base cached e = absurd (not_missing root base cached e)

nothing_unread : (root : Root) (long : Option ℕ) (text : Option (List ℕ)) (faults : List (Option Verdict)) (rest : Verdict) (base cached : List Pinned) → Rest (unread_text root long text ∷ faults) rest base cached → Rest faults rest base cached
nothing_unread root None None faults rest base cached e = absurd (other root base cached e) where
  other : (r : Root) (b c : List Pinned) → Unread r ≢ Whole b c
  other r b c same = cc
nothing_unread root None (Some text) faults rest base cached e = e
nothing_unread root (Some len) text faults rest base cached e = e

nothing_unread_named : (at : AtHand) (list : Option Root) (faults : List (Option Verdict)) (rest : Verdict) (base cached : List Pinned) → Rest (unread_named at list ∷ faults) rest base cached → Rest faults rest base cached
nothing_unread_named at None faults rest base cached e = e
nothing_unread_named at (Some root) faults rest base cached e = nothing_unread root (long_len (at.len root)) (at.bytes root) faults rest base cached e

all_there : (p : Root → Bool) (roots : List Root) → find (λ root. not (p root)) roots ≡ None → list_all p roots ≡ true
all_there p [] none = refl
all_there p (root ∷ roots) none =
    elim (cases_Bool (p root)) [
      | inl passes ↦ rw passes (all_there p roots (rw passes at none))
      | inr fails ↦ absurd (some_none (rw fails at none))
    ]
  where
    some_none : ◌≡◌ {A = Option Root} (Some root) None → ⊥
    some_none e = cc

-- what is wrong with a package is none of these
good_package : (at : AtHand) (fault : SystemFault) (root : Root) (faults : List (Option Verdict)) (rest : Verdict) (base cached : List Pinned) → Rest (absent at root ∷ no_book at fault root ∷ missing_name at root ∷ faults) rest base cached → IsGood at root × Rest faults rest base cached
good_package at fault root faults rest base cached e =
    let first = no_fault (is_some (at.len root) && at.is_kept root) (Missing root) (no_book at fault root ∷ missing_name at root ∷ faults) rest base cached (not_missing root base cached) e in
    let second = no_fault (at.is_book root) (Faulty fault) (missing_name at root ∷ faults) rest base cached (not_faulty fault base cached) first.1 in
    let third = nothing_missing (find (λ name. not (is_some (at.len name))) (at.names root)) faults rest base cached second.1 in
    let parts = and_parts (is_some (at.len root)) (at.is_kept root) first.0 in (
      record { there = parts.0; kept = parts.1; book = second.0; names = all_there (λ name. is_some (at.len name)) (at.names root) third.0 },
      third.1,
    )

good_base : (at : AtHand) (pairs : List Pinned) (rest : Verdict) (base cached : List Pinned) → Rest (base_faults at pairs) rest base cached → All (λ (pair : Pinned). IsGood at pair.root) pairs × (rest ≡ Whole base cached)
good_base at [] rest base cached e = (All-nil (λ (pair : Pinned). IsGood at pair.root), e)
good_base at (pair ∷ pairs) rest base cached e =
    let first = good_package at (BadBase pair.root) pair.root (base_faults at pairs) rest base cached e in
    let later = good_base at pairs rest base cached first.1 in
    (All-cons (λ (p : Pinned). IsGood at p.root) pair pairs first.0 later.0, later.1)

-- the base of a whole system: the system package comes first, and each package is good
pub record IsWholeBase (at : AtHand) (system : Root) (base : List Pinned) : Type 0 where
  pub rest : List Pinned
  pub first : base ≡ record { path = system_path; root = system } ∷ rest
  pub good : All (λ (pair : Pinned). IsGood at pair.root) base

whole_same : (b c base cached : List Pinned) → Whole b c ≡ Whole base cached → b ≡ base
whole_same b c base cached e = cc

good_lists : (at : AtHand) (system : Root) (static cached_set : Result (List Pinned) SystemFault) (base cached : List Pinned) → IsGood at system → judged_lists at system static cached_set ≡ Whole base cached → IsWholeBase at system base
good_lists at system (Err fault) cached_set base cached good e = absurd (not_faulty fault base cached e)
good_lists at system (Ok pairs) (Err fault) base cached good e = absurd (not_faulty fault base cached e)
good_lists at system (Ok pairs) (Ok others) base cached good e =
    let first : Pinned = record { path = system_path; root = system } in
    let found = good_base at pairs (Whole (first ∷ pairs) others) base cached e in
    let same = whole_same (first ∷ pairs) others base cached found.1 in
    record {
      rest = pairs;
      first = sym same;
      good = subst (λ (l : List Pinned). All (λ (pair : Pinned). IsGood at pair.root) l) same (All-cons (λ (pair : Pinned). IsGood at pair.root) first pairs good found.0);
    }

good_files : (at : AtHand) (system : Root) (static list : Option Root) (base cached : List Pinned) → is_some (at.len system) ≡ true → at.is_kept system ≡ true → at.is_book system ≡ true → judged_files at system static list ≡ Whole base cached → IsWholeBase at system base
good_files at system None list base cached there kept book e = absurd (no_static base cached e) where
  no_static : (b c : List Pinned) → judged_files at system None list ≡ Whole b c → ⊥
  no_static b c same = cc
good_files at system (Some static) list base cached there kept book e =
    let lists = judged_lists at system (static_list at static) (cached_list at list) in
    let first = nothing_missing (find (λ name. not (is_some (at.len name))) (at.names system)) (unread at static ∷ unread_named at list ∷ []) lists base cached e in
    let second = nothing_unread static (long_len (at.len static)) (at.bytes static) (unread_named at list ∷ []) lists base cached first.1 in
    let third = nothing_unread_named at list [] lists base cached second in
    good_lists at system (static_list at static) (cached_list at list) base cached
    (record { there = there; kept = kept; book = book; names = all_there (λ name. is_some (at.len name)) (at.names system) first.0 })
    third

pub good_system : (at : AtHand) (system : Root) (base cached : List Pinned) → judged at system ≡ Whole base cached → IsWholeBase at system base
good_system at system base cached e =
    let files = judged_files at system (at.outer system static_name) (at.outer system cached_name) in
    let first = no_fault (is_some (at.len system) && at.is_kept system) (Missing system) (no_book at NoBook system ∷ []) files base cached (not_missing system base cached) e in
    let second = no_fault (at.is_book system) (Faulty NoBook) [] files base cached (not_faulty NoBook base cached) first.1 in
    let parts = and_parts (is_some (at.len system)) (at.is_kept system) first.0 in
    good_files at system (at.outer system static_name) (at.outer system cached_name) base cached parts.0 parts.1 second.0 second.1
