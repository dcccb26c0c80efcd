-- A whole system has the packages that its lists name.
use Rattle.std.proofs.Common.{◌≡◌, ℕ, List, [], ◌∷◌, ◌++◌, not, Option, Some, None, is_some, Result, Ok, Err, refl, sym, subst}
use Rattle.std.specs.Prelude.{find}
use Rattle.pkg_names.specs.declared.root.Root.{Root}
use Rattle.pkg_names.specs.declared.pinned.Pinned.{Pinned}
use Rattle.system_lists.specs.declared.fault.SystemFault.{SystemFault}
use Rattle.system_lists.specs.declared.fault.SystemFault.TheVariants.{NoBook}
use Rattle.system_lists.specs.Judging.{AtHand, Verdict, static_name, cached_name, system_path, absent, no_book, missing_name, unread, unread_text, unread_named, long_len, base_faults, judged, judged_files, judged_lists, static_list, cached_list}
use Rattle.system_lists.specs.Judging.Verdict.{Whole}
use Rattle.system_judge.specs.Listed.{listed, base_pairs, pairs_in, pinned_roots}
use Rattle.plain_state.proofs.Verdicts.{Refuses, IsFault, first_holds, absent_fault, book_fault, missing_fault, base_holds}

-- a verdict that is whole has these packages
abbrev Has : List Root → Verdict → Type 0
Has roots (Whole base cached) = pinned_roots base ++ pinned_roots cached ≡ roots
Has roots verdict = Unit {0}

refuses : (roots : List Root) → Refuses (Has roots)
refuses roots = record { missing = λ root. tt; wrong = λ why. tt }

unread_fault : (roots : List Root) (root : Root) (long : Option ℕ) (text : Option (List ℕ)) → IsFault (Has roots) (unread_text root long text)
unread_fault roots root None None = tt
unread_fault roots root None (Some text) = tt
unread_fault roots root (Some len) text = tt

named_fault : (roots : List Root) (at : AtHand) (list : Option Root) → IsFault (Has roots) (unread_named at list)
named_fault roots at None = tt
named_fault roots at (Some root) = unread_fault roots root (long_len (at.len root)) (at.bytes root)

lists_have : (at : AtHand) (system : Root) (base cached : Result (List Pinned) SystemFault) → Has (system ∷ (pinned_roots (pairs_in base) ++ pinned_roots (pairs_in cached))) (judged_lists at system base cached)
lists_have at system (Err fault) cached = tt
lists_have at system (Ok base) (Err fault) = tt
lists_have at system (Ok base) (Ok cached) =
    let roots = system ∷ (pinned_roots base ++ pinned_roots cached) in
    first_holds (Has roots) (base_faults at base) (Whole (record { path = system_path; root = system } ∷ base) cached) (base_holds (Has roots) (refuses roots) at base) refl

files_have : (at : AtHand) (system : Root) (base cached : Option Root) → Has (system ∷ (pinned_roots (base_pairs at base) ++ pinned_roots (pairs_in (cached_list at cached)))) (judged_files at system base cached)
files_have at system None cached = tt
files_have at system (Some list) cached =
    let roots = system ∷ (pinned_roots (pairs_in (static_list at list)) ++ pinned_roots (pairs_in (cached_list at cached))) in
    first_holds (Has roots) (missing_name at system ∷ unread at list ∷ unread_named at cached ∷ []) (judged_lists at system (static_list at list) (cached_list at cached))
    (missing_fault (Has roots) (refuses roots) (find (λ name. not (is_some (at.len name))) (at.names system)), (unread_fault roots list (long_len (at.len list)) (at.bytes list), (named_fault roots at cached, tt)))
    (lists_have at system (static_list at list) (cached_list at cached))

judged_has : (at : AtHand) (system : Root) → Has (system ∷ listed at system) (judged at system)
judged_has at system =
    let roots = system ∷ listed at system in
    first_holds (Has roots) (absent at system ∷ no_book at NoBook system ∷ []) (judged_files at system (at.outer system static_name) (at.outer system cached_name))
    (absent_fault (Has roots) (refuses roots) at system, (book_fault (Has roots) (refuses roots) at NoBook system, tt))
    (files_have at system (at.outer system static_name) (at.outer system cached_name))

pub whole_has : (at : AtHand) (system : Root) (base cached : List Pinned) → Whole base cached ≡ judged at system → pinned_roots base ++ pinned_roots cached ≡ system ∷ listed at system
whole_has at system base cached e = subst (Has (system ∷ listed at system)) (sym e) (judged_has at system)
