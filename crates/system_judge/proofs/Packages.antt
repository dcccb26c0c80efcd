-- The packages of a base, one after the other.
use Rattle.std.proofs.Common.{◌≡◌, ℕ, suc, ◌+◌, ◌<◌, List, [], ◌∷◌, length, get_or, drop, Option, Some, None, refl, sym, ap₂, ◌∙◌, add-one}
use Rattle.std.proofs.Math.Seq.{drop-cons}
use Rattle.pkg_names.specs.declared.root.Root.{Root}
use Rattle.pkg_names.specs.declared.pinned.Pinned.{Pinned}
use Rattle.system_lists.specs.declared.fault.SystemFault.TheVariants.{BadBase, NoBook}
use Rattle.system_lists.specs.Judging.{AtHand, Verdict, first_of, absent, no_book, missing_name, base_faults, static_name, cached_name, judged_files, judged}

three : (a b c : Option Verdict) (faults : List (Option Verdict)) (rest : Verdict) → first_of (a ∷ b ∷ c ∷ faults) rest ≡ first_of (a ∷ b ∷ c ∷ []) (first_of faults rest)
three None None None faults rest = refl
three None None (Some c) faults rest = refl
three None (Some b) c faults rest = refl
three (Some a) b c faults rest = refl

-- what is wrong with this package comes before what is wrong with later ones
pub one_package : (at : AtHand) (base : List Pinned) (i : ℕ) (d : Pinned) → i < length base → (rest : Verdict)
    → first_of (base_faults at (drop i base)) rest
    ≡ first_of (absent at (get_or base i d).root ∷ no_book at (BadBase (get_or base i d).root) (get_or base i d).root ∷ missing_name at (get_or base i d).root ∷ []) (first_of (base_faults at (drop (i + 1) base)) rest)
one_package at base i d within rest =
    rw (add-one, drop-cons base i d)
    (three (absent at (get_or base i d).root) (no_book at (BadBase (get_or base i d).root) (get_or base i d).root) (missing_name at (get_or base i d).root) (base_faults at (drop (suc i) base)) rest)

-- ---- the system

first_two : (a b : Option Verdict) (rest : Verdict) → a ≡ None → b ≡ None → first_of (a ∷ b ∷ []) rest ≡ rest
first_two None None rest e f = refl
first_two None (Some b) rest e f = absurd (cc f)
first_two (Some a) b rest e f = absurd (cc e)

-- a system whose package is a book is judged by its files
pub judged_by_files : (at : AtHand) (system : Root) (list cached : Option Root) → absent at system ≡ None → no_book at NoBook system ≡ None
    → list ≡ at.outer system static_name → cached ≡ at.outer system cached_name → judged_files at system list cached ≡ judged at system
judged_by_files at system list cached there is_book list_is cached_is =
    ap₂ (judged_files at system) list_is cached_is
    ∙ sym (first_two (absent at system) (no_book at NoBook system) (judged_files at system (at.outer system static_name) (at.outer system cached_name)) there is_book)
