-- Roots that are read one after the other, from the words between spaces.
use Rattle.std.proofs.Common.{◌≡◌, ◌≢◌, ℕ, ◌+◌, ◌<◌, ◌≤◌, Bool, true, false, eqb, List, [], ◌∷◌, ◌++◌, length, All, Option, Some, None, Result, Ok, Err, ◌⊎◌, inl, inr, refl, sym, ap, subst, ◌∙◌, arith}
use Rattle.std.specs.Prelude.{nat_le}
use Rattle.std.specs.Borrow.{Bor}
use Rattle.std.specs.List.{slice_split}
use Rattle.std.proofs.lemmas.Bool.{ne_eqb, eq-eqb}
use Rattle.std.proofs.lemmas.Bool.Decides.{nat_tests}
use Rattle.std.proofs.lemmas.List.{length-append}
use Rattle.std.proofs.lemmas.List.Elements.{All-weaker}
use Rattle.std.proofs.lemmas.List.Splits.{slice_split_none, slice_split_at}
use Rattle.pkg_names.specs.declared.root.Root.{Root}
use Rattle.pkg_names.specs.Root.{root_in}
use Rattle.pkg_names.specs.Text.{space, HasNo}
use Rattle.package_url.specs.Reading.{first_cut, IsCut, lent}
use Rattle.package_url.proofs.Places.{is_cut}
use Rattle.script_lang.specs.declared.request.LineFault.{LineFault}
use Rattle.script_lang.specs.declared.request.LineFault.TheVariants as faults
use Rattle.script_lang.specs.declared.request.TheConstants.{RETAIN_LIMIT}
use Rattle.script_lang.specs.Requests.{put_first, root_judged, roots_in, words_in}

abbrev pub size_of : Option (List ℕ) → ℕ
size_of None = 0
size_of (Some text) = 1 + length text

-- the roots that are left
abbrev pub roots_at : ℕ → Option (List ℕ) → Result (List Root) LineFault
roots_at number None = Ok []
roots_at number (Some text) = roots_in number (words_in text)

-- these roots, and what is left
abbrev pub put_all : List Root → Result (List Root) LineFault → Result (List Root) LineFault
put_all [] rest = rest
put_all (root ∷ roots) rest = put_first root (put_all roots rest)

pub put_all-append : (roots : List Root) (root : Root) (rest : Result (List Root) LineFault) → put_all (roots ++ root ∷ []) rest ≡ put_all roots (put_first root rest)
put_all-append [] root rest = refl
put_all-append (r ∷ roots) root rest = ap (put_first r) (put_all-append roots root rest)

pub put_all-err : (roots : List Root) (fault : LineFault) → put_all roots (Err fault) ≡ Err fault
put_all-err [] fault = refl
put_all-err (r ∷ roots) fault = rw (put_all-err roots fault) refl

pub put_all-nil : (roots : List Root) → put_all roots (Ok []) ≡ Ok roots
put_all-nil [] = refl
put_all-nil (r ∷ roots) = rw (put_all-nil roots) refl

words_cut : (text before : List ℕ) (after : Option (List ℕ)) → IsCut space text before after → (number : ℕ) → roots_in number (words_in text) ≡ root_judged number (root_in before) (roots_at (number + 1) after)
unfolding roots_in
words_cut text before None is number =
    let one = slice_split_none (λ c. eqb c space) text (All-weaker (λ c. c ≢ space) (λ c. eqb c space ≡ false) (λ c apart. ne_eqb c space apart) text is.0) in
    rw (one, is.1) refl
words_cut text before (Some after) is number =
    let first = slice_split_at (λ c. eqb c space) before space after (All-weaker (λ c. c ≢ space) (λ c. eqb c space ≡ false) (λ c apart. ne_eqb c space apart) before is.0) (eq-eqb space space refl) in
    rw (is.1, first) refl

-- one word is read, and the rest is left
pub next_root : (text : List ℕ) (number : ℕ) → roots_at number (Some text) ≡ root_judged number (root_in (first_cut space text).0) (roots_at (number + 1) (first_cut space text).1)
next_root text number = words_cut text (first_cut space text).0 (first_cut space text).1 (is_cut space text) number

shrinks : (text before : List ℕ) (after : Option (List ℕ)) → IsCut space text before after → size_of after < size_of (Some text)
shrinks text before None is = omega arith
shrinks text before (Some after) is = omega (arith, ap length is.1, length-append before (space ∷ after))

pub rest_shrinks : (text : List ℕ) → size_of (first_cut space text).1 < size_of (Some text)
rest_shrinks text = shrinks text (first_cut space text).0 (first_cut space text).1 (is_cut space text)

judged_bad : (number : ℕ) (found : Option Root) (rest : Result (List Root) LineFault) → (found ≡ None) ⊎ (nat_le number RETAIN_LIMIT ≡ false) → root_judged number found rest ≡ Err (faults.Root number)
judged_bad number None rest why = refl
judged_bad number (Some root) rest (inl none) = absurd cc
judged_bad number (Some root) rest (inr past) = rw past refl

-- the next word is no root, or one too many
pub bad_root : (roots : List Root) (number : ℕ) (text : List ℕ) (fault : LineFault) (all : Result (List Root) LineFault) → put_all roots (roots_at number (Some text)) ≡ all
    → (fault ≡ faults.Root number) × ((root_in (first_cut space text).0 ≡ None) ⊎ (nat_le number RETAIN_LIMIT ≡ false)) → Err fault ≡ all
bad_root roots number text fault all invariant why =
    let next = next_root text number ∙ judged_bad number (root_in (first_cut space text).0) (roots_at (number + 1) (first_cut space text).1) why.1 in
    rw why.0 (sym (put_all-err roots (faults.Root number)) ∙ ap (put_all roots) (sym next) ∙ invariant)

-- the next word is a root
pub good_root : (roots : List Root) (number : ℕ) (text : List ℕ) (root : Root) (all : Result (List Root) LineFault) → put_all roots (roots_at number (Some text)) ≡ all
    → root_in (first_cut space text).0 ≡ Some root → nat_le number RETAIN_LIMIT ≡ true → put_all (roots ++ root ∷ []) (roots_at (number + 1) (first_cut space text).1) ≡ all
good_root roots number text root all invariant found few =
    let rest = roots_at (number + 1) (first_cut space text).1 in
    let judged : root_judged number (Some root) rest ≡ put_first root rest = rw few refl in
    let next = next_root text number ∙ ap (λ (o : Option Root). root_judged number o rest) found ∙ judged in
    put_all-append roots root rest ∙ ap (put_all roots) (sym next) ∙ invariant

-- no word is left
pub all_read : (roots : List Root) (number : ℕ) (rest : Option (Bor (List ℕ))) (all : Result (List Root) LineFault) → put_all roots (roots_at number (lent rest)) ≡ all
    → ((text : Bor (List ℕ)) → rest ≡ Some text → ⊥) → Ok roots ≡ all
all_read roots number None all invariant none = sym (put_all-nil roots) ∙ invariant
all_read roots number (Some text) all invariant none = absurd (none text refl)

pub within : (number : ℕ) → nat_le number RETAIN_LIMIT ≡ true → number + 1 ≤ RETAIN_LIMIT + 1
within number few = let le : number ≤ RETAIN_LIMIT = grind (arith, nat_tests) in omega (arith, le)
