-- Roots are read from the words that are their texts.
use Rattle.std.proofs.Common.{◌≡◌, ◌≢◌, ℕ, ◌+◌, ◌≤◌, Bool, true, false, eqb, cond, List, [], ◌∷◌, ◌++◌, ◌⊎◌, inl, inr, length, map, All, Option, Some, None, Result, Ok, Err, refl, sym, ap, subst, ◌∙◌, arith}
use Rattle.std.specs.Prelude.{nat_le}
use Rattle.std.specs.List.{join_with_byte, slice_split}
use Rattle.std.proofs.lemmas.Bool.{ne_eqb, eq-eqb}
use Rattle.std.proofs.lemmas.Bool.Decides.{nat_tests}
use Rattle.std.proofs.lemmas.List.Elements.{All-nil, All-cons, All-head, All-tail, All-weaker}
use Rattle.std.proofs.lemmas.List.Splits.{slice_split_none, slice_split_at, join_with_byte-slice_split}
use Rattle.pkg_names.specs.declared.root.Root.{Root}
use Rattle.pkg_names.specs.Root.{IsRoot, is_lower_digit, root_in, root_text}
use Rattle.pkg_names.specs.Text.{space, HasNo}
use Rattle.pkg_names.proofs.Roots.{is_text, root_in_spells, root_in-root_text}
use Rattle.package_url.proofs.Places.{none_passes}
use Rattle.script_lang.specs.declared.request.LineFault.{LineFault}
use Rattle.script_lang.specs.declared.request.LineFault.TheVariants as faults
use Rattle.script_lang.specs.declared.request.TheConstants.{RETAIN_LIMIT}
use Rattle.script_lang.specs.Requests.{put_first, root_judged, roots_in, words_in}
use Rattle.script_lang.specs.Spelling.{roots_text}

record Reads (number : ℕ) (words : List (List ℕ)) (roots : List Root) : Type 0 where
  pub texts : words ≡ map root_text roots
  pub valid : All IsRoot roots
  pub few : (roots ≡ []) ⊎ (number + length roots ≤ RETAIN_LIMIT + 1)

put : (root : Root) (rest : Result (List Root) LineFault) (roots : List Root) → put_first root rest ≡ Ok roots → (tail : List Root) × (rest ≡ Ok tail) × (roots ≡ root ∷ tail)
put root (Err fault) roots e = absurd cc
put root (Ok tail) roots e = (tail, refl, let same : root ∷ tail ≡ roots = cc in sym same)

few_more : (number : ℕ) (root : Root) (tail : List Root) → nat_le number RETAIN_LIMIT ≡ true → (tail ≡ []) ⊎ (number + 1 + length tail ≤ RETAIN_LIMIT + 1) → number + length (root ∷ tail) ≤ RETAIN_LIMIT + 1
few_more number root tail le (inl none) = let h : number ≤ RETAIN_LIMIT = grind (arith, nat_tests) in omega (arith, h, ap length none)
few_more number root tail le (inr more) = omega (arith, more)

judged : (number : ℕ) (word : List ℕ) (found : Option Root) (rest : Result (List Root) LineFault) (roots : List Root) → root_in word ≡ found → root_judged number found rest ≡ Ok roots
    → (root : Root) × (tail : List Root) × (root_in word ≡ Some root) × (nat_le number RETAIN_LIMIT ≡ true) × (rest ≡ Ok tail) × (roots ≡ root ∷ tail)
judged number word None rest roots read e = absurd cc
judged number word (Some root) rest roots read e = within (nat_le number RETAIN_LIMIT) refl e where
  within : (test : Bool) → nat_le number RETAIN_LIMIT ≡ test → cond test (put_first root rest) (Err (faults.Root number)) ≡ Ok roots
      → (r : Root) × (tail : List Root) × (root_in word ≡ Some r) × (nat_le number RETAIN_LIMIT ≡ true) × (rest ≡ Ok tail) × (roots ≡ r ∷ tail)
  within true on e = let p = put root rest roots e in (root, p.0, read, on, p.1, p.2)
  within false off e = absurd cc

reads : (number : ℕ) (words : List (List ℕ)) (roots : List Root) → roots_in number words ≡ Ok roots → Reads number words roots
unfolding roots_in
reads number [] roots e = let none : [] ≡ roots = cc in rw (sym none) (record { texts = refl; valid = All-nil IsRoot; few = inl refl })
reads number (word ∷ words) roots e =
    let p = judged number word (root_in word) (roots_in (number + 1) words) roots refl e in
    let rest = reads (number + 1) words p.1 p.4 in
    let text = root_in_spells word p.0 p.2 in
    rw p.5 (record {
      texts = ap (λ (w : List ℕ). w ∷ words) text.0 ∙ ap (λ (ws : List (List ℕ)). root_text p.0 ∷ ws) rest.texts;
      valid = All-cons IsRoot p.0 p.1 text.1 rest.valid;
      few = inr (few_more number p.0 p.1 p.3 rest.few);
    })

some : ◌≡◌ {A = List (List ℕ)} ([] ∷ []) [] → ⊥
some words = cc

count : (root : Root) (tail : List Root) → (root ∷ tail ≡ []) ⊎ (1 + length (root ∷ tail) ≤ RETAIN_LIMIT + 1) → length (root ∷ tail) ≤ RETAIN_LIMIT
count root tail (inl none) = absurd cc
count root tail (inr few) = omega (arith, few)

-- the words of a text are those of roots
pub roots_read : (text : List ℕ) (roots : List Root) → roots_in 1 (words_in text) ≡ Ok roots → (space ∷ text ≡ roots_text roots) × All IsRoot roots × (length roots ≤ RETAIN_LIMIT)
roots_read text roots e = shaped roots (reads 1 (words_in text) roots e) where
  whole : join_with_byte space (words_in text) ≡ text
  whole = join_with_byte-slice_split space text

  shaped : (roots : List Root) → Reads 1 (words_in text) roots → (space ∷ text ≡ roots_text roots) × All IsRoot roots × (length roots ≤ RETAIN_LIMIT)
  shaped [] r =
      let empty : text ≡ [] = sym whole ∙ ap (join_with_byte space) r.texts in
      let words : words_in [] ≡ [] = subst (λ (t : List ℕ). words_in t ≡ []) empty r.texts in
      absurd (some words)
  shaped (root ∷ tail) r = (ap (λ (t : List ℕ). space ∷ t) (sym whole ∙ ap (join_with_byte space) r.texts), r.valid, count root tail r.few)

spaceless : (root : Root) → IsRoot root → HasNo space (root_text root)
spaceless root is = none_passes is_lower_digit space (root_text root) refl (is_text root is).digits

apart : (text : List ℕ) → HasNo space text → All (λ c. eqb c space ≡ false) text
apart text none = All-weaker (λ c. c ≢ space) (λ c. eqb c space ≡ false) (λ c far. ne_eqb c space far) text none

words_are : (root : Root) (roots : List Root) → All IsRoot (root ∷ roots) → words_in (join_with_byte space (map root_text (root ∷ roots))) ≡ map root_text (root ∷ roots)
words_are root [] valid = slice_split_none (λ c. eqb c space) (root_text root) (apart (root_text root) (spaceless root (All-head IsRoot root [] valid)))
words_are root (next ∷ roots) valid =
    slice_split_at (λ c. eqb c space) (root_text root) space (join_with_byte space (map root_text (next ∷ roots))) (apart (root_text root) (spaceless root (All-head IsRoot root (next ∷ roots) valid))) (eq-eqb space space refl)
    ∙ ap (λ (ws : List (List ℕ)). root_text root ∷ ws) (words_are next roots (All-tail IsRoot root (next ∷ roots) valid))

few_test : (number : ℕ) → number ≤ RETAIN_LIMIT → nat_le number RETAIN_LIMIT ≡ true
few_test number few = grind (arith, nat_tests)

read_all : (number : ℕ) (roots : List Root) → All IsRoot roots → number + length roots ≤ RETAIN_LIMIT + 1 → roots_in number (map root_text roots) ≡ Ok roots
unfolding roots_in
read_all number [] valid few = refl
read_all number (root ∷ roots) valid few =
    rw (root_in-root_text root (All-head IsRoot root roots valid), few_test number (omega (arith, few)), read_all (number + 1) roots (All-tail IsRoot root roots valid) (omega (arith, few))) refl

-- roots are read from their texts
pub roots_there : (text : List ℕ) (root : Root) (roots : List Root) → space ∷ text ≡ roots_text (root ∷ roots) → All IsRoot (root ∷ roots) → length (root ∷ roots) ≤ RETAIN_LIMIT → roots_in 1 (words_in text) ≡ Ok (root ∷ roots)
roots_there text root roots e valid few =
    let same : text ≡ join_with_byte space (map root_text (root ∷ roots)) = cc in
    rw (same, words_are root roots valid) (read_all 1 (root ∷ roots) valid (omega (arith, few)))
