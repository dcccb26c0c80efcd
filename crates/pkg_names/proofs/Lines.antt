-- The lines of a text, one after the other.
use Rattle.std.proofs.Common.{◌≡◌, ◌≢◌, ℕ, ◌<◌, Bool, true, false, cond, eqb, List, [], ◌∷◌, ◌++◌, ◌⊎◌, inl, inr, length, All, refl, sym, ap, subst, ◌∙◌, arith}
use Rattle.std.specs.List.{onto_first}
use Rattle.std.proofs.lemmas.List.Elements.{All-head, All-tail, All-nil, All-cons}
use Rattle.std.proofs.lemmas.Bool.{ne_eqb, eqb-true, eq-eqb}
use Rattle.pkg_names.specs.Text.{line_feed, HasNo, lines_of, text_of_lines}

-- a line that is ended comes first
pub lines_cut : (front back : List ℕ) → HasNo line_feed front → lines_of (front ++ line_feed ∷ back) ≡ front ∷ lines_of back
lines_cut [] back none = refl
lines_cut (c ∷ front) back none =
    let apart : eqb c line_feed ≡ false = ne_eqb c line_feed (All-head (λ x. x ≢ line_feed) c front none) in
    rw apart (ap (onto_first c) (lines_cut front back (All-tail (λ x. x ≢ line_feed) c front none)))

-- a text without line feeds is one line
pub lines_whole : (text : List ℕ) → HasNo line_feed text → 0 < length text → lines_of text ≡ text ∷ []
lines_whole [] none some = absurd (omega arith)
lines_whole (c ∷ []) none some =
    let apart : eqb c line_feed ≡ false = ne_eqb c line_feed (All-head (λ x. x ≢ line_feed) c [] none) in
    rw apart refl
lines_whole (c ∷ d ∷ text) none some =
    let apart : eqb c line_feed ≡ false = ne_eqb c line_feed (All-head (λ x. x ≢ line_feed) c (d ∷ text) none) in
    rw apart (ap (onto_first c) (lines_whole (d ∷ text) (All-tail (λ x. x ≢ line_feed) c (d ∷ text) none) (omega arith)))

-- ---- a text is its lines

pub lines_only : (lines : List (List ℕ)) → All (HasNo line_feed) lines → lines_of (text_of_lines lines) ≡ lines
lines_only [] none = refl
lines_only (line ∷ lines) none =
    lines_cut line (text_of_lines lines) (All-head (HasNo line_feed) line lines none) ∙ ap (λ (ls : List (List ℕ)). line ∷ ls) (lines_only lines (All-tail (HasNo line_feed) line lines none))

-- the two forms of a text of these lines
abbrev IsTextOf : List ℕ → List (List ℕ) → Type 0
IsTextOf text lines = (text ≡ text_of_lines lines) ⊎ (text ++ line_feed ∷ [] ≡ text_of_lines lines)

with_byte : (c : ℕ) (text : List ℕ) (lines : List (List ℕ)) → IsTextOf text lines → IsTextOf (c ∷ text) (onto_first c lines)
with_byte c [] [] (inl e) = inr refl
with_byte c (x ∷ text) [] (inl e) = absurd cc
with_byte c [] [] (inr e) = absurd cc
with_byte c (x ∷ text) [] (inr e) = absurd cc
with_byte c text (line ∷ lines) (inl e) = inl (ap (λ (t : List ℕ). c ∷ t) e)
with_byte c text (line ∷ lines) (inr e) = inr (ap (λ (t : List ℕ). c ∷ t) e)

with_feed : (text : List ℕ) (lines : List (List ℕ)) → IsTextOf text lines → IsTextOf (line_feed ∷ text) ([] ∷ lines)
with_feed text lines (inl e) = inl (ap (λ (t : List ℕ). line_feed ∷ t) e)
with_feed text lines (inr e) = inr (ap (λ (t : List ℕ). line_feed ∷ t) e)

pub lines_whole_text : (text : List ℕ) → IsTextOf text (lines_of text)
lines_whole_text [] = inl refl
lines_whole_text (c ∷ text) = first (eqb c line_feed) refl (lines_whole_text text) where
  first : (test : Bool) → eqb c line_feed ≡ test → IsTextOf text (lines_of text) → IsTextOf (c ∷ text) (cond test ([] ∷ lines_of text) (onto_first c (lines_of text)))
  first true is h = subst (λ (x : ℕ). IsTextOf (x ∷ text) ([] ∷ lines_of text)) (sym (eqb-true c line_feed is)) (with_feed text (lines_of text) h)
  first false is h = with_byte c text (lines_of text) h

onto_none : (c : ℕ) (lines : List (List ℕ)) → c ≢ line_feed → All (HasNo line_feed) lines → All (HasNo line_feed) (onto_first c lines)
onto_none c [] apart none = All-cons (HasNo line_feed) (c ∷ []) [] (All-cons (λ x. x ≢ line_feed) c [] apart (All-nil (λ x. x ≢ line_feed))) (All-nil (HasNo line_feed))
onto_none c (line ∷ lines) apart none =
    All-cons (HasNo line_feed) (c ∷ line) lines (All-cons (λ x. x ≢ line_feed) c line apart (All-head (HasNo line_feed) line lines none)) (All-tail (HasNo line_feed) line lines none)

pub lines_none : (text : List ℕ) → All (HasNo line_feed) (lines_of text)
lines_none [] = All-nil (HasNo line_feed)
lines_none (c ∷ text) = first (eqb c line_feed) refl (lines_none text) where
  first : (test : Bool) → eqb c line_feed ≡ test → All (HasNo line_feed) (lines_of text) → All (HasNo line_feed) (cond test ([] ∷ lines_of text) (onto_first c (lines_of text)))
  first true is h = All-cons (HasNo line_feed) [] (lines_of text) (All-nil (λ x. x ≢ line_feed)) h
  first false is h = onto_none c (lines_of text) (λ same. let yes = eq-eqb c line_feed same in cc) h
