-- A text is cut at the first place of a byte in one way, and a front is taken off in one way.
use Rattle.std.proofs.Common.{◌≡◌, ◌≢◌, ℕ, ◌+◌, Bool, true, false, not, cond, eqb, List, [], ◌∷◌, ◌++◌, length, take, drop, Option, Some, None, get_or, refl, sym, ap, subst, ◌∙◌}
use Rattle.std.specs.Borrow.{Bor}
use Rattle.std.specs.Prelude.{MatchOption}
use Rattle.std.specs.List.{AllPass, list_all}
use Rattle.std.specs.Str.{bytes_eq}
use Rattle.std.proofs.Math.Seq.{take-append_seam, drop-append_seam}
use Rattle.std.proofs.lemmas.Bool.{ne_eqb, eqb-true, eqb-false, eq-eqb}
use Rattle.std.proofs.lemmas.List.{take-append-drop}
use Rattle.std.proofs.lemmas.List.Elements.{All-head, All-tail, All-nil, All-cons}
use Rattle.std.proofs.lemmas.List.Sums.{AllPass-from_list_all}
use Rattle.std.proofs.lemmas.Slice.Eq.{bytes_eq-Decides}
use Rattle.pkg_names.specs.Text.{HasNo}
use Rattle.package_url.specs.Reading.{first_cut, IsCut, lent, behind}

pub no_cut : (byte : ℕ) (text : List ℕ) → HasNo byte text → first_cut byte text ≡ (text, None)
unfolding first_cut
no_cut byte [] none = refl
no_cut byte (c ∷ rest) none =
    rw (ne_eqb c byte (All-head (λ x. x ≢ byte) c rest none), no_cut byte rest (All-tail (λ x. x ≢ byte) c rest none)) refl

pub cut_there : (byte : ℕ) (before after : List ℕ) → HasNo byte before → first_cut byte (before ++ byte ∷ after) ≡ (before, Some after)
unfolding first_cut
cut_there byte [] after none = rw (eq-eqb byte byte refl) refl
cut_there byte (c ∷ before) after none =
    rw (ne_eqb c byte (All-head (λ x. x ≢ byte) c before none), cut_there byte before after (All-tail (λ x. x ≢ byte) c before none)) refl

onto : (byte c : ℕ) (rest before : List ℕ) (after : Option (List ℕ)) → c ≢ byte → IsCut byte rest before after → IsCut byte (c ∷ rest) (c ∷ before) after
onto byte c rest before None apart is = (All-cons (λ x. x ≢ byte) c rest apart is.0, ap (λ (t : List ℕ). c ∷ t) is.1)
onto byte c rest before (Some after) apart is = (All-cons (λ x. x ≢ byte) c before apart is.0, ap (λ (t : List ℕ). c ∷ t) is.1)

chosen : (byte : ℕ) (text : List ℕ) (test : Bool) (one other : List ℕ × Option (List ℕ)) → (test ≡ true → IsCut byte text one.0 one.1) → (test ≡ false → IsCut byte text other.0 other.1)
    → IsCut byte text (cond test one other).0 (cond test one other).1
chosen byte text true one other a b = a refl
chosen byte text false one other a b = b refl

pub is_cut : (byte : ℕ) (text : List ℕ) → IsCut byte text (first_cut byte text).0 (first_cut byte text).1
unfolding first_cut
is_cut byte [] = (All-nil (λ x. x ≢ byte), refl)
is_cut byte (c ∷ rest) =
    chosen byte (c ∷ rest) (eqb c byte) ([], Some rest) (c ∷ (first_cut byte rest).0, (first_cut byte rest).1)
    (λ e. (All-nil (λ x. x ≢ byte), ap (λ (x : ℕ). x ∷ rest) (eqb-true c byte e)))
    (λ e. onto byte c rest (first_cut byte rest).0 (first_cut byte rest).1 (eqb-false c byte e) (is_cut byte rest))

-- ---- a front

pub behind_there : (front rest : List ℕ) → behind front (front ++ rest) ≡ Some rest
unfolding behind
behind_there front rest =
    rw (take-append_seam front rest, (bytes_eq-Decides front front).1 refl, drop-append_seam front rest) refl

begins : (front text rest : List ℕ) (test : Bool) → bytes_eq (take (length front) text) front ≡ test → cond test (Some (drop (length front) text)) None ≡ Some rest
    → (text ≡ front ++ rest) × (rest ≡ drop (length front) text)
begins front text rest true is e =
    let same : drop (length front) text ≡ rest = cc in
    (sym (take-append-drop (length front) text) ∙ ap (λ (x : List ℕ). x ++ drop (length front) text) ((bytes_eq-Decides (take (length front) text) front).0 is) ∙ ap (λ (x : List ℕ). front ++ x) same, sym same)
begins front text rest false is e = absurd cc

pub behind_is : (front text rest : List ℕ) → behind front text ≡ Some rest → (text ≡ front ++ rest) × (rest ≡ drop (length front) text)
unfolding behind
behind_is front text rest e = begins front text rest (bytes_eq (take (length front) text) front) refl e

pub behind_none : (front text : List ℕ) → behind front text ≡ None → (rest : List ℕ) → text ≢ front ++ rest
behind_none front text none rest e =
    let found : behind front text ≡ Some rest = ap (behind front) e ∙ behind_there front rest in
    cc

-- what `strip_prefix` gives
pub behind_lent : (front text : List ℕ) (r : Option (Bor (List ℕ))) → MatchOption r (bytes_eq (take (length front) text) front ≡ false)
    (λ x. (bytes_eq (take (length front) text) front ≡ true) × (x.now ≡ drop (length front) text) × (length x.now + length front ≡ length text))
    → lent r ≡ behind front text
unfolding behind
behind_lent front text (Some x) h = rw (h.0, h.1) refl
behind_lent front text None h = rw h refl

-- ---- texts without a byte

-- no byte that passes a test is one that doesn't
pub none_passes : (p : ℕ → Bool) (byte : ℕ) (text : List ℕ) → p byte ≡ false → AllPass p text → HasNo byte text
none_passes p byte text off all k d lt e =
    let on : p (get_or text k d) ≡ true = all k d lt in
    let here : p byte ≡ true = subst (λ (c : ℕ). p c ≡ true) e on in
    cc

pub none_tested : (byte : ℕ) (text : List ℕ) → list_all (λ c. not (eqb c byte)) text ≡ true → HasNo byte text
none_tested byte text test =
    let off : not (eqb byte byte) ≡ false = rw (eq-eqb byte byte refl) refl in
    none_passes (λ c. not (eqb c byte)) byte text off (AllPass-from_list_all (λ c. not (eqb c byte)) text test)
