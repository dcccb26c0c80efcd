-- The tests decide the facts.
use Rattle.std.proofs.Common.{◌≡◌, ◌≢◌, ℕ, ◌≤◌, Bool, not, leb, eqb, List, length, All, refl, arith}
use Rattle.std.specs.Prelude.{codes, IsTrue}
use Rattle.std.specs.Bool.{Decides}
use Rattle.std.specs.List.{list_all}
use Rattle.std.specs.Str.{bytes_eq}
use Rattle.std.proofs.lemmas.Bool.Decides.{Decides-like, Decides-not, Decides-and, Decides-ltb, Decides-eqb, Decides-by_and, same_from_decides, nat_tests}
use Rattle.std.proofs.lemmas.Slice.Eq.{bytes_eq-Decides}
use Rattle.std.proofs.lemmas.Str.{IsUtf8-from_is_utf8, is_utf8-from_IsUtf8}
use Rattle.pkg_names.specs.FileText.{segments, IsSegment, IsFile, is_segment_text, is_file_text}

Decides-leb : (a b : ℕ) → Decides (leb a b) (a ≤ b)
Decides-leb a b = (λ h. grind (arith, nat_tests), λ h. grind (arith, nat_tests))

Decides-all : {X : Type 0} (p : X → Bool) (P : X → Type 0) → ((x : X) → Decides (p x) (P x)) → (xs : List X) → Decides (list_all p xs) (All P xs)
Decides-all p P each xs = Decides-by_and p P (list_all p) each refl (λ _ _. refl) xs

Decides-other : (text other : List ℕ) → Decides (not (bytes_eq text other)) (text ≢ other)
Decides-other text other = Decides-not (bytes_eq text other) (bytes_eq-Decides text other)

pub is_segment_text-Decides : (text : List ℕ) → Decides (is_segment_text text) (IsSegment text)
is_segment_text-Decides text =
    let a = Decides-and _ _ (Decides-ltb 0 (length text)) (Decides-leb (length text) 255) in
    let b = Decides-and _ _ a (Decides-other text (codes ".")) in
    let c = Decides-and _ _ b (Decides-other text (codes "..")) in
    Decides-like (is_segment_text text) (λ h. record { not_empty = h.0.0.0; not_long = h.0.0.1; not_dot = h.0.1; not_dots = h.1 })
    (λ (is : IsSegment text). (((is.not_empty, is.not_long), is.not_dot), is.not_dots)) c

Decides-not_byte : (byte c : ℕ) → Decides (not (eqb c byte)) (c ≢ byte)
Decides-not_byte byte c = Decides-not (eqb c byte) (Decides-eqb c byte)

pub is_file_text-Decides : (text : List ℕ) → Decides (is_file_text text) (IsFile text)
is_file_text-Decides text =
    let a = Decides-and _ _ (Decides-ltb 0 (length text)) (Decides-leb (length text) 4095) in
    let b = Decides-and _ _ a (Decides-all (λ c. not (eqb c 0)) (λ c. c ≢ 0) (Decides-not_byte 0) text) in
    let d = Decides-and _ _ b (Decides-all (λ c. not (eqb c 10)) (λ c. c ≢ 10) (Decides-not_byte 10) text) in
    let e = Decides-and _ _ d (Decides-all is_segment_text IsSegment is_segment_text-Decides (segments text)) in
    let f = Decides-and _ _ e (IsUtf8-from_is_utf8 text, is_utf8-from_IsUtf8 text) in
    Decides-like (is_file_text text)
    (λ h. record { not_empty = h.0.0.0.0.0; not_long = h.0.0.0.0.1; no_nul = h.0.0.0.1; no_line_feed = h.0.0.1; parts = h.0.1; utf8 = h.1 })
    (λ (is : IsFile text). (((((is.not_empty, is.not_long), is.no_nul), is.no_line_feed), is.parts), is.utf8)) f

pub tested : (text : List ℕ) (r : Bool) → (IsTrue r → IsFile text) × (IsFile text → IsTrue r) → r ≡ is_file_text text
tested text r h = same_from_decides r (is_file_text text) h (is_file_text-Decides text)
