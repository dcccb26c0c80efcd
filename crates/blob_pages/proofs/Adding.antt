-- What the bytes that a draft keeps become as bytes are added.
use Rattle.std.proofs.Common.{◌≡◌, ℕ, ◌+◌, ◌-◌, ◌*◌, ◌<◌, ◌≤◌, leb, le-leb, List, [], ◌++◌, length, drop, Option, Some, None, Result, Ok, Err, OnOk, IsOk, is_ok, cond, refl, sym, subst, ◌∙◌, ap, inl, inr, arith, length-drop}
use Rattle.std.specs.Prelude.{unwrap_or}
use Rattle.std.proofs.lemmas.Bool.{cases_lt, cond-true, cond-false, lt-leb}
use Rattle.std.proofs.lemmas.List.{drop-drop, drop-append-le}
use Rattle.blob_pages.specs.Draft.{kept_of}
use Rattle.blob_pages.specs.Room.{room_for, to_forget}

-- a call that succeeded
pub ok_part : {T E : Type 0} (r : Result T E) (P : Type 0) → IsOk r → OnOk r P → P
ok_part (Ok x) P ok p = p
ok_part (Err e) P ok p = cc

pub ok_items : {T E : Type 0} (r : Result T E) (x y : List ℕ) → IsOk r → cond (is_ok r) x y ≡ x
ok_items (Ok x) a b ok = refl
ok_items (Err e) a b ok = cc

pub to_forget-most : (len from : ℕ) → to_forget len from ≤ from
to_forget-most len from =
    elim (cases_lt 1048576 len) [
      | inl long ↦ subst (λ (k : ℕ). k ≤ from) (sym (cond-false (leb len 1048576) 0 from (lt-leb len 1048576 long))) (omega arith)
      | inr short ↦ subst (λ (k : ℕ). k ≤ from) (sym (cond-true (leb len 1048576) 0 from (le-leb len 1048576 short))) (omega arith)
    ]

-- the bytes behind the pages that were passed
pub rest-add : (from gone : ℕ) (tail front now more : List ℕ) → gone ≤ from → from ≤ length tail → front ≡ drop gone tail → now ≡ front ++ more → drop (from - gone) now ≡ drop from tail ++ more
rest-add from gone tail front now more most within front_is now_is =
    let size : length front ≡ length tail - gone = ap length front_is ∙ length-drop gone tail in
    let back : drop (from - gone) front ≡ drop from tail =
    ap (drop (from - gone)) front_is ∙ drop-drop (from - gone) gone tail ∙ ap (λ (k : ℕ). drop k tail) (omega arith) in
    ap (drop (from - gone)) now_is ∙ drop-append-le (from - gone) front more (omega arith) ∙ ap (λ (l : List ℕ). l ++ more) back

-- the bytes that are kept
pub kept-add : (len from : ℕ) (tail front now more blob : List ℕ) → front ≡ drop (to_forget len from) tail → now ≡ front ++ more → kept_of len tail ≡ kept_of len blob → kept_of len now ≡ kept_of len (blob ++ more)
kept-add len from tail front now more blob front_is now_is kept =
    elim (cases_lt 1048576 len) [
      | inl long ↦
          let test = lt-leb len 1048576 long in
          cond-false (leb len 1048576) (Some now) None test ∙ sym (cond-false (leb len 1048576) (Some (blob ++ more)) None test)
      | inr short ↦
          let test = le-leb len 1048576 short in
          let some : (l : List ℕ) → kept_of len l ≡ Some l = λ l. cond-true (leb len 1048576) (Some l) None test in
          let none : to_forget len from ≡ 0 = cond-true (leb len 1048576) 0 from test in
          let same : tail ≡ blob = ap (λ (o : Option (List ℕ)). unwrap_or o []) (sym (some tail) ∙ kept ∙ some blob) in
          let all : now ≡ blob ++ more = now_is ∙ ap (λ (l : List ℕ). l ++ more) (front_is ∙ ap (λ (k : ℕ). drop k tail) none ∙ same) in
          some now ∙ ap (λ (l : List ℕ). Some l) all ∙ sym (some (blob ++ more))
    ]

-- a piece has room behind what the draft doesn't forget
pub room-add : (len from have pages size more room : ℕ) → room_for len ≤ room → (len ≤ 1048576 → from ≡ 4096 * pages) → have + from ≡ 4096 * pages + size → from ≤ size → size - from < 4096 → more ≤ 65536 → have + more ≤ len → size - to_forget len from + more ≤ room
room-add len from have pages size more room enough all count within short_rest piece fits =
    elim (cases_lt 1048576 len) [
      | inl long ↦
          let test = lt-leb len 1048576 long in
          let gone : to_forget len from ≡ from = cond-false (leb len 1048576) 0 from test in
          let need : 69632 ≤ room = subst (λ (k : ℕ). k ≤ room) (cond-false (leb len 1048576) len 69632 test) enough in
          subst (λ (k : ℕ). size - k + more ≤ room) (sym gone) (omega arith)
      | inr short ↦
          let test = le-leb len 1048576 short in
          let gone : to_forget len from ≡ 0 = cond-true (leb len 1048576) 0 from test in
          let need : len ≤ room = subst (λ (k : ℕ). k ≤ room) (cond-true (leb len 1048576) len 69632 test) enough in
          let front : from ≡ 4096 * pages = all short in
          subst (λ (k : ℕ). size - k + more ≤ room) (sym gone) (omega arith)
    ]
