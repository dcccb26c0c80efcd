-- A list without one element.
use Rattle.std.proofs.Common.{inl, inr, ◌≡◌, ◌≢◌, ℕ, zero, suc, ◌+◌, ◌<◌, ◌≤◌, Bool, true, false, not, List, [], ◌∷◌, ◌++◌, length, get_or, take, drop, Option, Some, None, All, eqb, refl, sym, ap, ◌∙◌, arith}
use Rattle.std.specs.Prelude.{find, filter}
use Rattle.std.specs.List.{AllPairs, position, position_or_len, remove}
use Rattle.std.proofs.lemmas.Bool.{cases_Bool, cases_order, ltb-false, eqb-true, ne_eqb}
use Rattle.std.proofs.lemmas.List.Elements.{All-nil, All-cons, All-head, All-tail}
use Rattle.std.proofs.lemmas.List.Quantifiers.{position-Some}
use Rattle.package_indexes.specs.declared.Arriving.{Arriving}
use Rattle.package_indexes.specs.Sets.{AreDistinct, without_ticket}

-- nothing passes where the place of the first that passes is behind the list
past : {X : Type 0} (p : X → Bool) (xs : List X) → length xs ≤ position_or_len p xs → find p xs ≡ None
past p [] le = refl
past p (x ∷ xs) le =
    elim (cases_Bool (p x)) [
      | inl holds ↦ absurd (let at : length (x ∷ xs) ≤ 0 = rw holds at le in omega arith)
      | inr lacks ↦ rw lacks (past p xs (let at : suc (length xs) ≤ 1 + position_or_len p xs = rw lacks at le in omega arith))
    ]

pub placeless : {X : Type 0} (p : X → Bool) (xs : List X) → position p xs ≡ None → find p xs ≡ None
placeless p xs none =
    elim (cases_Bool (Rattle.std.specs.Prelude.nat_lt (position_or_len p xs) (length xs))) [
      | inl holds ↦ absurd (cc (rw holds at none))
      | inr lacks ↦ past p xs (ltb-false _ _ lacks)
    ]

-- a list whose elements all pass
pub filter_all : {X : Type 0} (p : X → Bool) (xs : List X) → All (λ x. p x ≡ true) xs → filter p xs ≡ xs
filter_all p [] passes = refl
filter_all p (x ∷ xs) passes =
    rw (All-head (λ y. p y ≡ true) x xs passes)
    (ap (λ rest. x ∷ rest) (filter_all p xs (All-tail (λ y. p y ≡ true) x xs passes)))

-- a list of which just the element at this place passes
pub filter_off : {X : Type 0} (p : X → Bool) (xs : List X) (i : ℕ) → i < length xs → ((d : X) → p (get_or xs i d) ≡ true) → ((k : ℕ) (d : X) → k < length xs → k ≢ i → p (get_or xs k d) ≡ false) → filter (λ x. not (p x)) xs ≡ remove xs i
filter_off p [] i lt at others = absurd (omega arith)
filter_off p (x ∷ xs) zero lt at others =
    rw (at x) (filter_all (λ y. not (p y)) xs (λ k d within. ap not (others (suc k) d (omega arith) (omega arith))))
filter_off p (x ∷ xs) (suc i) lt at others =
    rw (others 0 x (omega arith) (omega arith))
    (ap (λ rest. x ∷ rest)
    (filter_off p xs i (omega arith) at (λ k d within ne. others (suc k) d (omega arith) (omega arith))))

-- where nothing is found no element passes
pub none_passes : {X : Type 0} (p : X → Bool) (xs : List X) → find p xs ≡ None → All (λ x. p x ≡ false) xs
none_passes p [] none = All-nil (λ x. p x ≡ false)
none_passes p (x ∷ xs) none =
    elim (cases_Bool (p x)) [
      | inl holds ↦ absurd (cc (rw holds at none))
      | inr lacks ↦ All-cons (λ y. p y ≡ false) x xs lacks (none_passes p xs (rw lacks at none))
    ]

-- the test of a ticket
abbrev pub is_for : ℕ → Arriving → Bool
is_for ticket arrival = eqb arrival.ticket ticket

-- what is left where the package of a ticket is taken
pub taken : (arriving : List Arriving) (ticket place : ℕ) (d : Arriving) → AreDistinct arriving → position (is_for ticket) arriving ≡ Some place → without_ticket arriving ticket ≡ remove arriving place
taken arriving ticket place d apart at =
    let here = position-Some (is_for ticket) arriving place d at in
    let own : (e : Arriving) → (get_or arriving place e).ticket ≡ ticket =
    λ e. eqb-true _ _ ((position-Some (is_for ticket) arriving place e at).1) in
    filter_off (is_for ticket) arriving place here.0 (λ e. (position-Some (is_for ticket) arriving place e at).1)
    (λ k e within ne. ne_eqb _ _ (λ same.
    elim (cases_order k place) [
      | inl equal ↦ ne equal
      | inr other ↦ elim other [
        | inl below ↦ apart k place e below here.0 (same ∙ sym (own e))
        | inr above ↦ apart place k e above within (own e ∙ sym same)
      ]
    ]))
