-- Drafts that are looked up.
use Rattle.std.proofs.Common.{◌≡◌, ◌<◌, ◌≤◌, ℕ, zero, suc, ◌+◌, ◌-◌, Bool, true, false, not, inl, inr, List, [], ◌∷◌, ◌++◌, get_or, map, length, Option, Some, None, refl, sym, ap, subst, arith, eq-eqb, ◌∙◌}
use Rattle.std.specs.Prelude.{◌==◌, ◌&&◌, nat_le, nat_lt, find}
use Rattle.std.specs.List.{position, position_or_len, remove}
use Rattle.std.specs.Option.{option_map}
use Rattle.std.proofs.lemmas.Bool.Decides.{nat_tests}
use Rattle.std.proofs.lemmas.Bool.{cases_Bool, eqb-true, ltb-false, true≢false}
use Rattle.std.proofs.lemmas.List.Quantifiers.{position-Some}
use Rattle.std.proofs.lemmas.List.Recursion.{found_at}
use Rattle.open_tracker.proofs.Finds.{find_gone, find_kept}
use Rattle.plain_drafts.specs.Drafts.{DraftOf, Drafted, added, bytes_in, len_in, draft_of, draft_with, room_in, without_draft}

abbrev pub is_of : ℕ → DraftOf → Bool
is_of lane draft = draft.lane == lane

find-map : {X : Type 0} (p : X → Bool) (f : X → X) → ((x : X) → p (f x) ≡ p x) → (xs : List X) → find p (map f xs) ≡ option_map f (find p xs)
find-map p f same [] = refl
find-map p f same (x ∷ xs) =
    elim (cases_Bool (p x)) [ inl holds ↦ rw (same x, holds) refl | inr lacks ↦ rw (same x, lacks) (find-map p f same xs) ]

found_passes : {X : Type 0} (p : X → Bool) (xs : List X) (x : X) → find p xs ≡ Some x → p x ≡ true
found_passes p [] x found = absurd cc
found_passes p (y ∷ xs) x found = elim (cases_Bool (p y)) [
  | inl holds ↦ let same : y ≡ x = first (rw holds at found) in sym (ap p same) ∙ holds
  | inr lacks ↦ found_passes p xs x (rw lacks at found)
] where
  first : {X : Type 0} {a b : X} → Some a ≡ Some b → a ≡ b
  first e = cc

gone : (lane : ℕ) (old : List DraftOf) (other : ℕ) → (lane == other) ≡ true → draft_with (without_draft old lane) other ≡ None
gone lane old other own = find_gone (is_of other) (λ (d : DraftOf). not (d.lane == lane))
    (λ d his. rw (eq-eqb d.lane lane (eqb-true d.lane other his ∙ sym (eqb-true lane other own))) refl) old

kept : (lane : ℕ) (old : List DraftOf) (other : ℕ) → (lane == other) ≡ false
    → draft_with (without_draft old lane) other ≡ draft_with old other
kept lane old other differs = find_kept (is_of other) (λ (d : DraftOf). not (d.lane == lane)) (λ d his. elim (cases_Bool (d.lane == lane)) [
  | inl mine ↦ absurd (true≢false (sym (eq-eqb lane other (sym (eqb-true d.lane lane mine) ∙ eqb-true d.lane other his)) ∙ differs))
  | inr not_mine ↦ rw not_mine refl
]) old

-- the lane's draft is ended
pub ended : (lane : ℕ) (old new : List DraftOf) → new ≡ without_draft old lane → Drafted lane 0 [] old new
ended lane old new is = subst (Drafted lane 0 [] old) (sym is) (record {
  rooms = λ other. elim (cases_Bool (lane == other)) [
    | inl own ↦ rw own (ap len_in (gone lane old other own))
    | inr differs ↦ rw differs (ap len_in (kept lane old other differs))
  ];
  drafts = λ other. elim (cases_Bool (lane == other)) [
    | inl own ↦ rw own (ap bytes_in (gone lane old other own))
    | inr differs ↦ rw differs (ap bytes_in (kept lane old other differs))
  ];
})

-- ---- a draft that is taken

past : {X : Type 0} (p : X → Bool) (xs : List X) → length xs ≤ position_or_len p xs → find p xs ≡ None
past p [] le = refl
past p (x ∷ xs) le = elim (cases_Bool (p x)) [
  | inl holds ↦ absurd (let at : length (x ∷ xs) ≤ 0 = rw holds at le in omega arith)
  | inr lacks ↦ rw lacks (past p xs (let at : suc (length xs) ≤ 1 + position_or_len p xs = rw lacks at le in omega arith))
]

-- without a place there is no draft
pub placeless : (lane : ℕ) (drafts : List DraftOf) → position (is_of lane) drafts ≡ None → draft_with drafts lane ≡ None
placeless lane drafts none = elim (cases_Bool (nat_lt (position_or_len (is_of lane) drafts) (length drafts))) [
  | inl holds ↦ absurd (cc (rw holds at none))
  | inr lacks ↦ past (is_of lane) drafts (ltb-false _ _ lacks)
]

-- at the place is the lane's draft
pub placed : (lane : ℕ) (drafts : List DraftOf) (place : ℕ) (d : DraftOf) → position (is_of lane) drafts ≡ Some place
    → draft_with drafts lane ≡ Some (get_or drafts place d)
placed lane drafts place d is =
    let at = position-Some (is_of lane) drafts place d is in
    found_at (find (is_of lane)) (is_of lane) Some None refl (λ _ _. refl) drafts place d at.0 at.2 at.1

without_one : (lane : ℕ) (drafts : List DraftOf) (place : ℕ) (d : DraftOf) → place < length drafts → is_of lane (get_or drafts place d) ≡ true
    → without_draft (remove drafts place) lane ≡ without_draft drafts lane
without_one lane [] place d lt own = absurd (omega (arith, lt))
without_one lane (x ∷ drafts) zero d lt own = rw own refl
without_one lane (x ∷ drafts) (suc place) d lt own = elim (cases_Bool (is_of lane x)) [
  | inl mine ↦ rw mine (without_one lane drafts place d (omega (arith, lt)) own)
  | inr not_mine ↦ rw not_mine (ap (λ (ds : List DraftOf). x ∷ ds) (without_one lane drafts place d (omega (arith, lt)) own))
]

-- without the draft at the place, the drafts but the lane's are the same
pub others_left : (lane : ℕ) (drafts : List DraftOf) (place : ℕ) (d : DraftOf) → position (is_of lane) drafts ≡ Some place
    → without_draft (remove drafts place) lane ≡ without_draft drafts lane
others_left lane drafts place d is =
    let at = position-Some (is_of lane) drafts place d is in without_one lane drafts place d at.0 at.1

-- ---- a draft that begins

last_other : {X : Type 0} (p : X → Bool) (xs : List X) (y : X) → p y ≡ false → find p (xs ++ y ∷ []) ≡ find p xs
last_other p [] y lacks = rw lacks refl
last_other p (x ∷ xs) y lacks = elim (cases_Bool (p x)) [ inl holds ↦ rw holds refl | inr not ↦ rw not (last_other p xs y lacks) ]

last_own : {X : Type 0} (p : X → Bool) (xs : List X) (y : X) → find p xs ≡ None → p y ≡ true → find p (xs ++ y ∷ []) ≡ Some y
last_own p [] y none holds = rw holds refl
last_own p (x ∷ xs) y none holds = elim (cases_Bool (p x)) [
  | inl first ↦ absurd (some_none (rw first at none))
  | inr not ↦ rw not (last_own p xs y (rw not at none) holds)
] where
  some_none : {X : Type 0} {x : X} → ◌≡◌ {A = Option X} (Some x) None → ⊥
  some_none e = absurd cc

pub begun : (lane room : ℕ) (old mid : List DraftOf) → mid ≡ without_draft old lane
    → Drafted lane room [] old (mid ++ record { lane = lane; room = room; bytes = [] } ∷ [])
begun lane room old mid is = subst (λ (m : List DraftOf). Drafted lane room [] old (m ++ new ∷ [])) (sym is) (record {
  rooms = λ other. elim (cases_Bool (lane == other)) [
    | inl own ↦ rw own (ap len_in (here other own))
    | inr differs ↦ rw differs (ap len_in (there other differs))
  ];
  drafts = λ other. elim (cases_Bool (lane == other)) [
    | inl own ↦ rw own (ap bytes_in (here other own))
    | inr differs ↦ rw differs (ap bytes_in (there other differs))
  ];
}) where
  new : DraftOf
  new = record { lane = lane; room = room; bytes = [] }

  here : (other : ℕ) → (lane == other) ≡ true → draft_with (without_draft old lane ++ new ∷ []) other ≡ Some new
  here other own = last_own (is_of other) (without_draft old lane) new (gone lane old other own) own

  there : (other : ℕ) → (lane == other) ≡ false → draft_with (without_draft old lane ++ new ∷ []) other ≡ draft_with old other
  there other differs = last_other (is_of other) (without_draft old lane) new differs ∙ kept lane old other differs

-- ---- bytes that come

same_lane : (lane : ℕ) (bytes : List ℕ) (d : DraftOf) → (added lane bytes d).lane ≡ d.lane
same_lane lane bytes d = elim (cases_Bool ((d.lane == lane) && nat_le (length bytes) (d.room - length d.bytes))) [
  | inl fits ↦ rw fits refl
  | inr not ↦ rw not refl
]

same_room : (lane : ℕ) (bytes : List ℕ) (d : DraftOf) → (added lane bytes d).room ≡ d.room
same_room lane bytes d = elim (cases_Bool ((d.lane == lane) && nat_le (length bytes) (d.room - length d.bytes))) [
  | inl fits ↦ rw fits refl
  | inr not ↦ rw not refl
]

of_other : (lane : ℕ) (bytes : List ℕ) (d : DraftOf) → (d.lane == lane) ≡ false → added lane bytes d ≡ d
of_other lane bytes d differs = rw differs refl

of_own : (lane : ℕ) (bytes : List ℕ) (d : DraftOf) → (d.lane == lane) ≡ true → length d.bytes + length bytes ≤ d.room
    → (added lane bytes d).bytes ≡ d.bytes ++ bytes
of_own lane bytes d own fits =
    let le : nat_le (length bytes) (d.room - length d.bytes) ≡ true = grind (arith, nat_tests) in rw (own, le) refl

none_fit : (bytes : List ℕ) → 0 + length bytes ≤ 0 → bytes ≡ []
none_fit [] few = refl
none_fit (x ∷ xs) few = absurd (omega (arith, few))

pub added_drafted : (lane : ℕ) (bytes : List ℕ) (old : List DraftOf) → length (draft_of old lane) + length bytes ≤ room_in old lane
    → Drafted lane (room_in old lane) (draft_of old lane ++ bytes) old (map (added lane bytes) old)
added_drafted lane bytes old fits = record {
  rooms = λ other. ap len_in (looked other) ∙ rooms_stay (draft_with old other) ∙ sym (elim (cases_Bool (lane == other)) [
    | inl own ↦ rw own (ap (room_in old) (eqb-true lane other own))
    | inr differs ↦ rw differs refl
  ]);
  drafts = λ other. ap bytes_in (looked other) ∙ elim (cases_Bool (lane == other)) [
    | inl own ↦ rw own (own_bytes other own (draft_with old other) refl)
    | inr differs ↦ rw differs (other_bytes other differs (draft_with old other) refl)
  ];
} where
  looked : (other : ℕ) → draft_with (map (added lane bytes) old) other ≡ option_map (added lane bytes) (draft_with old other)
  looked other = find-map (is_of other) (added lane bytes) (λ d. ap (λ (l : ℕ). l == other) (same_lane lane bytes d)) old

  rooms_stay : (o : Option DraftOf) → len_in (option_map (added lane bytes) o) ≡ len_in o
  rooms_stay None = refl
  rooms_stay (Some d) = same_room lane bytes d

  other_bytes : (other : ℕ) → (lane == other) ≡ false → (o : Option DraftOf) → draft_with old other ≡ o
      → bytes_in (option_map (added lane bytes) o) ≡ bytes_in o
  other_bytes other differs None is = refl
  other_bytes other differs (Some d) is = ap (λ (x : DraftOf). x.bytes) (of_other lane bytes d (elim (cases_Bool (d.lane == lane)) [
    | inl mine ↦ absurd (true≢false (sym (eq-eqb lane other (sym (eqb-true d.lane lane mine) ∙ eqb-true d.lane other (found_passes (is_of other) old d is))) ∙ differs))
    | inr not_mine ↦ not_mine
  ]))

  own_bytes : (other : ℕ) → (lane == other) ≡ true → (o : Option DraftOf) → draft_with old other ≡ o
      → bytes_in (option_map (added lane bytes) o) ≡ draft_of old lane ++ bytes
  own_bytes other own None is =
      let none : draft_with old lane ≡ None = ap (draft_with old) (eqb-true lane other own) ∙ is in
      let no_bytes : draft_of old lane ≡ [] = ap bytes_in none in
      sym (ap (λ (b : List ℕ). b ++ bytes) no_bytes ∙ none_fit bytes (subst (λ (o : Option DraftOf). length (bytes_in o) + length bytes ≤ len_in o) none fits))
  own_bytes other own (Some d) is =
      let some : draft_with old lane ≡ Some d = ap (draft_with old) (eqb-true lane other own) ∙ is in
      of_own lane bytes d (ap (λ (l : ℕ). d.lane == l) (eqb-true lane other own) ∙ found_passes (is_of other) old d is)
      (subst (λ (o : Option DraftOf). length (bytes_in o) + length bytes ≤ len_in o) some fits)
      ∙ sym (ap (λ (o : Option DraftOf). bytes_in o ++ bytes) some)
