-- What is found in a list, what a filter leaves of it, and elements that are apart.
use Rattle.std.proofs.Common.{inl, inr, ◌≡◌, ◌≢◌, suc, ◌<◌, Bool, true, false, not, List, [], ◌∷◌, ◌++◌, map, length, get_or, Some, None, All, refl, sym, ap, subst, ◌∙◌, arith}
use Rattle.std.specs.Prelude.{find, filter, Contains}
use Rattle.std.specs.List.{AllPairs, list_any, list_all}
use Rattle.std.specs.Option.{option_map}
use Rattle.std.proofs.lemmas.Bool.{cases_Bool, true≢false, false_from_ne_true, not_from_false, and_parts, or_left, or_right}
use Rattle.std.proofs.lemmas.List.{get_or-map, length-map}
use Rattle.std.proofs.lemmas.List.Elements.{All-nil, All-cons, All-head, All-tail}
use Rattle.std.proofs.lemmas.List.Folds.{list_any_at}

one_more : {X : Type 0} {xs ys : List X} → (x : X) → xs ≡ ys → x ∷ xs ≡ x ∷ ys
one_more x same = cc

-- ---- what is found

-- what is found passes
pub found_passes : {X : Type 0} (p : X → Bool) (xs : List X) (x : X) → find p xs ≡ Some x → p x ≡ true
found_passes p [] x found = absurd (cc found)
found_passes p (y ∷ xs) x found =
    elim (cases_Bool (p y)) [
      | inl holds ↦
          let here : Some y ≡ Some x = rw holds at found in
          let same : y ≡ x = cc here in
          subst (λ z. p z ≡ true) same holds
      | inr lacks ↦ found_passes p xs x (rw lacks at found)
    ]

-- what holds of each element holds of what is found
pub found_all : {X : Type 0} (p : X → Bool) (P : X → Type 0) (xs : List X) (x : X) → find p xs ≡ Some x → All P xs → P x
found_all p P [] x found all = absurd (cc found)
found_all p P (y ∷ xs) x found all =
    elim (cases_Bool (p y)) [
      | inl holds ↦
          let here : Some y ≡ Some x = rw holds at found in
          let same : y ≡ x = cc here in
          subst P same (All-head P y xs all)
      | inr lacks ↦ found_all p P xs x (rw lacks at found) (All-tail P y xs all)
    ]

pub find-map : {X : Type 0} (p : X → Bool) (f : X → X) → ((x : X) → p (f x) ≡ p x) → (xs : List X) → find p (map f xs) ≡ option_map f (find p xs)
find-map p f same [] = refl
find-map p f same (x ∷ xs) =
    elim (cases_Bool (p x)) [ inl holds ↦ rw (same x, holds) refl | inr lacks ↦ rw (same x, lacks) (find-map p f same xs) ]

-- a filter keeps all that is looked for, or takes it all away
pub find_kept : {X : Type 0} (p q : X → Bool) → ((x : X) → p x ≡ true → q x ≡ true) → (xs : List X) → find p (filter q xs) ≡ find p xs
find_kept p q h [] = refl
find_kept p q h (x ∷ xs) =
    elim (cases_Bool (p x)) [
      | inl holds ↦ rw (h x holds, holds) refl
      | inr lacks ↦ elim (cases_Bool (q x)) [
        | inl stays ↦ rw (stays, lacks) (find_kept p q h xs)
        | inr goes ↦ rw (goes, lacks) (find_kept p q h xs)
      ]
    ]

pub find_gone : {X : Type 0} (p q : X → Bool) → ((x : X) → p x ≡ true → q x ≡ false) → (xs : List X) → find p (filter q xs) ≡ None
find_gone p q h [] = refl
find_gone p q h (x ∷ xs) =
    elim (cases_Bool (p x)) [
      | inl holds ↦ rw (h x holds) (find_gone p q h xs)
      | inr lacks ↦ elim (cases_Bool (q x)) [
        | inl stays ↦ rw (stays, lacks) (find_gone p q h xs)
        | inr goes ↦ rw goes (find_gone p q h xs)
      ]
    ]

-- ---- what passes in none, and in one

pub none_passes : {X : Type 0} (p : X → Bool) (xs : List X) → list_any p xs ≡ false → All (λ x. p x ≡ false) xs
none_passes p xs none k d lt =
    false_from_ne_true (p (get_or xs k d)) (λ holds. true≢false (sym (list_any_at p xs k d lt holds) ∙ none))

pub Contains-any : {X : Type 0} (p : X → Bool) (xs : List X) → list_any p xs ≡ true → (x : X) × Contains xs x × (p x ≡ true)
Contains-any p [] some = absurd (cc some)
Contains-any p (y ∷ xs) some =
    elim (cases_Bool (p y)) [
      | inl holds ↦ (y, (0, omega arith, refl), holds)
      | inr lacks ↦
          let more = Contains-any p xs (rw lacks at some) in
          (more.0, (suc more.1.0, omega (arith, more.1.1), more.1.2), more.2)
    ]

-- ---- elements that are apart

pub apart_head : {X : Type 0} (R : X → X → Type 0) (x : X) (xs : List X) → AllPairs R (x ∷ xs) → All (R x) xs
apart_head R x xs apart k d lt = apart 0 (suc k) d (omega arith) (omega arith)

pub apart_tail : {X : Type 0} (R : X → X → Type 0) (x : X) (xs : List X) → AllPairs R (x ∷ xs) → AllPairs R xs
apart_tail R x xs apart i j d lt inside = apart (suc i) (suc j) d (omega arith) (omega arith)

-- elements with keys of their own have them still where each keeps its key
pub AllPairs-map : {X K : Type 0} (key : X → K) (f : X → X) → ((x : X) → key (f x) ≡ key x) → (xs : List X) → AllPairs (λ a b. key a ≢ key b) xs → AllPairs (λ a b. key a ≢ key b) (map f xs)
AllPairs-map key f same xs apart i j d lt within =
    let long = length-map xs f in
    let inside : j < length xs = omega (arith, long) in
    let first = ap key (get_or-map f xs i d d (omega arith)) ∙ same (get_or xs i d) in
    let second = ap key (get_or-map f xs j d d inside) ∙ same (get_or xs j d) in
    λ e. apart i j d lt inside (sym first ∙ e ∙ second)

pub all_both : {X : Type 0} (P Q R : X → Type 0) → ((x : X) → P x → Q x → R x) → (xs : List X) → All P xs → All Q xs → All R xs
all_both P Q R h xs p q k d lt = h (get_or xs k d) (p k d lt) (q k d lt)

-- ---- filters

-- a filter by what each element passes
pub filter_full : {X : Type 0} (q : X → Bool) (xs : List X) → All (λ x. q x ≡ true) xs → filter q xs ≡ xs
filter_full q [] all = refl
filter_full q (x ∷ xs) all =
    rw (All-head (λ y. q y ≡ true) x xs all) (one_more x (filter_full q xs (All-tail (λ y. q y ≡ true) x xs all)))

-- what one filter takes away, another would have taken too
pub filter_kept : {X : Type 0} (mine q : X → Bool) → ((x : X) → mine x ≡ true → q x ≡ true) → (xs : List X) → filter mine (filter q xs) ≡ filter mine xs
filter_kept mine q h [] = refl
filter_kept mine q h (x ∷ xs) =
    elim (cases_Bool (mine x)) [
      | inl holds ↦ rw (h x holds, holds) (one_more x (filter_kept mine q h xs))
      | inr lacks ↦ elim (cases_Bool (q x)) [
        | inl stays ↦ rw (stays, lacks) (filter_kept mine q h xs)
        | inr goes ↦ rw (goes, lacks) (filter_kept mine q h xs)
      ]
    ]

-- a change that keeps what a filter asks
pub filter-map : {X Y : Type 0} (mine : X → Bool) (f : X → X) (key : X → Y) → ((x : X) → mine (f x) ≡ mine x) → ((x : X) → key (f x) ≡ key x) → (xs : List X) → map key (filter mine (map f xs)) ≡ map key (filter mine xs)
filter-map mine f key same kept [] = refl
filter-map mine f key same kept (x ∷ xs) =
    elim (cases_Bool (mine x)) [
      | inl holds ↦ rw (same x, holds, kept x, filter-map mine f key same kept xs) refl
      | inr lacks ↦ rw (same x, lacks) (filter-map mine f key same kept xs)
    ]

-- Of elements that are apart one at most is that which is looked for. Where it is found and isn't mine, mine
-- stay when it goes, and when it is changed.
pub gone_elsewhere : {X : Type 0} (is mine : X → Bool) (R : X → X → Type 0) → ((x y : X) → R x y → is x ≡ true → is y ≡ false) → (xs : List X) → AllPairs R xs → (x : X) → find is xs ≡ Some x → mine x ≡ false
    → filter mine (filter (λ y. not (is y)) xs) ≡ filter mine xs
gone_elsewhere is mine R apart [] pairs x found not_mine = absurd (cc found)
gone_elsewhere is mine R apart (y ∷ xs) pairs x found not_mine =
    elim (cases_Bool (is y)) [
      | inl holds ↦
          let here : Some y ≡ Some x = rw holds at found in
          let same : y ≡ x = cc here in
          let out : mine y ≡ false = ap mine same ∙ not_mine in
          let rest : All (λ z. not (is z) ≡ true) xs = λ k d lt. not_from_false _ (apart y (get_or xs k d) (apart_head R y xs pairs k d lt) holds) in
          rw (holds, out) (ap (filter mine) (filter_full (λ z. not (is z)) xs rest))
      | inr lacks ↦ elim (cases_Bool (mine y)) [
        | inl own ↦
            rw (lacks, own) (one_more y (gone_elsewhere is mine R apart xs (apart_tail R y xs pairs) x (rw lacks at found) not_mine))
        | inr out ↦ rw (lacks, out) (gone_elsewhere is mine R apart xs (apart_tail R y xs pairs) x (rw lacks at found) not_mine)
      ]
    ]

changes_none : {X : Type 0} (is : X → Bool) (f : X → X) → ((x : X) → is x ≡ false → f x ≡ x) → (xs : List X) → All (λ x. is x ≡ false) xs → map f xs ≡ xs
changes_none is f same [] none = refl
changes_none is f same (x ∷ xs) none =
    rw (same x (All-head (λ y. is y ≡ false) x xs none)) (one_more x (changes_none is f same xs (All-tail (λ y. is y ≡ false) x xs none)))

pub changed_elsewhere : {X : Type 0} (is mine : X → Bool) (f : X → X) (R : X → X → Type 0) → ((x y : X) → R x y → is x ≡ true → is y ≡ false) → ((x : X) → is x ≡ false → f x ≡ x) → ((x : X) → mine (f x) ≡ mine x) → (xs : List X) → AllPairs R xs → (x : X) → find is xs ≡ Some x → mine x ≡ false
    → filter mine (map f xs) ≡ filter mine xs
changed_elsewhere is mine f R apart same kept [] pairs x found not_mine = absurd (cc found)
changed_elsewhere is mine f R apart same kept (y ∷ xs) pairs x found not_mine =
    elim (cases_Bool (is y)) [
      | inl holds ↦
          let here : Some y ≡ Some x = rw holds at found in
          let equal : y ≡ x = cc here in
          let out : mine y ≡ false = ap mine equal ∙ not_mine in
          let rest : All (λ z. is z ≡ false) xs = λ k d lt. apart y (get_or xs k d) (apart_head R y xs pairs k d lt) holds in
          rw (kept y, out) (ap (filter mine) (changes_none is f same xs rest))
      | inr lacks ↦ elim (cases_Bool (mine y)) [
        | inl own ↦
            rw (same y lacks, own) (one_more y (changed_elsewhere is mine f R apart same kept xs (apart_tail R y xs pairs) x (rw lacks at found) not_mine))
        | inr out ↦ rw (same y lacks, out) (changed_elsewhere is mine f R apart same kept xs (apart_tail R y xs pairs) x (rw lacks at found) not_mine)
      ]
    ]

-- one more element that isn't mine
pub filter_other : {X : Type 0} (mine : X → Bool) (xs : List X) (x : X) → mine x ≡ false → filter mine (xs ++ x ∷ []) ≡ filter mine xs
filter_other mine [] x out = rw out refl
filter_other mine (y ∷ xs) x out =
    elim (cases_Bool (mine y)) [
      | inl own ↦ rw own (one_more y (filter_other mine xs x out))
      | inr lacks ↦ rw lacks (filter_other mine xs x out)
    ]

-- ---- what is found in a filtered list

pub found_mine : {X : Type 0} (is mine : X → Bool) (xs : List X) (x : X) → find is xs ≡ Some x → mine x ≡ true → find is (filter mine xs) ≡ Some x
found_mine is mine [] x found own = absurd (cc found)
found_mine is mine (y ∷ xs) x found own =
    elim (cases_Bool (is y)) [
      | inl holds ↦
          let here : Some y ≡ Some x = rw holds at found in
          let same : y ≡ x = cc here in
          rw (ap mine same ∙ own, holds) here
      | inr lacks ↦ elim (cases_Bool (mine y)) [
        | inl too ↦ rw (too, lacks) (found_mine is mine xs x (rw lacks at found) own)
        | inr out ↦ rw out (found_mine is mine xs x (rw lacks at found) own)
      ]
    ]

found_none : {X : Type 0} (is mine : X → Bool) (xs : List X) → All (λ x. is x ≡ false) xs → find is (filter mine xs) ≡ None
found_none is mine [] none = refl
found_none is mine (y ∷ xs) none =
    let lacks = All-head (λ x. is x ≡ false) y xs none in
    let rest = found_none is mine xs (All-tail (λ x. is x ≡ false) y xs none) in
    elim (cases_Bool (mine y)) [ inl own ↦ rw (own, lacks) rest | inr out ↦ rw out rest ]

-- Where elements are apart, what is found among mine is what is found among all.
pub found_whole : {X : Type 0} (is mine : X → Bool) (R : X → X → Type 0) → ((x y : X) → R x y → is x ≡ true → is y ≡ false) → (xs : List X) → AllPairs R xs → (x : X) → find is (filter mine xs) ≡ Some x → find is xs ≡ Some x
found_whole is mine R apart [] pairs x found = absurd (cc found)
found_whole is mine R apart (y ∷ xs) pairs x found =
    elim (cases_Bool (mine y)) [
      | inl own ↦ elim (cases_Bool (is y)) [
        | inl holds ↦ let here : Some y ≡ Some x = rw (own, holds) at found in rw holds here
        | inr lacks ↦ rw lacks (found_whole is mine R apart xs (apart_tail R y xs pairs) x (rw (own, lacks) at found))
      ]
      | inr out ↦ elim (cases_Bool (is y)) [
        | inl holds ↦
            let none = found_none is mine xs (λ k d lt. apart y (get_or xs k d) (apart_head R y xs pairs k d lt) holds) in
            absurd (cc (none, rw out at found))
        | inr lacks ↦ rw lacks (found_whole is mine R apart xs (apart_tail R y xs pairs) x (rw out at found))
      ]
    ]

-- ---- what all pass, and what none is

pub find_none : {X : Type 0} (p : X → Bool) (xs : List X) → All (λ x. p x ≡ false) xs → find p xs ≡ None
find_none p [] fails = refl
find_none p (x ∷ xs) fails =
    rw (All-head (λ y. p y ≡ false) x xs fails) (find_none p xs (All-tail (λ y. p y ≡ false) x xs fails))

pub all_passes : {X : Type 0} (p : X → Bool) (xs : List X) → list_all p xs ≡ true → All (λ x. p x ≡ true) xs
all_passes p [] all = All-nil (λ x. p x ≡ true)
all_passes p (x ∷ xs) all =
    let both = and_parts (p x) (list_all p xs) all in
    All-cons (λ y. p y ≡ true) x xs both.0 (all_passes p xs both.1)

-- what is found passes a test on what it is made into
pub any_made : {X Y : Type 0} (p : X → Bool) (q : Y → Bool) (f : X → Y) (xs : List X) (x : X) → find p xs ≡ Some x → q (f x) ≡ true → list_any q (map f xs) ≡ true
any_made p q f [] x found passes = absurd (cc found)
any_made p q f (y ∷ xs) x found passes =
    elim (cases_Bool (p y)) [
      | inl holds ↦
          let here : Some y ≡ Some x = rw holds at found in
          let same : y ≡ x = cc here in
          or_left (q (f y)) (list_any q (map f xs)) (ap (λ z. q (f z)) same ∙ passes)
      | inr lacks ↦ or_right (q (f y)) (list_any q (map f xs)) (any_made p q f xs x (rw lacks at found) passes)
    ]
