-- Lists of which a part is kept or changed, and what is found in them.
use Rattle.std.proofs.Common.{inl, inr, ◌≡◌, Bool, true, false, List, [], ◌∷◌, ◌++◌, map, Option, Some, None, All, refl, ap, ◌∙◌}
use Rattle.std.specs.Prelude.{find, filter, IsSomeAnd}
use Rattle.std.specs.List.{list_any}
use Rattle.std.specs.Option.{option_map, option_to_list}
use Rattle.std.proofs.lemmas.Bool.{cases_Bool, or_parts, or_from}
use Rattle.std.proofs.lemmas.List.Elements.{All-head, All-tail, filter-append}

-- ---- filters

pub filter_swap : {X : Type 0} (p q : X → Bool) (xs : List X) → filter p (filter q xs) ≡ filter q (filter p xs)
filter_swap p q [] = refl
filter_swap p q (x ∷ xs) =
    elim (cases_Bool (p x)) [
      | inl is ↦ elim (cases_Bool (q x)) [
        | inl stays ↦ rw (stays, is, stays) (ap (λ ys. x ∷ ys) (filter_swap p q xs))
        | inr goes ↦ rw (goes, is, goes) (filter_swap p q xs)
      ]
      | inr isnt ↦ elim (cases_Bool (q x)) [
        | inl stays ↦ rw (stays, isnt) (filter_swap p q xs)
        | inr goes ↦ rw (goes, isnt) (filter_swap p q xs)
      ]
    ]

pub filter-map : {X Y : Type 0} (f : X → Y) (q : Y → Bool) (xs : List X) → filter q (map f xs) ≡ map f (filter (λ x. q (f x)) xs)
filter-map f q [] = refl
filter-map f q (x ∷ xs) =
    elim (cases_Bool (q (f x))) [
      | inl is ↦ rw is (ap (λ ys. f x ∷ ys) (filter-map f q xs))
      | inr isnt ↦ rw isnt (filter-map f q xs)
    ]

pub filter_in : {X : Type 0} (p : X → Bool) (xs : List X) (x : X) → p x ≡ true → filter p (xs ++ x ∷ []) ≡ filter p xs ++ x ∷ []
filter_in p xs x is = filter-append p xs (x ∷ []) ∙ rw is refl

pub filter_none : {X : Type 0} (p : X → Bool) (xs : List X) → list_any p xs ≡ false → filter p xs ≡ []
filter_none p [] none = refl
filter_none p (x ∷ xs) none =
    let parts = or_parts (p x) (list_any p xs) none in
    rw parts.0 (filter_none p xs parts.1)

-- ---- maps

pub map_same : {X Y : Type 0} (f : X → Y) (g : X → X) → ((x : X) → f (g x) ≡ f x) → (xs : List X) → map f (map g xs) ≡ map f xs
map_same f g same [] = refl
map_same f g same (x ∷ xs) =
    ap (λ y. y ∷ map f (map g xs)) (same x) ∙ ap (λ ys. f x ∷ ys) (map_same f g same xs)

-- a change that the test doesn't see
pub filter_changed : {X : Type 0} (p : X → Bool) (g : X → X) → ((x : X) → p (g x) ≡ p x) → (xs : List X) → filter p (map g xs) ≡ map g (filter p xs)
filter_changed p g same [] = refl
filter_changed p g same (x ∷ xs) =
    elim (cases_Bool (p x)) [
      | inl is ↦ rw (same x, is) (ap (λ ys. g x ∷ ys) (filter_changed p g same xs))
      | inr isnt ↦ rw (same x, isnt) (filter_changed p g same xs)
    ]

-- ---- what is found

pub find-map : {X Y : Type 0} (f : X → Y) (p : Y → Bool) (xs : List X) → find p (map f xs) ≡ option_map f (find (λ x. p (f x)) xs)
find-map f p [] = refl
find-map f p (x ∷ xs) =
    elim (cases_Bool (p (f x))) [ inl is ↦ rw is refl | inr isnt ↦ rw isnt (find-map f p xs) ]

-- a value of which it holds
pub some_and : {X : Type 0} (o : Option X) (P : X → Type 0) → IsSomeAnd o P → (x : X) × (o ≡ Some x) × P x
some_and None P holds = absurd holds
some_and (Some x) P holds = (x, refl, holds)

-- a list of one element at most, in which one is found
pub found_alone : {X Y : Type 0} (f : X → Y) (p : X → Bool) (xs : List X) (o : Option Y) (x : X) → option_to_list o ≡ map f xs → find p xs ≡ Some x → xs ≡ x ∷ []
found_alone f p [] o x few found = absurd (cc found)
found_alone f p (y ∷ []) o x few found =
    elim (cases_Bool (p y)) [
      | inl holds ↦
          let here : Some y ≡ Some x = rw holds at found in
          let same : y ≡ x = cc here in
          ap (λ z. z ∷ []) same
      | inr lacks ↦ let none : None ≡ Some x = rw lacks at found in absurd (cc none)
    ]
found_alone f p (y ∷ z ∷ xs) None x few found = absurd (cc few)
found_alone f p (y ∷ z ∷ xs) (Some w) x few found = absurd (cc few)

-- ---- few elements

pub none_kept : {X : Type 0} (p : X → Bool) (xs : List X) → filter p xs ≡ [] → list_any p xs ≡ false
none_kept p [] none = refl
none_kept p (x ∷ xs) none =
    elim (cases_Bool (p x)) [
      | inl is ↦ let no : x ∷ filter p xs ≡ [] = rw is at none in absurd (cc no)
      | inr isnt ↦ or_from (p x) (list_any p xs) isnt (none_kept p xs (rw isnt at none))
    ]

pub map_none : {X Y : Type 0} (f : X → Y) (xs : List X) → [] ≡ map f xs → xs ≡ []
map_none f [] same = refl
map_none f (x ∷ xs) same = absurd (cc same)

pub map_one : {X Y : Type 0} (f : X → Y) (xs : List X) (y : Y) → y ∷ [] ≡ map f xs → (x : X) × (xs ≡ x ∷ []) × (y ≡ f x)
map_one f [] y same = absurd (cc same)
map_one f (x ∷ []) y same = let value : y ≡ f x = cc same in (x, refl, value)
map_one f (x ∷ z ∷ xs) y same = absurd (cc same)

pub mapped : {X Y : Type 0} (f : X → Y) (o : Option X) (y : Y) → option_map f o ≡ Some y → (x : X) × (o ≡ Some x) × (f x ≡ y)
mapped f None y same = absurd (cc same)
mapped f (Some x) y same = let value : f x ≡ y = cc same in (x, refl, value)

-- one more element is found where no other passes
pub find_last : {X : Type 0} (p : X → Bool) (xs : List X) (x : X) → All (λ y. p y ≡ false) xs → p x ≡ true → find p (xs ++ x ∷ []) ≡ Some x
find_last p [] x fails passes = rw passes refl
find_last p (y ∷ xs) x fails passes =
    rw (All-head (λ z. p z ≡ false) y xs fails) (find_last p xs x (All-tail (λ z. p z ≡ false) y xs fails) passes)

-- what is found is found with one more element behind
pub find_first : {X : Type 0} (p : X → Bool) (xs : List X) (x y : X) → find p xs ≡ Some x → find p (xs ++ y ∷ []) ≡ Some x
find_first p [] x y found = absurd (cc found)
find_first p (z ∷ xs) x y found =
    elim (cases_Bool (p z)) [
      | inl holds ↦ rw holds (rw holds at found)
      | inr lacks ↦ rw lacks (find_first p xs x y (rw lacks at found))
    ]
