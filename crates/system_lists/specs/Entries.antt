-- How a list is made of entries, of which each says an item or nothing. No two items are the same.
use Rattle.std.specs.Prelude.{◌≡◌, ◌+◌, ◌<◌, ◌≤◌, ◌⊎◌, nat_le, Bool, IsTrue, List, [], ◌∷◌, ◌++◌, length, map, Option, Some, None, Result, Ok, Err, if◌then◌else◌}
use Rattle.std.specs.List.{list_any, IsDistinct}
use Rattle.system_lists.specs.declared.list.TheConstants.{ENTRY_LIMIT}
use Rattle.system_lists.specs.declared.list.ListFault.{ListFault}
use Rattle.system_lists.specs.declared.list.ListFault.TheVariants.{Bad, Repeat, NoMemory}

-- the same item is among these
abbrev pub stands_among : {A : Type 0} → (A → A → Bool) → A → List A → Bool
stands_among same x list = list_any (λ other. same other x) list

-- the item of the entry behind these, or what is wrong with it
abbrev pub placed : {A : Type 0} → (A → A → Bool) → List A → Option A → Result A ListFault
placed same front None = Err (Bad (length front + 1))
placed same front (Some x) =
    if nat_le ENTRY_LIMIT (length front) then Err (Bad (length front + 1))
    else (if stands_among same x front then Err (Repeat (length front + 1)) else Ok x)

infixl 10 ◌>>=◌
abbrev pub ◌>>=◌ : {A B : Type 0} → Result A ListFault → (A → Result B ListFault) → Result B ListFault
(Ok x) >>= f = f x
(Err e) >>= f = Err e

-- these items with those of the entries behind them, or the first fault
unfoldable pub listed : {A : Type 0} → (A → A → Bool) → List A → List (Option A) → Result (List A) ListFault
listed same front [] = Ok front
listed same front (entry ∷ rest) = placed same front entry >>= λ x. listed same (front ++ x ∷ []) rest

-- the list grew by the item that was placed
abbrev pub Adds : {A : Type 0} → Result A ListFault → List A → List A → Type 0
Adds {A} found old new = (x : A) × (found ≡ Ok x) × (new ≡ old ++ x ∷ [])

-- ---- the same in other words

-- each entry says an item of the list: so many at most, and no two the same
pub record IsMadeOf {A : Type 0} (same : A → A → Bool) (entries : List (Option A)) (list : List A) : Type 0 where
  pub said : entries ≡ map (λ x. Some x) list
  pub few : length list ≤ ENTRY_LIMIT
  pub distinct : IsDistinct same list

-- this is wrong with the entry behind these: it says nothing or is one too many, or it says one of them again
abbrev pub IsWrong : {A : Type 0} → (A → A → Bool) → List A → Option A → ListFault → Type 0
IsWrong same front entry (Bad n) = (n ≡ length front + 1) × ((entry ≡ None) ⊎ (length front ≡ ENTRY_LIMIT))
IsWrong {A} same front entry (Repeat n) =
    (n ≡ length front + 1) × (length front < ENTRY_LIMIT)
    × (x : A) × (entry ≡ Some x) × IsTrue (stands_among same x front)
IsWrong same front entry NoMemory = ⊥

-- the entries before this one make a list, and this is wrong with it
pub record IsFirstFault {A : Type 0} (same : A → A → Bool) (entries : List (Option A)) (fault : ListFault)
    : Type 0 where
  pub front : List A
  pub entry : Option A
  pub rest : List (Option A)
  pub whole : entries ≡ map (λ x. Some x) front ++ entry ∷ rest
  pub few : length front ≤ ENTRY_LIMIT
  pub distinct : IsDistinct same front
  pub wrong : IsWrong same front entry fault
