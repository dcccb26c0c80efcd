-- The words of a pool: each has the flags of 64 pages, the lowest bit that of the first one. A set bit is a
-- taken page.
use Rattle.std.specs.Prelude.{ℕ, ◌≡◌, ◌≢◌, ◌+◌, ◌-◌, ◌*◌, ◌/◌, ◌%◌, ◌^◌, ◌<◌, ◌≤◌, ◌==◌, Bool, true, if◌then◌else◌, List, [], ◌∷◌, length, map, slice_index}
use Rattle.std.specs.Int.{bit_at}
use Rattle.std.specs.List.{range_with_len}
use Rattle.page_pool.specs.Flags.{IsFree, free_count}

-- the flag of a page
abbrev pub flag_in : List ℕ → ℕ → Bool
flag_in words page = bit_at (slice_index words (page / 64)) (page % 64) == 1

-- the flags of the first pages
abbrev pub flags_of : ℕ → List ℕ → List Bool
flags_of count words = map (flag_in words) (range_with_len 0 count)

-- As many words as these pages need. The bits past the end are set.
pub record HasWords (count : ℕ) (words : List ℕ) : Type 0 where
  pub enough : count ≤ 64 * length words
  pub no_more : 64 * length words < count + 64
  pub past_end : (page : ℕ) → count ≤ page → page < 64 * length words → flag_in words page ≡ true

-- what a pool keeps: how many pages it has, their words, and how many are free
pub record IsPool (count : ℕ) (words : List ℕ) (free : ℕ) : Type 0 where
  pub small : count < 2 ^ 32
  pub words_of : HasWords count words
  pub counted : free ≡ free_count (flags_of count words)

-- the words from one place up to another have no free page
abbrev pub AreTaken : List ℕ → ℕ → ℕ → Type 0
AreTaken words first end = (place : ℕ) → first ≤ place → place < end → slice_index words place ≡ 2 ^ 64 - 1

-- the place of the first word that has a free page, from the first place on
pub record IsFirstFree (words : List ℕ) (first place : ℕ) : Type 0 where
  pub behind : first ≤ place
  pub inside : place < length words
  pub free : slice_index words place ≢ 2 ^ 64 - 1
  pub taken : AreTaken words first place

-- the flag of this page becomes this one, and no other changes
pub record SetsFlag (page : ℕ) (flag : Bool) (old new : List ℕ) : Type 0 where
  pub size : length new ≡ length old
  pub here : flag_in new page ≡ flag
  pub others : (n : ℕ) → n ≢ page → flag_in new n ≡ flag_in old n

-- no page below this number is free
abbrev pub NoneFreeBelow : List Bool → ℕ → Type 0
NoneFreeBelow flags end = (page : ℕ) → page < end → IsFree flags page → ⊥

-- the last word, of which this many pages are the pool's; none where the pages end with a word
abbrev pub last_word : ℕ → List ℕ
last_word rest = if rest == 0 then [] else ((2 ^ 64 - 2 ^ rest) ∷ [])
