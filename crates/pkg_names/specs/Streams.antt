-- What a call of a source or a sink does to the bytes that it tells.
use Rattle.std.specs.Prelude.{◌≡◌, ℕ, ◌+◌, ◌-◌, ◌^◌, ◌≤◌, min, List, [], ◌++◌, take, Option, IfSome}
use Rattle.std.specs.Option.{option_map}

-- a count that is raised by this much: it stands still at the last value of its type
abbrev pub raised_count : ℕ → ℕ → ℕ
raised_count much count = min (count + much) (2 ^ 64 - 1)

abbrev pub one_more : ℕ → ℕ
one_more count = raised_count 1 count

-- a count rose by at least this much, or stands at the last value of its type
abbrev pub RoseBy : ℕ → ℕ → ℕ → Type 0
RoseBy much before after = raised_count much before ≤ after

-- a count rose
abbrev pub Rose : ℕ → ℕ → Type 0
Rose before after = RoseBy 1 before after

-- The bytes that were left are the ones put at the front of out, and those left now. There are none
-- of both only at the end.
pub record Took (before : Option (List ℕ)) (out : List ℕ) (count : ℕ) (after : Option (List ℕ)) : Type 0 where
  pub next : before ≡ option_map (λ rest. take count out ++ rest) after
  pub end : count ≡ 0 → IfSome before (λ bytes. bytes ≡ [])

-- the bytes counted were put behind those that were written
abbrev pub Gave : Option (List ℕ) → List ℕ → ℕ → Option (List ℕ) → Type 0
Gave before bytes count after = after ≡ option_map (λ written. written ++ take count bytes) before
