-- The names that a lane gives to its directories.
use Rattle.std.specs.Prelude.{ℕ, not, List, [], ◌∷◌, ◌++◌, find, filter, Option, Some, None}
use Rattle.std.specs.Option.{option_map}
use Rattle.std.specs.Str.{bytes_eq}
use Rattle.lane_server.specs.declared.names.Binding.{Binding}

-- the names that are bound, and how many more can be without memory
pub record Named : Type 0 where
  pub bindings : List Binding
  pub spare : ℕ

-- the number that is bound to a name
abbrev pub number_bound : List Binding → List ℕ → Option ℕ
number_bound names name = option_map (λ (b : Binding). b.number) (find (λ (b : Binding). bytes_eq b.name name) names)

abbrev pub number_or_zero : Option ℕ → ℕ
number_or_zero None = 0
number_or_zero (Some number) = number

-- The number of the directory that a name stands for. A name that isn't bound has 0, which is never open.
abbrev pub number_under : List Binding → List ℕ → ℕ
number_under names name = number_or_zero (number_bound names name)

abbrev pub unbound : List Binding → List ℕ → List Binding
unbound names name = filter (λ (b : Binding). not (bytes_eq b.name name)) names

-- a name that isn't bound is bound
abbrev pub bound : List Binding → List ℕ → ℕ → List Binding
bound names name number = names ++ record { name = name; number = number } ∷ []

-- bound anew, or for the first time
abbrev pub rebound : List Binding → List ℕ → ℕ → List Binding
rebound names name number = bound (unbound names name) name number
