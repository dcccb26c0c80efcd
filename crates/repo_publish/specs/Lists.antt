-- Lists with one value more.
use Rattle.std.specs.Prelude.{Bool, List, [], ◌∷◌, if◌then◌else◌}

-- a value in the place of the first that passes, or else last
abbrev pub put_in : {X : Type 0} → (X → Bool) → X → List X → List X
put_in passes y [] = y ∷ []
put_in passes y (x ∷ xs) = if passes x then y ∷ xs else x ∷ put_in passes y xs

-- a value before the first that passes, or else last
abbrev pub put_before : {X : Type 0} → (X → Bool) → X → List X → List X
put_before passes y [] = y ∷ []
put_before passes y (x ∷ xs) = if passes x then y ∷ x ∷ xs else x ∷ put_before passes y xs
