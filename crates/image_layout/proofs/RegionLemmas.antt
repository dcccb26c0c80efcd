-- Regions that follow one another make up all.
use Rattle.std.proofs.Common.{◌≡◌, ℕ, suc, ◌+◌, ◌<◌, ◌≤◌, List, [], ◌∷◌, refl, inl, inr, arith, Any}
use Rattle.std.proofs.lemmas.Bool.{cases_lt}
use Rattle.image_layout.specs.declared.geometry.Geometry.{Geometry}
use Rattle.image_layout.specs.Geometry.{Region, IsIn, regions, total_pages}

-- each begins where the one before ends
abbrev pub Follow : ℕ → List Region → ℕ → Type 0
Follow from [] to = from ≡ to
Follow from (r ∷ rs) to = (r.first ≡ from) × Follow (r.first + r.size) rs to

pub cover : (from : ℕ) (rs : List Region) (to : ℕ) → Follow from rs to → (n : ℕ) → from ≤ n → n < to → Any (λ a. IsIn a n) rs
cover from [] to f n ge lt = absurd (omega (arith, f))
cover from (r ∷ rs) to f n ge lt =
    elim (cases_lt n (r.first + r.size)) [
      | inl inside ↦ (0, r, omega arith, refl, (omega (arith, f.0), inside))
      | inr past ↦ let rest = cover (r.first + r.size) rs to f.1 n past lt in (suc rest.0, rest.1, omega (arith, rest.2), rest.3, rest.4)
    ]

pub regions_in_order : (g : Geometry) → Follow 0 (regions g) (total_pages g)
regions_in_order g = (refl, (refl, (refl, (refl, (refl, (omega arith, (omega arith, (omega arith, (omega arith, omega arith)))))))))
