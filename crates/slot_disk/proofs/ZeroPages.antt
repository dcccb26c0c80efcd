-- Pages that begin with some bytes and are zeros behind them.
use Rattle.std.proofs.Common.{◌≡◌, ℕ, zero, suc, ◌+◌, ◌-◌, ◌≤◌, List, [], ◌++◌, length, get_or, take, drop, replicate, refl, ◌∙◌, ap, arith, get_or-drop}
use Rattle.std.proofs.lemmas.List.{get_or-append_right, length-take-le, length-replicate}
use Rattle.slot_disk.specs.Filling.{filled}

all_zero : (count i : ℕ) → get_or (replicate {A = ℕ} count 0) i 0 ≡ 0
all_zero zero i = refl
all_zero (suc count) zero = refl
all_zero (suc count) (suc i) = all_zero count i

-- behind the front there are zeros
pub zeros_behind : (front zeros : List ℕ) (n i : ℕ) → n ≤ 4096 → zeros ≡ filled [] → length front ≡ length (take n zeros) → n ≤ i → get_or (front ++ drop n zeros) i 0 ≡ 0
unfolding filled
zeros_behind front zeros n i within is size past =
    let whole : length zeros ≡ 4096 = ap length is ∙ length-replicate {A = ℕ} 4096 0 in
    let long : length front ≡ n = size ∙ length-take-le n zeros (omega (arith, whole)) in
    get_or-append_right front (drop n zeros) n i 0 long past ∙ get_or-drop n zeros (i - n) 0
    ∙ ap (λ (l : List ℕ). get_or l (n + (i - n)) 0) is ∙ all_zero 4096 (n + (i - n))
