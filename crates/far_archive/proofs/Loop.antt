-- Judging the entries one after the other, as a loop does.
use Rattle.std.proofs.Common.{◌≡◌, ℕ, suc, ◌+◌, ◌-◌, ◌<◌, ◌≤◌, List, Option, Some, None, refl, sym, ◌∙◌, arith}
use Rattle.far_archive.specs.declared.fault.FarFault.{FarFault}
use Rattle.std.proofs.Common.{add-one}
use Rattle.far_archive.specs.Fields.{name_of, end_of}
use Rattle.far_archive.specs.Faults.{entry_fault, entries_fault, name_before, floor}

left : (k n : ℕ) → k < n → n - k ≡ suc (n - (k + 1))
left k n lt = omega arith

-- an entry without a fault
pub goes_on : (text : List ℕ) (k n : ℕ) (total : Option FarFault) → k < n → entry_fault text k ≡ None → entries_fault text k (n - k) ≡ total → entries_fault text (k + 1) (n - (k + 1)) ≡ total
unfolding entries_fault
goes_on text k n total lt none so_far =
    let one : entries_fault text k (n - k) ≡ entries_fault text (k + 1) (n - (k + 1)) = rw (left k n lt, none) refl in
    sym one ∙ so_far

-- the first entry with one
pub ends : (text : List ℕ) (k n : ℕ) (fault : FarFault) (total : Option FarFault) → k < n → entry_fault text k ≡ Some fault → entries_fault text k (n - k) ≡ total → Some fault ≡ total
unfolding entries_fault
ends text k n fault total lt some so_far =
    let one : entries_fault text k (n - k) ≡ Some fault = rw (left k n lt, some) refl in
    sym one ∙ so_far

-- no entry is left
pub is_done : (text : List ℕ) (k n : ℕ) (total : Option FarFault) → n ≤ k → entries_fault text k (n - k) ≡ total → None ≡ total
unfolding entries_fault
is_done text k n total le so_far =
    let none : n - k ≡ 0 = omega arith in
    let one : entries_fault text k (n - k) ≡ None = rw none refl in
    sym one ∙ so_far

-- what an entry says of the next one
pub after_one : (text : List ℕ) (k : ℕ) → (name_before text (k + 1) ≡ name_of text k) × (floor text (k + 1) ≡ end_of text k)
after_one text k = (rw (add-one k) refl, rw (add-one k) refl)
