-- Looking up in the files of a text.
use Rattle.std.proofs.Common.{◌≡◌, ◌≢◌, ℕ, zero, suc, ◌+◌, ◌<◌, ◌≤◌, true, false, List, map, Some, None, refl, sym, ap, ◌∙◌, inl, inr, arith}
use Rattle.std.specs.List.{range_with_len}
use Rattle.std.specs.Str.{bytes_eq}
use Rattle.std.proofs.lemmas.Bool.{cases_lt, false_from_ne_true}
use Rattle.std.proofs.lemmas.Slice.Eq.{bytes_eq-Decides}
use Rattle.far_archive.specs.Fields.{count, name_of, data_of, files}
use Rattle.far_archive.specs.Faults.{first_fault}
use Rattle.far_archive.specs.Named.{file_named}
use Rattle.far_archive.proofs.Order.{ascending, less_differs}

other : (a b : List ℕ) → a ≢ b → bytes_eq a b ≡ false
other a b ne = false_from_ne_true (bytes_eq a b) (λ e. ne ((bytes_eq-Decides a b).0 e))

module _ (text name : List ℕ) where
  none_from : (n a : ℕ) → ((j : ℕ) → a ≤ j → j < a + n → name_of text j ≢ name) → file_named name (map (λ k. (name_of text k, data_of text k)) (range_with_len a n)) ≡ None
  none_from zero a h = refl
  none_from (suc n) a h = rw (other (name_of text a) name (h a (omega arith) (omega arith))) (none_from n (a + 1) (λ j low high. h j (omega arith) (omega arith)))

  found_from : (n a k : ℕ) → a ≤ k → k < a + n → name_of text k ≡ name → ((j : ℕ) → a ≤ j → j < k → name_of text j ≢ name)
      → file_named name (map (λ k. (name_of text k, data_of text k)) (range_with_len a n)) ≡ Some (data_of text k)
  found_from zero a k low high is before = absurd (omega arith)
  found_from (suc n) a k low high is before =
      elim (cases_lt a k) [
        | inl later ↦ rw (other (name_of text a) name (before a (omega arith) later)) (found_from n (a + 1) k (omega arith) (omega arith) is (λ j from to. before j (omega arith) to))
        | inr here ↦
            let e : a ≡ k = omega arith in
            let same : bytes_eq (name_of text a) name ≡ true = (bytes_eq-Decides (name_of text a) name).1 (ap (name_of text) e ∙ is) in
            rw same (ap (λ (j : ℕ). Some (data_of text j)) e)
      ]

  pub none_named_so : ((k : ℕ) → k < count text → name_of text k ≢ name) → file_named name (files text) ≡ None
  none_named_so h = none_from (count text) 0 (λ j low high. h j (omega arith))

  pub found_named_so : (k : ℕ) → first_fault text ≡ None → k < count text → name_of text k ≡ name → file_named name (files text) ≡ Some (data_of text k)
  found_named_so k none lt is =
      found_from (count text) 0 k (omega arith) (omega arith) is (λ j low high e. less_differs (name_of text j) (name_of text k) (ascending text none j k high lt) (e ∙ sym is))
