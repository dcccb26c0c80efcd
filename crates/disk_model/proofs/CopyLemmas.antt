-- The pages of a copy, one after another.
use Rattle.std.proofs.Common.{ℕ, ◌+◌, ◌<◌, [], ◌∷◌, ◌++◌, get_or, Option, Some, None, IfSome, sym, subst, inl, inr, arith}
use Rattle.std.specs.List.{AllByRecursion}
use Rattle.std.proofs.lemmas.Bool.{cases_eq}
use Rattle.std.proofs.lemmas.List.{get_or_push, get_or_append_left, length_push}
use Rattle.disk_model.specs.Past.{Page, Pages, Past, IsPage, state_of, MayRead}
use Rattle.disk_model.specs.Disks.{ReadsPages}

pub pages_push : (pages : Pages) (bytes : Page) → AllByRecursion IsPage pages → IsPage bytes → AllByRecursion IsPage (pages ++ bytes ∷ [])
pages_push [] bytes all is = (is, tt)
pages_push (p ∷ pages) bytes all is = (all.0, pages_push pages bytes all.1 is)

pub reads_push : (told : Option Past) (count : ℕ) (pages : Pages) (bytes : Page) → IfSome told (λ past. ReadsPages past count pages) → IfSome told (λ past. MayRead (state_of past count) bytes) → IfSome told (λ past. ReadsPages past (count + 1) (pages ++ bytes ∷ []))
reads_push None count pages bytes reads may = tt
reads_push (Some past) count pages bytes reads may = record {
  size = omega (arith, length_push pages bytes, reads.size);
  each = λ n lt. elim (cases_eq n count) [
    | inl e ↦ subst (λ (k : ℕ). MayRead (state_of past k) (get_or (pages ++ bytes ∷ []) k [])) (sym e) (subst (MayRead (state_of past count)) (sym (get_or_push pages bytes [] count reads.size)) may)
    | inr ne ↦
        let below : n < count = omega (arith, ne) in
        subst (MayRead (state_of past n)) (sym (get_or_append_left pages (bytes ∷ []) [] n (omega (arith, reads.size)))) (reads.each n below)
  ];
}
