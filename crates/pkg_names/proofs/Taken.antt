-- A source in memory takes from what is left.
use Rattle.std.proofs.Common.{◌≡◌, ℕ, ◌+◌, ◌<◌, List, ◌++◌, length, take, drop, min, Some, sym, ap, ◌∙◌, arith}
use Rattle.std.proofs.lemmas.List.{take-append-drop, drop-drop, nil_from_length, take_at, length-take-le}
use Rattle.pkg_names.specs.Streams.{Took}

pub took_front : (bytes left out old : List ℕ) (place count room : ℕ) → left ≡ drop place bytes → 0 < room → count ≡ min (length left) room
    → out ≡ take count left ++ drop count old → Took (Some (drop place bytes)) out count (Some (drop (place + count) bytes))
took_front bytes left out old place count room rest some size same =
    let front : take count out ≡ take count left = ap (take count) same ∙ take_at (take count left) (drop count old) count (length-take-le count left (omega arith)) in
    record {
      next =
          ap Some
          (sym rest ∙ sym (take-append-drop count left) ∙ ap (λ (f : List ℕ). f ++ drop count left) (sym front)
          ∙ ap (λ (back : List ℕ). take count out ++ back) (ap (drop count) rest ∙ drop-drop count place bytes));
      end = λ none. sym rest ∙ nil_from_length left (omega arith);
    }
