-- Pieces that are written one after the other.
use Rattle.std.proofs.Common.{◌≡◌, ℕ, ◌+◌, ◌-◌, List, ◌++◌, length, take, drop, Option, Some, None, sym, ap, ◌∙◌, append_assoc}
use Rattle.std.proofs.Math.Seq.{take-add}
use Rattle.std.proofs.lemmas.List.{take_rest}
use Rattle.std.specs.Option.{option_map}
use Rattle.pkg_names.specs.Streams.{Gave}

pub wrote_on : (first second third : Option (List ℕ)) (bytes : List ℕ) (done count : ℕ) → second ≡ option_map (λ written. written ++ take done bytes) first
    → Gave second (take (length bytes - done) (drop done bytes)) count third → third ≡ option_map (λ written. written ++ take (done + count) bytes) first
wrote_on None second third bytes done count so_far gave = gave ∙ ap (option_map _) so_far
wrote_on (Some w) second third bytes done count so_far gave =
    let rest = take_rest bytes done in
    gave ∙ ap (option_map (λ (written : List ℕ). written ++ take count (take (length bytes - done) (drop done bytes)))) so_far
    ∙ ap Some (append_assoc w (take done bytes) (take count (take (length bytes - done) (drop done bytes)))
    ∙ ap (λ (piece : List ℕ). w ++ piece) (ap (λ (piece : List ℕ). take done bytes ++ take count piece) rest ∙ sym (take-add done count bytes)))
