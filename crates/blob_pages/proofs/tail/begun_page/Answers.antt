use Rattle.std.proofs.Common.{◌≡◌, ℕ, ◌==◌, false, List, ◌++◌, length, drop, replicate, Option, Some, None, sym, ◌∙◌, ap}
use Rattle.std.proofs.lemmas.Bool.{cond-false}
use Rattle.std.proofs.lemmas.List.{drop-replicate}
use Rattle.blob_pages.specs.Pages.{filled}
use Rattle.blob_pages.proofs.tail.begun_page.Goals as goal

pub returns : goal.returns
returns c =
    let bytes : List ℕ = c.args.bytes.now in
    let zero_byte : ℕ = 0 in
    let some : (length bytes == 0) ≡ false = sym c.is_empty.ensures ∙ c.if-is_empty.false in
    let page =
    ap (λ (front : List ℕ). front ++ drop (length bytes) (replicate 4096 zero_byte)) c.copy_from_slice.ensures.after
    ∙ ap (λ (back : List ℕ). bytes ++ back) (drop-replicate (length bytes) 4096 zero_byte) in
    let begun : Option (List ℕ) = Some (filled bytes) in
    ap (λ (l : List ℕ). Some l) page ∙ sym (cond-false (length bytes == 0) None begun some)
