-- A piece more leaves the pages that were written.
use Rattle.std.proofs.Common.{◌≡◌, ℕ, ◌+◌, ◌*◌, ◌≤◌, List, ◌++◌, length, take, drop, Option, sym, ap, subst, ◌∙◌, arith, length-drop}
use Rattle.std.proofs.lemmas.List.{drop-append-le, take-append-le}
use Rattle.disk_model.specs.Past.{Past}
use Rattle.disk_model.specs.Images.{IsWritten}
use Rattle.blob_pages.specs.Pages.{filled, page_of}
use Rattle.blob_pages.specs.Written.{place, AreWritten}

pub page_of-append : (blob more : List ℕ) (i : ℕ) → 4096 * (i + 1) ≤ length blob → page_of (blob ++ more) i ≡ page_of blob i
page_of-append blob more i whole =
    let rest : List ℕ = drop (4096 * i) blob in
    let size : 4096 ≤ length rest = omega (arith, length-drop (4096 * i) blob, whole) in
    ap (λ (l : List ℕ). filled (take 4096 l)) (drop-append-le (4096 * i) blob more (omega (arith, whole))) ∙ ap filled (take-append-le 4096 rest more size)

pub added_written : (told : Option Past) (start : ℕ) (chain blob more : List ℕ) (n : ℕ) → 4096 * n ≤ length blob → AreWritten told start chain blob n → AreWritten told start chain (blob ++ more) n
added_written told start chain blob more n within written = λ i below.
    subst (IsWritten told (place start chain i)) (sym (page_of-append blob more i (omega (arith, within, below)))) (written i below)
