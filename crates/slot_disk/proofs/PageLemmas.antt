-- The pages of an image to which bytes are added.
use Rattle.std.proofs.Common.{◌≡◌, ℕ, ◌+◌, ◌-◌, ◌*◌, ◌/◌, ◌%◌, ◌≤◌, List, [], ◌++◌, length, take, drop, replicate, sym, ◌∙◌, ap, arith, length-append, length-drop, append_assoc}
use Rattle.std.proofs.lemmas.List.{take_all, drop_all, take_at, drop_at, length-replicate, replicate-append-replicate, drop-append-le, take-append-le}
use borrow.Rule.Slice.PartMut.{put_mid}
use Rattle.slot_disk.specs.Filling.{filled, page_of}

drop-replicate : (k n : ℕ) → k ≤ n → drop k (replicate {A = ℕ} n 0) ≡ replicate (n - k) 0
drop-replicate k n within =
    ap (λ (j : ℕ). drop k (replicate {A = ℕ} j 0)) {x = n} {y = k + (n - k)} (omega arith)
    ∙ ap (drop k) (sym (replicate-append-replicate k (n - k) 0))
    ∙ drop_at (replicate k 0) (replicate (n - k) 0) k (length-replicate {A = ℕ} k 0)

-- A piece behind the bytes of a page.
pub put_filled : (tail piece page : List ℕ) (used count : ℕ) → length tail ≡ used → used + count ≤ 4096 → length piece ≡ count → page ≡ filled tail → put_mid used count page piece ≡ filled (tail ++ piece)
unfolding filled
put_filled tail piece page used count size room long is =
    let zeros : List ℕ = replicate (4096 - length tail) 0 in
    let front : take used page ≡ tail = ap (take used) is ∙ take_at tail zeros used size in
    let back : drop used page ≡ zeros = ap (drop used) is ∙ drop_at tail zeros used size in
    let rest : drop count (drop used page) ≡ replicate (4096 - length (tail ++ piece)) 0 =
    ap (drop count) back ∙ drop-replicate count (4096 - length tail) (omega arith) ∙ ap (λ (k : ℕ). replicate k 0) (omega (arith, length-append tail piece)) in
    ap (λ (l : List ℕ). l ++ (piece ++ drop count (drop used page))) front
    ∙ ap (λ (l : List ℕ). tail ++ (piece ++ l)) rest
    ∙ sym (append_assoc tail piece (replicate (4096 - length (tail ++ piece)) 0))

-- The page behind the last full one has the bytes that are left.
pub page_of-tail : (bytes : List ℕ) → page_of bytes (length bytes / 4096) ≡ filled (drop (4096 * (length bytes / 4096)) bytes)
page_of-tail bytes = ap filled (take_all 4096 (drop (4096 * (length bytes / 4096)) bytes) (omega (arith, length-drop (4096 * (length bytes / 4096)) bytes)))

-- Where the bytes end with a full page it is empty.
pub page_of-end : (bytes : List ℕ) → length bytes % 4096 ≡ 0 → page_of bytes (length bytes / 4096) ≡ filled []
page_of-end bytes full = page_of-tail bytes ∙ ap filled (drop_all (4096 * (length bytes / 4096)) bytes (omega arith))

-- More bytes leave full pages,
pub page_of-same : (bytes more : List ℕ) (i : ℕ) → 4096 * i + 4096 ≤ length bytes → page_of (bytes ++ more) i ≡ page_of bytes i
page_of-same bytes more i full =
    let k : ℕ = 4096 * i in
    ap (λ (l : List ℕ). filled (take 4096 l)) (drop-append-le k bytes more (omega arith))
    ∙ ap filled (take-append-le 4096 (drop k bytes) more (omega (arith, length-drop k bytes)))

-- and come behind the bytes of the last page, as far as they have room there.
pub page_of-more : (bytes more : List ℕ) → length bytes % 4096 + length more ≤ 4096 → page_of (bytes ++ more) (length bytes / 4096) ≡ filled (drop (4096 * (length bytes / 4096)) bytes ++ more)
page_of-more bytes more room =
    let k : ℕ = 4096 * (length bytes / 4096) in
    let tail : List ℕ = drop k bytes in
    ap (λ (l : List ℕ). filled (take 4096 l)) (drop-append-le k bytes more (omega arith))
    ∙ ap filled (take_all 4096 (tail ++ more) (omega (arith, length-append tail more, length-drop k bytes)))
