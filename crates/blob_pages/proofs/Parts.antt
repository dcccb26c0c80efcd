-- How a part of a blob is read page by page.
use Rattle.std.proofs.Common.{◌≡◌, ℕ, zero, suc, ◌+◌, ◌-◌, ◌*◌, ◌/◌, ◌%◌, ◌<◌, ◌≤◌, List, [], ◌∷◌, ◌++◌, length, take, drop, get_or, Option, Some, None, IfSome, refl, sym, ◌∙◌, ap, arith, length-append, length-drop, append_assoc}
use Rattle.std.specs.List.{All, flat_map}
use Rattle.std.proofs.lemmas.List.{drop-drop, drop_at, drop_more, drop-append-le, take-append-le, drop-take, take-take, length-take, length-take-le, take_at, take-append-drop}
use Rattle.std.proofs.lemmas.List.Elements.{All-from_recursion}
use borrow.Rule.Slice.PartMut.{put_mid}
use Rattle.disk_model.specs.Past.{Page, Pages, page_at, Past, IsPage, IsPast, state_of, MayRead}
use Rattle.disk_model.specs.Images.{EachImage}
use Rattle.disk_model.proofs.Moments.{read_image}
use Rattle.disk_model.proofs.ReadPages.{each_are_pages, each_size}
use Rattle.blob_pages.specs.Chains.{bytes_in}

-- the pages of a list from the k-th on
drop-flat_map : (at : ℕ → List ℕ) (chain : List ℕ) (k : ℕ) → ((i : ℕ) → i < length chain → length (at (get_or chain i 0)) ≡ 4096) → k ≤ length chain → drop (4096 * k) (flat_map at chain) ≡ flat_map at (drop k chain)
drop-flat_map at chain zero whole within = refl
drop-flat_map at [] (suc k) whole within = absurd (omega (arith, within))
drop-flat_map at (p ∷ chain) (suc k) whole within =
    let size : length (at p) ≡ 4096 = whole 0 (omega arith) in
    let split : drop (4096 * suc k) (at p ++ flat_map at chain) ≡ drop (4096 * k) (drop 4096 (at p ++ flat_map at chain)) =
    ap (λ (n : ℕ). drop n (at p ++ flat_map at chain)) (omega arith) ∙ sym (drop-drop (4096 * k) 4096 (at p ++ flat_map at chain)) in
    split ∙ ap (drop (4096 * k)) (drop_at (at p) (flat_map at chain) 4096 size)
    ∙ drop-flat_map at chain k (λ i below. whole (suc i) (omega (arith, below))) (omega (arith, within))

-- bytes of a front that lie within it
take-drop-take : (c p len : ℕ) (bytes : List ℕ) → p + c ≤ len → take c (drop p (take len bytes)) ≡ take c (drop p bytes)
take-drop-take c p len bytes within =
    let cut : take len bytes ≡ take (p + (len - p)) bytes = ap (λ (n : ℕ). take n bytes) (omega arith) in
    ap (λ (l : List ℕ). take c (drop p l)) cut ∙ ap (take c) (drop-take p (len - p) bytes) ∙ take-take c (len - p) (drop p bytes) (omega arith)

-- bytes of a blob that lie on one page
pub bytes_on_page : (start : ℕ) (chain blob : List ℕ) (len p c : ℕ) (page : Page) (image : Pages) → ((i : ℕ) → i < length chain → length (page_at image (start + get_or chain i 0)) ≡ 4096) → bytes_in start chain len image ≡ blob → page_at image (start + get_or chain (p / 4096) 0) ≡ page → p + c ≤ len → p / 4096 < length chain → c + p % 4096 ≤ 4096 → take c (drop (p % 4096) page) ≡ take c (drop p blob)
bytes_on_page start chain blob len p c page image whole bytes is within inside short =
    let at : ℕ → List ℕ = λ n. page_at image (start + n) in
    let all : List ℕ = flat_map at chain in
    let k : ℕ = p / 4096 in
    let f : ℕ = p % 4096 in
    let behind : List ℕ = flat_map at (drop (k + 1) chain) in
    let size : length page ≡ 4096 = sym (ap length is) ∙ whole k inside in
    let here : drop (4096 * k) all ≡ page ++ behind =
    drop-flat_map at chain k whole (omega (arith, inside)) ∙ ap (flat_map at) (drop_more chain k 0 inside) ∙ ap (λ (l : List ℕ). l ++ behind) is in
    let from : drop p all ≡ drop f page ++ behind =
    ap (λ (n : ℕ). drop n all) (omega arith) ∙ sym (drop-drop f (4096 * k) all) ∙ ap (drop f) here ∙ drop-append-le f page behind (omega (arith, size)) in
    let part : take c (drop p all) ≡ take c (drop f page) = ap (take c) from ∙ take-append-le c (drop f page) behind (omega (arith, size, length-drop f page)) in
    sym part ∙ sym (take-drop-take c p len all within) ∙ ap (λ (l : List ℕ). take c (drop p l)) bytes

-- the same of a page that was read, where each image has these bytes of the blob
pub bytes_read : (start : ℕ) (chain blob : List ℕ) (len p c count : ℕ) (page : Page) (told : Option Past) → IfSome told (IsPast count) → All (λ n. start + n < count) chain → EachImage told (λ image. bytes_in start chain len image ≡ blob) → IfSome told (λ (past : Past). MayRead (state_of past (start + get_or chain (p / 4096) 0)) page) → p + c ≤ len → p / 4096 < length chain → c + p % 4096 ≤ 4096 → IfSome told (λ (past : Past). take c (drop (p % 4096) page) ≡ take c (drop p blob))
bytes_read start chain blob len p c count page None fits range each may within inside short = tt
bytes_read start chain blob len p c count page (Some past) fits range each may within inside short =
    let told : Option Past = Some past in
    let place : ℕ = start + get_or chain (p / 4096) 0 in
    let P : Pages → Type 0 = λ image. bytes_in start chain len image ≡ blob in
    let some = read_image P place page count told (range (p / 4096) 0 inside) fits each may in
    let image : Pages = some.0 in
    let pages = All-from_recursion IsPage image (each_are_pages count told fits image some.1) in
    let size = each_size count told fits image some.1 in
    bytes_on_page start chain blob len p c page image (λ i below. (pages (start + get_or chain i 0) [] (omega (arith, range i 0 below, size))).size) some.2.0 some.2.1 within inside short

-- a piece is put behind the part that was read
pub piece_put : (bytes piece out first : List ℕ) (done c count : ℕ) → out ≡ take done bytes ++ drop done first → done ≤ length bytes → c ≤ count - done → piece ≡ take c (drop done bytes) ++ drop c (take (count - done) (drop done out)) → put_mid done (count - done) out piece ≡ take (done + c) bytes ++ drop (done + c) first
piece_put bytes piece out first done c count out_is within fits piece_is =
    let front : List ℕ = take done bytes in
    let size : length front ≡ done = length-take-le done bytes within in
    let k : ℕ = count - done in
    let before : take done out ≡ front = ap (take done) out_is ∙ take_at front (drop done first) done size in
    let rest : drop done out ≡ drop done first = ap (drop done) out_is ∙ drop_at front (drop done first) done size in
    let r : List ℕ = drop done first in
    let m : ℕ = k - c in
    let cut : drop c (take k r) ≡ take m (drop c r) = ap (λ (n : ℕ). drop c (take n r)) (omega arith) ∙ drop-take c m r in
    let last : drop k r ≡ drop m (drop c r) = ap (λ (n : ℕ). drop n r) (omega arith) ∙ sym (drop-drop m c r) in
    let behind : drop c (take k r) ++ drop k r ≡ drop c r = ap (λ (l : List ℕ). l ++ drop k r) cut ∙ ap (λ (l : List ℕ). take m (drop c r) ++ l) last ∙ take-append-drop m (drop c r) in
    let end : drop c r ≡ drop (done + c) first = drop-drop c done first in
    let more : front ++ take c (drop done bytes) ≡ take (done + c) bytes =
    sym (ap (λ (l : List ℕ). l ++ take c (drop done bytes)) (take-take done (done + c) bytes (omega arith)))
    ∙ ap (λ (l : List ℕ). take done (take (done + c) bytes) ++ l) (sym (drop-take done c bytes)) ∙ take-append-drop done (take (done + c) bytes) in
    let here : piece ≡ take c (drop done bytes) ++ drop c (take k r) = piece_is ∙ ap (λ (l : List ℕ). take c (drop done bytes) ++ drop c (take k l)) rest in
    ap (λ (l : List ℕ). l ++ (piece ++ drop k (drop done out))) before
    ∙ ap (λ (l : List ℕ). front ++ (piece ++ drop k l)) rest
    ∙ ap (λ (l : List ℕ). front ++ (l ++ drop k r)) here
    ∙ ap (λ (l : List ℕ). front ++ l) (append_assoc (take c (drop done bytes)) (drop c (take k r)) (drop k r) ∙ ap (λ (l : List ℕ). take c (drop done bytes) ++ l) (behind ∙ end))
    ∙ sym (append_assoc front (take c (drop done bytes)) (drop (done + c) first))
    ∙ ap (λ (l : List ℕ). l ++ drop (done + c) first) more

-- two facts of a told past that make a third
pub both_then : {A B C : Type 0} (told : Option Past) → IfSome told (λ (past : Past). A) → IfSome told (λ (past : Past). B) → (A → B → C) → IfSome told (λ (past : Past). C)
both_then None a b f = tt
both_then (Some past) a b f = f a b

-- how far a part has come, from the length of what it is in
pub part_within : (bytes out first : List ℕ) (done : ℕ) → out ≡ take done bytes ++ drop done first → length out ≡ length first → done ≤ length first → done ≤ length bytes
part_within bytes out first done is same within =
    omega (arith, ap length is, length-append (take done bytes) (drop done first), length-take done bytes, length-drop done first, same)
