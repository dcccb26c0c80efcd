-- How a blob is read page by page.
use Rattle.std.proofs.Common.{◌≡◌, ℕ, zero, suc, ◌+◌, ◌-◌, ◌*◌, ◌<◌, ◌≤◌, min, List, [], ◌∷◌, ◌++◌, length, take, Option, Some, None, IfSome, refl, sym, ◌∙◌, ap, subst, inl, inr, arith, length-append, get_or, append_assoc}
use Rattle.std.specs.Prelude.{slice_index}
use Rattle.std.specs.List.{All}
use Rattle.std.proofs.lemmas.List.{take_all, length-take, length_push, append-nil, get_or_append_left, get_or_push, get_or-take, take_min, take-append-le, length-take-le}
use Rattle.std.proofs.lemmas.List.Concat.{flat_map-append}
use Rattle.std.proofs.lemmas.Bool.{cases_lt}
use Rattle.disk_model.specs.Past.{Page, Pages, page_at, Past, state_of, MayRead}
use Rattle.blob_pages.specs.Written.{place}
use Rattle.blob_pages.specs.Chains.{joined, IsReadAt, AreRead}

-- each of the first n pages of the chain is as the disk may give it
abbrev MayBe : Option Past → ℕ → List ℕ → ℕ → Pages → Type 0
MayBe told start chain n pages = IfSome told (λ (past : Past). (i : ℕ) → i < n → MayRead (state_of past (start + slice_index chain i)) (page_at pages i))

none_read : (told : Option Past) (start : ℕ) (chain : List ℕ) → MayBe told start chain 0 []
none_read None start chain = tt
none_read (Some past) start chain = λ i below. absurd (omega (arith, below))

more_read : (told : Option Past) (start : ℕ) (chain : List ℕ) (n : ℕ) (pages : Pages) (page : Page) → length pages ≡ n → MayBe told start chain n pages → IfSome told (λ (past : Past). MayRead (state_of past (start + slice_index chain n)) page) → MayBe told start chain (n + 1) (pages ++ page ∷ [])
more_read None start chain n pages page count each may = tt
more_read (Some past) start chain n pages page count each may =
    let Fits : ℕ → Page → Type 0 = λ i value. MayRead (state_of past (start + slice_index chain i)) value in
    λ i below. elim (cases_lt i n) [
      | inl before ↦ subst (Fits i) (sym (get_or_append_left pages (page ∷ []) [] i (omega arith))) (each i before)
      | inr after ↦
          let last : i ≡ n = omega arith in
          subst (λ (k : ℕ). Fits k (page_at (pages ++ page ∷ []) k)) (sym last) (subst (Fits n) (sym (get_or_push pages page [] n count)) may)
    ]

-- the front of two lists that reaches into the second
take-append : (n : ℕ) (xs ys : List ℕ) → length xs ≤ n → take n (xs ++ ys) ≡ xs ++ take (n - length xs) ys
take-append n [] ys within = ap (λ (k : ℕ). take k ys) (omega arith)
take-append zero (x ∷ xs) ys within = absurd (omega (arith, within))
take-append (suc n) (x ∷ xs) ys within =
    ap (λ (rest : List ℕ). x ∷ rest) (take-append n xs ys (omega (arith, within)))
    ∙ ap (λ (k : ℕ). x ∷ (xs ++ take k ys)) (omega arith)

-- nothing is read yet
pub AreRead-none : (told : Option Past) (start : ℕ) (chain : List ℕ) (len : ℕ) → AreRead told start chain len 0 []
AreRead-none told start chain len =
    record {
      pages = [];
      count = refl;
      whole = refl;
      each = none_read told start chain;
      are = sym (take_all len [] (omega arith));
    }

-- one page more is read
pub AreRead-more : (told : Option Past) (start : ℕ) (chain : List ℕ) (len n : ℕ) (bytes : List ℕ) (page : Page) → AreRead told start chain len n bytes → length page ≡ 4096 → 4096 * n ≤ len → IfSome told (λ (past : Past). MayRead (state_of past (start + slice_index chain n)) page) → AreRead told start chain len (n + 1) (bytes ++ take (min (len - 4096 * n) 4096) page)
AreRead-more told start chain len n bytes page read full within may =
    let more : Pages = read.pages ++ page ∷ [] in
    let all : joined more ≡ joined read.pages ++ page =
    flat_map-append (λ (p : Page). p) read.pages (page ∷ []) ∙ ap (λ (rest : List ℕ). joined read.pages ++ rest) (append-nil page) in
    let before : bytes ≡ joined read.pages = read.are ∙ take_all len (joined read.pages) (omega (arith, read.whole)) in
    let part : take (min (len - 4096 * n) 4096) page ≡ take (len - length (joined read.pages)) page =
    ap (λ (k : ℕ). take (min (len - 4096 * n) k) page) (sym full) ∙ take_min (len - 4096 * n) page ∙ ap (λ (k : ℕ). take (len - k) page) (sym read.whole) in
    record {
      pages = more;
      count = omega (arith, length_push read.pages page, read.count);
      whole = ap length all ∙ omega (arith, length-append (joined read.pages) page, read.whole);
      each = more_read told start chain n read.pages page read.count read.each may;
      are = ap (λ (front : List ℕ). front ++ take (min (len - 4096 * n) 4096) page) before
          ∙ ap (λ (back : List ℕ). joined read.pages ++ back) part
          ∙ sym (take-append len (joined read.pages) page (omega (arith, read.whole)))
          ∙ ap (take len) (sym all);
    }

-- how many bytes are read
pub length-AreRead : (told : Option Past) (start : ℕ) (chain : List ℕ) (len n : ℕ) (bytes : List ℕ) → AreRead told start chain len n bytes → length bytes ≡ min len (4096 * n)
length-AreRead told start chain len n bytes read = ap length read.are ∙ length-take len (joined read.pages) ∙ ap (min len) read.whole

-- The next page is read, of which a part belongs to the blob.
pub AreRead-step : (told now : Option Past) (start : ℕ) (chain : List ℕ) (len n i rest part : ℕ) (bytes : List ℕ) (page : Page) → now ≡ told → AreRead told start chain len i bytes → length page ≡ 4096 → i < length (take n chain) → 4096 * i ≤ len → rest ≡ len - 4096 * i → part ≡ min rest 4096 → IfSome now (λ (past : Past). MayRead (state_of past (start + get_or (take n chain) i 0)) page) → AreRead told start chain len (i + 1) (bytes ++ take part page)
AreRead-step told now start chain len n i rest part bytes page same read full below within rest_is part_is may =
    let lt : i < n = omega (arith, below, length-take n chain) in
    let at : get_or (take n chain) i 0 ≡ get_or chain i 0 = get_or-take n chain i 0 lt in
    let told_may : IfSome told (λ (past : Past). MayRead (state_of past (start + get_or (take n chain) i 0)) page) =
    subst (λ (t : Option Past). IfSome t (λ (past : Past). MayRead (state_of past (start + get_or (take n chain) i 0)) page)) same may in
    let here : IfSome told (λ (past : Past). MayRead (state_of past (start + get_or chain i 0)) page) =
    subst (λ (k : ℕ). IfSome told (λ (past : Past). MayRead (state_of past (start + k)) page)) at told_may in
    subst (λ (k : ℕ). AreRead told start chain len (i + 1) (bytes ++ take k page)) (sym (part_is ∙ ap (λ (r : ℕ). min r 4096) rest_is))
    (AreRead-more told start chain len i bytes page read full within here)

-- The bytes of two pages, of which the first belongs to the blob whole.
two_parts : (rest part : ℕ) (p q : List ℕ) → length p ≡ 4096 → 4096 < rest → part ≡ min rest 8192 → take (min rest 4096) p ++ take (min (rest - 4096) 4096) q ≡ take part (p ++ q)
two_parts rest part p q full more part_is =
    let whole : take (min rest 4096) p ≡ p = take_all (min rest 4096) p (omega (arith, full, more)) in
    ap (λ (l : List ℕ). l ++ take (min (rest - 4096) 4096) q) whole
    ∙ ap (λ (k : ℕ). p ++ take k q) (omega (arith, full, more, part_is))
    ∙ sym (take-append part p q (omega (arith, full, more, part_is)))

-- The next two pages are read, or the last one, of which a part belongs to the blob.
pub AreRead-two : (told now : Option Past) (start : ℕ) (chain : List ℕ) (len n k rest part : ℕ) (bytes : List ℕ) (pages : Pages) → now ≡ told → AreRead told start chain len (2 * k) bytes → length pages ≡ 2 → 2 * k < length (take n chain) → n ≤ length chain → len ≤ 4096 * n → 4096 * n < len + 4096 → rest ≡ len - 8192 * k → part ≡ min rest 8192 → IsReadAt now (place start (take n chain) (2 * k)) (page_at pages 0) → (2 * k + 1 < length (take n chain) → IsReadAt now (place start (take n chain) (2 * k + 1)) (page_at pages 1)) → AreRead told start chain len (min (2 * k + 2) n) (bytes ++ take part (joined pages))
AreRead-two told now start chain len n k rest part bytes [] same read two below inside least most rest_is part_is first second = absurd (omega (arith, two))
AreRead-two told now start chain len n k rest part bytes (p ∷ []) same read two below inside least most rest_is part_is first second = absurd (omega (arith, two))
AreRead-two told now start chain len n k rest part bytes (p ∷ q ∷ r ∷ pages) same read two below inside least most rest_is part_is first second = absurd (omega (arith, two))
AreRead-two told now start chain len n k rest part bytes (p ∷ q ∷ []) same read two below inside least most rest_is part_is first second =
    let size : length (take n chain) ≡ n = length-take-le n chain inside in
    let once : AreRead told start chain len (2 * k + 1) (bytes ++ take (min rest 4096) p) =
    AreRead-step told now start chain len n (2 * k) rest (min rest 4096) bytes p same read first.0 below (omega (arith, below, size, most)) (rest_is ∙ omega arith) refl first.1 in
    let back : List ℕ = q ++ [] in
    elim (cases_lt (2 * k + 1) n) [
      | inl more ↦
          let next : 2 * k + 1 < length (take n chain) = omega (arith, more, size) in
          let page = second next in
          let long : 4096 < rest = omega (arith, more, most, rest_is) in
          let twice : AreRead told start chain len (2 * k + 1 + 1) ((bytes ++ take (min rest 4096) p) ++ take (min (rest - 4096) 4096) q) =
          AreRead-step told now start chain len n (2 * k + 1) (rest - 4096) (min (rest - 4096) 4096) (bytes ++ take (min rest 4096) p) q same once page.0 next (omega (arith, more, most)) (omega (arith, rest_is)) refl page.1 in
          let all : (bytes ++ take (min rest 4096) p) ++ take (min (rest - 4096) 4096) q ≡ bytes ++ take part (p ++ back) =
          append_assoc bytes (take (min rest 4096) p) (take (min (rest - 4096) 4096) q)
          ∙ ap (λ (l : List ℕ). bytes ++ l) (two_parts rest part p q first.0 long part_is)
          ∙ ap (λ (l : List ℕ). bytes ++ take part (p ++ l)) (sym (append-nil q)) in
          let count : 2 * k + 1 + 1 ≡ min (2 * k + 2) n = omega (arith, more) in
          subst (λ (i : ℕ). AreRead told start chain len i (bytes ++ take part (p ++ back))) count
          (subst (λ (l : List ℕ). AreRead told start chain len (2 * k + 1 + 1) l) all twice)
      | inr last ↦
          let short : rest ≤ 4096 = omega (arith, last, least, rest_is) in
          let all : take (min rest 4096) p ≡ take part (p ++ back) =
          ap (λ (i : ℕ). take i p) (omega (arith, short, part_is)) ∙ sym (take-append-le part p back (omega (arith, short, part_is, first.0))) in
          let count : 2 * k + 1 ≡ min (2 * k + 2) n = omega (arith, last, below, size) in
          subst (λ (i : ℕ). AreRead told start chain len i (bytes ++ take part (p ++ back))) count
          (subst (λ (l : List ℕ). AreRead told start chain len (2 * k + 1) (bytes ++ l)) all once)
    ]

-- a page of the front of a chain lies on the disk
pub in_range : (start count n i : ℕ) (chain : List ℕ) → All (λ page. start + page < count) chain → i < length (take n chain) → start + get_or (take n chain) i 0 < count
in_range start count n i chain range below =
    let lt : i < n = omega (arith, below, length-take n chain) in
    let inside : i < length chain = omega (arith, below, length-take n chain) in
    subst (λ (k : ℕ). start + k < count) (sym (get_or-take n chain i 0 lt)) (range i 0 inside)
