-- The bytes of a blob in an image: where its pages are settled, and what was read of them.
use Rattle.std.proofs.Common.{◌≡◌, ◌≢◌, ℕ, zero, suc, ◌+◌, ◌-◌, ◌*◌, ◌<◌, ◌≤◌, List, [], ◌∷◌, ◌++◌, length, take, drop, replicate, get_or, set, get_or-set_other, Option, Some, None, IfSome, inl, inr, refl, sym, ◌∙◌, ap, subst, arith, append_assoc}
use Rattle.std.specs.List.{All, AllPairs, flat_map, range_with_len}
use Rattle.std.proofs.lemmas.List.{take_at, take-append-drop, take-append-le, length-take-le, get_or-take}
use Rattle.std.proofs.lemmas.Bool.{cases_lt}
use Rattle.std.proofs.lemmas.List.Concat.{flat_map-append}
use Rattle.disk_model.specs.Past.{Page, Pages, page_at, Past, IsPast, state_of, MayRead}
use Rattle.disk_model.specs.Images.{EachImage, SomeImage, LastsOver}
use Rattle.disk_model.proofs.Moments.{each_weaker}
use Rattle.disk_model.proofs.ManyPages.{each_settled}
use Rattle.disk_model.proofs.ReadPages.{reads_anywhere, read_more, some_weaker}
use Rattle.blob_pages.specs.Pages.{page_of, page_count}
use Rattle.blob_pages.specs.Written.{place, IsOn, AreSettled}
use Rattle.blob_pages.specs.Chains.{bytes_in, joined, AreRead}
use Rattle.blob_pages.proofs.PageBytes.{flat_map-page_of}

-- lists joined in order, which are the values of a function from a number on
flat_map-from : {X : Type 0} (f : X → List ℕ) (g : ℕ → List ℕ) (d : X) (xs : List X) (a : ℕ) → ((i : ℕ) → i < length xs → f (get_or xs i d) ≡ g (a + i)) → flat_map f xs ≡ flat_map g (range_with_len a (length xs))
flat_map-from f g d [] a same = refl
flat_map-from f g d (x ∷ xs) a same =
    let first : f x ≡ g a = same 0 (omega arith) ∙ ap g (omega arith) in
    let behind = flat_map-from f g d xs (a + 1) (λ i below. same (suc i) (omega (arith, below)) ∙ ap g (omega arith)) in
    ap (λ (l : List ℕ). l ++ flat_map f xs) first ∙ ap (λ (l : List ℕ). g a ++ l) behind

-- the pages of a chain whose first n have these values
front_bytes : (start : ℕ) (chain : List ℕ) (value : ℕ → List ℕ) (n : ℕ) (image : Pages) → n ≤ length chain → ((i : ℕ) → i < n → page_at image (place start chain i) ≡ value i) → flat_map (λ (p : ℕ). page_at image (start + p)) chain ≡ flat_map value (range_with_len 0 n) ++ flat_map (λ (p : ℕ). page_at image (start + p)) (drop n chain)
front_bytes start chain value n image within are =
    let at : ℕ → List ℕ = λ p. page_at image (start + p) in
    let size : length (take n chain) ≡ n = length-take-le n chain within in
    let same = flat_map-from at value 0 (take n chain) 0 (λ i below. ap at (get_or-take n chain i 0 (omega (arith, below, size))) ∙ are i (omega (arith, below, size)) ∙ ap value (omega arith)) in
    ap (flat_map at) (sym (take-append-drop n chain)) ∙ flat_map-append at (take n chain) (drop n chain)
    ∙ ap (λ (l : List ℕ). l ++ flat_map at (drop n chain)) (same ∙ ap (λ (k : ℕ). flat_map value (range_with_len 0 k)) size)

-- Where the pages of a blob are settled, each image has its bytes.
pub settled_bytes : (start : ℕ) (chain blob : List ℕ) (told : Option Past) → page_count (length blob) ≤ length chain → AreSettled told start chain blob (page_count (length blob)) → EachImage told (λ image. bytes_in start chain (length blob) image ≡ blob)
settled_bytes start chain blob told within settled =
    let n : ℕ = page_count (length blob) in
    let zeros : List ℕ = replicate (4096 * n - length blob) 0 in
    each_weaker (λ image. (i : ℕ) → i < n → page_at image (place start chain i) ≡ page_of blob i) (λ image. bytes_in start chain (length blob) image ≡ blob) told
    (λ image are.
    let behind : List ℕ = flat_map (λ (p : ℕ). page_at image (start + p)) (drop n chain) in
    ap (take (length blob)) (front_bytes start chain (page_of blob) n image within are ∙ ap (λ (l : List ℕ). l ++ behind) (flat_map-page_of blob n (omega arith)) ∙ append_assoc blob zeros behind)
    ∙ take_at blob (zeros ++ behind) (length blob) refl)
    (each_settled (place start chain) (page_of blob) n told settled)

-- What was read of a blob is what each image has of it.
pub read_bytes : (start : ℕ) (chain blob bytes : List ℕ) (len count : ℕ) (told : Option Past) → page_count len ≤ length chain → All (λ page. start + page < count) chain → AllPairs (λ a b. a ≢ b) chain → IfSome told (IsPast count) → EachImage told (λ image. bytes_in start chain len image ≡ blob) → AreRead told start chain len (page_count len) bytes → IfSome told (λ (past : Past). bytes ≡ blob)
read_bytes start chain blob bytes len count None within range apart fits each read = tt
read_bytes start chain blob bytes len count (Some past) within range apart fits each read =
    let n : ℕ = page_count len in
    let found = reads_anywhere (λ image. bytes_in start chain len image ≡ blob) (place start chain) (page_at read.pages) n count (Some past)
    (λ i j before below e. apart i j 0 before (omega (arith, below, within)) (omega (arith, e))) (λ i below. range i 0 (omega (arith, below, within))) fits each read.each in
    let image : Pages = found.0 in
    let behind : List ℕ = flat_map (λ (p : ℕ). page_at image (start + p)) (drop n chain) in
    let pages : joined read.pages ≡ flat_map (page_at read.pages) (range_with_len 0 n) =
    flat_map-from (λ (page : Page). page) (page_at read.pages) [] read.pages 0 (λ i below. ap (page_at read.pages) (omega arith)) ∙ ap (λ (k : ℕ). flat_map (page_at read.pages) (range_with_len 0 k)) read.count in
    let have = front_bytes start chain (page_at read.pages) n image within found.2.1 ∙ ap (λ (l : List ℕ). l ++ behind) (sym pages) in
    read.are ∙ sym (take-append-le len (joined read.pages) behind (omega (arith, read.whole))) ∙ ap (take len) (sym have) ∙ found.2.0

-- the bytes of a blob in an image depend on the pages of its chain alone
same_pages : (f g : ℕ → List ℕ) (chain : List ℕ) → ((i : ℕ) → i < length chain → f (get_or chain i 0) ≡ g (get_or chain i 0)) → flat_map f chain ≡ flat_map g chain
same_pages f g [] same = refl
same_pages f g (p ∷ chain) same =
    ap (λ (l : List ℕ). l ++ flat_map f chain) (same 0 (omega arith))
    ∙ ap (λ (l : List ℕ). g p ++ l) (same_pages f g chain (λ i below. same (suc i) (omega (arith, below))))

pub bytes_lasts : (region : ℕ → Type 0) (start : ℕ) (chain : List ℕ) (len : ℕ) (blob : List ℕ) → ((n : ℕ) → region n → IsOn start chain n → ⊥) → LastsOver region (λ image. bytes_in start chain len image ≡ blob)
bytes_lasts region start chain len blob apart = λ image n bytes within below are.
    ap (take len) (same_pages (λ (p : ℕ). page_at (set image n bytes) (start + p)) (λ (p : ℕ). page_at image (start + p)) chain
    (λ i inside. get_or-set_other image n (start + get_or chain i 0) bytes [] (λ e. apart n within (i, inside, sym e)))) ∙ are

-- What was read of a blob stands in some image, with what that image has besides.
fewer : (told : Option Past) (place : ℕ → ℕ) (value : ℕ → Page) (n : ℕ) → IfSome told (λ (past : Past). (i : ℕ) → i < suc n → MayRead (state_of past (place i)) (value i)) → IfSome told (λ (past : Past). (i : ℕ) → i < n → MayRead (state_of past (place i)) (value i))
fewer None place value n may = tt
fewer (Some past) place value n may = λ i below. may i (omega (arith, below))

newest : (told : Option Past) (place : ℕ → ℕ) (value : ℕ → Page) (n : ℕ) → IfSome told (λ (past : Past). (i : ℕ) → i < suc n → MayRead (state_of past (place i)) (value i)) → IfSome told (λ (past : Past). MayRead (state_of past (place n)) (value n))
newest None place value n may = tt
newest (Some past) place value n may = may n (omega arith)

abbrev FirstAre : (ℕ → ℕ) → (ℕ → Page) → (Pages → Type 0) → ℕ → Pages → Type 0
FirstAre place value P n image = P image × ((i : ℕ) → i < n → page_at image (place i) ≡ value i)

some_pages : (count : ℕ) (told : Option Past) (place : ℕ → ℕ) (value : ℕ → Page) (P : Pages → Type 0) → IfSome told (IsPast count) → (n : ℕ) → ((i j : ℕ) → i < j → j < n → place i ≢ place j) → ((i : ℕ) → i < n → place i < count) → ((i : ℕ) → i < n → LastsOver (λ k. k ≡ place i) P) → SomeImage told P → IfSome told (λ (past : Past). (i : ℕ) → i < n → MayRead (state_of past (place i)) (value i)) → SomeImage told (FirstAre place value P n)
some_pages count told place value P fits zero apart range lasts some may =
    some_weaker P (FirstAre place value P zero) told (λ image p. (p, λ i below. absurd (omega (arith, below)))) some
some_pages count told place value P fits (suc n) apart range lasts some may =
    let Before : Pages → Type 0 = FirstAre place value P n in
    let before = some_pages count told place value P fits n (λ i j lt below. apart i j lt (omega (arith, below))) (λ i below. range i (omega (arith, below))) (λ i below. lasts i (omega (arith, below))) some (fewer told place value n may) in
    some_weaker (λ image. Before image × (page_at image (place n) ≡ value n)) (FirstAre place value P (suc n)) told
    (λ image p. (
      p.0.0,
      λ i below. elim (cases_lt i n) [
        | inl lt ↦ p.0.1 i lt
        | inr ge ↦
            let last : i ≡ n = omega (arith, ge, below) in
            subst (λ (k : ℕ). page_at image (place k) ≡ value k) (sym last) p.1
      ],
    ))
    (read_more Before (place n) (value n) count told (range n (omega arith)) fits
    (λ image k bytes at inside p. (
      lasts n (omega arith) image k bytes at inside p.0,
      λ i below.
          get_or-set_other image k (place i) bytes [] (λ e. apart i n below (omega arith) (e ∙ at)) ∙ p.1 i below,
    )) before (newest told place value n may))

-- the bytes that pages of an image make
bytes_of_pages : (start : ℕ) (chain : List ℕ) (len n : ℕ) (pages image : Pages) → n ≤ length chain → length pages ≡ n → len ≤ length (joined pages) → ((i : ℕ) → i < n → page_at image (place start chain i) ≡ page_at pages i) → bytes_in start chain len image ≡ take len (joined pages)
bytes_of_pages start chain len n pages image within size enough are =
    let behind : List ℕ = flat_map (λ (p : ℕ). page_at image (start + p)) (drop n chain) in
    let all : joined pages ≡ flat_map (page_at pages) (range_with_len 0 n) =
    flat_map-from (λ (page : Page). page) (page_at pages) [] pages 0 (λ i below. ap (page_at pages) (omega arith)) ∙ ap (λ (k : ℕ). flat_map (page_at pages) (range_with_len 0 k)) size in
    let have = front_bytes start chain (page_at pages) n image within are ∙ ap (λ (l : List ℕ). l ++ behind) (sym all) in
    ap (take len) have ∙ take-append-le len (joined pages) behind enough

pub read_bytes_some : (P : Pages → Type 0) (start : ℕ) (chain bytes : List ℕ) (len count : ℕ) (told : Option Past) → page_count len ≤ length chain → All (λ page. start + page < count) chain → AllPairs (λ a b. a ≢ b) chain → IfSome told (IsPast count) → LastsOver (IsOn start chain) P → SomeImage told P → AreRead told start chain len (page_count len) bytes → SomeImage told (λ image. P image × (bytes_in start chain len image ≡ bytes))
read_bytes_some P start chain bytes len count told within range apart fits lasts some read =
    let n : ℕ = page_count len in
    some_weaker (FirstAre (place start chain) (page_at read.pages) P n) (λ image. P image × (bytes_in start chain len image ≡ bytes)) told
    (λ image p. (p.0, bytes_of_pages start chain len n read.pages image within read.count (omega (arith, read.whole)) p.1 ∙ sym read.are))
    (some_pages count told (place start chain) (page_at read.pages) P fits n
    (λ i j before below e. apart i j 0 before (omega (arith, below, within)) (omega (arith, e))) (λ i below. range i 0 (omega (arith, below, within)))
    (λ i below. λ image k written at inside p. lasts image k written (i, omega (arith, below, within), at) inside p) some read.each)
