-- What is read stands in an image, and what each image has of size and bytes.
use Rattle.std.proofs.Common.{◌≡◌, ◌≢◌, ℕ, zero, suc, [], ◌+◌, ◌-◌, ◌<◌, ◌≤◌, cond, ltb, length, set, get_or-set_same, get_or-set_other, sym, ◌∙◌, refl, ap, subst, inl, inr, arith, lt-ltb, le-ltb, Option, Some, None, IfSome}
use Rattle.std.specs.List.{AllByRecursion}
use Rattle.std.proofs.lemmas.Bool.{cases_lt, cases_eq, cond-true, cond-false}
use Rattle.disk_model.specs.Past.{Page, Pages, page_at, Past, IsPage, IsPast, state_of, MayRead, IsPossible}
use Rattle.disk_model.specs.Images.{IsImage, EachImage, SomeImage, LastsOver, contents}
use Rattle.disk_model.proofs.ImageLemmas.{image_choose, image_mix, contents-is_image, image-are_pages}

-- Each image has as many pages as the disk, and each of them is one.
pub each_size : (count : ℕ) (told : Option Past) → IfSome told (IsPast count) → EachImage told (λ image. length image ≡ count)
each_size count None fits = tt
each_size count (Some past) fits = λ image is. omega (arith, is.size, fits.size)

pub each_are_pages : (count : ℕ) (told : Option Past) → IfSome told (IsPast count) → EachImage told (AllByRecursion IsPage)
each_are_pages count None fits = tt
each_are_pages count (Some past) fits = λ image is. image-are_pages count past image fits is

module _ (past : Past) (first : ℕ) (pages : Pages) (possible : (i : ℕ) → i < length pages → IsPossible (state_of past (first + i)) (page_at pages i)) where
  read_or_now : ℕ → Page
  read_or_now n = cond (ltb n first) (state_of past n).now (cond (ltb n (first + length pages)) (page_at pages (n - first)) (state_of past n).now)

  read_or_now-possible : (n : ℕ) → IsPossible (state_of past n) (read_or_now n)
  unfolding read_or_now
  read_or_now-possible n =
      let now = (state_of past n).now in
      let Fine : Page → Type 0 = IsPossible (state_of past n) in
      elim (cases_lt n first) [
        | inl lt ↦ subst Fine (sym (cond-true (ltb n first) now _ (lt-ltb n first lt))) (inl refl)
        | inr ge ↦ subst Fine (sym (cond-false (ltb n first) now _ (le-ltb n first ge))) (elim (cases_lt n (first + length pages)) [
          | inl below ↦ subst Fine (sym (cond-true (ltb n (first + length pages)) (page_at pages (n - first)) now (lt-ltb n (first + length pages) below)))
              (let at : first + (n - first) ≡ n = omega arith in
              let p : IsPossible (state_of past (first + (n - first))) (page_at pages (n - first)) = possible (n - first) (omega arith) in
              subst (λ (k : ℕ). IsPossible (state_of past k) (page_at pages (n - first))) at p)
          | inr above ↦ subst Fine (sym (cond-false (ltb n (first + length pages)) (page_at pages (n - first)) now (le-ltb n (first + length pages) above))) (inl refl)
        ])
      ]

  read_or_now-read : (i : ℕ) → i < length pages → read_or_now (first + i) ≡ page_at pages i
  unfolding read_or_now
  read_or_now-read i lt =
      cond-false (ltb (first + i) first) (state_of past (first + i)).now _ (le-ltb (first + i) first (omega arith))
      ∙ cond-true (ltb (first + i) (first + length pages)) (page_at pages (first + i - first)) (state_of past (first + i)).now (lt-ltb (first + i) (first + length pages) (omega arith))
      ∙ ap (page_at pages) {x = first + i - first} {y = i} (omega arith)

-- Pages that were read in a row, from the one numbered first, stand together in some image, which has
-- what each image has.
pub reads_image : (P : Pages → Type 0) (first count : ℕ) (pages : Pages) (told : Option Past) → first + length pages ≤ count → IfSome told (IsPast count) → EachImage told P → IfSome told (λ past. (i : ℕ) → i < length pages → MayRead (state_of past (first + i)) (page_at pages i)) → SomeImage told (λ image. P image × ((i : ℕ) → i < length pages → page_at image (first + i) ≡ page_at pages i))
reads_image P first count pages None room fits each reads = tt
reads_image P first count pages (Some past) room fits each reads =
    let possible : (i : ℕ) → i < length pages → IsPossible (state_of past (first + i)) (page_at pages i) = λ i lt. (reads i lt).possible in
    let found = image_choose past (read_or_now past first pages possible) (λ n lt. read_or_now-possible past first pages possible n) in
    (found.0, found.1, (each found.0 found.1, λ i lt. found.2 (first + i) (omega (arith, fits.size)) ∙ read_or_now-read past first pages possible i lt))

-- What each image has, some image has.
pub some_each : (P : Pages → Type 0) (told : Option Past) → EachImage told P → SomeImage told P
some_each P None each = tt
some_each P (Some past) each = (contents past, contents-is_image past, each (contents past) (contents-is_image past))

-- The image of some fact has what each image has.
pub some_both : (P Q : Pages → Type 0) (told : Option Past) → SomeImage told P → EachImage told Q → SomeImage told (λ image. P image × Q image)
some_both P Q None some each = tt
some_both P Q (Some past) some each = (some.0, some.1, (some.2, each some.0 some.1))

pub some_weaker : (P Q : Pages → Type 0) (told : Option Past) → ((image : Pages) → P image → Q image) → SomeImage told P → SomeImage told Q
some_weaker P Q None f some = tt
some_weaker P Q (Some past) f some = (some.0, some.1, f some.0 some.2)

-- One read more, of a page that what was read before doesn't speak of.
pub read_more : (P : Pages → Type 0) (n : ℕ) (out : Page) (count : ℕ) (told : Option Past) → n < count → IfSome told (IsPast count) → LastsOver (λ k. k ≡ n) P → SomeImage told P → IfSome told (λ past. MayRead (state_of past n) out) → SomeImage told (λ image. P image × (page_at image n ≡ out))
read_more P n out count None lt fits lasts some may = tt
read_more P n out count (Some past) lt fits lasts some may =
    let inside : n < length some.0 = omega (arith, some.1.size, fits.size) in
    (set some.0 n out, image_mix past some.0 n out some.1 may.possible, (lasts some.0 n out refl inside some.2, get_or-set_same some.0 n out [] inside))

-- Any choice of a possible value for each page is an image, which has what each image has.
pub choice_image : (P : Pages → Type 0) (value : ℕ → Page) (count : ℕ) (told : Option Past) → IfSome told (IsPast count) → EachImage told P → IfSome told (λ past. (n : ℕ) → n < count → IsPossible (state_of past n) (value n)) → SomeImage told (λ image. P image × ((n : ℕ) → n < count → page_at image n ≡ value n))
choice_image P value count None fits each possible = tt
choice_image P value count (Some past) fits each possible =
    let found = image_choose past value (λ n lt. possible n (omega (arith, lt, fits.size))) in
    (found.0, found.1, (each found.0 found.1, λ n lt. found.2 n (omega (arith, lt, fits.size))))

-- Pages that were read in any order, each at its own number, stand together in some image, which has what
-- each image has.
placed : (past : Past) (place : ℕ → ℕ) (value : ℕ → Page) (count : ℕ) → ((i j : ℕ) → i < j → j < count → place i ≢ place j) → ((i : ℕ) → i < count → (place i < length past.start) × MayRead (state_of past (place i)) (value i)) → (image : Pages) × IsImage past image × ((i : ℕ) → i < count → page_at image (place i) ≡ value i)
placed past place value zero apart reads = (contents past, contents-is_image past, λ i lt. absurd (omega (arith, lt)))
placed past place value (suc count) apart reads =
    let some = placed past place value count (λ i j lt below. apart i j lt (omega (arith, below))) (λ i lt. reads i (omega (arith, lt))) in
    let last = reads count (omega arith) in (
      set some.0 (place count) (value count),
      image_mix past some.0 (place count) (value count) some.1 last.1.possible,
      λ i lt. elim (cases_eq i count) [
        | inl e ↦ subst (λ (k : ℕ). page_at (set some.0 (place count) (value count)) (place k) ≡ value k) (sym e) (get_or-set_same some.0 (place count) (value count) [] (omega (arith, some.1.size, last.0)))
        | inr ne ↦ get_or-set_other some.0 (place count) (place i) (value count) [] (apart i count (omega (arith, ne, lt)) (omega arith)) ∙ some.2 i (omega (arith, ne, lt))
      ],
    )

pub reads_anywhere : (P : Pages → Type 0) (place : ℕ → ℕ) (value : ℕ → Page) (reads count : ℕ) (told : Option Past) → ((i j : ℕ) → i < j → j < reads → place i ≢ place j) → ((i : ℕ) → i < reads → place i < count) → IfSome told (IsPast count) → EachImage told P → IfSome told (λ past. (i : ℕ) → i < reads → MayRead (state_of past (place i)) (value i)) → SomeImage told (λ image. P image × ((i : ℕ) → i < reads → page_at image (place i) ≡ value i))
reads_anywhere P place value reads count None apart room fits each may = tt
reads_anywhere P place value reads count (Some past) apart room fits each may =
    let found = placed past place value reads apart (λ i lt. (omega (arith, room i lt, fits.size), may i lt)) in
    (found.0, found.1, (each found.0 found.1, found.2))
