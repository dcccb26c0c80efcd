-- Flags in words.
use Rattle.std.proofs.Common.{◌≡◌, ◌≢◌, ℕ, zero, suc, ◌+◌, ◌-◌, ◌*◌, ◌/◌, ◌%◌, ◌^◌, ◌<◌, ◌≤◌, Bool, true, false, not, cond, eqb, List, [], ◌∷◌, ◌++◌, length, get_or, set, replicate, Option, Some, None, IsSome, sym, refl, ◌∙◌, ap, subst, inl, inr, arith, length-set, get_or-set_same, get_or-set_other}
use Rattle.std.specs.Int.{bit_at}
use Rattle.std.proofs.lemmas.Bool.{cases_eq, cases_lt, cond-false, true≢false}
use Rattle.std.proofs.lemmas.Bool.Decides.{eqb_tells}
use Rattle.std.proofs.lemmas.List.{same_lists, length-replicate, append-nil, get_or_append_left, get_or_push, length_push}
use Rattle.std.proofs.lemmas.List.FromFn.{length-map-range_with_len, get_or-map-range_with_len}
use Rattle.std.proofs.lemmas.List.Sums.{sum_by-cons}
use Rattle.std.proofs.lemmas.Simd.{get_or-replicate}
use Rattle.std.proofs.lemmas.Nat.Bits.{bit_at_ones, bit_at-zero, bit_at_mask_inside, bit_at_mask_below, ones_shl}
use Rattle.page_pool.specs.Flags.{IsTaken, IsFree, free_count}
use Rattle.page_pool.specs.Words.{flag_in, flags_of, HasWords, IsPool, AreTaken, IsFirstFree, SetsFlag, NoneFreeBelow, last_word}
use Rattle.page_pool.proofs.FlagLemmas.{inside_free, inside_taken, still_free}

pub length-flags : (count : ℕ) (words : List ℕ) → length (flags_of count words) ≡ count
length-flags count words = length-map-range_with_len (flag_in words) 0 count

pub flag_at : (count : ℕ) (words : List ℕ) (page : ℕ) (d : Bool) → page < count → get_or (flags_of count words) page d ≡ flag_in words page
flag_at count words page d lt = get_or-map-range_with_len (flag_in words) 0 count page page d lt (omega arith)

pub inside_flags : (count : ℕ) (words : List ℕ) (page : ℕ) → IsFree (flags_of count words) page → page < count
inside_flags count words page is = omega (arith, inside_free (flags_of count words) page is, length-flags count words)

-- a free page has no flag
pub free_flag : (count : ℕ) (words : List ℕ) (page : ℕ) → IsFree (flags_of count words) page → flag_in words page ≡ false
free_flag count words page is = sym (flag_at count words page true (inside_flags count words page is)) ∙ is

-- a page of a word of ones is taken
pub ones_taken : (words : List ℕ) (page : ℕ) → get_or words (page / 64) 0 ≡ 2 ^ 64 - 1 → flag_in words page ≡ true
ones_taken words page ones =
    ap (λ (w : ℕ). eqb (bit_at w (page % 64)) 1) ones ∙ ap (λ (b : ℕ). eqb b 1) (bit_at_ones 64 (page % 64) (omega arith))

-- a word whose bit of the page becomes another
pub sets_flag : (words new : List ℕ) (page value : ℕ) (flag : Bool) → page < 64 * length words → new ≡ set words (page / 64) value → eqb (bit_at value (page % 64)) 1 ≡ flag → ((i : ℕ) → i < 64 → i ≢ page % 64 → bit_at value i ≡ bit_at (get_or words (page / 64) 0) i) → SetsFlag page flag words new
sets_flag words new page value flag inside is here others =
    let at_place : get_or new (page / 64) 0 ≡ value = ap (λ (l : List ℕ). get_or l (page / 64) 0) is ∙ get_or-set_same words (page / 64) value 0 (omega (arith, inside)) in
    record {
      size = ap length is ∙ length-set words (page / 64) value;
      here = ap (λ (w : ℕ). eqb (bit_at w (page % 64)) 1) at_place ∙ here;
      others = λ n ne. elim (cases_eq (n / 64) (page / 64)) [
        | inl e ↦
            let old_word : get_or words (page / 64) 0 ≡ get_or words (n / 64) 0 = ap (λ (k : ℕ). get_or words k 0) (sym e) in
            let new_word : get_or new (n / 64) 0 ≡ value = ap (λ (k : ℕ). get_or new k 0) e ∙ at_place in
            ap (λ (w : ℕ). eqb (bit_at w (n % 64)) 1) new_word
            ∙ ap (λ (b : ℕ). eqb b 1) (others (n % 64) (omega arith) (λ same. ne (omega (arith, e, same))))
            ∙ ap (λ (w : ℕ). eqb (bit_at w (n % 64)) 1) old_word
        | inr apart ↦ ap (λ (w : ℕ). eqb (bit_at w (n % 64)) 1) (ap (λ (l : List ℕ). get_or l (n / 64) 0) is ∙ get_or-set_other words (page / 64) (n / 64) value 0 apart)
      ];
    }

-- what that makes of the flags
pub flags_set : (count page : ℕ) (flag : Bool) (old new : List ℕ) → page < count → SetsFlag page flag old new → flags_of count new ≡ set (flags_of count old) page flag
flags_set count page flag old new inside sets =
    same_lists (flags_of count new) (set (flags_of count old) page flag)
    (omega (arith, length-flags count new, length-flags count old, length-set (flags_of count old) page flag))
    (λ k d lt.
    let below : k < count = omega (arith, lt, length-flags count new) in
    flag_at count new k d below
    ∙ elim (cases_eq k page) [
      | inl e ↦
          ap (flag_in new) e ∙ sets.here
          ∙ sym (ap (λ (n : ℕ). get_or (set (flags_of count old) page flag) n d) e ∙ get_or-set_same (flags_of count old) page flag d (omega (arith, inside, length-flags count old)))
      | inr ne ↦ sets.others k ne ∙ sym (get_or-set_other (flags_of count old) page k flag d ne ∙ flag_at count old k d below)
    ])

pub words_stay : (count page : ℕ) (flag : Bool) (old new : List ℕ) → page < count → SetsFlag page flag old new → HasWords count old → HasWords count new
words_stay count page flag old new inside sets has = record {
  enough = omega (arith, has.enough, sets.size);
  no_more = omega (arith, has.no_more, sets.size);
  past_end = λ n past within. sets.others n (λ e. omega (arith, e, past, inside)) ∙ has.past_end n past (omega (arith, within, sets.size));
}

-- where some are counted, some page is free
pub some_free : (flags : List Bool) → 0 < free_count flags → (page : ℕ) × IsFree flags page
some_free [] some = absurd (omega (arith, some))
some_free (true ∷ flags) some =
    let rest = some_free flags (omega (arith, some, sum_by-cons (λ (b : Bool). cond {A = ℕ} (not b) 1 0) true flags)) in (suc rest.0, rest.1)
some_free (false ∷ flags) some = (0, refl)

module _ (count from : ℕ) (words : List ℕ) (has : HasWords count words) (passed : NoneFreeBelow (flags_of count words) (64 * from)) where
  -- a free page comes in a word that isn't all ones
  after_from : (page : ℕ) → IsFree (flags_of count words) page → 64 * from ≤ page
  after_from page is = elim (cases_lt page (64 * from)) [ inl lt ↦ absurd (passed page lt is) | inr ge ↦ ge ]

  not_ones : (page end : ℕ) → IsFree (flags_of count words) page → AreTaken words from end → page < 64 * end → ⊥
  not_ones page end is taken below =
      let ones = taken (page / 64) (omega (arith, after_from page is)) (omega (arith, below)) in
      true≢false (sym (ones_taken words page ones) ∙ free_flag count words page is)

  pub from_inside : 0 < free_count (flags_of count words) → from ≤ length words
  from_inside some =
      let page = some_free (flags_of count words) some in
      omega (arith, after_from page.0 page.1, inside_flags count words page.0 page.1, has.enough)

  pub not_all_taken : 0 < free_count (flags_of count words) → AreTaken words from (length words) → ⊥
  not_all_taken some taken =
      let page = some_free (flags_of count words) some in
      not_ones page.0 (length words) page.1 taken (omega (arith, inside_flags count words page.0 page.1, has.enough))

  module _ (place bit : ℕ) (first : IsFirstFree words from place) (below : bit < 64) (clear : bit_at (get_or words place 0) bit ≡ 0) where
    abbrev free_page : ℕ
    free_page = place * 64 + bit

    clear_flag : flag_in words free_page ≡ false
    clear_flag =
        let at_place : free_page / 64 ≡ place = omega (arith, below) in
        let at_bit : free_page % 64 ≡ bit = omega (arith, below) in
        ap (λ (w : ℕ). eqb (bit_at (get_or words w 0) (free_page % 64)) 1) at_place
        ∙ ap (λ (i : ℕ). eqb (bit_at (get_or words place 0) i) 1) at_bit
        ∙ ap (λ (b : ℕ). eqb b 1) clear

    pub page_inside : free_page < count
    page_inside = elim (cases_lt free_page count) [
      | inl lt ↦ lt
      | inr past ↦ absurd (true≢false (sym (has.past_end free_page past (omega (arith, below, first.inside))) ∙ clear_flag))
    ]

    pub page_free : IsFree (flags_of count words) free_page
    page_free = flag_at count words free_page true page_inside ∙ clear_flag

    pub passed_more : NoneFreeBelow (set (flags_of count words) free_page true) (64 * place)
    passed_more page lt is = not_ones page place (still_free (free_page ∷ []) (flags_of count words) page is).0 first.taken lt

-- the words of pages that are all free
zero_flag : (words : List ℕ) (page : ℕ) → get_or words (page / 64) 0 ≡ 0 → flag_in words page ≡ false
zero_flag words page none =
    ap (λ (w : ℕ). eqb (bit_at w (page % 64)) 1) none ∙ ap (λ (b : ℕ). eqb b 1) (bit_at-zero (page % 64))

zero_at : (whole n : ℕ) (tail : List ℕ) → n < whole → get_or (replicate whole 0 ++ tail) n 0 ≡ 0
zero_at whole n tail lt =
    get_or_append_left (replicate whole 0) tail 0 n (omega (arith, lt, length-replicate {A = ℕ} whole 0)) ∙ get_or-replicate whole n 0 0 lt

-- the last word, where the pages end with a word and where they don't
pub last_word_none : (rest : ℕ) → rest ≡ 0 → last_word rest ≡ []
last_word_none rest e = ap last_word e

last_word_mask : (rest : ℕ) → rest ≢ 0 → last_word rest ≡ (2 ^ 64 - 2 ^ rest) ∷ []
last_word_mask rest some = elim (eqb_tells rest 0) [
  | inl t ↦ absurd (some t.1)
  | inr t ↦ cond-false (eqb rest 0) [] ((2 ^ 64 - 2 ^ rest) ∷ []) t.0
]

pub last_word_some : (rest : ℕ) → rest < 64 → rest ≢ 0 → ((2 ^ 64 - 1) * 2 ^ rest % 2 ^ 64) ∷ [] ≡ last_word rest
last_word_some rest small some = ap (λ (w : ℕ). w ∷ []) (ones_shl 64 rest (omega (arith, small))) ∙ sym (last_word_mask rest some)

built : (whole rest : ℕ) (words : List ℕ) → rest < 64 → words ≡ replicate whole 0 ++ last_word rest → HasWords (64 * whole + rest) words × ((n : ℕ) → n < 64 * whole + rest → flag_in words n ≡ false)
built whole zero words small is =
    let size : length words ≡ whole = ap length is ∙ ap length (append-nil (replicate whole 0)) ∙ length-replicate {A = ℕ} whole 0 in (
      record { enough = omega (arith, size); no_more = omega (arith, size); past_end = λ n past within. absurd (omega (arith, past, within, size)) },
      λ n lt. zero_flag words n (ap (λ (l : List ℕ). get_or l (n / 64) 0) is ∙ zero_at whole (n / 64) [] (omega (arith, lt))),
    )
built whole (suc rest) words small ends =
    let mask : ℕ = 2 ^ 64 - 2 ^ suc rest in
    let is : words ≡ replicate whole 0 ++ mask ∷ [] = ends ∙ ap (λ (l : List ℕ). replicate whole 0 ++ l) (last_word_mask (suc rest) (λ e. omega (arith, e))) in
    let size : length words ≡ whole + 1 = ap length is ∙ length_push (replicate whole 0) mask ∙ ap (λ (n : ℕ). n + 1) (length-replicate {A = ℕ} whole 0) in
    let last : get_or words whole 0 ≡ mask = ap (λ (l : List ℕ). get_or l whole 0) is ∙ get_or_push (replicate whole 0) mask 0 whole (omega (arith, length-replicate {A = ℕ} whole 0)) in
    let in_last : (n : ℕ) → n / 64 ≡ whole → flag_in words n ≡ eqb (bit_at mask (n % 64)) 1 = λ n e.
    ap (λ (k : ℕ). eqb (bit_at (get_or words k 0) (n % 64)) 1) e ∙ ap (λ (w : ℕ). eqb (bit_at w (n % 64)) 1) last in (
      record {
        enough = omega (arith, size, small);
        no_more = omega (arith, size);
        past_end = λ n past within.
            in_last n (omega (arith, past, within, size)) ∙ ap (λ (b : ℕ). eqb b 1) (bit_at_mask_inside (suc rest) 64 (n % 64) (omega (arith, past, within, size)) (omega arith));
      },
      λ n lt. elim (cases_lt (n / 64) whole) [
        | inl before ↦ zero_flag words n (ap (λ (l : List ℕ). get_or l (n / 64) 0) is ∙ zero_at whole (n / 64) (mask ∷ []) before)
        | inr past ↦
            let e : n / 64 ≡ whole = omega (arith, lt, past, small) in
            in_last n e ∙ ap (λ (b : ℕ). eqb b 1) (bit_at_mask_below (suc rest) 64 (n % 64) (omega (arith, lt, e)))
      ],
    )

module _ (count : ℕ) (words : List ℕ) (is : words ≡ replicate (count / 64) 0 ++ last_word (count % 64)) where
  parts : HasWords (64 * (count / 64) + count % 64) words × ((n : ℕ) → n < 64 * (count / 64) + count % 64 → flag_in words n ≡ false)
  parts = built (count / 64) (count % 64) words (omega arith) is

  pub new_words : HasWords count words
  new_words = subst (λ (n : ℕ). HasWords n words) {x = 64 * (count / 64) + count % 64} {y = count} (omega arith) parts.0

  pub new_flags : flags_of count words ≡ replicate count false
  new_flags =
      same_lists (flags_of count words) (replicate count false) (length-flags count words ∙ sym (length-replicate count false))
      (λ k d lt.
      let below : k < count = omega (arith, lt, length-flags count words) in
      flag_at count words k d below ∙ parts.1 k (omega (arith, below)) ∙ sym (get_or-replicate count k false d below))

-- words of which none differs from all ones
pub eq_from_true : (a b : ℕ) → eqb a b ≡ true → a ≡ b
eq_from_true a b e = elim (eqb_tells a b) [ inl t ↦ t.1 | inr t ↦ absurd (true≢false (sym e ∙ t.0)) ]

pub none_free : (word : ℕ) → not (eqb word (2 ^ 64 - 1)) ≡ false → word ≡ 2 ^ 64 - 1
none_free word e = elim (eqb_tells word (2 ^ 64 - 1)) [ inl t ↦ t.1 | inr t ↦ absurd (true≢false (sym (ap not t.0) ∙ e)) ]

-- a pool of which one page is given back, or taken
pub taken_below : (count : ℕ) (words : List ℕ) (page : ℕ) → IsTaken (flags_of count words) page → page < count
taken_below count words page is = omega (arith, inside_taken (flags_of count words) page is, length-flags count words)

module _ (count free page : ℕ) (flag : Bool) (words was new items : List ℕ) (flags : List Bool) (pool : IsPool count words free) (view : flags_of count words ≡ flags) (same : was ≡ words) (sets : SetsFlag page flag was new) (is : items ≡ new) where
  sets_items : SetsFlag page flag words items
  sets_items = subst (λ (l : List ℕ). SetsFlag page flag words l) (sym is) (subst (λ (l : List ℕ). SetsFlag page flag l new) same sets)

  pub flags_then : page < count → flags_of count items ≡ set flags page flag
  flags_then inside = flags_set count page flag words items inside sets_items ∙ ap (λ (l : List Bool). set l page flag) view

  pub pool_then : (now : ℕ) → page < count → now ≡ free_count (set flags page flag) → IsPool count items now
  pool_then now inside counted = record {
    small = pool.small;
    words_of = words_stay count page flag words items inside sets_items pool.words_of;
    counted = counted ∙ sym (ap free_count (flags_then inside));
  }

  pub free_then : free ≡ free_count flags
  free_then = pool.counted ∙ ap free_count view

-- the first free page, by what the code reads
module _ (count free from place bit word : ℕ) (words was : List ℕ) (flags : List Bool) (pool : IsPool count words free) (view : flags_of count words ≡ flags) (same : was ≡ words) (passed : NoneFreeBelow flags (64 * from)) where
  passed_in : NoneFreeBelow (flags_of count words) (64 * from)
  passed_in = subst (λ (l : List Bool). NoneFreeBelow l (64 * from)) (sym view) passed

  some_in : 0 < free_count flags → 0 < free_count (flags_of count words)
  some_in some = subst (λ (l : List Bool). 0 < free_count l) (sym view) some

  pub from_within : 0 < free_count flags → from ≤ length was
  from_within some = omega (arith, from_inside count from words pool.words_of passed_in (some_in some), ap length same)

  pub finds_one : 0 < free_count flags → AreTaken was from (length was) → ⊥
  finds_one some taken =
      not_all_taken count from words pool.words_of passed_in (some_in some) (subst (λ (l : List ℕ). AreTaken l from (length l)) same taken)

  module _ (first : IsFirstFree was from place) (read : word ≡ get_or words place 0) (below : bit < 64) (clear : bit_at word bit ≡ 0) where
    first_in : IsFirstFree words from place
    first_in = subst (λ (l : List ℕ). IsFirstFree l from place) same first

    clear_in : bit_at (get_or words place 0) bit ≡ 0
    clear_in = subst (λ (w : ℕ). bit_at w bit ≡ 0) read clear

    pub taken_inside : place * 64 + bit < count
    taken_inside = page_inside count from words pool.words_of passed_in place bit first_in below clear_in

    pub taken_free : IsFree flags (place * 64 + bit)
    taken_free = subst (λ (l : List Bool). IsFree l (place * 64 + bit)) view (page_free count from words pool.words_of passed_in place bit first_in below clear_in)

    pub taken_passed : NoneFreeBelow (set flags (place * 64 + bit) true) (64 * place)
    taken_passed =
        subst (λ (l : List Bool). NoneFreeBelow (set l (place * 64 + bit) true) (64 * place)) view
        (passed_more count from words pool.words_of passed_in place bit first_in below clear_in)

pub some_from : (o : Option ℕ) → (o ≡ None → ⊥) → IsSome o
some_from None not = absurd (not refl)
some_from (Some place) not = refl
