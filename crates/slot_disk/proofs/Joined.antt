-- What was read of different pages stands together in some image.
use Rattle.std.proofs.Common.{◌≡◌, ℕ, ◌<◌, ◌≤◌, [], cond, ltb, lt-ltb, le-ltb, sym, ◌∙◌, subst, inl, inr, arith, Option, Some, None, IfSome}
use Rattle.std.proofs.lemmas.Bool.{cases_lt, cond-true, cond-false}
use Rattle.std.proofs.lemmas.List.{get_or_past}
use Rattle.disk_model.specs.Past.{Page, Pages, page_at, Past, IsPast, state_of, MayRead, IsPossible}
use Rattle.disk_model.specs.Images.{IsImage, SomeImage, EachImage}
use Rattle.disk_model.proofs.Moments.{read_image}
use Rattle.disk_model.proofs.ReadPages.{choice_image, some_weaker}

-- P depends on the pages before this one alone; on those from this one on
abbrev pub Below : ℕ → (Pages → Type 0) → Type 0
Below bound P = (image other : Pages) → ((n : ℕ) → n < bound → page_at image n ≡ page_at other n) → P image → P other

abbrev pub From : ℕ → (Pages → Type 0) → Type 0
From bound P = (image other : Pages) → ((n : ℕ) → bound ≤ n → page_at image n ≡ page_at other n) → P image → P other

module _ (bound count : ℕ) (past : Past) (fits : IsPast count past) (a b : Pages) (left : IsImage past a) (right : IsImage past b) where
  chosen : ℕ → Page
  chosen n = cond (ltb n bound) (page_at a n) (page_at b n)

  chosen-left : (n : ℕ) → n < bound → chosen n ≡ page_at a n
  unfolding chosen
  chosen-left n lt = cond-true (ltb n bound) (page_at a n) (page_at b n) (lt-ltb n bound lt)

  chosen-right : (n : ℕ) → bound ≤ n → chosen n ≡ page_at b n
  unfolding chosen
  chosen-right n le = cond-false (ltb n bound) (page_at a n) (page_at b n) (le-ltb n bound le)

  chosen-possible : (n : ℕ) → n < count → IsPossible (state_of past n) (chosen n)
  chosen-possible n lt =
      elim (cases_lt n bound) [
        | inl below ↦ subst (IsPossible (state_of past n)) (sym (chosen-left n below)) (left.each n (omega (arith, fits.size)))
        | inr above ↦ subst (IsPossible (state_of past n)) (sym (chosen-right n above)) (right.each n (omega (arith, fits.size)))
      ]

  both : (image : Pages) × IsImage past image × ((n : ℕ) → n < bound → page_at a n ≡ page_at image n) × ((n : ℕ) → bound ≤ n → page_at b n ≡ page_at image n)
  both =
      let found = choice_image (λ image. Unit {0}) chosen count (Some past) fits (λ image is. tt) (λ n lt. chosen-possible n lt) in
      let image : Pages = found.0 in
      let is : IsImage past image = found.1 in
      let past_end : (other : Pages) → IsImage past other → (n : ℕ) → count ≤ n → page_at other n ≡ [] = λ other o n le. get_or_past other n [] (omega (arith, o.size, fits.size)) in (
        image,
        is,
        λ n lt. elim (cases_lt n count) [
          | inl here ↦ sym (found.2.1 n here ∙ chosen-left n lt)
          | inr beyond ↦ past_end a left n beyond ∙ sym (past_end image is n beyond)
        ],
        λ n le. elim (cases_lt n count) [
          | inl here ↦ sym (found.2.1 n here ∙ chosen-right n le)
          | inr beyond ↦ past_end b right n beyond ∙ sym (past_end image is n beyond)
        ],
      )

pub each_any : (told : Option Past) → EachImage told (λ image. Unit {0})
each_any None = tt
each_any (Some past) = λ image is. tt

-- What some image has before a page, and some image from it on, one image has.
pub some_split : (bound count : ℕ) (P Q : Pages → Type 0) (told : Option Past) → IfSome told (IsPast count) → Below bound P → From bound Q → SomeImage told P → SomeImage told Q → SomeImage told (λ image. P image × Q image)
some_split bound count P Q None fits below from p q = tt
some_split bound count P Q (Some past) fits below from p q =
    let found = both bound count past fits p.0 q.0 p.1 q.1 in
    (found.0, found.1, (below p.0 found.0 found.2 p.2, from q.0 found.0 found.3 q.2))

-- A page that was read stands in some image.
pub some_page : (Q : Page → Type 0) (n count : ℕ) (page : Page) (told : Option Past) → n < count → IfSome told (IsPast count) → IfSome told (λ past. MayRead (state_of past n) page) → Q page → SomeImage told (λ image. Q (page_at image n))
some_page Q n count page told lt fits may q =
    some_weaker (λ image. Unit {0} × (page_at image n ≡ page)) (λ image. Q (page_at image n)) told (λ image found. subst Q (sym found.1) q)
    (read_image (λ image. Unit {0}) n page count told lt fits (each_any told) may)
