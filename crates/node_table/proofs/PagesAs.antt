-- Pages that were read, or written, and what holds of them.
use Rattle.std.proofs.Common.{◌≡◌, ◌≢◌, ◌⊎◌, ℕ, ◌+◌, ◌<◌, ◌≤◌, [], sym, refl, subst, inl, inr, arith, Option, Some, None, IfSome}
use Rattle.std.proofs.lemmas.Bool.{cases_lt, cases_eq}
use Rattle.disk_model.specs.declared.act.DiskAct.TheVariants.{Wrote, Synced}
use Rattle.disk_model.specs.Past.{Page, page_at, Past, IsPast, with_act, state_of, MayRead}
use Rattle.disk_model.specs.Images.{EachImage, SomeImage, IsWritten, WritesOnly}
use Rattle.disk_model.proofs.Moments.{each_weaker, written, written_write, settled}
use Rattle.disk_model.proofs.Regions.{written_outside}
use Rattle.disk_model.proofs.ReadPages.{reads_anywhere, some_weaker}
use Rattle.node_table.specs.Steps.{ReadAs, WrittenAs}

pub read_as : (n : ℕ) (out : Page) (P : Page → Type 0) (told : Option Past) → IfSome told (λ past. MayRead (state_of past n) out) → P out → ReadAs told n P
read_as n out P None may p = tt
read_as n out P (Some past) may p = (out, may, p)

pub read_weaker : (n : ℕ) (P Q : Page → Type 0) (told : Option Past) → ((page : Page) → P page → Q page) → ReadAs told n P → ReadAs told n Q
read_weaker n P Q None f read = tt
read_weaker n P Q (Some past) f read = (read.0, read.1, f read.0 read.2)

module _ (past : Past) (place : ℕ → ℕ) (P : ℕ → Page → Type 0) (reads : ℕ) (each : (i : ℕ) → i < reads → (page : Page) × MayRead (state_of past (place i)) page × P i page) where
  picked : (i : ℕ) → (i < reads) ⊎ (reads ≤ i) → Page
  picked i (inl lt) = (each i lt).0
  picked i (inr le) = []

  picked_is : (i : ℕ) (c : (i < reads) ⊎ (reads ≤ i)) → i < reads → MayRead (state_of past (place i)) (picked i c) × P i (picked i c)
  unfolding picked
  picked_is i (inl lt) below = ((each i lt).1, (each i lt).2)
  picked_is i (inr le) below = absurd (omega arith)

-- What was read, each page once, stands together in some image.
pub reads_together : (place : ℕ → ℕ) (P : ℕ → Page → Type 0) (reads count : ℕ) (told : Option Past) → ((i j : ℕ) → i < j → j < reads → place i ≢ place j) → ((i : ℕ) → i < reads → place i < count) → IfSome told (IsPast count) → ((i : ℕ) → i < reads → ReadAs told (place i) (P i)) → SomeImage told (λ image. (i : ℕ) → i < reads → P i (page_at image (place i)))
reads_together place P reads count None apart room fits each = tt
reads_together place P reads count (Some past) apart room fits each =
    let value : ℕ → Page = λ i. picked past place P reads each i (cases_lt i reads) in
    let is = λ (i : ℕ) (lt : i < reads). picked_is past place P reads each i (cases_lt i reads) lt in
    some_weaker (λ image. Unit {0} × ((i : ℕ) → i < reads → page_at image (place i) ≡ value i)) (λ image. (i : ℕ) → i < reads → P i (page_at image (place i))) (Some past)
    (λ image found i lt. subst (P i) (sym (found.1 i lt)) (is i lt).1)
    (reads_anywhere (λ image. Unit {0}) place value reads count (Some past) apart room fits (λ image is_image. tt) (λ i lt. (is i lt).0))

pub written_as : (n : ℕ) (bytes : Page) (P : Page → Type 0) (told : Option Past) → IsWritten told n bytes → P bytes → WrittenAs told n P
written_as n bytes P None is p = tt
written_as n bytes P (Some past) is p = (subst P (sym is.0) p, is.1)

-- A page stays as it was written over writes of other pages.
pub as_outside : (region : ℕ → Type 0) (n : ℕ) (P : Page → Type 0) (old new : Option Past) → (region n → ⊥) → WrittenAs old n P → WritesOnly old new region → WrittenAs new n P
as_outside region n P None None not_in h w = tt
as_outside region n P None (Some new) not_in h w = absurd w
as_outside region n P (Some old) None not_in h w = tt
as_outside region n P (Some old) (Some new) not_in h w =
    written_as n (state_of old n).now P (Some new) (written_outside region n (state_of old n).now (Some old) (Some new) not_in (refl, h.1) w) h.0

as_other : (n page : ℕ) (bytes : Page) (P : Page → Type 0) (old new : Option Past) → page ≢ n → new ≡ with_act old (Wrote page bytes) → WrittenAs old n P → WrittenAs new n P
as_other n page bytes P None new ne e h = subst (λ told. WrittenAs told n P) (sym e) tt
as_other n page bytes P (Some old) new ne e h =
    written_as n (state_of old n).now P new (written_write n (state_of old n).now page bytes (Some old) new ne (inl e) (refl, h.1)) h.0

-- One page more of a row.
pub as_more : (first k : ℕ) (bytes : Page) (P : ℕ → Page → Type 0) (old new : Option Past) → new ≡ with_act old (Wrote (first + k) bytes) → P k bytes → ((j : ℕ) → j < k → WrittenAs old (first + j) (P j)) → (j : ℕ) → j < k + 1 → WrittenAs new (first + j) (P j)
as_more first k bytes P old new e p before = λ j lt.
    elim (cases_eq j k) [
      | inl same ↦ subst (λ (i : ℕ). WrittenAs new (first + i) (P i)) (sym same) (written_as (first + k) bytes (P k) new (written (first + k) bytes old new e) p)
      | inr ne ↦ let below : j < k = omega (arith, ne, lt) in as_other (first + j) (first + k) bytes (P j) old new (λ s. omega (arith, s, below)) e (before j below)
    ]

-- After a sync each image has a page that was written so.
pub each_as : (n : ℕ) (P : Page → Type 0) (count : ℕ) (old new : Option Past) → n < count → IfSome old (IsPast count) → WrittenAs old n P → new ≡ with_act old Synced → EachImage new (λ image. P (page_at image n))
each_as n P count None new lt fits h e = subst (λ told. EachImage told (λ image. P (page_at image n))) (sym e) tt
each_as n P count (Some old) new lt fits h e =
    each_weaker (λ image. page_at image n ≡ (state_of old n).now) (λ image. P (page_at image n)) new (λ image same. subst P (sym same) h.0)
    (settled n (state_of old n).now count (Some old) new lt fits (refl, h.1) e)
