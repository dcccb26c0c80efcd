-- How the pages of a slot are read, and what was read stands together in some image.
use Rattle.std.proofs.Common.{◌≡◌, ℕ, zero, suc, ◌+◌, ◌-◌, ◌*◌, ◌<◌, ◌≤◌, min, Bool, true, false, List, [], ◌∷◌, ◌++◌, length, take, get_or-set_other, set, refl, sym, ◌∙◌, ap, subst, arith, length-append, Option, Some, None, IfSome}
use Rattle.std.proofs.lemmas.List.{take_all, take_min, take-append-le, append-nil}
use Rattle.sha2.specs.Sha256.{sha256}
use Rattle.sha2.specs.declared.Sha256.{Sha256}
use Rattle.sha2.specs.Hashers.{Holds256}
use Rattle.abr_record.specs.declared.Slot.{Slot}
use Rattle.disk_model.specs.Past.{Page, Pages, page_at, Past, IsPast, state_of, MayRead}
use Rattle.disk_model.specs.Images.{SomeImage, LastsOver}
use Rattle.disk_model.proofs.ReadPages.{some_each, some_weaker, read_more}
use Rattle.image_layout.specs.declared.geometry.Geometry.{Geometry}
use Rattle.image_layout.specs.declared.ImageKind.{ImageKind}
use Rattle.image_layout.specs.declared.ImageKind.TheVariants.{Zbi, Vbmeta}
use Rattle.image_layout.specs.declared.ImageSum.{ImageSum}
use Rattle.image_layout.specs.declared.Sys.{Sys}
use Rattle.slot_disk.specs.Areas.{area_start, area_size, header_page, row_bytes, image_bytes}
use Rattle.slot_disk.specs.Header.{IsHeader}
use Rattle.slot_disk.specs.Slots.{HasImage, HasSystem}
use Rattle.slot_disk.specs.Steps.{Heads, Stands, Says}
use Rattle.slot_disk.proofs.Joined.{Below, From, some_split, each_any}
use Rattle.slot_disk.proofs.SystemLemmas.{row_depends, row_split, image_depends, area_behind}

-- the front of two lists that reaches into the second
take-append : (n : ℕ) (xs ys : List ℕ) → length xs ≤ n → take n (xs ++ ys) ≡ xs ++ take (n - length xs) ys
take-append n [] ys within = ap (λ (k : ℕ). take k ys) (omega arith)
take-append zero (x ∷ xs) ys within = absurd (omega (arith, within))
take-append (suc n) (x ∷ xs) ys within =
    ap (λ (rest : List ℕ). x ∷ rest) (take-append n xs ys (omega (arith, within)))
    ∙ ap (λ (k : ℕ). x ∷ (xs ++ take k ys)) (omega arith)

-- The first k pages of a row are whole, and the hasher holds what they have of the image.
pub record HoldsRow (hasher : Sha256) (len first k : ℕ) (image : Pages) : Type 0 where
  pub whole : length (row_bytes first k image) ≡ 4096 * k
  pub holds : Holds256 hasher (take len (row_bytes first k image))

row_nothing : (hasher : Sha256) (len first : ℕ) (image : Pages) → Holds256 hasher [] → HoldsRow hasher len first 0 image
unfolding row_bytes
row_nothing hasher len first image holds = record { whole = refl; holds = subst (λ (l : List ℕ). Holds256 hasher l) (sym (take_all len [] (omega arith))) holds }

-- nothing is read yet
pub row_none : (hasher : Sha256) (len first : ℕ) (told : Option Past) → Holds256 hasher [] → SomeImage told (HoldsRow hasher len first 0)
row_none hasher len first told holds =
    some_weaker (λ image. Unit {0}) (HoldsRow hasher len first 0) told (λ image _. row_nothing hasher len first image holds) (some_each (λ image. Unit {0}) told (each_any told))

row_lasts : (hasher : Sha256) (len first k : ℕ) → LastsOver (λ n. n ≡ first + k) (HoldsRow hasher len first k)
row_lasts hasher len first k = λ image n bytes at inside row.
    let same : row_bytes first k image ≡ row_bytes first k (set image n bytes) = row_depends first k image (set image n bytes) (λ m low high. sym (get_or-set_other image n m bytes [] (λ e. omega (arith, e, at, high)))) in
    record {
      whole = ap length (sym same) ∙ row.whole;
      holds = subst (λ (l : List ℕ). Holds256 hasher (take len l)) same row.holds;
    }

row_one : (n : ℕ) (image : Pages) → row_bytes n 1 image ≡ page_at image n
unfolding row_bytes
row_one n image = append-nil (page_at image (n + 0)) ∙ ap (page_at image) (omega arith)

-- one page more is read
row_step : (old new : Sha256) (len first k part : ℕ) (page : Page) (image : Pages) → length page ≡ 4096 → 4096 * k ≤ len → part ≡ min (len - 4096 * k) 4096 → ((m : List ℕ) → Holds256 old m → Holds256 new (m ++ take part page)) → HoldsRow old len first k image → page_at image (first + k) ≡ page → HoldsRow new len first (k + 1) image
row_step old new len first k part page image full within part_is fed row is =
    let front : List ℕ = row_bytes first k image in
    let all : row_bytes first (k + 1) image ≡ front ++ page = row_split first k 1 image ∙ ap (λ (l : List ℕ). front ++ l) (row_one (first + k) image ∙ is) in
    let before : take len front ≡ front = take_all len front (omega (arith, row.whole)) in
    let rest : take part page ≡ take (len - length front) page =
    ap (λ (k : ℕ). take k page) part_is ∙ ap (λ (n : ℕ). take (min (len - 4096 * k) n) page) (sym full) ∙ take_min (len - 4096 * k) page ∙ ap (λ (n : ℕ). take (len - n) page) (sym row.whole) in
    let bytes : take len front ++ take part page ≡ take len (row_bytes first (k + 1) image) =
    ap (λ (l : List ℕ). l ++ take part page) before ∙ ap (λ (l : List ℕ). front ++ l) rest
    ∙ sym (take-append len front page (omega (arith, row.whole))) ∙ ap (take len) (sym all) in
    record {
      whole = ap length all ∙ length-append front page ∙ omega (arith, row.whole, full);
      holds = subst (λ (l : List ℕ). Holds256 new l) bytes (fed (take len front) row.holds);
    }

pub row_more : (old new : Sha256) (len first k part count : ℕ) (page : Page) (told : Option Past) → first + k < count → IfSome told (IsPast count) → length page ≡ 4096 → 4096 * k ≤ len → part ≡ min (len - 4096 * k) 4096 → ((m : List ℕ) → Holds256 old m → Holds256 new (m ++ take part page)) → IfSome told (λ past. MayRead (state_of past (first + k)) page) → SomeImage told (HoldsRow old len first k) → SomeImage told (HoldsRow new len first (k + 1))
row_more old new len first k part count page told inside fits full within part_is fed may row =
    some_weaker (λ image. HoldsRow old len first k image × (page_at image (first + k) ≡ page)) (HoldsRow new len first (k + 1)) told
    (λ image found. row_step old new len first k part page image full within part_is fed found.0 found.1)
    (read_more (HoldsRow old len first k) (first + k) page count told inside fits (row_lasts old len first k) row may)

-- all is read
pub row_end : (hasher : Sha256) (sha : List ℕ) (len first k count : ℕ) (told : Option Past) → len ≤ 4096 * k → k ≤ count → ((m : List ℕ) → Holds256 hasher m → sha ≡ sha256 m) → SomeImage told (HoldsRow hasher len first k) → SomeImage told (λ image. sha ≡ sha256 (take len (row_bytes first count image)))
row_end hasher sha len first k count told enough within digest row =
    some_weaker (HoldsRow hasher len first k) (λ image. sha ≡ sha256 (take len (row_bytes first count image))) told
    (λ image has.
    let more : row_bytes first count image ≡ row_bytes first k image ++ row_bytes (first + k) (count - k) image =
    ap (λ (n : ℕ). row_bytes first n image) {x = count} {y = k + (count - k)} (omega arith) ∙ row_split first k (count - k) image in
    let same : take len (row_bytes first count image) ≡ take len (row_bytes first k image) =
    ap (take len) more ∙ take-append-le len (row_bytes first k image) (row_bytes (first + k) (count - k) image) (omega (arith, has.whole)) in
    digest (take len (row_bytes first k image)) has.holds ∙ ap sha256 (sym same))
    row

-- ---- an image and a slot

-- whether an image stands in its area
pub says_longer : (g : Geometry) (slot : Slot) (kind : ImageKind) (sum : ImageSum) (told : Option Past) → area_size g kind < sum.len → SomeImage told (Says false (HasImage g slot kind sum))
says_longer g slot kind sum told long =
    some_weaker (λ image. Unit {0}) (Says false (HasImage g slot kind sum)) told (λ image _ has. omega (arith, has.room, long)) (some_each (λ image. Unit {0}) told (each_any told))

pub says_sha : (g : Geometry) (slot : Slot) (kind : ImageKind) (sum : ImageSum) (sha : List ℕ) (same : Bool) (told : Option Past) → sum.len ≤ area_size g kind → (same ≡ true → sha ≡ sum.sha) → (same ≡ false → sha ≡ sum.sha → ⊥) → SomeImage told (λ image. sha ≡ sha256 (image_bytes g slot kind sum.len image)) → SomeImage told (Says same (HasImage g slot kind sum))
says_sha g slot kind sum sha true told room is_so is_not read =
    some_weaker (λ image. sha ≡ sha256 (image_bytes g slot kind sum.len image)) (HasImage g slot kind sum) told
    (λ image is. record { room = room; sha = sym is ∙ is_so refl }) read
says_sha g slot kind sum sha false told room is_so is_not read =
    some_weaker (λ image. sha ≡ sha256 (image_bytes g slot kind sum.len image)) (Says false (HasImage g slot kind sum)) told
    (λ image is has. is_not refl (is ∙ has.sha)) read

module _ (g : Geometry) (slot : Slot) (sys : Sys) where
  abbrev pub Heading : Pages → Type 0
  Heading image = IsHeader (page_at image (header_page g slot)) sys

  heading_below : Below (header_page g slot + 1) Heading
  heading_below = λ image other same h. subst (λ (p : Page). IsHeader p sys) (same (header_page g slot) (omega arith)) h

  image_from : (kind : ImageKind) (sum : ImageSum) → From (header_page g slot + 1) (HasImage g slot kind sum)
  image_from kind sum = λ image other same has. image_depends g slot kind sum image other (λ n low high. same n (omega (arith, low, area_behind g slot kind))) has

  not_from : (kind : ImageKind) (sum : ImageSum) → From (header_page g slot + 1) (Says false (HasImage g slot kind sum))
  not_from kind sum = λ image other same not has. not (image_from kind sum other image (λ n le. sym (same n le)) has)

  -- the header names one system, so an image that isn't its is none's
  pub bad_image : (kind : ImageKind) (sum : Sys → ImageSum) (told : Option Past) (count : ℕ) → ((s : Sys) (image : Pages) → HasSystem g slot s image → HasImage g slot kind (sum s) image) → IfSome told (IsPast count) → SomeImage told Heading → SomeImage told (Says false (HasImage g slot kind (sum sys))) → SomeImage told (Stands g slot None)
  bad_image kind sum told count part fits head bad =
      some_weaker (λ image. Heading image × Says false (HasImage g slot kind (sum sys)) image) (Stands g slot None) told
      (λ image both good.
      let same : good.0 ≡ sys = good.1.header.names ∙ sym both.0.names in
      both.1 (subst (λ (s : Sys). HasImage g slot kind (sum s) image) same (part good.0 image good.1)))
      (some_split (header_page g slot + 1) count Heading (Says false (HasImage g slot kind (sum sys))) told fits heading_below (not_from kind (sum sys)) head bad)

  zbi_below : Below (area_start g slot Vbmeta) (HasImage g slot Zbi sys.zbi)
  zbi_below = λ image other same has. image_depends g slot Zbi sys.zbi image other (λ n low high. same n (omega (arith, high))) has

  vbmeta_from : From (area_start g slot Vbmeta) (HasImage g slot Vbmeta sys.vbmeta)
  vbmeta_from = λ image other same has. image_depends g slot Vbmeta sys.vbmeta image other (λ n low high. same n low) has

  pub good_slot : (told : Option Past) (count : ℕ) → IfSome told (IsPast count) → SomeImage told Heading → SomeImage told (HasImage g slot Zbi sys.zbi) → SomeImage told (HasImage g slot Vbmeta sys.vbmeta) → SomeImage told (Stands g slot (Some sys))
  good_slot told count fits head zbi vbmeta =
      let Both : Pages → Type 0 = λ image. HasImage g slot Zbi sys.zbi image × HasImage g slot Vbmeta sys.vbmeta image in
      some_weaker (λ image. Heading image × Both image) (HasSystem g slot sys) told
      (λ image all. record { header = all.0; zbi = all.1.0; vbmeta = all.1.1 })
      (some_split (header_page g slot + 1) count Heading Both told fits heading_below
      (λ image other same both. (image_from Zbi sys.zbi image other same both.0, image_from Vbmeta sys.vbmeta image other same both.1)) head
      (some_split (area_start g slot Vbmeta) count (HasImage g slot Zbi sys.zbi) (HasImage g slot Vbmeta sys.vbmeta) told fits zbi_below vbmeta_from zbi vbmeta))

-- a page that is no header
pub no_header : (g : Geometry) (slot : Slot) (told : Option Past) → SomeImage told (λ image. Heads (page_at image (header_page g slot)) None) → SomeImage told (Stands g slot None)
no_header g slot told none =
    some_weaker (λ image. Heads (page_at image (header_page g slot)) None) (Stands g slot None) told (λ image not good. not good.0 good.1.header) none
