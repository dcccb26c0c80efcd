-- What a slot of an image depends on, and what settled pages make of it.
use Rattle.std.proofs.Common.{◌≡◌, ◌≢◌, ℕ, zero, suc, ◌+◌, ◌-◌, ◌*◌, ◌<◌, ◌≤◌, List, ◌++◌, length, take, replicate, refl, sym, ◌∙◌, ap, subst, arith, append_assoc, Option}
use Rattle.std.specs.List.{flat_map, range_with_len}
use Rattle.std.proofs.lemmas.List.{take_at}
use Rattle.sha2.specs.Sha256.{sha256}
use Rattle.abr_record.specs.declared.Slot.{Slot}
use Rattle.abr_record.specs.declared.Slot.TheVariants.{A, B, R}
use Rattle.disk_model.specs.Past.{Page, Pages, page_at, Past}
use Rattle.disk_model.specs.Images.{EachImage, AllSettled}
use Rattle.disk_model.proofs.Moments.{each_weaker}
use Rattle.disk_model.proofs.ManyPages.{each_settled}
use Rattle.image_layout.specs.declared.geometry.Geometry.{Geometry}
use Rattle.image_layout.specs.declared.geometry.TheConstants.{RECORD_PAGE}
use Rattle.image_layout.specs.declared.ImageKind.{ImageKind}
use Rattle.image_layout.specs.declared.ImageKind.TheVariants.{Zbi, Vbmeta}
use Rattle.image_layout.specs.declared.ImageSum.{ImageSum}
use Rattle.image_layout.specs.declared.Sys.{Sys}
use Rattle.image_layout.specs.Geometry.{IsIn, slot_region, slot_start, data_start}
use Rattle.image_layout.specs.Sums.{image_sum}
use Rattle.slot_disk.specs.Areas.{area_pages, area_start, area_region, area_size, header_page, row_bytes}
use Rattle.slot_disk.specs.Header.{IsHeader}
use Rattle.slot_disk.specs.Slots.{HasImage, HasSystem}
use Rattle.slot_disk.specs.Filling.{page_of, page_count}
use Rattle.slot_disk.proofs.PageBytes.{flat_map-page_of}

-- lists of a row of numbers
flat_map-same : (f h : ℕ → List ℕ) (a n : ℕ) → ((i : ℕ) → a ≤ i → i < a + n → f i ≡ h i) → flat_map f (range_with_len a n) ≡ flat_map h (range_with_len a n)
flat_map-same f h a zero same = refl
flat_map-same f h a (suc n) same =
    ap (λ (l : List ℕ). l ++ flat_map f (range_with_len (a + 1) n)) (same a (omega arith) (omega arith))
    ∙ ap (λ (l : List ℕ). h a ++ l) (flat_map-same f h (a + 1) n (λ i low high. same i (omega (arith, low)) (omega (arith, high))))

flat_map-shift : (f h : ℕ → List ℕ) (k a n : ℕ) → ((i : ℕ) → f (k + i) ≡ h i) → flat_map f (range_with_len (a + k) n) ≡ flat_map h (range_with_len a n)
flat_map-shift f h k a zero same = refl
flat_map-shift f h k a (suc n) same =
    ap (λ (l : List ℕ). l ++ flat_map f (range_with_len (a + k + 1) n)) (ap f {x = a + k} {y = k + a} (omega arith) ∙ same a)
    ∙ ap (λ (l : List ℕ). h a ++ l) (ap (λ (j : ℕ). flat_map f (range_with_len j n)) {x = a + k + 1} {y = a + 1 + k} (omega arith) ∙ flat_map-shift f h k (a + 1) n same)

flat_map-add : (f : ℕ → List ℕ) (a k m : ℕ) → flat_map f (range_with_len a (k + m)) ≡ flat_map f (range_with_len a k) ++ flat_map f (range_with_len (a + k) m)
flat_map-add f a zero m =
    ap (λ (n : ℕ). flat_map f (range_with_len a n)) {x = 0 + m} {y = m} (omega arith)
    ∙ ap (λ (n : ℕ). flat_map f (range_with_len n m)) {x = a} {y = a + 0} (omega arith)
flat_map-add f a (suc k) m =
    ap (λ (n : ℕ). flat_map f (range_with_len a n)) {x = suc k + m} {y = suc (k + m)} (omega arith)
    ∙ ap (λ (l : List ℕ). f a ++ l) (flat_map-add f (a + 1) k m)
    ∙ sym (append_assoc (f a) (flat_map f (range_with_len (a + 1) k)) (flat_map f (range_with_len (a + 1 + k) m)))
    ∙ ap (λ (n : ℕ). (f a ++ flat_map f (range_with_len (a + 1) k)) ++ flat_map f (range_with_len n m)) {x = a + 1 + k} {y = a + suc k} (omega arith)

-- the bytes of a row depend on its pages alone
pub row_depends : (first count : ℕ) (image other : Pages) → ((n : ℕ) → first ≤ n → n < first + count → page_at image n ≡ page_at other n) → row_bytes first count image ≡ row_bytes first count other
unfolding row_bytes
row_depends first count image other same =
    flat_map-same (λ i. page_at image (first + i)) (λ i. page_at other (first + i)) 0 count (λ i low high. same (first + i) (omega arith) (omega (arith, high)))

-- a row in two parts
pub row_split : (first k m : ℕ) (image : Pages) → row_bytes first (k + m) image ≡ row_bytes first k image ++ row_bytes (first + k) m image
unfolding row_bytes
row_split first k m image =
    flat_map-add (λ i. page_at image (first + i)) 0 k m
    ∙ ap (λ (l : List ℕ). flat_map (λ i. page_at image (first + i)) (range_with_len 0 k) ++ l) (flat_map-shift (λ i. page_at image (first + i)) (λ i. page_at image (first + k + i)) k 0 m (λ i. ap (page_at image) (omega arith)))

-- a row whose first pages are those of an image begins with its bytes
pub row_begins : (first count : ℕ) (bytes : List ℕ) (image : Pages) → length bytes ≤ 4096 * count → ((i : ℕ) → i < page_count (length bytes) → page_at image (first + i) ≡ page_of bytes i) → take (length bytes) (row_bytes first count image) ≡ bytes
unfolding row_bytes
row_begins first count bytes image room are =
    let at : ℕ → List ℕ = λ i. page_at image (first + i) in
    let k : ℕ = page_count (length bytes) in
    let m : ℕ = count - k in
    let zeros : List ℕ = replicate (4096 * k - length bytes) 0 in
    let behind : List ℕ = flat_map at (range_with_len (0 + k) m) in
    let split : flat_map at (range_with_len 0 count) ≡ flat_map at (range_with_len 0 k) ++ behind =
    ap (λ (n : ℕ). flat_map at (range_with_len 0 n)) {x = count} {y = k + m} (omega arith) ∙ flat_map-add at 0 k m in
    let front : flat_map at (range_with_len 0 k) ≡ bytes ++ zeros =
    flat_map-same at (page_of bytes) 0 k (λ i low high. are i (omega (arith, high))) ∙ flat_map-page_of bytes k (omega arith) in
    ap (take (length bytes)) (split ∙ ap (λ (l : List ℕ). l ++ behind) front ∙ append_assoc bytes zeros behind)
    ∙ take_at bytes (zeros ++ behind) (length bytes) refl

-- the areas of a slot lie in it, behind its header
pub area_within : (g : Geometry) (slot : Slot) (kind : ImageKind) (n : ℕ) → area_start g slot kind ≤ n → n < area_start g slot kind + area_pages g kind → IsIn (slot_region g slot) n
area_within g slot Zbi n low high = (omega (arith, low), omega (arith, high))
area_within g slot Vbmeta n low high = (omega (arith, low), omega (arith, high))

pub area_behind : (g : Geometry) (slot : Slot) (kind : ImageKind) → header_page g slot < area_start g slot kind
area_behind g slot Zbi = omega arith
area_behind g slot Vbmeta = omega arith

pub header_within : (g : Geometry) (slot : Slot) → IsIn (slot_region g slot) (header_page g slot)
header_within g slot = (omega arith, omega arith)

-- two areas of a slot
pub areas_apart : (g : Geometry) (slot : Slot) (n : ℕ) → IsIn (area_region g slot Zbi) n → IsIn (area_region g slot Vbmeta) n → ⊥
areas_apart g slot n a b = omega (arith, a.0, a.1, b.0, b.1)

-- two slots, and the pages before them and behind them
pub slots_apart : (g : Geometry) (a b : Slot) (n : ℕ) → a ≢ b → IsIn (slot_region g a) n → IsIn (slot_region g b) n → ⊥
slots_apart g A A n ne x y = ne refl
slots_apart g A B n ne x y = omega (arith, x.0, x.1, y.0, y.1)
slots_apart g A R n ne x y = omega (arith, x.0, x.1, y.0, y.1)
slots_apart g B A n ne x y = omega (arith, x.0, x.1, y.0, y.1)
slots_apart g B B n ne x y = ne refl
slots_apart g B R n ne x y = omega (arith, x.0, x.1, y.0, y.1)
slots_apart g R A n ne x y = omega (arith, x.0, x.1, y.0, y.1)
slots_apart g R B n ne x y = omega (arith, x.0, x.1, y.0, y.1)
slots_apart g R R n ne x y = ne refl

pub slot_bounds : (g : Geometry) (slot : Slot) (n : ℕ) → IsIn (slot_region g slot) n → (slot_start g A ≤ n) × (n < data_start g)
slot_bounds g A n x = (omega (arith, x.0), omega (arith, x.1))
slot_bounds g B n x = (omega (arith, x.0), omega (arith, x.1))
slot_bounds g R n x = (omega (arith, x.0), omega (arith, x.1))

pub behind_record : (g : Geometry) (slot : Slot) (n : ℕ) → IsIn (slot_region g slot) n → RECORD_PAGE < n
behind_record g slot n x = omega (arith, (slot_bounds g slot n x).0)

-- An image of a slot depends on the pages of its area alone, and a system on those of the slot.
pub image_depends : (g : Geometry) (slot : Slot) (kind : ImageKind) (sum : ImageSum) (image other : Pages) → ((n : ℕ) → area_start g slot kind ≤ n → n < area_start g slot kind + area_pages g kind → page_at image n ≡ page_at other n) → HasImage g slot kind sum image → HasImage g slot kind sum other
image_depends g slot kind sum image other same has = record {
  room = has.room;
  sha = ap (λ (l : List ℕ). sha256 (take sum.len l)) (sym (row_depends (area_start g slot kind) (area_pages g kind) image other same)) ∙ has.sha;
}

pub system_depends : (g : Geometry) (slot : Slot) (sys : Sys) (image other : Pages) → ((n : ℕ) → IsIn (slot_region g slot) n → page_at image n ≡ page_at other n) → HasSystem g slot sys image → HasSystem g slot sys other
system_depends g slot sys image other same has = record {
  header = subst (λ (p : Page). IsHeader p sys) (same (header_page g slot) (header_within g slot)) has.header;
  zbi = image_depends g slot Zbi sys.zbi image other (λ n low high. same n (area_within g slot Zbi n low high)) has.zbi;
  vbmeta = image_depends g slot Vbmeta sys.vbmeta image other (λ n low high. same n (area_within g slot Vbmeta n low high)) has.vbmeta;
}

-- A slot has one system.
pub system_is_one : (g : Geometry) (slot : Slot) (s t : Sys) (image : Pages) → HasSystem g slot s image → HasSystem g slot t image → s ≡ t
system_is_one g slot s t image x y = x.header.names ∙ sym y.header.names

-- An image whose pages are settled stands in its area.
pub settled_image : (g : Geometry) (slot : Slot) (kind : ImageKind) (bytes : List ℕ) (sum : ImageSum) (told : Option Past) → length bytes ≤ area_size g kind → image_sum bytes ≡ sum → AllSettled told (λ i. area_start g slot kind + i) (page_of bytes) (page_count (length bytes)) → EachImage told (HasImage g slot kind sum)
settled_image g slot kind bytes sum told room is settled =
    let first : ℕ = area_start g slot kind in
    let k : ℕ = page_count (length bytes) in
    subst (λ (s : ImageSum). EachImage told (HasImage g slot kind s)) is
    (each_weaker (λ image. (i : ℕ) → i < k → page_at image (first + i) ≡ page_of bytes i) (HasImage g slot kind (image_sum bytes)) told
    (λ image are. record { room = room; sha = ap sha256 (row_begins first (area_pages g kind) bytes image room are) })
    (each_settled (λ i. first + i) (page_of bytes) k told settled))
