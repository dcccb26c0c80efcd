-- A super page and the bytes that it has.
use Rattle.std.proofs.Common.{◌≡◌, ℕ, zero, suc, ◌+◌, ◌-◌, ◌<◌, ◌≤◌, List, ◌++◌, length, get_or, take, drop, replicate, codes, Ok, sym, refl, ◌∙◌, ap, inl, inr, arith, w32, length-append, length-drop, take-take, take_at, drop_at, take-add, get_or-drop, get_or-take}
use Rattle.std.specs.Int.{to_le_bytes, from_le_bytes}
use Rattle.std.proofs.lemmas.List.{drop-take, length-take-le, length-replicate, get_or_past, get_or-append_right}
use Rattle.std.proofs.lemmas.Nat.{le_bytes_4, from_le_bytes-to_le_bytes_4}
use Rattle.std.proofs.lemmas.Bool.{cases_lt}
use Rattle.sha2.specs.Sha256.{sha256}
use Rattle.pkg_names.specs.Numbers.{number_at}
use Rattle.sha2.proofs.Facts256.{length-sha256}
use Rattle.image_layout.specs.declared.geometry.Geometry.{Geometry}
use Rattle.image_layout.specs.Geometry.{IsWithinLimits}
use Rattle.image_layout.specs.Super.{super_text, IsSuper, geometry_at, zero_page, IsMarked, HasRoom, Judges}

-- a part of a list ends a longer front
part_ends : (page : List ℕ) (at size : ℕ) → take (at + size) page ≡ take at page ++ take size (drop at page)
part_ends page at size = take-add at size page

below : (page : List ℕ) → length page ≡ 4096 → ((i : ℕ) → get_or page i 0 < 256) → (at i : ℕ) → at + 4 ≤ 4096 → get_or (take 4 (drop at page)) i 0 < 256
below page size fits at i room =
    elim (cases_lt i 4) [
      | inl lt ↦ rw (get_or-take 4 (drop at page) i 0 lt, get_or-drop at page i 0) (fits (at + i))
      | inr past ↦ rw (get_or_past (take 4 (drop at page)) i 0 (omega (arith, length-take-le 4 (drop at page) (omega (arith, length-drop at page, size))))) (omega arith)
    ]

-- where a number is read, its bytes stand
four : (page : List ℕ) → length page ≡ 4096 → ((i : ℕ) → get_or page i 0 < 256) → (at : ℕ) (n : ℕ) → at + 4 ≤ 4096 → n ≡ from_le_bytes w32 (take 4 (drop at page)) → take 4 (drop at page) ≡ to_le_bytes w32 n
four page size fits at n room is =
    sym (le_bytes_4 (take 4 (drop at page)) n (length-take-le 4 (drop at page) (omega (arith, length-drop at page, size))) (λ i. below page size fits at i room) is)

joined : (x y a b : List ℕ) → x ≡ a → y ≡ b → x ++ y ≡ a ++ b
joined x y a b e f = ap (λ (l : List ℕ). l ++ y) e ∙ ap (λ (l : List ℕ). a ++ l) f

-- A page that is marked and of layout 1 is spelled as the numbers that it has.
pub spelled : (page : List ℕ) → length page ≡ 4096 → ((i : ℕ) → get_or page i 0 < 256) → IsMarked page → number_at w32 page 8 ≡ 1 → (g : Geometry) → g ≡ geometry_at page → IsSuper page g
spelled page size fits marked layout g is =
    let part = four page size fits in
    let b : take 4 (drop 8 page) ≡ to_le_bytes w32 1 = part 8 1 (omega arith) (sym layout) in
    let c : take 4 (drop 12 page) ≡ to_le_bytes w32 g.blobs = part 12 g.blobs (omega arith) (ap (λ (g : Geometry). g.blobs) is) in
    let d : take 4 (drop 16 page) ≡ to_le_bytes w32 g.data_pages = part 16 g.data_pages (omega arith) (ap (λ (g : Geometry). g.data_pages) is) in
    let e : take 4 (drop 20 page) ≡ to_le_bytes w32 g.slot_pages = part 20 g.slot_pages (omega arith) (ap (λ (g : Geometry). g.slot_pages) is) in
    let f8 : take 12 page ≡ codes "FPKGIMG1" ++ to_le_bytes w32 1 = part_ends page 8 4 ∙ joined _ _ _ _ marked.magic b in
    let f12 : take 16 page ≡ codes "FPKGIMG1" ++ to_le_bytes w32 1 ++ to_le_bytes w32 g.blobs = part_ends page 12 4 ∙ joined _ _ _ _ f8 c in
    let f16 : take 20 page ≡ codes "FPKGIMG1" ++ to_le_bytes w32 1 ++ to_le_bytes w32 g.blobs ++ to_le_bytes w32 g.data_pages = part_ends page 16 4 ∙ joined _ _ _ _ f12 d in
    let text : take 24 page ≡ super_text g = part_ends page 20 4 ∙ joined _ _ _ _ f16 e in
    part_ends page 24 32 ∙ joined _ _ _ _ text (marked.digest ∙ ap sha256 text)

-- what is known of a front is known of its parts
parts : (page xs ys : List ℕ) (n k : ℕ) → take (n + k) page ≡ xs ++ ys → length xs ≡ n → (take n page ≡ xs) × (take k (drop n page) ≡ ys)
parts page xs ys n k e size =
    (sym (take-take n (n + k) page (omega arith)) ∙ ap (take n) e ∙ take_at xs ys n size, sym (drop-take n k page) ∙ ap (drop n) e ∙ drop_at xs ys n size)

pub same : (g : Geometry) (x y z : ℕ) → g.blobs ≡ x → g.data_pages ≡ y → g.slot_pages ≡ z → g ≡ record { blobs = x; data_pages = y; slot_pages = z }
same g x y z e f h =
    ap (λ (n : ℕ). record { blobs = n; data_pages = g.data_pages; slot_pages = g.slot_pages }) e
    ∙ ap (λ (n : ℕ). record { blobs = x; data_pages = n; slot_pages = g.slot_pages }) f
    ∙ ap (λ (n : ℕ). record { blobs = x; data_pages = y; slot_pages = n }) h

-- What is spelled so has these numbers, and is marked.
pub numbers : (page : List ℕ) (g : Geometry) → IsSuper page g → IsWithinLimits g → IsMarked page × (number_at w32 page 8 ≡ 1) × (g ≡ geometry_at page)
numbers page g is limits =
    let m : List ℕ = codes "FPKGIMG1" in
    let a : List ℕ = to_le_bytes w32 1 in
    let b : List ℕ = to_le_bytes w32 g.blobs in
    let c : List ℕ = to_le_bytes w32 g.data_pages in
    let d : List ℕ = to_le_bytes w32 g.slot_pages in
    let whole = parts page (super_text g) (sha256 (super_text g)) 24 32 is refl in
    let p20 = parts page (m ++ a ++ b ++ c) d 20 4 whole.0 refl in
    let p16 = parts page (m ++ a ++ b) c 16 4 p20.0 refl in
    let p12 = parts page (m ++ a) b 12 4 p16.0 refl in
    let p8 = parts page m a 8 4 p12.0 refl in
    let blobs : number_at w32 page 12 ≡ g.blobs = ap (from_le_bytes w32) p12.1 ∙ from_le_bytes-to_le_bytes_4 g.blobs (omega (arith, limits.blobs_most)) in
    let data_pages : number_at w32 page 16 ≡ g.data_pages = ap (from_le_bytes w32) p16.1 ∙ from_le_bytes-to_le_bytes_4 g.data_pages (omega (arith, limits.data_most)) in
    let slot_pages : number_at w32 page 20 ≡ g.slot_pages = ap (from_le_bytes w32) p20.1 ∙ from_le_bytes-to_le_bytes_4 g.slot_pages (omega (arith, limits.slot_most)) in (
      record { magic = p8.0; digest = whole.1 ∙ ap sha256 (sym whole.0) },
      ap (from_le_bytes w32) p8.1 ∙ from_le_bytes-to_le_bytes_4 1 (omega arith),
      same g (number_at w32 page 12) (number_at w32 page 16) (number_at w32 page 20) (sym blobs) (sym data_pages) (sym slot_pages),
    )

-- and is judged well where there is room
pub well : (page : List ℕ) (g : Geometry) → IsSuper page g → (pages : ℕ) → HasRoom g pages → Judges page pages (Ok g)
well page g is pages room =
    let has = numbers page g is room.limits in
    (has.0, has.1, has.2, room)

-- a page of zeros
pub length-zero_page : length zero_page ≡ 4096
unfolding zero_page
length-zero_page = length-replicate {A = ℕ} 4096 0

all_zero : (count i : ℕ) → get_or (replicate {A = ℕ} count 0) i 0 ≡ 0
all_zero zero i = refl
all_zero (suc count) zero = refl
all_zero (suc count) (suc i) = all_zero count i

pub zero_page-zero : (i : ℕ) → get_or zero_page i 0 ≡ 0
unfolding zero_page
zero_page-zero i = all_zero 4096 i

-- a head before the rest of a page of zeros
pub headed : (head : List ℕ) (zeros : List ℕ) → length head ≡ 56 → zeros ≡ zero_page → (take 56 (head ++ drop 56 zeros) ≡ head) × ((i : ℕ) → 56 ≤ i → get_or (head ++ drop 56 zeros) i 0 ≡ 0)
headed head zeros size is = (
  take_at head (drop 56 zeros) 56 size,
  λ i past. get_or-append_right head (drop 56 zeros) 56 i 0 size past ∙ get_or-drop 56 zeros (i - 56) 0 ∙ ap (λ (l : List ℕ). get_or l (56 + (i - 56)) 0) is ∙ zero_page-zero (56 + (i - 56)),
)

pub length-head : (g : Geometry) → length (super_text g ++ sha256 (super_text g)) ≡ 56
length-head g = length-append (super_text g) (sha256 (super_text g)) ∙ ap (λ (n : ℕ). 24 + n) (length-sha256 (super_text g))

-- a page of zeros after the head is written over its front
pub written : (g : Geometry) (head zeros : List ℕ) → head ≡ super_text g ++ sha256 (super_text g) → zeros ≡ zero_page → IsSuper (head ++ drop 56 zeros) g × ((i : ℕ) → 56 ≤ i → get_or (head ++ drop 56 zeros) i 0 ≡ 0)
written g head zeros is is_zero =
    let both = headed head zeros (ap length is ∙ length-head g) is_zero in
    (both.0 ∙ is, both.1)
