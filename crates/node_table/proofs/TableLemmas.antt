-- The table of an image: it is one, it depends on its own pages, and what writes leave of it.
use Rattle.std.proofs.Common.{◌≡◌, ◌⊎◌, ℕ, ◌+◌, ◌*◌, ◌/◌, ◌%◌, ◌<◌, ◌≤◌, Bool, true, false, not, List, length, take, sym, refl, ◌∙◌, ap, subst, inl, inr, arith}
use Rattle.std.proofs.lemmas.Bool.{cases_lt, false≢true}
use Rattle.std.proofs.lemmas.List.{length-take-le}
use Rattle.disk_model.specs.Past.{Page, Pages, page_at}
use Rattle.disk_model.specs.Images.{LastsOver}
use Rattle.disk_model.proofs.Regions.{lasts_apart}
use Rattle.image_layout.specs.declared.geometry.Geometry.{Geometry}
use Rattle.image_layout.specs.declared.geometry.TheConstants.{SELECTOR_PAGE}
use Rattle.image_layout.specs.declared.Place.{Place}
use Rattle.image_layout.specs.declared.Place.TheVariants as place
use Rattle.image_layout.specs.Geometry.{IsWithinLimits, IsIn, table_start, table_region, data_start}
use Rattle.node_table.specs.declared.entry.Entry.{Entry}
use Rattle.node_table.specs.declared.rows.Row.{Row}
use Rattle.node_table.specs.Spelling.{Selects, row_on, link_on, row_at, link_at, IsFirstBad}
use Rattle.node_table.specs.Table.{HasTable, IsDamaged, IsTablePage}
use Rattle.node_table.specs.Steps.{row_from, link_from, HasCopy, LaysOut}
use Rattle.node_table.proofs.Listing.{lists_same, bad_same, lists_one, lists_take, no_entry}

-- a page selects one copy
pub selects_one : (page : Page) (s t : Bool) → Selects page s → Selects page t → s ≡ t
selects_one page true true a b = refl
selects_one page false false a b = refl
selects_one page true false a b = absurd (cc (sym a ∙ b))
selects_one page false true a b = absurd (cc (sym a ∙ b))

-- the row of an image, by its page
place_of_row : (g : Geometry) (i : ℕ) → g.blobs % 64 ≡ 0 → i < g.blobs → i / 64 < g.blobs / 64
place_of_row g i step lt = omega (arith, step, lt)

place_of_link : (g : Geometry) (p : ℕ) → g.data_pages % 1024 ≡ 0 → p < g.data_pages → p / 1024 < g.data_pages / 1024
place_of_link g p step lt = omega (arith, step, lt)

pub rows_are : (g : Geometry) (second : Bool) (rows : List Row) (links : List ℕ) (image : Pages) → IsWithinLimits g → HasCopy g second rows links image → (i : ℕ) → i < g.blobs → row_from rows i ≡ row_at g second image i
rows_are g second rows links image limits copy i lt =
    sym (copy.row_pages (i / 64) (place_of_row g i limits.blobs_step lt) (i % 64) (omega arith)
    ∙ ap (row_from rows) {x = 64 * (i / 64) + i % 64} {y = i} (omega arith))

pub links_are : (g : Geometry) (second : Bool) (rows : List Row) (links : List ℕ) (image : Pages) → IsWithinLimits g → HasCopy g second rows links image → (p : ℕ) → p < g.data_pages → link_from links p ≡ link_at g second image p
links_are g second rows links image limits copy p lt =
    sym (copy.link_pages (p / 1024) (place_of_link g p limits.data_step lt) (p % 1024) (omega arith)
    ∙ ap (link_from links) {x = 1024 * (p / 1024) + p % 1024} {y = p} (omega arith))

-- An image whose selected copy has these rows and links has the table that they lay out.
pub table_from : (g : Geometry) (second : Bool) (rows : List Row) (links : List ℕ) (entries : List Entry) (image : Pages) → IsWithinLimits g → Selects (page_at image SELECTOR_PAGE) second → HasCopy g second rows links image → LaysOut g rows links entries → HasTable g second entries image
table_from g second rows links entries image limits selected copy laid = record {
  selected = selected;
  listed = lists_same g (row_from rows) (row_at g second image) (link_from links) (link_at g second image) entries (rows_are g second rows links image limits copy) (links_are g second rows links image limits copy) laid.listed;
  ends = λ lt. ap (λ (r : Row). r.used) (sym (rows_are g second rows links image limits copy (length entries) lt)) ∙ laid.ends lt;
}

pub damage_from : (g : Geometry) (second : Bool) (rows : List Row) (links : List ℕ) (i page : ℕ) (image : Pages) → IsWithinLimits g → Selects (page_at image SELECTOR_PAGE) second → HasCopy g second rows links image → IsFirstBad g (row_from rows) (link_from links) i → page ≡ table_start g second + i / 64 → IsDamaged g (place.Table page) image
damage_from g second rows links i page image limits selected copy bad is =
    (second, i, selected, bad_same g (row_from rows) (row_at g second image) (link_from links) (link_at g second image) i (rows_are g second rows links image limits copy) (links_are g second rows links image limits copy) bad, is)

-- An image has one table.
ends_one : (g : Geometry) (second : Bool) (a b : List Entry) (image : Pages) → HasTable g second a image → HasTable g second b image → length a < length b → ⊥
ends_one g second a b image x y lt =
    let room : length a < g.blobs = omega (arith, lt, y.listed.sound.room) in
    false≢true (sym (x.ends room) ∙ ap (λ (r : Row). r.used) (y.listed.rows (length a) no_entry lt))

same_copy : (g : Geometry) (second : Bool) (a b : List Entry) (image : Pages) → HasTable g second a image → HasTable g second b image → a ≡ b
same_copy g second a b image x y =
    lists_one g (row_at g second image) (link_at g second image) a b x.listed y.listed
    (elim (cases_lt (length a) (length b)) [
      | inl lt ↦ absurd (ends_one g second a b image x y lt)
      | inr ge ↦ elim (cases_lt (length b) (length a)) [
        | inl lt ↦ absurd (ends_one g second b a image y x lt)
        | inr le ↦ omega arith
      ]
    ])

pub one_table : (g : Geometry) (s t : Bool) (a b : List Entry) (image : Pages) → HasTable g s a image → HasTable g t b image → (s ≡ t) × (a ≡ b)
one_table g s t a b image x y =
    let e = selects_one (page_at image SELECTOR_PAGE) s t x.selected y.selected in
    (e, same_copy g t a b image (subst (λ (c : Bool). HasTable g c a image) e x) y)

-- An image that has a table is not damaged.
row_past : (g : Geometry) (second : Bool) (entries : List Entry) (i : ℕ) (image : Pages) → HasTable g second entries image → IsFirstBad g (row_at g second image) (link_at g second image) i → length entries ≤ i → ⊥
row_past g second entries i image has bad ge =
    let room : length entries < g.blobs = omega (arith, bad.within, ge) in
    let unused = has.ends room in
    elim (cases_lt (length entries) i) [
      | inl lt ↦ false≢true (sym unused ∙ ap (λ (r : Row). r.used) (bad.before.2.rows (length entries) no_entry (omega (arith, lt, bad.before.1))))
      | inr le ↦ let same : i ≡ length entries = omega (arith, ge, le) in false≢true (sym unused ∙ ap (λ (n : ℕ). (row_at g second image n).used) (sym same) ∙ bad.used)
    ]

row_of_damage : (g : Geometry) (second : Bool) (entries : List Entry) (i : ℕ) (image : Pages) → HasTable g second entries image → IsFirstBad g (row_at g second image) (link_at g second image) i → ⊥
row_of_damage g second entries i image has bad =
    elim (cases_lt i (length entries)) [
      | inl lt ↦ bad.bad (take (i + 1) entries) (length-take-le (i + 1) entries (omega (arith, lt))) (lists_take g (row_at g second image) (link_at g second image) (i + 1) entries (omega (arith, lt)) has.listed)
      | inr ge ↦ row_past g second entries i image has bad ge
    ]

pub not_damaged : (g : Geometry) (second : Bool) (entries : List Entry) (found : Place) (image : Pages) → HasTable g second entries image → IsDamaged g found image → ⊥
not_damaged g second entries place.Super image has damage = damage
not_damaged g second entries place.Selector image has damage = damage second has.selected
not_damaged g second entries (place.Table page) image has damage =
    let e = selects_one (page_at image SELECTOR_PAGE) second damage.0 has.selected damage.2 in
    row_of_damage g damage.0 entries damage.1 image (subst (λ (c : Bool). HasTable g c entries image) e has) damage.3
not_damaged g second entries (place.Blob root) image has damage = damage
not_damaged g second entries (place.SlotPlace slot) image has damage = damage

-- The table depends on the selector and the pages of its copy.
abbrev pub Own : Geometry → Bool → ℕ → Type 0
Own g second n = (n ≡ SELECTOR_PAGE) ⊎ IsIn (table_region g second) n

own_row : (g : Geometry) (second : Bool) (i : ℕ) → IsWithinLimits g → i < g.blobs → Own g second (table_start g second + i / 64)
own_row g second i limits lt = inr (omega arith, omega (arith, place_of_row g i limits.blobs_step lt))

own_link : (g : Geometry) (second : Bool) (p : ℕ) → IsWithinLimits g → p < g.data_pages → Own g second (table_start g second + g.blobs / 64 + p / 1024)
own_link g second p limits lt = inr (omega arith, omega (arith, place_of_link g p limits.data_step lt))

pub depends : (g : Geometry) (second : Bool) (entries : List Entry) → IsWithinLimits g → (image other : Pages) → ((n : ℕ) → Own g second n → page_at image n ≡ page_at other n) → HasTable g second entries image → HasTable g second entries other
depends g second entries limits image other same has =
    let rows : (i : ℕ) → i < g.blobs → row_at g second image i ≡ row_at g second other i = λ i lt. ap (λ (page : Page). row_on page (i % 64)) (same (table_start g second + i / 64) (own_row g second i limits lt)) in
    let links : (p : ℕ) → p < g.data_pages → link_at g second image p ≡ link_at g second other p = λ p lt. ap (λ (page : Page). link_on page (p % 1024)) (same (table_start g second + g.blobs / 64 + p / 1024) (own_link g second p limits lt)) in
    record {
      selected = subst (λ (page : Page). Selects page second) (same SELECTOR_PAGE (inl refl)) has.selected;
      listed = lists_same g (row_at g second image) (row_at g second other) (link_at g second image) (link_at g second other) entries rows links has.listed;
      ends = λ lt. ap (λ (r : Row). r.used) (sym (rows (length entries) lt)) ∙ has.ends lt;
    }

pub lasts : (region : ℕ → Type 0) (g : Geometry) (second : Bool) (entries : List Entry) → IsWithinLimits g → ((n : ℕ) → region n → Own g second n → ⊥) → LastsOver region (HasTable g second entries)
lasts region g second entries limits apart = lasts_apart region (Own g second) (HasTable g second entries) apart (λ image other long same has. depends g second entries limits image other same has)

-- The copies lie apart, and apart from the selector and the data.
pub copies_apart : (g : Geometry) (second : Bool) (n : ℕ) → IsIn (table_region g second) n → Own g (not second) n → ⊥
copies_apart g true n within (inl e) = omega (arith, within.0, within.1, e)
copies_apart g true n within (inr other) = omega (arith, within.0, within.1, other.0, other.1)
copies_apart g false n within (inl e) = omega (arith, within.0, within.1, e)
copies_apart g false n within (inr other) = omega (arith, within.0, within.1, other.0, other.1)

pub selector_apart : (g : Geometry) (second : Bool) → IsIn (table_region g second) SELECTOR_PAGE → ⊥
selector_apart g true within = omega (arith, within.0, within.1)
selector_apart g false within = omega (arith, within.0, within.1)

pub region_below : (g : Geometry) (second : Bool) (n : ℕ) → IsIn (table_region g second) n → n < data_start g
region_below g true n within = omega (arith, within.0, within.1)
region_below g false n within = omega (arith, within.0, within.1)

pub own_table : (g : Geometry) (second : Bool) (n : ℕ) → Own g second n → IsTablePage g n
own_table g second n (inl e) = inl e
own_table g second n (inr within) = inr (second, within)
