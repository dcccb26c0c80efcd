-- How a table stands on the pages of an image.
use Rattle.std.specs.Prelude.{ℕ, ◌≡◌, ◌+◌, ◌*◌, ◌/◌, ◌%◌, ◌<◌, ◌==◌, Bool, true, false, not, List, [], ◌∷◌, ◌++◌, length, take, replicate, slice_index, slice_index_or, slice_range, codes, if◌then◌else◌}
use Rattle.std.specs.List.{All}
use Rattle.std.specs.Int.{w32, w64, from_le_bytes}
use Rattle.pkg_names.specs.Numbers.{number_at}
use Rattle.disk_model.specs.Past.{Page, Pages, page_at}
use Rattle.image_layout.specs.declared.geometry.Geometry.{Geometry}
use Rattle.image_layout.specs.Geometry.{table_start}
use Rattle.node_table.specs.declared.entry.Entry.{Entry}
use Rattle.node_table.specs.declared.entry.TheConstants.{CHAIN_END}
use Rattle.node_table.specs.declared.rows.Row.{Row}
use Rattle.node_table.specs.Entries.{AreSound}

-- The first five bytes of the selector page: the copy that counts, the first or the second.
abbrev pub selector_text : Bool → List ℕ
selector_text second = codes "SEL1" ++ (if second then 1 else 0) ∷ []

abbrev pub Selects : Page → Bool → Type 0
Selects page second = take 5 page ≡ selector_text second

-- part k of a page that is cut into parts of this size
abbrev pub part : ℕ → Page → ℕ → List ℕ
part size page k = slice_range page (size * k) (size * k + size)

-- what the 64 bytes of a row say
abbrev pub row_in : List ℕ → Row
row_in bytes = record {
  root = record { 0 = take 32 bytes };
  len = number_at w64 bytes 32;
  first = number_at w32 bytes 40;
  used = not (slice_index bytes 44 == 0);
}

-- row k of a page of rows, and link k of a page of links
abbrev pub row_on : Page → ℕ → Row
row_on page k = row_in (part 64 page k)

abbrev pub link_on : Page → ℕ → ℕ
link_on page k = from_le_bytes w32 (part 4 page k)

-- Row i of a copy: the copy begins with its rows, 64 on a page.
abbrev pub row_at : Geometry → Bool → Pages → ℕ → Row
row_at g second image i = row_on (page_at image (table_start g second + i / 64)) (i % 64)

-- The link of a data page, which tells the next page of its chain: 1024 on a page, behind the rows.
abbrev pub link_at : Geometry → Bool → Pages → ℕ → ℕ
link_at g second image page = link_on (page_at image (table_start g second + g.blobs / 64 + page / 1024)) (page % 1024)

-- the row of an entry
abbrev pub row_of : Entry → Row
row_of entry = record { root = entry.root; len = entry.len; first = slice_index entry.pages 0; used = true }

-- the link of each page of the chain is the next page, and that of the last one is the end mark
abbrev pub IsChain : (ℕ → ℕ) → List ℕ → Type 0
IsChain link pages = (k : ℕ) → k < length pages → link (slice_index pages k) ≡ slice_index_or pages (k + 1) CHAIN_END

-- the first rows are those of these entries, the links make their chains, and they are sound
pub record Lists (g : Geometry) (row : ℕ → Row) (link : ℕ → ℕ) (entries : List Entry) : Type 0 where
  pub rows : (i : ℕ) (d : Entry) → i < length entries → row i ≡ row_of (slice_index_or entries i d)
  pub chains : All (λ entry. IsChain link entry.pages) entries
  pub sound : AreSound g entries

-- no row comes behind the entries: they fill the copy, or the next row isn't used
abbrev pub EndsAt : Geometry → (ℕ → Row) → ℕ → Type 0
EndsAt g row count = count < g.blobs → (row count).used ≡ false

-- row i is used, and is the first that no entry can be read from
pub record IsFirstBad (g : Geometry) (row : ℕ → Row) (link : ℕ → ℕ) (i : ℕ) : Type 0 where
  pub within : i < g.blobs
  pub used : (row i).used ≡ true
  pub before : (entries : List Entry) × (length entries ≡ i) × Lists g row link entries
  pub bad : (entries : List Entry) → length entries ≡ i + 1 → Lists g row link entries → ⊥

-- the row of no entry
abbrev pub unused_row : Row
unused_row = record { root = record { 0 = replicate 32 0 }; len = 0; first = 0; used = false }
