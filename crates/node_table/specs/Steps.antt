-- What the steps of loading and of a commit leave.
use Rattle.std.specs.Prelude.{ℕ, ◌≡◌, ◌≢◌, ◌⊎◌, ◌+◌, ◌*◌, ◌/◌, ◌<◌, ◌≤◌, ◌↔◌, Bool, true, false, List, [], ◌∷◌, ◌++◌, length, replicate, slice_index, slice_index_or, vec_capacity, Vec, Option, Some, None, IsTrue, IfSome, if◌then◌else◌}
use Rattle.std.specs.Int.{w32, w64, to_le_bytes}
use Rattle.std.specs.List.{All, AllPairs}
use Rattle.std.specs.declared.alloc.Global.{Global}
use Rattle.std.specs.declared.hash.FoldHasher.{FoldHasher}
use Rattle.std.specs.declared.hash.BuildHasherDefault.{BuildHasherDefault}
use Rattle.std.specs.HashMap.{HashMap, hash_map_len, get, spare}
use Rattle.pkg_names.specs.declared.root.Root.{Root}
use Rattle.pkg_names.specs.Root.{root_eq}
use Rattle.disk_model.specs.Past.{Page, Pages, page_at, Past, state_of, MayRead}
use Rattle.image_layout.specs.declared.geometry.Geometry.{Geometry}
use Rattle.image_layout.specs.declared.geometry.TheConstants.{SELECTOR_PAGE}
use Rattle.image_layout.specs.Geometry.{IsWithinLimits, IsIn, table_start, table_region}
use Rattle.node_table.specs.declared.entry.Entry.{Entry}
use Rattle.node_table.specs.declared.rows.Row.{Row}
use Rattle.node_table.specs.Entries.{IsEntry, AreSound, IsChained}
use Rattle.node_table.specs.Spelling.{row_on, link_on, row_of, unused_row, IsChain, Lists, EndsAt, IsFirstBad, Selects}

-- A page that P holds of was read. A page was written, and P holds of it.
abbrev pub ReadAs : Option Past → ℕ → (Page → Type 0) → Type 0
ReadAs told n P = IfSome told (λ past. (page : Page) × MayRead (state_of past n) page × P page)

abbrev pub WrittenAs : Option Past → ℕ → (Page → Type 0) → Type 0
WrittenAs told n P = IfSome told (λ past. P (state_of past n).now × ((state_of past n).failed ≡ []))

-- page j of rows has these, and page j of links
abbrev pub HasRows : List Row → ℕ → Page → Type 0
HasRows rows j page = (k : ℕ) → k < 64 → row_on page k ≡ slice_index_or rows (64 * j + k) unused_row

abbrev pub HasLinks : List ℕ → ℕ → Page → Type 0
HasLinks links j page = (k : ℕ) → k < 1024 → link_on page k ≡ slice_index_or links (1024 * j + k) 0

-- row i of a list, and a link of a list
abbrev pub row_from : List Row → ℕ → Row
row_from rows i = slice_index_or rows i unused_row

abbrev pub link_from : List ℕ → ℕ → ℕ
link_from links page = slice_index_or links page 0

-- the copy has these rows and links
pub record HasCopy (g : Geometry) (second : Bool) (rows : List Row) (links : List ℕ) (image : Pages) : Type 0 where
  pub row_pages : (j : ℕ) → j < g.blobs / 64 → HasRows rows j (page_at image (table_start g second + j))
  pub link_pages :
      (j : ℕ) → j < g.data_pages / 1024 →
      HasLinks links j (page_at image (table_start g second + g.blobs / 64 + j))

-- rows and links as a copy of this geometry has them
pub record AreSheets (g : Geometry) (rows : List Row) (links : List ℕ) : Type 0 where
  pub row_count : length rows ≡ g.blobs
  pub link_count : length links ≡ g.data_pages

-- these rows and links are those of a table with these entries
pub record LaysOut (g : Geometry) (rows : List Row) (links : List ℕ) (entries : List Entry) : Type 0 where
  pub listed : Lists g (row_from rows) (link_from links) entries
  pub ends : EndsAt g (row_from rows) (length entries)

-- the pages that are written so that a copy counts
abbrev pub IsSwitchPage : Geometry → Bool → ℕ → Type 0
IsSwitchPage g second n = (n ≡ SELECTOR_PAGE) ⊎ IsIn (table_region g second) n

-- the flag of a page is set
abbrev pub IsTaken : List Bool → ℕ → Type 0
IsTaken flags page = slice_index_or flags page false ≡ true

-- the flags that are set are those of the pages of the chains
abbrev pub Flags : List Bool → List Entry → Type 0
Flags flags entries = (page : ℕ) → IsTaken flags page ↔ IsChained entries page

-- a chain that can be read from a row: its pages exist, were free and differ
pub record IsWalk (link : ℕ → ℕ) (flags : List Bool) (from count : ℕ) (pages : List ℕ) : Type 0 where
  pub size : length pages ≡ count
  pub first : slice_index pages 0 ≡ from
  pub chain : IsChain link pages
  pub below : All (λ page. page < length flags) pages
  pub distinct : AllPairs (λ a b. a ≢ b) pages
  pub free : All (λ page. IsTaken flags page → ⊥) pages

-- an entry that can be read from a row
pub record IsReadFrom (source : Row) (link : ℕ → ℕ) (flags : List Bool) (found : Entry) : Type 0 where
  pub row : source ≡ row_of found
  pub entry : IsEntry (length flags) found
  pub chain : IsChain link found.pages
  pub free : All (λ page. IsTaken flags page → ⊥) found.pages

-- the place of the entry of this root, the first place being n
abbrev pub place_from : ℕ → List Entry → Root → Option ℕ
place_from n [] root = None
place_from n (entry ∷ entries) root = if root_eq root entry.root then Some n else place_from (n + 1) entries root

-- the map of a table's index
abbrev pub Index : Type 0
Index = HashMap Root ℕ (BuildHasherDefault FoldHasher)

-- the index has the place of each root
abbrev pub IsIndex : Index → List Entry → Type 0
IsIndex index entries = (root : Root) → get root_eq index root ≡ place_from 0 entries root

-- The first rows are those of these entries, the links make their chains, and no other row is used.
pub record LaidOut (row_list : List Row) (links : List ℕ) (entries : List Entry) : Type 0 where
  pub rows : (i : ℕ) (d : Entry) → i < length entries → row_from row_list i ≡ row_of (slice_index_or entries i d)
  pub rest : (i : ℕ) → length entries ≤ i → row_from row_list i ≡ unused_row
  pub chains : All (λ entry. IsChain (link_from links) entry.pages) entries

-- what stands in a table's fields
pub record IsTable
    (g : Geometry) (entries : Vec Entry Global) (places : Index) (marked : Bool) (rows : Vec Row Global)
    (links : Vec ℕ Global) : Type 0 where
  pub limits : IsWithinLimits g
  pub sound : AreSound g entries.items
  pub sheets : AreSheets g rows.items links.items
  pub capacity : vec_capacity entries ≡ g.blobs
  pub index : IsIndex places entries.items
  pub left : g.blobs ≤ length entries.items + spare places
  pub room : g.blobs ≤ hash_map_len places + spare places
  pub laid : IsTrue marked → LaidOut rows.items links.items entries.items

-- these entries are all that rows and links list, or a row is the first bad one
abbrev pub Judges : Geometry → List Row → List ℕ → List Entry → Option ℕ → Type 0
Judges g rows links entries None = LaysOut g rows links entries
Judges g rows links entries (Some i) = IsFirstBad g (row_from rows) (link_from links) i

-- what the selector page selects, if anything
abbrev pub IsChoice : Option Bool → Page → Type 0
IsChoice None page = (second : Bool) → Selects page second → ⊥
IsChoice (Some second) page = Selects page second

-- what was read of an image: its selector, and the rows and links of the copy that counts
abbrev pub IsRead : Geometry → List Row → List ℕ → Option Bool → Pages → Type 0
IsRead g rows links None image = IsChoice None (page_at image SELECTOR_PAGE)
IsRead g rows links (Some second) image =
    IsChoice (Some second) (page_at image SELECTOR_PAGE) × HasCopy g second rows links image

-- room for a table, in which nothing stands yet
pub record AreEmpty
    (g : Geometry) (rows : Vec Row Global) (links : Vec ℕ Global) (taken : Vec Bool Global)
    (entries : Vec Entry Global) (index : Index) : Type 0 where
  pub no_rows : rows.items ≡ []
  pub row_room : g.blobs ≤ vec_capacity rows
  pub no_links : links.items ≡ []
  pub link_room : g.data_pages ≤ vec_capacity links
  pub flags : taken.items ≡ replicate g.data_pages false
  pub no_entries : entries.items ≡ []
  pub entry_room : vec_capacity entries ≡ g.blobs
  pub no_index : IsIndex index []
  pub index_room : g.blobs ≤ spare index

-- the bytes of a row: root, length, first page, 1 where it is used, and zeros
abbrev pub flag_byte : Bool → ℕ
flag_byte true = 1
flag_byte false = 0

abbrev pub numbers_text : Row → List ℕ
numbers_text row = to_le_bytes w64 row.len ++ to_le_bytes w32 row.first ++ (flag_byte row.used ∷ []) ++ replicate 19 0

abbrev pub row_text : Row → List ℕ
row_text row = row.root.0 ++ numbers_text row
