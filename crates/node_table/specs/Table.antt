-- The table of an image, and what the calls make of it.
use Rattle.std.specs.Prelude.{ℕ, ◌≡◌, ◌+◌, ◌*◌, ◌/◌, ◌⊎◌, ⊤, Bool, true, false, not, List, [], ◌∷◌, ◌++◌, length, Option}
use Rattle.pkg_names.specs.declared.root.Root.{Root}
use Rattle.disk_model.specs.declared.act.DiskAct.{DiskAct}
use Rattle.disk_model.specs.declared.act.DiskAct.TheVariants.{Wrote, Synced}
use Rattle.disk_model.specs.Past.{Page, Pages, page_at, Past}
use Rattle.disk_model.specs.Images.{EachImage, SomeImage, row_acts, with_acts}
use Rattle.image_layout.specs.declared.geometry.Geometry.{Geometry}
use Rattle.image_layout.specs.declared.geometry.TheConstants.{SELECTOR_PAGE}
use Rattle.image_layout.specs.declared.Place.{Place}
use Rattle.image_layout.specs.declared.Place.TheVariants as place
use Rattle.image_layout.specs.Geometry.{IsIn, table_pages, table_start, table_region}
use Rattle.node_table.specs.declared.entry.Entry.{Entry}
use Rattle.node_table.specs.declared.entry.LoadFault.{LoadFault}
use Rattle.node_table.specs.declared.entry.LoadFault.TheVariants.{Read, Damaged, NoMemory}
use Rattle.node_table.specs.declared.entry.CommitReply.{CommitReply}
use Rattle.node_table.specs.declared.entry.CommitReply.TheVariants.{Done, NoNode, Broke}
use Rattle.node_table.specs.Entries.{without, with_added}
use Rattle.node_table.specs.Spelling.{Selects, row_at, link_at, Lists, EndsAt, IsFirstBad}

-- What a table is seen as: the geometry, which copy counts, the entries in stock order, and whether a
-- call has broken it, after which it can't be written.
pub record TableView : Type 0 where
  pub geometry : Geometry
  pub second : Bool
  pub entries : List Entry
  pub broken : Bool

-- The image has these entries as its table: its selector names the copy, and the copy lists them and no
-- more.
pub record HasTable (g : Geometry) (second : Bool) (entries : List Entry) (image : Pages) : Type 0 where
  pub selected : Selects (page_at image SELECTOR_PAGE) second
  pub listed : Lists g (row_at g second image) (link_at g second image) entries
  pub ends : EndsAt g (row_at g second image) (length entries)

-- the image has the table of this value
abbrev pub Has : TableView → Pages → Type 0
Has t image = HasTable t.geometry t.second t.entries image

-- where an image's table is damaged: at the selector, or at the disk page of the first bad row
abbrev pub IsDamaged : Geometry → Place → Pages → Type 0
IsDamaged g place.Super image = ⊥
IsDamaged g place.Selector image = (second : Bool) → Selects (page_at image SELECTOR_PAGE) second → ⊥
IsDamaged g (place.Table page) image =
    (second : Bool) × (i : ℕ) × Selects (page_at image SELECTOR_PAGE) second
    × IsFirstBad g (row_at g second image) (link_at g second image) i × (page ≡ table_start g second + i / 64)
IsDamaged g (place.Blob root) image = ⊥
IsDamaged g (place.SlotPlace slot) image = ⊥

-- each image of the disk has the table of this value, where the disk tells its past
abbrev pub Fits : Option Past → TableView → Type 0
Fits told t = EachImage told (Has t)

-- all images of the disk have one table
abbrev pub HaveOneTable : Option Past → Geometry → Type 0
HaveOneTable told g = (second : Bool) × (entries : List Entry) × EachImage told (HasTable g second entries)

-- why a table was not loaded
abbrev pub HasCause : Option Past → Geometry → LoadFault → Type 0
HasCause told g Read = ⊤
HasCause told g (Damaged found) = SomeImage told (IsDamaged g found)
HasCause told g NoMemory = ⊤

-- the pages that a table of this geometry has: the selector and the two copies
abbrev pub IsTablePage : Geometry → ℕ → Type 0
IsTablePage g n = (n ≡ SELECTOR_PAGE) ⊎ ((second : Bool) × IsIn (table_region g second) n)

-- the pages that a commit writes: the selector and the copy that doesn't count
abbrev pub IsCommitPage : TableView → ℕ → Type 0
IsCommitPage t n = (n ≡ SELECTOR_PAGE) ⊎ IsIn (table_region t.geometry (not t.second)) n

-- the table after a commit: the other copy counts, these roots have gone, and this entry came last
abbrev pub committed : TableView → Option Entry → List Root → TableView
committed t add gone = record t { second = not t.second; entries = with_added add (without gone t.entries) }

-- the value after a commit that gave this reply
abbrev pub after_commit : TableView → Option Entry → List Root → CommitReply → TableView
after_commit t add gone Done = committed t add gone
after_commit t add gone NoNode = t
after_commit t add gone Broke = record t { broken = true }

-- Just this was done: a write of each page of a row, once and in order, and then these acts.
pub record WritesRow (first count : ℕ) (others : List DiskAct) (old new : Option Past) : Type 0 where
  pub pages : Pages
  pub size : length pages ≡ count
  pub acts : new ≡ with_acts old (row_acts first pages ++ others)

-- what a commit to a copy does: it writes that copy, and syncs; then it writes the selector, and syncs
abbrev pub Commits : Geometry → Bool → Option Past → Option Past → Type 0
Commits g second old new =
    (selector : Page)
    × WritesRow (table_start g second) (table_pages g) (Synced ∷ Wrote SELECTOR_PAGE selector ∷ Synced ∷ []) old new

-- what makes an empty table: it writes both copies and the selector, and syncs
abbrev pub Formats : Geometry → Option Past → Option Past → Type 0
Formats g old new =
    (selector : Page)
    × WritesRow (table_start g false) (2 * table_pages g) (Wrote SELECTOR_PAGE selector ∷ Synced ∷ []) old new
