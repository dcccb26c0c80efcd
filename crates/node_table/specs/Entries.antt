-- The entries of a table.
use Rattle.std.specs.Prelude.{ℕ, ◌≡◌, ◌≢◌, ◌+◌, ◌/◌, ◌<◌, ◌≤◌, Bool, not, max, List, [], ◌∷◌, ◌++◌, length, filter, find, Option, Some, None}
use Rattle.std.specs.List.{All, AllPairs, Any, Contains, list_any}
use Rattle.pkg_names.specs.declared.root.Root.{Root}
use Rattle.pkg_names.specs.Root.{root_eq}
use Rattle.image_layout.specs.declared.geometry.Geometry.{Geometry}
use Rattle.node_table.specs.declared.entry.Entry.{Entry}
use Rattle.node_table.specs.declared.entry.TheConstants.{BLOB_LIMIT}

-- how many pages a blob of this length has: one at least
abbrev pub pages_for : ℕ → ℕ
pages_for len = max 1 ((len + 4095) / 4096)

-- an entry that may stand in a table over this many data pages
pub record IsEntry (data_pages : ℕ) (entry : Entry) : Type 0 where
  pub limit : entry.len ≤ BLOB_LIMIT
  pub count : length entry.pages ≡ pages_for entry.len
  pub below : All (λ page. page < data_pages) entry.pages
  pub distinct : AllPairs (λ a b. a ≢ b) entry.pages

-- two chains have no page in common
abbrev pub AreApart : List ℕ → List ℕ → Type 0
AreApart a b = (page : ℕ) → Contains a page → Contains b page → ⊥

-- two entries that may stand in one table
pub record MayStandTogether (a b : Entry) : Type 0 where
  pub roots : a.root ≢ b.root
  pub chains : AreApart a.pages b.pages

-- entries that make a table
pub record AreSound (g : Geometry) (entries : List Entry) : Type 0 where
  pub room : length entries ≤ g.blobs
  pub each : All (IsEntry g.data_pages) entries
  pub together : AllPairs MayStandTogether entries

-- a page lies in one of the chains
abbrev pub IsChained : List Entry → ℕ → Type 0
IsChained entries page = Any (λ entry. Contains entry.pages page) entries

-- the entry of a root, if it has one
abbrev pub entry_of : List Entry → Root → Option Entry
entry_of entries root = find (λ entry. root_eq root entry.root) entries

-- the root is among these
abbrev pub is_among : List Root → Root → Bool
is_among roots root = list_any (λ other. root_eq other root) roots

-- the entries whose roots aren't among these, in their order
abbrev pub without : List Root → List Entry → List Entry
without roots entries = filter (λ entry. not (is_among roots entry.root)) entries

-- the entries, and the one that comes last if one comes
abbrev pub with_added : Option Entry → List Entry → List Entry
with_added None entries = entries
with_added (Some entry) entries = entries ++ entry ∷ []

-- an entry that may come to these: its root is new, and its pages lie in no chain
pub record MayCome (g : Geometry) (entries : List Entry) (coming : Entry) : Type 0 where
  pub entry : IsEntry g.data_pages coming
  pub fresh : All (λ other. other.root ≢ coming.root) entries
  pub free : All (λ page. IsChained entries page → ⊥) coming.pages
