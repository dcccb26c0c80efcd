-- What an archive is: the parts that stand in it as they are written, and the files that it stands for.
use Rattle.std.specs.Prelude.{◌≡◌, ℕ, ◌+◌, ◌*◌, ◌%◌, ◌^◌, ◌<◌, ◌≤◌, List, [], ◌∷◌, ◌++◌, length, codes, map, All}
use Rattle.std.specs.List.{flat_map}
use Rattle.std.specs.declared.cmp.Ordering.TheVariants.{Less}
use Rattle.std.specs.Ordering.{nat_cmp}
use Rattle.std.specs.Cmp.Lexicographic.{slice_cmp}
use Rattle.std.specs.List.Sorted.{IsStrictlySortedBy}
use Rattle.std.specs.Int.{w16, w32, w64, to_le_bytes}
use Rattle.pkg_names.specs.FileText.{IsFile}
use Rattle.far_archive.specs.declared.fields.Places.{Places}
use Rattle.far_archive.specs.Fields.{part}
use Rattle.far_archive.specs.Faults.{magic}

-- a file: its name with its place within the names, and its bytes with their place within the archive
pub record Item : Type 0 where
  pub name_at : ℕ
  pub name : List ℕ
  pub data_at : ℕ
  pub bytes : List ℕ

-- these bytes stand at this place
pub record Stands (text : List ℕ) (at : ℕ) (bytes : List ℕ) : Type 0 where
  pub inside : at + length bytes ≤ length text
  pub same : part text at (length bytes) ≡ bytes

-- the 64 bytes in front: the magic, the index length, and the two index entries
abbrev pub index_bytes : Places → List ℕ
index_bytes p =
    magic ++ to_le_bytes w64 48 ++ codes "DIR-----" ++ to_le_bytes w64 p.dir_at ++ to_le_bytes w64 p.dir_len
    ++ codes "DIRNAMES" ++ to_le_bytes w64 p.names_at ++ to_le_bytes w64 p.names_len

-- the 32 bytes of a directory entry
abbrev pub item_bytes : Item → List ℕ
item_bytes i =
    to_le_bytes w32 i.name_at ++ to_le_bytes w16 (length i.name) ++ to_le_bytes w16 0 ++ to_le_bytes w64 i.data_at
    ++ to_le_bytes w64 (length i.bytes) ++ to_le_bytes w64 0

-- the name is a file path and stands among the names, and the bytes stand in the text from a page's begin on
pub record IsItem (text names : List ℕ) (i : Item) : Type 0 where
  pub name : Stands names i.name_at i.name
  pub name_at : i.name_at < 2 ^ 32
  pub path : IsFile i.name
  pub bytes : Stands text i.data_at i.bytes
  pub page : i.data_at % 4096 ≡ 0

-- each name is greater than the one before it, and each file lies behind the one before it
abbrev pub Ascend : List ℕ → ℕ → List Item → Type 0
Ascend name end [] = Unit {0}
Ascend name end (i ∷ items) =
    (slice_cmp nat_cmp name i.name ≡ Less) × (end ≤ i.data_at) × Ascend i.name (i.data_at + length i.bytes) items

-- The text has the index of these places, the directory of these items, and their names and bytes. The
-- chunks lie one behind the other, and the files behind them.
pub record Holds (text : List ℕ) (p : Places) (items : List Item) : Type 0 where
  pub short : length text < 2 ^ 64
  pub index : Stands text 0 (index_bytes p)
  pub directory : Stands text p.dir_at (flat_map item_bytes items)
  pub dir_len : p.dir_len ≡ 32 * length items
  pub behind : 64 ≤ p.dir_at
  pub order : p.dir_at + p.dir_len ≤ p.names_at
  pub inside : p.names_at + p.names_len ≤ length text
  pub dir_aligned : p.dir_at % 8 ≡ 0
  pub names_aligned : p.names_at % 8 ≡ 0
  pub names_whole : p.names_len % 8 ≡ 0
  pub each : All (IsItem text (part text p.names_at p.names_len)) items
  pub ascend : Ascend [] (p.names_at + p.names_len) items

abbrev pub file_of : Item → List ℕ × List ℕ
file_of i = (i.name, i.bytes)

-- the text stands for these files, each a name and its bytes
abbrev pub IsArchive : List ℕ → List (List ℕ × List ℕ) → Type 0
IsArchive text files = (p : Places) × (items : List Item) × Holds text p items × (files ≡ map file_of items)

-- each name is less than those after it
abbrev pub HasAscendingNames : List (List ℕ × List ℕ) → Type 0
HasAscendingNames files = IsStrictlySortedBy (slice_cmp nat_cmp) (map (λ file. file.0) files)
