-- What the writer makes of a list of files.
use Rattle.std.specs.Prelude.{◌≡◌, ◌≢◌, ℕ, ◌+◌, ◌-◌, ◌*◌, ◌/◌, ◌<◌, List, [], ◌∷◌, ◌++◌, length, map, replicate, slice_index_or}
use Rattle.std.specs.List.{flat_map}
use Rattle.std.specs.declared.cmp.Ordering.TheVariants.{Less}
use Rattle.std.specs.Ordering.{nat_cmp}
use Rattle.std.specs.Cmp.Lexicographic.{slice_cmp}
use Rattle.far_archive.specs.declared.fields.Places.{Places}
use Rattle.far_archive.specs.declared.write.FarEntry.{FarEntry}
use Rattle.far_archive.specs.Archive.{Item, index_bytes, item_bytes}

-- the least multiple of a unit that isn't below n
abbrev pub up_to : ℕ → ℕ → ℕ
up_to unit n = (n + (unit - 1)) / unit * unit

-- bytes, with zeros up to a multiple of a unit
abbrev pub filled : ℕ → List ℕ → List ℕ
filled unit bytes = bytes ++ replicate (up_to unit (length bytes) - length bytes) 0

-- the entries as pairs, a name and its bytes
abbrev pub listed : List FarEntry → List (List ℕ × List ℕ)
listed entries = map (λ entry. (entry.name, entry.bytes)) entries

-- the names one after another
abbrev pub joined_names : List (List ℕ × List ℕ) → List ℕ
joined_names files = flat_map (λ file. file.0) files

-- the directory at byte 64, and the names directly after it
abbrev pub places_for : List (List ℕ × List ℕ) → Places
places_for files = record {
  dir_at = 64;
  dir_len = 32 * length files;
  names_at = 64 + 32 * length files;
  names_len = up_to 8 (length (joined_names files));
}

-- The files as items: from these places on the names stand one after another, and the bytes each on a
-- page of its own. An empty file has the place of the next one.
abbrev pub items_from : List (List ℕ × List ℕ) → ℕ → ℕ → List Item
items_from [] name_at data_at = []
items_from (file ∷ files) name_at data_at =
    record { name_at = name_at; name = file.0; data_at = data_at; bytes = file.1 }
    ∷ items_from files (name_at + length file.0) (data_at + up_to 4096 (length file.1))

-- the data begin on the first page behind the names
abbrev pub data_start : List (List ℕ × List ℕ) → ℕ
data_start files = up_to 4096 ((places_for files).names_at + (places_for files).names_len)

abbrev pub items_for : List (List ℕ × List ℕ) → List Item
items_for files = items_from files 0 (data_start files)

-- index, directory and names, with zeros up to a page, and then the files, each with zeros up to a page
unfoldable pub written : List (List ℕ × List ℕ) → List ℕ
written files =
    filled 4096 (index_bytes (places_for files) ++ flat_map item_bytes (items_for files)
    ++ filled 8 (joined_names files))
    ++ flat_map (λ file. filled 4096 file.1) files

-- the name of entry k
abbrev pub name_in : List (List ℕ × List ℕ) → ℕ → List ℕ
name_in files k = (slice_index_or files k ([], [])).0

-- the first entry whose name isn't greater than the one before
pub record IsFirstUnordered (files : List (List ℕ × List ℕ)) (k : ℕ) : Type 0 where
  pub later : 0 < k
  pub within : k < length files
  pub not_greater : slice_cmp nat_cmp (name_in files (k - 1)) (name_in files k) ≢ Less
  pub first : (j : ℕ) → j + 1 < k → slice_cmp nat_cmp (name_in files j) (name_in files (j + 1)) ≡ Less

-- each name is greater than the one before
abbrev pub IsOrdered : List (List ℕ × List ℕ) → Type 0
IsOrdered files =
    (j : ℕ) → j + 1 < length files → slice_cmp nat_cmp (name_in files j) (name_in files (j + 1)) ≡ Less
