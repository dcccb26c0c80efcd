-- The numbers of an archive at their places, and what its directory names by them.
use Rattle.std.specs.Prelude.{ℕ, ◌+◌, ◌*◌, ◌/◌, ◌<◌, List, take, drop, map, slice_index}
use Rattle.std.specs.List.{range_with_len}
use Rattle.std.specs.Int.{w16, w32, w64}
use Rattle.pkg_names.specs.Numbers.{number_at}
use Rattle.far_archive.specs.declared.fields.Places.{Places}
use Rattle.far_archive.specs.declared.fields.Entry.{Entry}

-- each element is a byte
abbrev pub AreBytes : List ℕ → Type 0
AreBytes text = (i : ℕ) → slice_index text i < 256

-- this many bytes from a place on
abbrev pub part : List ℕ → ℕ → ℕ → List ℕ
part text at len = take len (drop at text)

-- where the two chunks lie: the second and third word of each index entry
unfoldable pub places : List ℕ → Places
places text = record {
  dir_at = number_at w64 text 24;
  dir_len = number_at w64 text 32;
  names_at = number_at w64 text 48;
  names_len = number_at w64 text 56;
}

-- the directory entry at a place
unfoldable pub entry : List ℕ → ℕ → Entry
entry text at = record {
  name_at = number_at w32 text at;
  name_len = number_at w16 text (at + 4);
  name_zero = number_at w16 text (at + 6);
  data_at = number_at w64 text (at + 8);
  data_len = number_at w64 text (at + 16);
  end_zero = number_at w64 text (at + 24);
}

-- how many entries the directory has
abbrev pub count : List ℕ → ℕ
count text = (places text).dir_len / 32

-- entry k, counted from 0
abbrev pub entry_of : List ℕ → ℕ → Entry
entry_of text k = entry text ((places text).dir_at + 32 * k)

-- its name, its file's bytes, and where these end
abbrev pub name_of : List ℕ → ℕ → List ℕ
name_of text k = part text ((places text).names_at + (entry_of text k).name_at) (entry_of text k).name_len

abbrev pub data_of : List ℕ → ℕ → List ℕ
data_of text k = part text (entry_of text k).data_at (entry_of text k).data_len

abbrev pub end_of : List ℕ → ℕ → ℕ
end_of text k = (entry_of text k).data_at + (entry_of text k).data_len

-- where the names end
abbrev pub names_end : List ℕ → ℕ
names_end text = (places text).names_at + (places text).names_len

-- the files by the directory: each with its name and its bytes
abbrev pub files : List ℕ → List (List ℕ × List ℕ)
files text = map (λ k. (name_of text k, data_of text k)) (range_with_len 0 (count text))
