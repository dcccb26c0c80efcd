-- The first fault of a text that is no archive, by tests in the format's order.
use Rattle.std.specs.Prelude.{ℕ, zero, suc, ◌+◌, ◌%◌, ◌==◌, ◌&&◌, nat_le, Bool, List, [], ◌∷◌, length, codes, Option, Some, None, if◌then◌else◌}
use Rattle.std.specs.Str.{bytes_eq}
use Rattle.std.specs.Ordering.{nat_cmp, is_lt}
use Rattle.std.specs.Cmp.Lexicographic.{slice_cmp}
use Rattle.std.specs.Int.{w64}
use Rattle.pkg_names.specs.FileText.{is_file_text}
use Rattle.pkg_names.specs.Numbers.{number_at}
use Rattle.far_archive.specs.declared.fields.Places.{Places}
use Rattle.far_archive.specs.declared.fault.FarFault.{FarFault}
use Rattle.far_archive.specs.declared.fault.FarFault.TheVariants.{Magic, Index, Directory, Name, Range}
use Rattle.far_archive.specs.Fields.{part, places, entry_of, count, name_of, end_of, names_end}

abbrev pub magic : List ℕ
magic = 0xc8 ∷ 0xbf ∷ 0x0b ∷ 0x48 ∷ 0xad ∷ 0xab ∷ 0xc5 ∷ 0x11 ∷ []

abbrev pub has_magic : List ℕ → Bool
has_magic text = bytes_eq (part text 0 8) magic

-- offsets and lengths are multiples of 8
abbrev pub is_aligned : Places → Bool
is_aligned p = (p.dir_at % 8 == 0) && (p.dir_len % 8 == 0) && (p.names_at % 8 == 0) && (p.names_len % 8 == 0)

-- behind the index comes the directory, then the names, within the file
abbrev pub is_inside : Places → ℕ → Bool
is_inside p len =
    nat_le 64 p.dir_at && nat_le (p.dir_at + p.dir_len) p.names_at && nat_le (p.names_at + p.names_len) len

-- two index entries, of the two types
abbrev pub has_types : List ℕ → Bool
has_types text =
    (number_at w64 text 8 == 48) && bytes_eq (part text 16 8) (codes "DIR-----")
    && bytes_eq (part text 40 8) (codes "DIRNAMES")

unfoldable pub has_index : List ℕ → Bool
has_index text =
    nat_le 64 (length text) && has_types text && is_aligned (places text) && is_inside (places text) (length text)

-- whole entries
unfoldable pub has_directory : List ℕ → Bool
has_directory text = (places text).dir_len % 32 == 0

-- the name that entry k has to be greater than: the empty one before the first
abbrev pub name_before : List ℕ → ℕ → List ℕ
name_before text zero = []
name_before text (suc k) = name_of text k

-- where the data of entry k may begin
abbrev pub floor : List ℕ → ℕ → ℕ
floor text zero = names_end text
floor text (suc k) = end_of text k

-- the name lies within the names, is a file path, and is greater than the one before
unfoldable pub has_name : List ℕ → ℕ → Bool
has_name text k =
    nat_le ((entry_of text k).name_at + (entry_of text k).name_len) (places text).names_len
    && ((entry_of text k).name_zero == 0) && is_file_text (name_of text k)
    && is_lt (slice_cmp nat_cmp (name_before text k) (name_of text k))

-- the data begin on a page, behind the names and the data before, and end within the file
unfoldable pub has_range : List ℕ → ℕ → Bool
has_range text k =
    ((entry_of text k).end_zero == 0) && ((entry_of text k).data_at % 4096 == 0)
    && nat_le (names_end text) (entry_of text k).data_at && nat_le (floor text k) (entry_of text k).data_at
    && nat_le (end_of text k) (length text)

-- the fault of entry k, its name judged before its data
unfoldable pub entry_fault : List ℕ → ℕ → Option FarFault
entry_fault text k = if has_name text k then (if has_range text k then None else Some (Range k)) else Some (Name k)

-- a fault, or else the other one
abbrev pub or_else : Option FarFault → Option FarFault → Option FarFault
or_else None other = other
or_else (Some fault) other = Some fault

-- the first fault of n entries from entry k on
unfoldable pub entries_fault : List ℕ → ℕ → ℕ → Option FarFault
entries_fault text k zero = None
entries_fault text k (suc n) = or_else (entry_fault text k) (entries_fault text (k + 1) n)

-- the fault of the index
unfoldable pub index_fault : List ℕ → Option FarFault
index_fault text =
    if has_magic text then (if has_index text
    then (if has_directory text then None else Some Directory) else Some Index) else Some Magic

-- the first fault of a text, if it has one
unfoldable pub first_fault : List ℕ → Option FarFault
first_fault text = or_else (index_fault text) (entries_fault text 0 (count text))
