-- The 32 bytes of a boot record.
use Rattle.std.specs.Prelude.{ℕ, ◌≡◌, ◌+◌, ◌==◌, ◌&&◌, not, Bool, true, false, List, [], ◌∷◌, ◌++◌, take, drop, replicate, slice_index, bytes_eq, Option, Some, None, if◌then◌else◌}
use Rattle.std.specs.Int.{w32, to_be_bytes}
use Rattle.abr_record.specs.declared.SlotRecord.{SlotRecord}
use Rattle.abr_record.specs.declared.Record.{Record}
use Rattle.abr_record.specs.Crc.{crc32}

-- bytes 0 to 3: a zero and the letters AB0
abbrev pub magic_bytes : List ℕ
magic_bytes = 0x00 ∷ 0x41 ∷ 0x42 ∷ 0x30 ∷ []

abbrev pub major_version : ℕ
major_version = 2

abbrev pub minor_version : ℕ
minor_version = 1

abbrev pub flag_byte : Bool → ℕ
flag_byte true = 1
flag_byte false = 0

-- priority, tries left, successful, and a reserved byte
abbrev pub slot_bytes : SlotRecord → List ℕ
slot_bytes slot = slot.priority ∷ slot.tries ∷ flag_byte slot.successful ∷ 0 ∷ []

-- bytes 0 to 27
abbrev pub summed_bytes : Record → List ℕ
summed_bytes r =
    magic_bytes ++ (major_version ∷ minor_version ∷ 0 ∷ 0 ∷ []) ++ slot_bytes r.a ++ slot_bytes r.b
    ++ (r.one_shot ∷ []) ++ replicate 11 0

-- all 32 bytes: the last four are the CRC of the others, the high byte first
abbrev pub record_bytes : Record → List ℕ
record_bytes r = summed_bytes r ++ to_be_bytes w32 (crc32 (summed_bytes r))

-- Bytes that are read as a record. The minor version and the reserved bytes aren't looked at, but by the CRC.
pub record IsRecordBytes (bytes : List ℕ) : Type 0 where
  pub magic : take 4 bytes ≡ magic_bytes
  pub major : slice_index bytes 4 ≡ major_version
  pub crc : drop 28 bytes ≡ to_be_bytes w32 (crc32 (take 28 bytes))

-- the slot at this place; a successful byte other than 0 is true
abbrev pub slot_at : List ℕ → ℕ → SlotRecord
slot_at bytes at = record {
  priority = slice_index bytes at;
  tries = slice_index bytes (at + 1);
  successful = not (slice_index bytes (at + 2) == 0);
}

abbrev pub record_at : List ℕ → Record
record_at bytes = record { a = slot_at bytes 8; b = slot_at bytes 12; one_shot = slice_index bytes 16 }

-- the test of magic, major version and CRC
abbrev pub is_record_bytes : List ℕ → Bool
is_record_bytes bytes =
    bytes_eq (take 4 bytes) magic_bytes && (slice_index bytes 4 == major_version)
    && bytes_eq (drop 28 bytes) (to_be_bytes w32 (crc32 (take 28 bytes)))

-- the record that bytes are read as
abbrev pub decoded : List ℕ → Option Record
decoded bytes = if is_record_bytes bytes then Some (record_at bytes) else None
