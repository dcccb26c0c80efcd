-- A document: a JSON object of version 1.
use Rattle.std.specs.Prelude.{ℕ, ◌==◌, ◌||◌, Bool, false, List, [], ◌∷◌, codes, Option, Some, None, option_and_then, Result, Ok, Err, if◌then◌else◌}
use Rattle.std.specs.Str.{bytes_eq, is_utf8}
use Rattle.serde_json.specs.Data.{Data, Items, no_items, item, Members}
use Rattle.serde_json.specs.Read as json
use Rattle.serde_json.specs.Find.{get, as_str, as_number, as_u64, as_object}
use Rattle.system_lists.specs.declared.document.DocumentFault.{DocumentFault}
use Rattle.system_lists.specs.declared.document.DocumentFault.TheVariants.{Json, Version}

-- the value in a text, as `serde_json` reads it: of two members with one name the last counts
abbrev pub value_in : List ℕ → Option Data
value_in text = if is_utf8 text then json.read text else None

abbrev pub is_text_one : Option (List ℕ) → Bool
is_text_one None = false
is_text_one (Some text) = bytes_eq text (codes "1")

abbrev pub is_number_one : Option ℕ → Bool
is_number_one None = false
is_number_one (Some n) = n == 1

-- the string `1` or the number 1
abbrev pub is_one : Data → Bool
is_one value = is_text_one (as_str value) || is_number_one (option_and_then as_u64 (as_number value))

abbrev pub is_version_one : Option Data → Bool
is_version_one None = false
is_version_one (Some value) = is_one value

-- what is wrong with a value
abbrev pub fault_of : Data → Option Members → Option DocumentFault
fault_of value None = Some Json
fault_of value (Some found) = if is_version_one (get (codes "version") value) then None else Some Version

abbrev pub judged : Data → Option DocumentFault → Result Data DocumentFault
judged value None = Ok value
judged value (Some fault) = Err fault

abbrev pub document_of : Option Data → Result Data DocumentFault
document_of None = Err Json
document_of (Some value) = judged value (fault_of value (as_object value))

-- the document in a text, or its first fault
abbrev pub document_in : List ℕ → Result Data DocumentFault
document_in text = document_of (value_in text)

-- what each value of an array says
abbrev pub entries : {A : Type 0} → (Data → Option A) → Items → List (Option A)
entries says no_items = []
entries says (item value rest) = says value ∷ entries says rest
