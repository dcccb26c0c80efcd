-- Texts that are UTF-8, and others.
use Rattle.std.proofs.Common.{◌≡◌, ℕ, List, Option, None, refl}
use Rattle.std.specs.Prelude.{IsUtf8}
use Rattle.std.specs.Str.{is_utf8}
use Rattle.std.proofs.lemmas.Bool.{false_from_ne_true}
use Rattle.std.proofs.lemmas.Str.{IsUtf8-from_is_utf8, is_utf8-from_IsUtf8}
use Rattle.serde_json.specs.Data.{Data}
use Rattle.serde_json.specs.Read as json
use Rattle.system_lists.specs.Document.{value_in}

pub none_in : (text : List ℕ) → (IsUtf8 text → ⊥) → value_in text ≡ None
none_in text not_utf8 = rw (false_from_ne_true (is_utf8 text) (λ e. not_utf8 (IsUtf8-from_is_utf8 text e))) refl

pub found_in : (text : List ℕ) (value : Option Data) → IsUtf8 text → json.read text ≡ value → value_in text ≡ value
found_in text value utf8 e = rw (is_utf8-from_IsUtf8 text utf8) e
