use Rattle.std.proofs.Common.{◌≡◌, Bool, true, false, List, ℕ, refl, IsTrue}
use Rattle.std.specs.Prelude.{IsUtf8, ◌↔◌}
use Rattle.std.specs.Str.{is_utf8}
use Rattle.std.proofs.lemmas.Str.{IsUtf8-from_is_utf8, is_utf8-from_IsUtf8}
use Rattle.script_lang.proofs.request.is_text.Goals as goal

tested : (text : List ℕ) (r s : Bool) → (IsTrue r ↔ IsUtf8 text) → is_utf8 text ≡ s → r ≡ s
tested text true true h e = refl
tested text false false h e = refl
tested text true false h e = let on = is_utf8-from_IsUtf8 text (h.0 refl) in cc
tested text false true h e = let on = h.1 (IsUtf8-from_is_utf8 text e) in cc

pub returns : goal.returns
returns c = tested c.args.line.now c.has_characters.result (is_utf8 c.args.line.now) c.has_characters.ensures refl
