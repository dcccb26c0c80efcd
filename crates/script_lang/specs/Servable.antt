-- What can be asked of a desk.
use Rattle.std.specs.Prelude.{◌≡◌, ◌≤◌, length, None}
use Rattle.script_lang.specs.declared.request.Ask.{Ask}
use Rattle.script_lang.specs.declared.request.Ask.TheVariants.{Resolve, Update, Retain}
use Rattle.store_model.specs.declared.desk.TheConstants.{RETAIN_LIMIT}

-- A URL names a package and no file of it; no more roots are given than may be retained.
abbrev pub IsServable : Ask → Type 0
IsServable (Resolve name url) = url.file ≡ None
IsServable (Update url) = url.file ≡ None
IsServable (Retain roots) = length roots ≤ RETAIN_LIMIT
IsServable ask = Unit {0}
