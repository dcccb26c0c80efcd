-- What the opening of the script came to.
use Rattle.std.specs.Prelude.{Option, None, Some}
use Rattle.pkg_report.specs.declared.ending.Opening.{Opening}
use Rattle.pkg_report.specs.declared.ending.Opening.TheVariants.{Fine}
use Rattle.pkg_main.specs.declared.late_file.State.{State}
use Rattle.pkg_main.specs.declared.late_file.State.TheVariants.{Unopened, Open, Failed}

abbrev pub opening_in : {S : Type 0} → State S → Option Opening
opening_in Unopened = None
opening_in (Open source) = Some Fine
opening_in (Failed opening) = Some opening

-- a script that was not opened has no fault
abbrev pub opening_or_fine : Option Opening → Opening
opening_or_fine None = Fine
opening_or_fine (Some opening) = opening
