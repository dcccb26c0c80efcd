-- What names a package.
use Rattle.std.specs.Prelude.{ℕ, List, codes, Option, Some, None, option_and_then, Result, Ok, Err, if◌then◌else◌}
use Rattle.std.specs.Str.{is_utf8}
use Rattle.serde_json.specs.Data.{Data, Members}
use Rattle.serde_json.specs.Read as json
use Rattle.serde_json.specs.Find.{get, as_str, as_object}
use Rattle.meta_contents.specs.declared.package.PackageName.{PackageName}
use Rattle.meta_contents.specs.declared.fault.PackageNameFault.{PackageNameFault}
use Rattle.meta_contents.specs.declared.fault.PackageNameFault.TheVariants.{Json, Field}

-- the object in a text
abbrev pub object_in : List ℕ → Option Data
object_in text = if is_utf8 text then json.read text else None

abbrev pub both : Option (List ℕ) → Option (List ℕ) → Result PackageName PackageNameFault
both (Some name) (Some version) = Ok (record { name = name; version = version })
both (Some name) None = Err Field
both None version = Err Field

-- the string at a member
abbrev pub string_at : List ℕ → Data → Option (List ℕ)
string_at name value = option_and_then as_str (get name value)

abbrev pub named : Data → Option Members → Result PackageName PackageNameFault
named value None = Err Json
named value (Some found) = both (string_at (codes "name") value) (string_at (codes "version") value)

abbrev pub named_in : Option Data → Result PackageName PackageNameFault
named_in None = Err Json
named_in (Some value) = named value (as_object value)

-- the name and version in a text, or what is wrong
abbrev pub package_of : List ℕ → Result PackageName PackageNameFault
package_of text = named_in (object_in text)
