-- The lines on standard error.
use Rattle.std.specs.Prelude.{ℕ, ◌==◌, ◌||◌, nat_le, nat_lt, List, [], ◌++◌, map, codes, Option, Some, None, if◌then◌else◌}
use Rattle.std.specs.Fmt.{decimal}
use Rattle.pkg_names.specs.Text.{space, question_mark}
use Rattle.package_url.specs.declared.fault.UrlFault.{UrlFault}
use Rattle.package_url.specs.declared.fault.UrlFault.TheVariants as urls
use Rattle.script_lang.specs.declared.request.LineFault.{LineFault}
use Rattle.script_lang.specs.declared.request.LineFault.TheVariants as faults
use Rattle.script_lang.specs.declared.script.ScriptRefusal.{ScriptRefusal}
use Rattle.script_lang.specs.declared.script.ScriptRefusal.TheVariants as refusals
use Rattle.pkg_tool.specs.declared.running.Status.TheVariants.{Done, BadWords, BadScript, ScriptFault, SinkFault, NoMemory, FewRepos}
use Rattle.pkg_tool.specs.declared.hashing.MerkleStatus.TheVariants as hashings
use Rattle.pkg_report.specs.declared.ending.Ending.{Ending}
use Rattle.pkg_report.specs.declared.ending.Ending.TheVariants.{Ran, Hashed, CannotOpen, NoListing, BadListing}

abbrev pub delete : ℕ
delete = 127

-- a control character is shown as a question mark, so that a line is one line
abbrev pub shown_byte : ℕ → ℕ
shown_byte c = if nat_lt c space || c == delete then question_mark else c

abbrev pub shown : List ℕ → List ℕ
shown name = map shown_byte name

-- ---- scripts

-- what is expected of a URL where it is bad
abbrev pub url_text : UrlFault → List ℕ
url_text urls.Scheme = codes ": the URL must begin with fuchsia-pkg://"
url_text urls.Host = codes ": the host of the URL must be 1 to 255 of a to z, 0 to 9, - and ."
url_text urls.Path = codes ": the URL must have / and a package path after its host"
url_text urls.Hash = codes ": the query of the URL must be hash= and 64 of 0 to 9 and a to f"
url_text urls.Fragment = codes ": the URL must have no #"
url_text urls.NoMemory = codes ": memory was short"

-- what is expected where this is the number of a root
abbrev pub root_text_at : ℕ → List ℕ
root_text_at number =
    if nat_le number 4096 then codes ": root " ++ decimal number ++ codes " must be 64 of 0 to 9 and a to f"
    else codes ": root " ++ decimal number ++ codes " is one more than 4096"

-- what is expected of a line where it is bad
abbrev pub line_text_of : LineFault → List ℕ
line_text_of faults.Encoding = codes ": it must be UTF-8"
line_text_of faults.Lane = codes ": the lane must be a number from 1 to 16"
line_text_of faults.Form =
    codes ": the request must be resolve, open, cat, check, close, collect, retain, update or commit, with its parts"
line_text_of faults.Name = codes ": the name must be 1 to 32 of a to z and 0 to 9"
line_text_of (faults.Url fault) = url_text fault
line_text_of faults.FileInUrl = codes ": the URL must have no #"
line_text_of faults.Path = codes ": the package path must be NAME or NAME/VARIANT, of a to z, 0 to 9, -, _ and ."
line_text_of faults.File = codes ": the file must be a path within the package"
line_text_of (faults.Root number) = root_text_at number
line_text_of faults.NoMemory = codes ": memory was short"

-- what is wrong with a script
abbrev pub script_text : ScriptRefusal → List ℕ
script_text refusals.TooLong = codes " has more than 1,048,576 bytes"
script_text (refusals.Line number why) = codes ": line " ++ decimal number ++ line_text_of why
script_text (refusals.TooMany number) = codes ": line " ++ decimal number ++ codes " is one request more than 4096"
script_text refusals.NoMemory = codes ": memory was short"

-- the same where it is known, or its line
abbrev pub bad_script_text : Option ScriptRefusal → ℕ → List ℕ
bad_script_text (Some why) number = script_text why
bad_script_text None number = codes ": line " ++ decimal number ++ codes " is bad"

-- the lanes of a script that are more than the repositories
abbrev pub few_text : ℕ → ℕ → List ℕ
few_text have need =
    codes " has " ++ decimal need ++ codes " lanes, and there are " ++ decimal have ++ codes " repositories"

-- ---- listings

-- what is wrong with a listing
abbrev pub listing_text : ℕ → List ℕ
listing_text number =
    if number == 0 then codes " has more than 1,048,576 bytes"
    else codes ": line " ++ decimal number ++ codes " must be NAME/VARIANT=ROOT, its path in no line before"

-- ---- endings

-- how the program is used, with an example of each command
abbrev pub usage_text : List ℕ
usage_text =
    codes "usage: pkg run IMAGE REPO SCRIPT, pkg merkle FILE, or pkg publish FOLDER REPO PATH; for example "
    ++ codes "pkg run demo/image demo/repo demo/scripts/read, pkg merkle demo/notes/data/text, or "
    ++ codes "pkg publish demo/notes demo/repo notes"

-- what was wrong, where this is the name of the script, the file or the repository
abbrev pub ending_text : Ending → Option ScriptRefusal → List ℕ → List ℕ
ending_text CannotOpen why name = codes "cannot open " ++ shown name
ending_text NoListing why name = codes "cannot open " ++ shown name ++ codes "/listing"
ending_text (BadListing number) why name = codes "cannot open " ++ shown name ++ codes "/listing" ++ listing_text number
ending_text (Ran Done) why name = []
ending_text (Ran BadWords) why name = usage_text
ending_text (Ran (BadScript number)) why name = shown name ++ bad_script_text why number
ending_text (Ran ScriptFault) why name = shown name ++ codes " could not be read to its end"
ending_text (Ran SinkFault) why name = codes "the history could not be written whole"
ending_text (Ran NoMemory) why name = codes "memory was short"
ending_text (Ran (FewRepos have need)) why name = shown name ++ few_text have need
ending_text (Hashed hashings.Done) why name = []
ending_text (Hashed hashings.TooLong) why name = shown name ++ codes " has more than 33,554,432 bytes"
ending_text (Hashed hashings.ReadFault) why name = shown name ++ codes " could not be read to its end"
ending_text (Hashed hashings.SinkFault) why name = codes "the root could not be written whole"

-- the line that tells it, with its line feed; none where all is well
abbrev pub line_of : Ending → Option ScriptRefusal → List ℕ → List ℕ
line_of (Ran Done) why name = []
line_of (Hashed hashings.Done) why name = []
line_of ending why name = ending_text ending why name ++ codes "\n"
