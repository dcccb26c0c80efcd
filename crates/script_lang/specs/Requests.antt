-- A line of a script: what it asks for, or what is wrong with it.
use Rattle.std.specs.Prelude.{ℕ, ◌+◌, ◌-◌, ◌==◌, ◌&&◌, ◌||◌, nat_lt, nat_le, Bool, true, List, [], ◌∷◌, length, codes, Option, Some, None, Result, Ok, Err, if◌then◌else◌}
use Rattle.std.specs.List.{list_all, slice_split}
use Rattle.std.specs.Str.{bytes_eq, is_utf8}
use Rattle.pkg_names.specs.declared.root.Root.{Root}
use Rattle.pkg_names.specs.Root.{root_in}
use Rattle.pkg_names.specs.NameAndVariant.{NameAndVariant}
use Rattle.pkg_names.specs.FileText.{is_file_text}
use Rattle.pkg_names.specs.Text.{hash_sign, space, is_between, is_digit, is_lower_letter}
use Rattle.package_url.specs.declared.url.Url.{Url}
use Rattle.package_url.specs.declared.fault.UrlFault.{UrlFault}
use Rattle.package_url.specs.Reading.{first_cut, path_in, url_in}
use Rattle.script_lang.specs.declared.request.Ask.{Ask}
use Rattle.script_lang.specs.declared.request.Ask.TheVariants as asks
use Rattle.script_lang.specs.declared.request.Request.{Request}
use Rattle.script_lang.specs.declared.request.LineFault.{LineFault}
use Rattle.script_lang.specs.declared.request.LineFault.TheVariants as faults
use Rattle.script_lang.specs.declared.request.TheConstants.{SCRIPT_NAME_LIMIT, RETAIN_LIMIT}
use Rattle.script_lang.specs.declared.words.Word.{Word}
use Rattle.script_lang.specs.declared.words.Word.TheVariants.{Resolve, Open, Cat, Check, Close, Collect, Retain, Update, Commit}

-- ---- the parts of a line

-- `a` to `z` and `0` to `9`
abbrev pub byte_in_script_name : ℕ → Bool
byte_in_script_name c = is_lower_letter c || is_digit c

-- a name that a script gives: 1 to 32 such bytes
abbrev pub is_script_name : List ℕ → Bool
is_script_name text =
    nat_lt 0 (length text) && nat_le (length text) SCRIPT_NAME_LIMIT && list_all byte_in_script_name text

-- `1` to `9`
abbrev pub one_digit : ℕ → Option ℕ
one_digit c = if is_between 49 57 c then Some (c - 48) else None

-- `10` to `16`
abbrev pub two_digits : ℕ → ℕ → Option ℕ
two_digits c d = if (c == 49) && is_between 48 54 d then Some (10 + (d - 48)) else None

-- the number of a lane: `1` to `16`
abbrev pub lane_in : List ℕ → Option ℕ
lane_in (c ∷ []) = one_digit c
lane_in (c ∷ d ∷ []) = two_digits c d
lane_in text = None

abbrev pub other_word_in : List ℕ → Option Word
other_word_in text =
    if bytes_eq text (codes "collect") then Some Collect
    else if bytes_eq text (codes "retain") then Some Retain
    else if bytes_eq text (codes "update") then Some Update
    else if bytes_eq text (codes "commit") then Some Commit
    else None

-- the word of a request
abbrev pub word_in : List ℕ → Option Word
word_in text =
    if bytes_eq text (codes "resolve") then Some Resolve
    else if bytes_eq text (codes "open") then Some Open
    else if bytes_eq text (codes "cat") then Some Cat
    else if bytes_eq text (codes "check") then Some Check
    else if bytes_eq text (codes "close") then Some Close
    else other_word_in text

-- what follows a name, which has to be there
abbrev pub text_after : List ℕ → Option (List ℕ) → Result (List ℕ × List ℕ) LineFault
text_after name None = Err faults.Form
text_after name (Some text) = Ok (name, text)

-- a name, and what follows its space
abbrev pub named : List ℕ → Result (List ℕ × List ℕ) LineFault
named text =
    if is_script_name (first_cut space text).0 then text_after (first_cut space text).0 (first_cut space text).1
    else Err faults.Name

-- the URL of a package, without a file
abbrev pub without_file : Url → Option (List ℕ) → Result Url LineFault
without_file url None = Ok url
without_file url (Some file) = Err faults.FileInUrl

abbrev pub url_judged : Result Url UrlFault → Result Url LineFault
url_judged (Err fault) = Err (faults.Url fault)
url_judged (Ok url) = without_file url url.file

abbrev pub package_in : List ℕ → Result Url LineFault
package_in text = url_judged (url_in text)

abbrev pub put_first : Root → Result (List Root) LineFault → Result (List Root) LineFault
put_first root (Err fault) = Err fault
put_first root (Ok roots) = Ok (root ∷ roots)

-- the first of so many words is to be a root, and not past the limit
abbrev pub root_judged : ℕ → Option Root → Result (List Root) LineFault → Result (List Root) LineFault
root_judged number None rest = Err (faults.Root number)
root_judged number (Some root) rest =
    if nat_le number RETAIN_LIMIT then put_first root rest else Err (faults.Root number)

-- the roots that words are, the first of which has this number
unfoldable pub roots_in : ℕ → List (List ℕ) → Result (List Root) LineFault
roots_in number [] = Ok []
roots_in number (word ∷ words) = root_judged number (root_in word) (roots_in (number + 1) words)

-- the words of a text between its spaces
abbrev pub words_in : List ℕ → List (List ℕ)
words_in text = slice_split (λ c. c == space) text

-- ---- requests, behind their word

abbrev pub resolve_judged : List ℕ → Result Url LineFault → Result Ask LineFault
resolve_judged name (Err fault) = Err fault
resolve_judged name (Ok url) = Ok (asks.Resolve name url)

abbrev pub open_judged : List ℕ → Option NameAndVariant → Result Ask LineFault
open_judged name None = Err faults.Path
open_judged name (Some path) = Ok (asks.OpenPath name path)

-- what is asked for under a name, by what follows the name
abbrev pub about_name : Word → List ℕ → List ℕ → Result Ask LineFault
about_name Resolve name text = resolve_judged name (package_in text)
about_name Open name text = open_judged name (path_in text)
about_name Cat name text = if is_file_text text then Ok (asks.Cat name text) else Err faults.File
about_name Check name text = if is_file_text text then Ok (asks.Check name text) else Err faults.File
about_name word name text = Err faults.Form

abbrev pub named_judged : Word → Result (List ℕ × List ℕ) LineFault → Result Ask LineFault
named_judged word (Err fault) = Err fault
named_judged word (Ok parts) = about_name word parts.0 parts.1

abbrev pub update_judged : Result Url LineFault → Result Ask LineFault
update_judged (Err fault) = Err fault
update_judged (Ok url) = Ok (asks.Update url)

abbrev pub retain_judged : Result (List Root) LineFault → Result Ask LineFault
retain_judged (Err fault) = Err fault
retain_judged (Ok roots) = Ok (asks.Retain roots)

-- a word with something behind it
abbrev pub about : Word → List ℕ → Result Ask LineFault
about Close text = if is_script_name text then Ok (asks.Close text) else Err faults.Name
about Retain text = retain_judged (roots_in 1 (words_in text))
about Update text = update_judged (package_in text)
about Collect text = Err faults.Form
about Commit text = Err faults.Form
about word text = named_judged word (named text)

-- a word alone
abbrev pub alone : Word → Result Ask LineFault
alone Collect = Ok asks.Collect
alone Retain = Ok (asks.Retain [])
alone Commit = Ok asks.Commit
alone word = Err faults.Form

abbrev pub of_word : Option Word → Option (List ℕ) → Result Ask LineFault
of_word None text = Err faults.Form
of_word (Some word) None = alone word
of_word (Some word) (Some text) = about word text

-- what a text behind a lane asks for, or its first fault
abbrev pub ask_in : List ℕ → Result Ask LineFault
ask_in text = of_word (word_in (first_cut space text).0) (first_cut space text).1

-- ---- a line

-- the line is empty, or a comment
abbrev pub is_passed_over : List ℕ → Bool
is_passed_over [] = true
is_passed_over (c ∷ cs) = c == hash_sign

abbrev pub ask_judged : ℕ → ℕ → Result Ask LineFault → Result (Option Request) LineFault
ask_judged number lane (Err fault) = Err fault
ask_judged number lane (Ok ask) = Ok (Some (record { line = number; lane = lane; ask = ask }))

abbrev pub behind_lane : ℕ → Option ℕ → Option (List ℕ) → Result (Option Request) LineFault
behind_lane number None text = Err faults.Lane
behind_lane number (Some lane) None = Err faults.Form
behind_lane number (Some lane) (Some text) = ask_judged number lane (ask_in text)

abbrev pub request_in : ℕ → List ℕ → Result (Option Request) LineFault
request_in number line = behind_lane number (lane_in (first_cut space line).0) (first_cut space line).1

-- The request of the line with this number, or none where it is passed over; or what is wrong with it first.
abbrev pub line_in : ℕ → List ℕ → Result (Option Request) LineFault
line_in number line =
    if is_utf8 line then (if is_passed_over line then Ok None else request_in number line) else Err faults.Encoding
