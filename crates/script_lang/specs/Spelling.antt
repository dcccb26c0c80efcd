-- How a line of a script is written.
use Rattle.std.specs.Prelude.{◌≡◌, ℕ, ◌<◌, ◌≤◌, List, [], ◌∷◌, ◌++◌, length, codes, map, Some, None, All}
use Rattle.std.specs.List.{AllPass}
use Rattle.std.specs.List.{join_with_byte}
use Rattle.pkg_names.specs.declared.root.Root.{Root}
use Rattle.pkg_names.specs.Root.{IsRoot, root_text}
use Rattle.pkg_names.specs.FileText.{IsFile}
use Rattle.pkg_names.specs.NameAndVariant as names
use Rattle.pkg_names.specs.Text.{space}
use Rattle.package_url.specs.declared.url.Url.{Url}
use Rattle.package_url.specs.Url as urls
use Rattle.script_lang.specs.declared.request.Ask.{Ask}
use Rattle.script_lang.specs.declared.request.Ask.TheVariants.{Resolve, OpenPath, Cat, Check, Close, Collect, Retain, Update, Commit}
use Rattle.script_lang.specs.declared.request.Request.{Request}
use Rattle.script_lang.specs.declared.request.TheConstants.{RETAIN_LIMIT, SCRIPT_NAME_LIMIT}
use Rattle.script_lang.specs.Requests.{byte_in_script_name, lane_in}

-- a name that a script gives: 1 to 32 bytes of `a` to `z` and `0` to `9`
pub record IsScriptName (name : List ℕ) : Type 0 where
  pub not_empty : 0 < length name
  pub not_long : length name ≤ SCRIPT_NAME_LIMIT
  pub bytes : AllPass byte_in_script_name name

-- the text spells the URL of a package, without a file
abbrev pub SpellsPackage : List ℕ → Url → Type 0
SpellsPackage text url = urls.Spells text url × (url.file ≡ None)

-- a word, a name, and what follows it
abbrev pub IsNamed : List ℕ → List ℕ → List ℕ → List ℕ → Type 0
IsNamed text word name rest = IsScriptName name × (text ≡ word ++ space ∷ (name ++ space ∷ rest))

-- the texts of roots, each behind a space
abbrev pub roots_text : List Root → List ℕ
roots_text [] = []
roots_text (root ∷ roots) = space ∷ join_with_byte space (map root_text (root ∷ roots))

-- the text asks for this
abbrev pub Spells : List ℕ → Ask → Type 0
Spells text (Resolve name url) =
    (written : List ℕ) × IsNamed text (codes "resolve") name written × SpellsPackage written url
Spells text (OpenPath name path) =
    (written : List ℕ) × IsNamed text (codes "open") name written × names.Spells written path
Spells text (Cat name file) = IsNamed text (codes "cat") name file × IsFile file
Spells text (Check name file) = IsNamed text (codes "check") name file × IsFile file
Spells text (Close name) = IsScriptName name × (text ≡ codes "close" ++ space ∷ name)
Spells text Collect = text ≡ codes "collect"
Spells text (Retain roots) =
    (text ≡ codes "retain" ++ roots_text roots) × All IsRoot roots × (length roots ≤ RETAIN_LIMIT)
Spells text (Update url) =
    (written : List ℕ) × (text ≡ codes "update" ++ space ∷ written) × SpellsPackage written url
Spells text Commit = text ≡ codes "commit"

-- the line asks for this request: the number of its lane, and what the lane asks for
pub record Asks (line : List ℕ) (request : Request) : Type 0 where
  pub lane_text : List ℕ
  pub text : List ℕ
  pub written : line ≡ lane_text ++ space ∷ text
  pub lane : lane_in lane_text ≡ Some request.lane
  pub ask : Spells text request.ask
