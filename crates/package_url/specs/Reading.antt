-- The URL in a text, or its first fault.
use Rattle.std.specs.Prelude.{◌≡◌, ◌≢◌, ℕ, ◌==◌, ◌&&◌, not, nat_lt, nat_le, Bool, List, [], ◌∷◌, ◌++◌, length, take, drop, codes, Option, Some, None, option_and_then, Result, Ok, Err, if◌then◌else◌}
use Rattle.std.specs.Borrow.{Bor}
use Rattle.std.specs.Option.{option_map}
use Rattle.std.specs.List.{list_all, AllByRecursion}
use Rattle.std.specs.Str.{bytes_eq}
use Rattle.pkg_names.specs.declared.root.Root.{Root}
use Rattle.pkg_names.specs.declared.path.TheConstants.{NAME_LIMIT}
use Rattle.pkg_names.specs.Root.{IsRoot, root_in, root_text}
use Rattle.pkg_names.specs.NameAndVariant.{NameAndVariant, byte_in_name}
use Rattle.pkg_names.specs.NameAndVariant as names
use Rattle.pkg_names.specs.FileText.{is_file_text}
use Rattle.pkg_names.specs.Text.{hash_sign, question_mark, slash, HasNo}
use Rattle.package_url.specs.declared.url.Url.{Url}
use Rattle.package_url.specs.declared.url.TheConstants.{HOST_LIMIT}
use Rattle.package_url.specs.declared.fault.UrlFault.{UrlFault}
use Rattle.package_url.specs.declared.fault.UrlFault.TheVariants.{Scheme, Host, Path, Hash, Fragment, NoMemory}
use Rattle.package_url.specs.Url.{scheme, hash_key, percent_sign, byte_in_host, IsHost, IsUrlFile}

-- ---- the parts of a text

-- a text at its first such byte: what stands before it, and what follows it, if it is there
unfoldable pub first_cut : ℕ → List ℕ → List ℕ × Option (List ℕ)
first_cut byte [] = ([], None)
first_cut byte (c ∷ rest) =
    if c == byte then ([], Some rest) else (c ∷ (first_cut byte rest).0, (first_cut byte rest).1)

-- a text is cut so
abbrev pub IsCut : ℕ → List ℕ → List ℕ → Option (List ℕ) → Type 0
IsCut byte text before None = HasNo byte text × (text ≡ before)
IsCut byte text before (Some after) = HasNo byte before × (text ≡ before ++ byte ∷ after)

-- the text that a reference is to
abbrev pub lent : Option (Bor (List ℕ)) → Option (List ℕ)
lent text = option_map (λ t. t.now) text

-- what follows this front, if the text begins with it
unfoldable pub behind : List ℕ → List ℕ → Option (List ℕ)
behind front text = if bytes_eq (take (length front) text) front then Some (drop (length front) text) else None

-- the host, and what follows its slash, the `?` and the `#`
pub record Parts : Type 0 where
  pub host : List ℕ
  pub path : Option (List ℕ)
  pub query : Option (List ℕ)
  pub fragment : Option (List ℕ)

-- Of the text behind the scheme: the fragment follows the first `#`, the query the first `?` of the rest,
-- and the host ends at the first slash of what is left.
unfoldable pub parts_of : List ℕ → Parts
parts_of text =
    let body = first_cut hash_sign text in
    let front = first_cut question_mark body.0 in
    let names = first_cut slash front.0 in
    record { host = names.0; path = names.1; query = front.1; fragment = body.1 }

-- ---- each part

abbrev pub is_host_text : List ℕ → Bool
is_host_text text = nat_lt 0 (length text) && nat_le (length text) HOST_LIMIT && list_all byte_in_host text

abbrev pub host_in : List ℕ → Option (List ℕ)
host_in text = if is_host_text text then Some text else None

-- a name or a variant, as a test
abbrev pub is_name_text : List ℕ → Bool
is_name_text text =
    nat_lt 0 (length text) && nat_le (length text) NAME_LIMIT && list_all byte_in_name text
    && not (bytes_eq text (codes ".")) && not (bytes_eq text (codes ".."))

-- the path of these two parts, if they are names
abbrev pub path_of : List ℕ → List ℕ → Option NameAndVariant
path_of name variant =
    if is_name_text name && is_name_text variant then Some (record { name = name; variant = variant }) else None

-- the path in a text; the variant is `0` where none is written
abbrev pub path_cut : List ℕ → Option (List ℕ) → Option NameAndVariant
path_cut name None = path_of name (codes "0")
path_cut name (Some variant) = path_of name variant

unfoldable pub path_in : List ℕ → Option NameAndVariant
path_in text = path_cut (first_cut slash text).0 (first_cut slash text).1

-- the root behind `hash=`
abbrev pub hash_in : List ℕ → Option Root
hash_in query = option_and_then root_in (behind hash_key query)

-- where there is no query there is no pin
abbrev pub pin_in : Option (List ℕ) → Option (Option Root)
pin_in None = Some None
pin_in (Some query) = option_map (λ root. Some root) (hash_in query)

abbrev pub is_url_file_text : List ℕ → Bool
is_url_file_text text = is_file_text text && list_all (λ c. not (c == percent_sign)) text

-- where there is no fragment there is no file
abbrev pub file_in : Option (List ℕ) → Option (Option (List ℕ))
file_in None = Some None
file_in (Some text) = if is_url_file_text text then Some (Some text) else None

-- ---- the whole

-- the URL of its parts, or the fault of the first one that isn't there
abbrev pub url_of : Option (List ℕ) → Option NameAndVariant → Option (Option Root) → Option (Option (List ℕ))
    → Result Url UrlFault
url_of None path pin file = Err Host
url_of (Some host) None pin file = Err Path
url_of (Some host) (Some path) None file = Err Hash
url_of (Some host) (Some path) (Some pin) None = Err Fragment
url_of (Some host) (Some path) (Some pin) (Some file) =
    Ok (record { host = host; path = path; pin = pin; file = file })

abbrev pub url_of_parts : Parts → Result Url UrlFault
url_of_parts parts =
    url_of (host_in parts.host) (option_and_then path_in parts.path) (pin_in parts.query) (file_in parts.fragment)

abbrev pub url_behind : Option (List ℕ) → Result Url UrlFault
url_behind None = Err Scheme
url_behind (Some text) = url_of_parts (parts_of text)

-- the URL in a text, or its first fault
unfoldable pub url_in : List ℕ → Result Url UrlFault
url_in text = url_behind (behind scheme text)

-- ---- faults

-- the parts of what follows the scheme
abbrev pub parts : List ℕ → Parts
parts text = parts_of (drop (length scheme) text)

-- this is wrong with the text
abbrev pub HasFault : List ℕ → UrlFault → Type 0
HasFault text Scheme = (rest : List ℕ) → text ≢ scheme ++ rest
HasFault text Host = ¬ IsHost (parts text).host
HasFault text Path =
    (path : List ℕ) (read : NameAndVariant) → (parts text).path ≡ Some path → ¬ names.Spells path read
HasFault text Hash =
    (query : List ℕ) × ((parts text).query ≡ Some query)
    × ((root : Root) → IsRoot root → query ≢ hash_key ++ root_text root)
HasFault text Fragment = (file : List ℕ) × ((parts text).fragment ≡ Some file) × ¬ IsUrlFile file
HasFault text NoMemory = ⊥

-- the faults that are judged before it
abbrev pub faults_before : UrlFault → List UrlFault
faults_before Scheme = []
faults_before Host = Scheme ∷ []
faults_before Path = Scheme ∷ Host ∷ []
faults_before Hash = Scheme ∷ Host ∷ Path ∷ []
faults_before Fragment = Scheme ∷ Host ∷ Path ∷ Hash ∷ []
faults_before NoMemory = []

-- this is the first thing that is wrong with the text
pub record IsFirstFault (text : List ℕ) (fault : UrlFault) : Type 0 where
  pub here : HasFault text fault
  pub before : AllByRecursion (λ other. ¬ HasFault text other) (faults_before fault)
