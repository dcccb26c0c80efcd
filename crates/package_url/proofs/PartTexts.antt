-- What each part of a text says.
use Rattle.std.proofs.Common.{◌≡◌, ℕ, ◌<◌, length, inl, inr, arith, Bool, true, false, cond, List, ◌∷◌, ◌++◌, Option, Some, None, refl, sym, ap, subst, ◌∙◌}
use Rattle.std.specs.Prelude.{option_and_then, IfSome, IsUtf8, slice_index}
use Rattle.std.proofs.lemmas.Str.{IsUtf8-from_ascii}
use Rattle.std.proofs.lemmas.Bool.Decides.{nat_tests}
use Rattle.std.specs.Option.{option_map}
use Rattle.std.proofs.lemmas.Bool.{false_from_ne_true, cases_lt}
use Rattle.std.proofs.lemmas.List.{append-nil, get_or_past}
use Rattle.pkg_names.specs.declared.root.Root.{Root}
use Rattle.pkg_names.specs.Root.{IsRoot, root_in, root_text}
use Rattle.pkg_names.specs.NameAndVariant.{NameAndVariant}
use Rattle.pkg_names.specs.NameAndVariant as names
use Rattle.pkg_names.specs.Text.{hash_sign, question_mark}
use Rattle.pkg_names.proofs.Roots.{root_in_spells, root_in-root_text}
use Rattle.package_url.specs.Url.{hash_key, byte_in_host, IsHost, IsUrlFile, query_text, fragment_text}
use Rattle.package_url.specs.Reading.{IsCut, behind, is_host_text, host_in, path_in, hash_in, pin_in, is_url_file_text, file_in}
use Rattle.package_url.proofs.Places.{behind_there, behind_is}
use Rattle.package_url.proofs.PathTests.{is_host_text-Decides, is_url_file_text-Decides, path_in_spells}

-- ---- the host

host_tested : (text host : List ℕ) (test : Bool) → is_host_text text ≡ test → cond test (Some text) None ≡ Some host → (text ≡ host) × IsHost host
host_tested text host true is e =
    let same : text ≡ host = cc in
    (same, subst IsHost same ((is_host_text-Decides text).0 is))
host_tested text host false is e = absurd cc

pub host_is : (text host : List ℕ) → host_in text ≡ Some host → (text ≡ host) × IsHost host
host_is text host e = host_tested text host (is_host_text text) refl e

pub host_in-host : (host : List ℕ) → IsHost host → host_in host ≡ Some host
host_in-host host is = rw ((is_host_text-Decides host).1 is) refl

pub host_in_none : (text : List ℕ) → (IsHost text → ⊥) → host_in text ≡ None
host_in_none text unmet = rw (false_from_ne_true (is_host_text text) (λ e. unmet ((is_host_text-Decides text).0 e))) refl

-- ---- the path

pub path_is : (text : Option (List ℕ)) (path : NameAndVariant) → option_and_then path_in text ≡ Some path → (read : List ℕ) × (text ≡ Some read) × names.Spells read path
path_is (Some read) path e = (read, refl, path_in_spells read path e)
path_is None path e = absurd cc

-- ---- the query

root_found : (query rest : List ℕ) (root : Root) → behind hash_key query ≡ Some rest → root_in rest ≡ Some root → (query ≡ hash_key ++ root_text root) × IsRoot root
root_found query rest root front found =
    let is = root_in_spells rest root found in
    ((behind_is hash_key query rest front).0 ∙ ap (λ (t : List ℕ). hash_key ++ t) is.0, is.1)

hash_found : (query : List ℕ) (root : Root) (rest : Option (List ℕ)) → behind hash_key query ≡ rest → option_and_then root_in rest ≡ Some root → (query ≡ hash_key ++ root_text root) × IsRoot root
hash_found query root (Some rest) is e = root_found query rest root is e
hash_found query root None is e = absurd cc

pub hash_is : (query : List ℕ) (root : Root) → hash_in query ≡ Some root → (query ≡ hash_key ++ root_text root) × IsRoot root
hash_is query root e = hash_found query root (behind hash_key query) refl e

pub hash_in-text : (query : List ℕ) (root : Root) → IsRoot root → query ≡ hash_key ++ root_text root → hash_in query ≡ Some root
hash_in-text query root is e =
    ap hash_in e ∙ rw (behind_there hash_key (root_text root)) (root_in-root_text root is)

-- the query of a pin
abbrev pub query_of : Option Root → Option (List ℕ)
query_of pin = option_map (λ root. hash_key ++ root_text root) pin

pub pin_in-query_of : (pin : Option Root) → IfSome pin IsRoot → pin_in (query_of pin) ≡ Some pin
pin_in-query_of None is = refl
pin_in-query_of (Some root) is = rw (hash_in-text (hash_key ++ root_text root) root is refl) refl

query_found : (body front query : List ℕ) (pin : Option Root) (hash : Option Root) → body ≡ front ++ question_mark ∷ query → hash_in query ≡ hash → option_map (λ root. Some root) hash ≡ Some pin
    → (body ≡ front ++ query_text pin) × IfSome pin IsRoot
query_found body front query pin (Some root) cut is e =
    let same : Some root ≡ pin = cc in
    let h = hash_is query root is in
    subst (λ (p : Option Root). (body ≡ front ++ query_text p) × IfSome p IsRoot) same (cut ∙ ap (λ (q : List ℕ). front ++ question_mark ∷ q) h.0, h.1)
query_found body front query pin None cut is e = absurd cc

pub query_is : (body front : List ℕ) (query : Option (List ℕ)) (pin : Option Root) → IsCut question_mark body front query → pin_in query ≡ Some pin
    → (body ≡ front ++ query_text pin) × IfSome pin IsRoot
query_is body front None pin cut e =
    let same : None ≡ pin = cc in
    subst (λ (p : Option Root). (body ≡ front ++ query_text p) × IfSome p IsRoot) same (cut.1 ∙ sym (append-nil front), tt)
query_is body front (Some query) pin cut e = query_found body front query pin (hash_in query) cut.1 refl e

-- ---- the fragment

pub file_in-file : (file : Option (List ℕ)) → IfSome file IsUrlFile → file_in file ≡ Some file
file_in-file None is = refl
file_in-file (Some file) is = rw ((is_url_file_text-Decides file).1 is) refl

file_tested : (text body fragment : List ℕ) (file : Option (List ℕ)) (test : Bool) → text ≡ body ++ hash_sign ∷ fragment → is_url_file_text fragment ≡ test
    → cond test (Some (Some fragment)) None ≡ Some file → (text ≡ body ++ fragment_text file) × IfSome file IsUrlFile
file_tested text body fragment file true cut is e =
    let same : Some fragment ≡ file = cc in
    subst (λ (f : Option (List ℕ)). (text ≡ body ++ fragment_text f) × IfSome f IsUrlFile) same (cut, (is_url_file_text-Decides fragment).0 is)
file_tested text body fragment file false cut is e = absurd cc

pub fragment_is : (text body : List ℕ) (fragment file : Option (List ℕ)) → IsCut hash_sign text body fragment → file_in fragment ≡ Some file
    → (text ≡ body ++ fragment_text file) × IfSome file IsUrlFile
fragment_is text body None file cut e =
    let same : None ≡ file = cc in
    subst (λ (f : Option (List ℕ)). (text ≡ body ++ fragment_text f) × IfSome f IsUrlFile) same (cut.1 ∙ sym (append-nil body), tt)
fragment_is text body (Some fragment) file cut e = file_tested text body fragment file (is_url_file_text fragment) cut.1 refl e

-- ---- a host is ASCII

is_low : (c : ℕ) → byte_in_host c ≡ true → c < 128
is_low c on = grind (arith, nat_tests)

pub host_is_utf8 : (text : List ℕ) → IsHost text → IsUtf8 text
host_is_utf8 text is = IsUtf8-from_ascii text (λ i. below i) where
  below : (i : ℕ) → slice_index text i < 128
  below i = elim (cases_lt i (length text)) [
    | inl inside ↦ is_low (slice_index text i) (is.bytes i 0 inside)
    | inr past ↦ omega (arith, get_or_past text i 0)
  ]
