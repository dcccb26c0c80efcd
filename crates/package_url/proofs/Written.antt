-- A text spells the URL that is read from it.
use Rattle.std.proofs.Common.{◌≡◌, ◌≢◌, ℕ, false, List, ◌∷◌, ◌++◌, Option, Some, None, Ok, Err, inl, inr, refl, sym, ap, subst, ◌∙◌, arith}
use Rattle.std.specs.Borrow.{Bor}
use Rattle.std.specs.Prelude.{option_and_then, IfSome}
use Rattle.std.proofs.lemmas.List.{append-nil}
use Rattle.std.proofs.lemmas.List.Elements.{All-append, All-nil, All-cons}
use Rattle.pkg_names.specs.declared.root.Root.{Root}
use Rattle.pkg_names.specs.Root.{IsRoot, is_lower_digit, root_text}
use Rattle.pkg_names.specs.NameAndVariant.{NameAndVariant, byte_in_name, IsName, IsPath, path_text}
use Rattle.pkg_names.specs.NameAndVariant as names
use Rattle.pkg_names.specs.Text.{hash_sign, question_mark, slash, HasNo}
use Rattle.pkg_names.proofs.Roots.{is_text}
use Rattle.package_url.specs.declared.url.Url.{Url}
use Rattle.package_url.specs.declared.fault.UrlFault.TheVariants.{Scheme}
use Rattle.package_url.specs.Url.{scheme, hash_key, byte_in_host, IsHost, IsUrlFile, IsUrl, query_text, fragment_text, text_around, url_text, Spells}
use Rattle.package_url.specs.Reading.{first_cut, IsCut, lent, behind, parts_of, host_in, path_in, pin_in, file_in, url_of, url_of_parts, url_behind, url_in}
use Rattle.package_url.proofs.Places.{no_cut, cut_there, is_cut, behind_there, behind_is, none_passes, none_tested}
use Rattle.package_url.proofs.PathTests.{path_in-path_text, path_in-name}
use Rattle.package_url.proofs.PartTexts.{host_is, host_in-host, path_is, query_of, pin_in-query_of, query_is, file_in-file, fragment_is}

-- ---- a text that is written is read

cut_fragment : (body : List ℕ) (file : Option (List ℕ)) → HasNo hash_sign body → first_cut hash_sign (body ++ fragment_text file) ≡ (body, file)
cut_fragment body None none = ap (first_cut hash_sign) (append-nil body) ∙ no_cut hash_sign body none
cut_fragment body (Some file) none = cut_there hash_sign body file none

cut_query : (front : List ℕ) (pin : Option Root) → HasNo question_mark front → first_cut question_mark (front ++ query_text pin) ≡ (front, query_of pin)
cut_query front None none = ap (first_cut question_mark) (append-nil front) ∙ no_cut question_mark front none
cut_query front (Some root) none = cut_there question_mark front _ none

front_none : (byte : ℕ) (host path : List ℕ) → byte_in_host byte ≡ false → slash ≢ byte → IsHost host → HasNo byte path → HasNo byte (host ++ slash ∷ path)
front_none byte host path off apart is none =
    All-append (λ x. x ≢ byte) host (slash ∷ path) (none_passes byte_in_host byte host off is.bytes) (All-cons (λ x. x ≢ byte) slash path apart none)

query_none : (pin : Option Root) → IfSome pin IsRoot → HasNo hash_sign (query_text pin)
query_none None is = All-nil (λ x. x ≢ hash_sign)
query_none (Some root) is =
    let key : HasNo hash_sign (question_mark ∷ hash_key) = none_tested hash_sign (question_mark ∷ hash_key) refl in
    let digits : HasNo hash_sign (root_text root) = none_passes is_lower_digit hash_sign (root_text root) refl (is_text root is).digits in
    All-append (λ x. x ≢ hash_sign) (question_mark ∷ hash_key) (root_text root) key digits

module _ (host path : List ℕ) (pin : Option Root) (file : Option (List ℕ)) (is : IsHost host) (is_root : IfSome pin IsRoot) (no_query : HasNo question_mark path) (no_fragment : HasNo hash_sign path) where
  pub parts_written : parts_of (((host ++ slash ∷ path) ++ query_text pin) ++ fragment_text file) ≡ record { host = host; path = Some path; query = query_of pin; fragment = file }
  unfolding parts_of
  parts_written =
      let body_none : HasNo hash_sign ((host ++ slash ∷ path) ++ query_text pin) =
      All-append (λ x. x ≢ hash_sign) (host ++ slash ∷ path) (query_text pin) (front_none hash_sign host path refl (λ e. omega arith) is no_fragment) (query_none pin is_root) in
      let front_has_none : HasNo question_mark (host ++ slash ∷ path) = front_none question_mark host path refl (λ e. omega arith) is no_query in
      let host_none : HasNo slash host = none_passes byte_in_host slash host refl is.bytes in
      rw (cut_fragment ((host ++ slash ∷ path) ++ query_text pin) file body_none, cut_query (host ++ slash ∷ path) pin front_has_none, cut_there slash host path host_none) refl

names_none : (byte : ℕ) (path : NameAndVariant) → byte_in_name byte ≡ false → slash ≢ byte → IsPath path → HasNo byte path.name × HasNo byte (path_text path)
names_none byte path off apart is =
    let name = none_passes byte_in_name byte path.name off is.0.bytes in
    let variant = none_passes byte_in_name byte path.variant off is.1.bytes in
    (name, All-append (λ x. x ≢ byte) path.name (slash ∷ path.variant) name (All-cons (λ x. x ≢ byte) slash path.variant apart variant))

around_read : (path : List ℕ) (url : Url) → IsUrl url → path_in path ≡ Some url.path → HasNo question_mark path → HasNo hash_sign path → url_in (text_around path url) ≡ Ok url
unfolding url_in
around_read path url is found no_query no_fragment =
    let front : behind scheme (text_around path url) ≡ Some (((url.host ++ slash ∷ path) ++ query_text url.pin) ++ fragment_text url.file) = behind_there scheme (((url.host ++ slash ∷ path) ++ query_text url.pin) ++ fragment_text url.file) in
    rw (front, parts_written url.host path url.pin url.file is.host is.pin no_query no_fragment)
    (rw (host_in-host url.host is.host, found, pin_in-query_of url.pin is.pin, file_in-file url.file is.file) refl)

pub read_again : (url : Url) → IsUrl url → url_in (url_text url) ≡ Ok url
read_again url is =
    around_read (path_text url.path) url is (path_in-path_text url.path is.path) (names_none question_mark url.path refl (λ e. omega arith) is.path).1 (names_none hash_sign url.path refl (λ e. omega arith) is.path).1

pub spelled : (text : List ℕ) (url : Url) → Spells text url → url_in text ≡ Ok url
spelled text url spells =
    let is = spells.valid in
    elim spells.written [
      | inl whole ↦ ap url_in whole ∙ read_again url is
      | inr alone ↦ ap url_in alone.0 ∙ around_read url.path.name url is (path_in-name url.path is.path alone.1)
          (names_none question_mark url.path refl (λ e. omega arith) is.path).0 (names_none hash_sign url.path refl (λ e. omega arith) is.path).0
    ]

-- ---- what is read is spelled

record AllThere (h : Option (List ℕ)) (p : Option NameAndVariant) (q : Option (Option Root)) (f : Option (Option (List ℕ))) (url : Url) : Type 0 where
  host : h ≡ Some url.host
  path : p ≡ Some url.path
  pin : q ≡ Some url.pin
  file : f ≡ Some url.file

all_there : (host : Option (List ℕ)) (path : Option NameAndVariant) (pin : Option (Option Root)) (file : Option (Option (List ℕ))) (url : Url) → url_of host path pin file ≡ Ok url
    → AllThere host path pin file url
all_there None path pin file url e = absurd cc
all_there (Some host) None pin file url e = absurd cc
all_there (Some host) (Some path) None file url e = absurd cc
all_there (Some host) (Some path) (Some pin) None url e = absurd cc
all_there (Some host) (Some path) (Some pin) (Some file) url e =
    let made : Url = record { host = host; path = path; pin = pin; file = file } in
    let same : made ≡ url = cc in
    subst (AllThere (Some host) (Some path) (Some pin) (Some file)) same (record { host = refl; path = refl; pin = refl; file = refl })

module _ (url : Url) (read : List ℕ) (is_host : IsHost url.host) (spells : names.Spells read url.path) (is_root : IfSome url.pin IsRoot) (is_file : IfSome url.file IsUrlFile) where
  spells_around : (text : List ℕ) → text ≡ text_around read url → Spells text url
  spells_around text e = record {
    valid = record { host = is_host; path = spells.0; pin = is_root; file = is_file };
    written = elim spells.1 [
      | inl whole ↦ inl (e ∙ ap (λ (p : List ℕ). text_around p url) whole)
      | inr alone ↦ inr (e ∙ ap (λ (p : List ℕ). text_around p url) alone.0, alone.1)
    ];
  }

joined : (text rest body front host read : List ℕ) (url : Url) → text ≡ scheme ++ rest → rest ≡ body ++ fragment_text url.file → body ≡ front ++ query_text url.pin → front ≡ host ++ slash ∷ read → host ≡ url.host
    → text ≡ text_around read url
joined text rest body front host read url a b c d e =
    a ∙ ap (λ (t : List ℕ). scheme ++ t) (b ∙ ap (λ (t : List ℕ). t ++ fragment_text url.file) (c ∙ ap (λ (t : List ℕ). t ++ query_text url.pin) (d ∙ ap (λ (t : List ℕ). t ++ slash ∷ read) e)))

host_cut : (front host : List ℕ) (path : Option (List ℕ)) (read : List ℕ) → IsCut slash front host path → path ≡ Some read → front ≡ host ++ slash ∷ read
host_cut front host path read cut e = (subst (IsCut slash front host) e cut).1

parts_spell : (text rest : List ℕ) (url : Url) → text ≡ scheme ++ rest → url_of_parts (parts_of rest) ≡ Ok url → Spells text url
unfolding parts_of
parts_spell text rest url front e =
    let body = first_cut hash_sign rest in
    let names = first_cut question_mark body.0 in
    let host = first_cut slash names.0 in
    let there : AllThere (host_in host.0) (option_and_then path_in host.1) (pin_in names.1) (file_in body.1) url = all_there (host_in host.0) (option_and_then path_in host.1) (pin_in names.1) (file_in body.1) url e in
    let h = host_is host.0 url.host there.host in
    let p = path_is host.1 url.path there.path in
    let q = query_is body.0 names.0 names.1 url.pin (is_cut question_mark body.0) there.pin in
    let f = fragment_is rest body.0 body.1 url.file (is_cut hash_sign rest) there.file in
    spells_around url p.0 h.1 p.2 q.1 f.1 text
    (joined text rest body.0 names.0 host.0 p.0 url front f.0 q.0 (host_cut names.0 host.0 host.1 p.0 (is_cut slash names.0) p.1) h.0)

pub reads : (text : List ℕ) (url : Url) → url_in text ≡ Ok url → Spells text url
unfolding url_in
reads text url e = go (behind scheme text) refl e where
  go : (found : Option (List ℕ)) → behind scheme text ≡ found → url_behind found ≡ Ok url → Spells text url
  go (Some rest) is h = parts_spell text rest url (behind_is scheme text rest is).0 h
  go None is h = absurd cc

-- ---- what the code looks at

pub no_scheme_read : (text : List ℕ) (r : Option (Bor (List ℕ))) → ((rest : Bor (List ℕ)) → r ≡ Some rest → ⊥) → lent r ≡ behind scheme text → url_in text ≡ Err Scheme
unfolding url_in
no_scheme_read text (Some rest) none e = absurd (none rest refl)
no_scheme_read text None none e = rw (sym e) refl

pub whole_read : (text rest body front host : List ℕ) (fragment query path : Option (List ℕ)) → Some rest ≡ behind scheme text → body ≡ (first_cut hash_sign rest).0 → fragment ≡ (first_cut hash_sign rest).1
    → front ≡ (first_cut question_mark body).0 → query ≡ (first_cut question_mark body).1 → host ≡ (first_cut slash front).0 → path ≡ (first_cut slash front).1
    → url_of (host_in host) (option_and_then path_in path) (pin_in query) (file_in fragment) ≡ url_in text
unfolding url_in parts_of
whole_read text rest body front host fragment query path e a b c d f g =
    rw (sym e) (rw (f, g) (rw (c, d) (rw (a, b) refl)))
