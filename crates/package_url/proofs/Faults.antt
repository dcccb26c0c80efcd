-- A text has the first fault that is read from it.
use Rattle.std.proofs.Common.{◌≡◌, ◌≢◌, ℕ, List, ◌++◌, length, drop, Option, Some, None, Result, Ok, Err, inl, inr, ◌⊎◌, refl, sym, ap, subst, ◌∙◌}
use Rattle.std.specs.Prelude.{option_and_then}
use Rattle.std.specs.Option.{option_map}
use Rattle.pkg_names.specs.declared.root.Root.{Root}
use Rattle.pkg_names.specs.Root.{IsRoot, root_text}
use Rattle.pkg_names.specs.NameAndVariant.{NameAndVariant}
use Rattle.pkg_names.specs.NameAndVariant as names
use Rattle.package_url.specs.declared.url.Url.{Url}
use Rattle.package_url.specs.declared.fault.UrlFault.{UrlFault}
use Rattle.package_url.specs.declared.fault.UrlFault.TheVariants.{Scheme, Host, Path, Hash, Fragment, NoMemory}
use Rattle.package_url.specs.Url.{scheme, hash_key, IsHost, IsUrlFile, Spells}
use Rattle.package_url.specs.Reading.{behind, parts, parts_of, host_in, path_in, hash_in, pin_in, file_in, url_of, url_of_parts, url_behind, url_in, HasFault, IsFirstFault}
use Rattle.package_url.proofs.Places.{behind_is, behind_none}
use Rattle.package_url.proofs.PathTests.{path_in_only, path_in_none, is_url_file_text-Decides}
use Rattle.package_url.proofs.PartTexts.{host_in-host, host_in_none, hash_is, hash_in-text, file_in-file}
use Rattle.package_url.proofs.Written.{reads, spelled}
use Rattle.std.proofs.lemmas.Bool.{false_from_ne_true}

-- two facts that follow from each other
abbrev Both : Type 0 → Type 0 → Type 0
Both P Q = (P → Q) × (Q → P)

scheme_fault : (text : List ℕ) → Both (HasFault text Scheme) (behind scheme text ≡ None)
scheme_fault text = (λ unmet. go unmet (behind scheme text) refl, λ none. behind_none scheme text none) where
  go : HasFault text Scheme → (found : Option (List ℕ)) → behind scheme text ≡ found → behind scheme text ≡ None
  go unmet (Some rest) e = absurd (unmet rest (behind_is scheme text rest e).0)
  go unmet None e = e

host_fault : (host : List ℕ) → Both (IsHost host → ⊥) (host_in host ≡ None)
host_fault host = (λ unmet. host_in_none host unmet, λ none is. let there = host_in-host host is in absurd cc)

path_fault : (path : Option (List ℕ)) → Both ((read : List ℕ) (p : NameAndVariant) → path ≡ Some read → names.Spells read p → ⊥) (option_and_then path_in path ≡ None)
path_fault None = (λ unmet. refl, λ none read p e spells. absurd cc)
path_fault (Some text) = (
  λ unmet. path_in_none text (λ p spells. unmet text p refl spells),
  λ none read p e spells.
      let same : text ≡ read = cc in
      let there : path_in text ≡ Some p = path_in_only text p (subst (λ (t : List ℕ). names.Spells t p) (sym same) spells) in
      absurd cc,
)

-- no query of a root
abbrev NoHash : List ℕ → Type 0
NoHash query = (root : Root) → IsRoot root → query ≢ hash_key ++ root_text root

no_hash : (query : List ℕ) (hash : Option Root) → hash_in query ≡ hash → Both (NoHash query) (option_map (λ root. Some root) hash ≡ None)
no_hash query (Some root) is = (λ unmet. let h = hash_is query root is in absurd (unmet root h.1 h.0), λ none. absurd cc)
no_hash query None is = (λ unmet. refl, λ none root is_root e. let there = hash_in-text query root is_root e in absurd cc)

pin_fault : (query : Option (List ℕ)) → Both ((text : List ℕ) × (query ≡ Some text) × NoHash text) (pin_in query ≡ None)
pin_fault None = (λ h. absurd (let e : None ≡ Some h.0 = h.1 in cc), λ none. absurd cc)
pin_fault (Some query) =
    let both = no_hash query (hash_in query) refl in
    (λ h. both.0 (let same : query ≡ h.0 = (let e : Some query ≡ Some h.0 = h.1 in cc) in subst NoHash (sym same) h.2), λ none. (query, refl, both.1 none))

no_file : (text : List ℕ) → (IsUrlFile text → ⊥) → file_in (Some text) ≡ None
no_file text unmet = rw (false_from_ne_true _ (λ e. unmet ((is_url_file_text-Decides text).0 e))) refl

file_fault : (fragment : Option (List ℕ)) → Both ((text : List ℕ) × (fragment ≡ Some text) × (IsUrlFile text → ⊥)) (file_in fragment ≡ None)
file_fault None = (λ h. absurd (let e : None ≡ Some h.0 = h.1 in cc), λ none. absurd cc)
file_fault (Some text) =
    (λ h. no_file text (let same : text ≡ h.0 = (let e : Some text ≡ Some h.0 = h.1 in cc) in subst (λ (t : List ℕ). IsUrlFile t → ⊥) (sym same) h.2), λ none. (text, refl, λ is. let there = file_in-file (Some text) is in absurd cc))

-- ---- the first part that isn't there

abbrev Judged : Option (List ℕ) → Option NameAndVariant → Option (Option Root) → Option (Option (List ℕ)) → UrlFault → Type 0
Judged host path pin file Scheme = ⊥
Judged host path pin file Host = host ≡ None
Judged host path pin file Path = (host ≢ None) × (path ≡ None)
Judged host path pin file Hash = (host ≢ None) × (path ≢ None) × (pin ≡ None)
Judged host path pin file Fragment = (host ≢ None) × (path ≢ None) × (pin ≢ None) × (file ≡ None)
Judged host path pin file NoMemory = ⊥

judged : (host : Option (List ℕ)) (path : Option NameAndVariant) (pin : Option (Option Root)) (file : Option (Option (List ℕ))) (fault : UrlFault) → url_of host path pin file ≡ Err fault → Judged host path pin file fault
judged None path pin file fault e =
    let same : Host ≡ fault = cc in
    subst (Judged None path pin file) same refl
judged (Some host) None pin file fault e =
    let same : Path ≡ fault = cc in
    subst (Judged (Some host) None pin file) same (λ n. cc, refl)
judged (Some host) (Some path) None file fault e =
    let same : Hash ≡ fault = cc in
    subst (Judged (Some host) (Some path) None file) same (λ n. cc, λ n. cc, refl)
judged (Some host) (Some path) (Some pin) None fault e =
    let same : Fragment ≡ fault = cc in
    subst (Judged (Some host) (Some path) (Some pin) None) same (λ n. cc, λ n. cc, λ n. cc, refl)
judged (Some host) (Some path) (Some pin) (Some file) fault e = absurd cc

there : {A : Type 0} (o : Option A) → o ≢ None → (x : A) × (o ≡ Some x)
there (Some x) some = (x, refl)
there None some = absurd (some refl)

told : (host : Option (List ℕ)) (path : Option NameAndVariant) (pin : Option (Option Root)) (file : Option (Option (List ℕ))) (fault : UrlFault) → Judged host path pin file fault → url_of host path pin file ≡ Err fault
told host path pin file Scheme h = absurd h
told host path pin file Host h = rw h refl
told host path pin file Path h =
    let a = there host h.0 in
    rw (a.1, h.1) refl
told host path pin file Hash h =
    let a = there host h.0 in
    let b = there path h.1 in
    rw (a.1, b.1, h.2) refl
told host path pin file Fragment h =
    let a = there host h.0 in
    let b = there path h.1 in
    let c = there pin h.2 in
    rw (a.1, b.1, c.1, h.3) refl
told host path pin file NoMemory h = absurd h

module _ (text : List ℕ) where
  abbrev JudgedHere : UrlFault → Type 0
  JudgedHere fault = Judged (host_in (parts text).host) (option_and_then path_in (parts text).path) (pin_in (parts text).query) (file_in (parts text).fragment) fault

  from_judged : (fault : UrlFault) → (HasFault text Scheme → ⊥) → JudgedHere fault → IsFirstFault text fault
  from_judged Scheme some h = absurd h
  from_judged Host some h = record { here = (host_fault (parts text).host).1 h; before = (some, tt) }
  from_judged Path some h = record {
    here = (path_fault (parts text).path).1 h.1;
    before = (some, (λ f. h.0 ((host_fault (parts text).host).0 f), tt));
  }
  from_judged Hash some h = record {
    here = (pin_fault (parts text).query).1 h.2;
    before = (some, (λ f. h.0 ((host_fault (parts text).host).0 f), (λ f. h.1 ((path_fault (parts text).path).0 f), tt)));
  }
  from_judged Fragment some h = record {
    here = (file_fault (parts text).fragment).1 h.3;
    before = (some, (λ f. h.0 ((host_fault (parts text).host).0 f), (λ f. h.1 ((path_fault (parts text).path).0 f), (λ f. h.2 ((pin_fault (parts text).query).0 f), tt))));
  }
  from_judged NoMemory some h = absurd h

  to_judged : (fault : UrlFault) → fault ≢ Scheme → IsFirstFault text fault → (HasFault text Scheme → ⊥) × JudgedHere fault
  to_judged Scheme other is = absurd (other refl)
  to_judged Host other is = (is.before.0, (host_fault (parts text).host).0 is.here)
  to_judged Path other is = (is.before.0, (λ n. is.before.1.0 ((host_fault (parts text).host).1 n), (path_fault (parts text).path).0 is.here))
  to_judged Hash other is =
      (is.before.0, (λ n. is.before.1.0 ((host_fault (parts text).host).1 n), λ n. is.before.1.1.0 ((path_fault (parts text).path).1 n), (pin_fault (parts text).query).0 is.here))
  to_judged Fragment other is =
      (is.before.0, (λ n. is.before.1.0 ((host_fault (parts text).host).1 n), λ n. is.before.1.1.0 ((path_fault (parts text).path).1 n), λ n. is.before.1.1.1.0 ((pin_fault (parts text).query).1 n), (file_fault (parts text).fragment).0 is.here))
  to_judged NoMemory other is = absurd is.here

  -- ---- the whole

  behind_some : (HasFault text Scheme → ⊥) → behind scheme text ≡ Some (drop (length scheme) text)
  behind_some some = go (behind scheme text) refl where
    go : (found : Option (List ℕ)) → behind scheme text ≡ found → behind scheme text ≡ Some (drop (length scheme) text)
    go (Some rest) e = e ∙ ap (λ (t : List ℕ). Some t) (behind_is scheme text rest e).1
    go None e = absurd (some ((scheme_fault text).1 e))

  url_in_parts : (HasFault text Scheme → ⊥) → url_in text ≡ url_of_parts (parts text)
  unfolding url_in
  url_in_parts some = rw (behind_some some) refl

  pub read_fault : (fault : UrlFault) → url_in text ≡ Err fault → IsFirstFault text fault
  unfolding url_in
  read_fault fault e = go (behind scheme text) refl e where
    go : (found : Option (List ℕ)) → behind scheme text ≡ found → url_behind found ≡ Err fault → IsFirstFault text fault
    go (Some rest) is h =
        let some : HasFault text Scheme → ⊥ = λ unmet. unmet rest (behind_is scheme text rest is).0 in
        let here : url_of_parts (parts text) ≡ Err fault = subst (λ (t : List ℕ). url_of_parts (parts_of t) ≡ Err fault) (behind_is scheme text rest is).1 h in
        from_judged fault some (judged (host_in (parts text).host) (option_and_then path_in (parts text).path) (pin_in (parts text).query) (file_in (parts text).fragment) fault here)
    go None is h =
        let same : Scheme ≡ fault = cc in
        subst (IsFirstFault text) same (record { here = (scheme_fault text).1 is; before = tt })

  other_fault : (fault : UrlFault) → fault ≢ Scheme → IsFirstFault text fault → url_in text ≡ Err fault
  other_fault fault other is =
      let h = to_judged fault other is in
      url_in_parts h.0 ∙ told (host_in (parts text).host) (option_and_then path_in (parts text).path) (pin_in (parts text).query) (file_in (parts text).fragment) fault h.1

  no_scheme : HasFault text Scheme → url_in text ≡ Err Scheme
  unfolding url_in
  no_scheme f = rw ((scheme_fault text).0 f) refl

  pub is_read : (fault : UrlFault) → IsFirstFault text fault → url_in text ≡ Err fault
  is_read Scheme is = no_scheme is.here
  is_read Host is = other_fault Host (λ e. cc) is
  is_read Path is = other_fault Path (λ e. cc) is
  is_read Hash is = other_fault Hash (λ e. cc) is
  is_read Fragment is = other_fault Fragment (λ e. cc) is
  is_read NoMemory is = absurd is.here

  pub either : ((url : Url) × Spells text url) ⊎ ((fault : UrlFault) × IsFirstFault text fault)
  either = go (url_in text) refl where
    go : (found : Result Url UrlFault) → url_in text ≡ found → ((url : Url) × Spells text url) ⊎ ((fault : UrlFault) × IsFirstFault text fault)
    go (Ok url) e = inl (url, reads text url e)
    go (Err fault) e = inr (fault, read_fault fault e)

  pub never_both : (url : Url) (fault : UrlFault) → Spells text url → IsFirstFault text fault → ⊥
  never_both url fault spells is =
      let a = spelled text url spells in
      let b = is_read fault is in
      cc

  pub one_url : (url other : Url) → Spells text url → Spells text other → url ≡ other
  one_url url other a b =
      let one = spelled text url a in
      let two = spelled text other b in
      cc

  pub one_fault : (fault other : UrlFault) → IsFirstFault text fault → IsFirstFault text other → fault ≡ other
  one_fault fault other a b =
      let one = is_read fault a in
      let two = is_read other b in
      cc
