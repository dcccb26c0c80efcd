-- A text asks for what it spells.
use Rattle.std.proofs.Common.{◌≡◌, ◌≢◌, ℕ, ◌≤◌, Bool, true, false, cond, List, [], ◌∷◌, ◌++◌, ◌⊎◌, inl, inr, length, All, Option, Some, None, Result, Ok, Err, refl, sym, ap, subst, ◌∙◌, arith}
use Rattle.std.specs.Prelude.{codes, ◌↔◌}
use Rattle.pkg_names.specs.declared.root.Root.{Root}
use Rattle.std.specs.Prelude.{map}
use Rattle.std.specs.List.{join_with_byte}
use Rattle.std.proofs.lemmas.List.Elements.{All-nil}
use Rattle.pkg_names.specs.Root.{IsRoot, root_text}
use Rattle.pkg_names.specs.NameAndVariant.{NameAndVariant}
use Rattle.pkg_names.specs.NameAndVariant as names
use Rattle.pkg_names.specs.FileText.{IsFile, is_file_text}
use Rattle.pkg_names.specs.Text.{space, HasNo}
use Rattle.pkg_names.proofs.FileTests.{is_file_text-Decides}
use Rattle.package_url.specs.declared.url.Url.{Url}
use Rattle.package_url.specs.declared.fault.UrlFault.{UrlFault}
use Rattle.package_url.specs.Url as urls
use Rattle.package_url.specs.Reading.{first_cut, IsCut, url_in, path_in}
use Rattle.package_url.proofs.Places.{no_cut, cut_there, is_cut}
use Rattle.package_url.proofs.PathTests.{path_in_spells, path_in_only}
use Rattle.script_lang.specs.declared.request.Ask.{Ask}
use Rattle.script_lang.specs.declared.request.Ask.TheVariants as asks
use Rattle.script_lang.specs.declared.request.LineFault.{LineFault}
use Rattle.script_lang.specs.declared.request.LineFault.TheVariants as faults
use Rattle.script_lang.specs.declared.request.TheConstants.{RETAIN_LIMIT}
use Rattle.script_lang.specs.declared.words.Word.{Word}
use Rattle.script_lang.specs.declared.words.Word.TheVariants.{Resolve, Open, Cat, Check, Close, Collect, Retain, Update, Commit}
use Rattle.script_lang.specs.Requests.{is_script_name, word_in, named, text_after, without_file, url_judged, package_in, open_judged, resolve_judged, update_judged, retain_judged, about_name, named_judged, about, alone, of_word, ask_in, roots_in, words_in}
use Rattle.script_lang.specs.Spelling.{IsScriptName, SpellsPackage, IsNamed, roots_text, Spells}
use Rattle.script_lang.proofs.Spelled.{word_text, word_is, word_in-text, word_has_no_space, is_script_name-Decides, name_has_no_space}
use Rattle.script_lang.proofs.RootsSpelled.{roots_read, roots_there}

-- a text spells a URL exactly where the reader of URLs finds it there
abbrev pub UrlsAreSpelled : Type 0
UrlsAreSpelled = (text : List ℕ) (url : Url) → (url_in text ≡ Ok url) ↔ urls.Spells text url

-- ---- the parts

name_tested : (text : List ℕ) (test : Bool) (after : Option (List ℕ)) (name rest : List ℕ) → is_script_name text ≡ test → cond test (text_after text after) (Err faults.Name) ≡ Ok (name, rest)
    → IsScriptName text × (text ≡ name) × (after ≡ Some rest)
name_tested text false after name rest is e = absurd cc
name_tested text true None name rest is e = absurd cc
name_tested text true (Some x) name rest is e =
    let parts : ◌≡◌ {A = List ℕ × List ℕ} (text, x) (name, rest) = cc in
    ((is_script_name-Decides text).0 is, ap (λ (p : List ℕ × List ℕ). p.0) parts, ap (λ (p : List ℕ × List ℕ). Some p.1) parts)

-- a name, and what follows it
named_is : (text name rest : List ℕ) → named text ≡ Ok (name, rest) → IsScriptName name × (text ≡ name ++ space ∷ rest)
named_is text name rest e =
    let cut = first_cut space text in
    let p = name_tested cut.0 (is_script_name cut.0) cut.1 name rest refl e in
    let is = subst (λ (after : Option (List ℕ)). IsCut space text cut.0 after) p.2 (is_cut space text) in
    (subst IsScriptName p.1 p.0, is.1 ∙ ap (λ (n : List ℕ). n ++ space ∷ rest) p.1)

named_there : (name rest : List ℕ) → IsScriptName name → named (name ++ space ∷ rest) ≡ Ok (name, rest)
named_there name rest is = rw (cut_there space name rest (name_has_no_space name is), (is_script_name-Decides name).1 is) refl

module _ (spelled : UrlsAreSpelled) where
  judged_is : (text : List ℕ) (read : Result Url UrlFault) (url : Url) → url_in text ≡ read → url_judged read ≡ Ok url → SpellsPackage text url
  judged_is text (Err fault) url is e = absurd cc
  judged_is text (Ok found) url is e = plain found.file refl e where
    plain : (file : Option (List ℕ)) → found.file ≡ file → without_file found file ≡ Ok url → SpellsPackage text url
    plain (Some file) has e = absurd cc
    plain None has e = let same : found ≡ url = cc in subst (SpellsPackage text) same ((spelled text found).0 is, has)

  package_is : (text : List ℕ) (url : Url) → package_in text ≡ Ok url → SpellsPackage text url
  package_is text url e = judged_is text (url_in text) url refl e

  package_there : (text : List ℕ) (url : Url) → SpellsPackage text url → package_in text ≡ Ok url
  package_there text url is = rw ((spelled text url).1 is.0, is.1) refl

  -- ---- requests

  open_is : (text name rest : List ℕ) (found : Option NameAndVariant) (ask : Ask) → IsNamed text (codes "open") name rest → path_in rest ≡ found → open_judged name found ≡ Ok ask → Spells text ask
  open_is text name rest None ask is read e = absurd cc
  open_is text name rest (Some path) ask is read e =
      let same : asks.OpenPath name path ≡ ask = cc in
      subst (Spells text) same (rest, is, path_in_spells rest path read)

  resolve_is : (text name rest : List ℕ) (found : Result Url LineFault) (ask : Ask) → IsNamed text (codes "resolve") name rest → package_in rest ≡ found → resolve_judged name found ≡ Ok ask → Spells text ask
  resolve_is text name rest (Err fault) ask is read e = absurd cc
  resolve_is text name rest (Ok url) ask is read e =
      let same : asks.Resolve name url ≡ ask = cc in
      subst (Spells text) same (rest, is, package_is rest url read)

  file_is : (text name rest : List ℕ) (made ask : Ask) (test : Bool) → is_file_text rest ≡ test → cond test (Ok made) (Err faults.File) ≡ Ok ask → (IsFile rest → Spells text made) → Spells text ask
  file_is text name rest made ask false is e shape = absurd cc
  file_is text name rest made ask true is e shape =
      let same : made ≡ ask = cc in
      subst (Spells text) same (shape ((is_file_text-Decides rest).0 is))

  about_name_is : (text : List ℕ) (word : Word) (name rest : List ℕ) (ask : Ask) → IsNamed text (word_text word) name rest → about_name word name rest ≡ Ok ask → Spells text ask
  about_name_is text Resolve name rest ask is e = resolve_is text name rest (package_in rest) ask is refl e
  about_name_is text Open name rest ask is e = open_is text name rest (path_in rest) ask is refl e
  about_name_is text Cat name rest ask is e = file_is text name rest (asks.Cat name rest) ask (is_file_text rest) refl e (λ file. (is, file))
  about_name_is text Check name rest ask is e = file_is text name rest (asks.Check name rest) ask (is_file_text rest) refl e (λ file. (is, file))
  about_name_is text Close name rest ask is e = absurd cc
  about_name_is text Collect name rest ask is e = absurd cc
  about_name_is text Retain name rest ask is e = absurd cc
  about_name_is text Update name rest ask is e = absurd cc
  about_name_is text Commit name rest ask is e = absurd cc

  named_judged_is : (text : List ℕ) (word : Word) (behind : List ℕ) (parts : Result (List ℕ × List ℕ) LineFault) (ask : Ask) → text ≡ word_text word ++ space ∷ behind → named behind ≡ parts → named_judged word parts ≡ Ok ask → Spells text ask
  named_judged_is text word behind (Err fault) ask whole read e = absurd cc
  named_judged_is text word behind (Ok parts) ask whole read e =
      let is = named_is behind parts.0 parts.1 read in
      about_name_is text word parts.0 parts.1 ask (is.0, whole ∙ ap (λ (t : List ℕ). word_text word ++ space ∷ t) is.1) e

  close_is : (text name : List ℕ) (ask : Ask) (test : Bool) → text ≡ codes "close" ++ space ∷ name → is_script_name name ≡ test → cond test (Ok (asks.Close name)) (Err faults.Name) ≡ Ok ask → Spells text ask
  close_is text name ask false whole is e = absurd cc
  close_is text name ask true whole is e =
      let same : asks.Close name ≡ ask = cc in
      subst (Spells text) same ((is_script_name-Decides name).0 is, whole)

  update_is : (text behind : List ℕ) (found : Result Url LineFault) (ask : Ask) → text ≡ codes "update" ++ space ∷ behind → package_in behind ≡ found → update_judged found ≡ Ok ask → Spells text ask
  update_is text behind (Err fault) ask whole read e = absurd cc
  update_is text behind (Ok url) ask whole read e =
      let same : asks.Update url ≡ ask = cc in
      subst (Spells text) same (behind, whole, package_is behind url read)

  retain_is : (text behind : List ℕ) (found : Result (List Root) LineFault) (ask : Ask) → text ≡ codes "retain" ++ space ∷ behind → roots_in 1 (words_in behind) ≡ found → retain_judged found ≡ Ok ask → Spells text ask
  retain_is text behind (Err fault) ask whole read e = absurd cc
  retain_is text behind (Ok roots) ask whole read e =
      let same : asks.Retain roots ≡ ask = cc in
      let is = roots_read behind roots read in
      subst (Spells text) same (whole ∙ ap (λ (t : List ℕ). codes "retain" ++ t) is.0, is.1, is.2)

  about_is : (text : List ℕ) (word : Word) (behind : List ℕ) (ask : Ask) → text ≡ word_text word ++ space ∷ behind → about word behind ≡ Ok ask → Spells text ask
  about_is text Close behind ask whole e = close_is text behind ask (is_script_name behind) whole refl e
  about_is text Retain behind ask whole e = retain_is text behind (roots_in 1 (words_in behind)) ask whole refl e
  about_is text Update behind ask whole e = update_is text behind (package_in behind) ask whole refl e
  about_is text Collect behind ask whole e = absurd cc
  about_is text Commit behind ask whole e = absurd cc
  about_is text Resolve behind ask whole e = named_judged_is text Resolve behind (named behind) ask whole refl e
  about_is text Open behind ask whole e = named_judged_is text Open behind (named behind) ask whole refl e
  about_is text Cat behind ask whole e = named_judged_is text Cat behind (named behind) ask whole refl e
  about_is text Check behind ask whole e = named_judged_is text Check behind (named behind) ask whole refl e

  made : (text : List ℕ) (one ask : Ask) → ◌≡◌ {A = Result Ask LineFault} (Ok one) (Ok ask) → Spells text one → Spells text ask
  made text one ask e is = let same : one ≡ ask = cc in subst (Spells text) same is

  alone_is : (text : List ℕ) (word : Word) (ask : Ask) → text ≡ word_text word → alone word ≡ Ok ask → Spells text ask
  alone_is text Collect ask whole e = made text asks.Collect ask e whole
  alone_is text Commit ask whole e = made text asks.Commit ask e whole
  alone_is text Retain ask whole e = made text (asks.Retain []) ask e (whole, All-nil IsRoot, omega arith)
  alone_is text Resolve ask whole e = absurd cc
  alone_is text Open ask whole e = absurd cc
  alone_is text Cat ask whole e = absurd cc
  alone_is text Check ask whole e = absurd cc
  alone_is text Close ask whole e = absurd cc
  alone_is text Update ask whole e = absurd cc

  of_word_is : (text before : List ℕ) (after : Option (List ℕ)) (word : Option Word) (ask : Ask) → IsCut space text before after → word_in before ≡ word → of_word word after ≡ Ok ask → Spells text ask
  of_word_is text before after None ask cut is e = absurd cc
  of_word_is text before None (Some word) ask cut is e = alone_is text word ask (cut.1 ∙ word_is before word is) e
  of_word_is text before (Some behind) (Some word) ask cut is e =
      about_is text word behind ask (cut.1 ∙ ap (λ (t : List ℕ). t ++ space ∷ behind) (word_is before word is)) e

  pub ask_spells : (text : List ℕ) (ask : Ask) → ask_in text ≡ Ok ask → Spells text ask
  ask_spells text ask e = of_word_is text (first_cut space text).0 (first_cut space text).1 (word_in (first_cut space text).0) ask (is_cut space text) refl e

  -- ---- the other way

  about_there : (text : List ℕ) (word : Word) (behind : List ℕ) (ask : Ask) → text ≡ word_text word ++ space ∷ behind → about word behind ≡ Ok ask → ask_in text ≡ Ok ask
  about_there text word behind ask whole e = rw (whole, cut_there space (word_text word) behind (word_has_no_space word), word_in-text word) e

  alone_there : (text : List ℕ) (word : Word) (ask : Ask) → text ≡ word_text word → alone word ≡ Ok ask → ask_in text ≡ Ok ask
  alone_there text word ask whole e = rw (whole, no_cut space (word_text word) (word_has_no_space word), word_in-text word) e

  retain_there : (text : List ℕ) (roots : List Root) → text ≡ codes "retain" ++ roots_text roots → All IsRoot roots → length roots ≤ RETAIN_LIMIT → ask_in text ≡ Ok (asks.Retain roots)
  retain_there text [] whole valid few = alone_there text Retain (asks.Retain []) whole refl
  retain_there text (root ∷ roots) whole valid few =
      about_there text Retain (join_with_byte space (map root_text (root ∷ roots))) (asks.Retain (root ∷ roots)) whole
      (rw (roots_there (join_with_byte space (map root_text (root ∷ roots))) root roots refl valid few) refl)

  pub ask_there : (text : List ℕ) (ask : Ask) → Spells text ask → ask_in text ≡ Ok ask
  ask_there text (asks.Resolve name url) is =
      about_there text Resolve (name ++ space ∷ is.0) (asks.Resolve name url) is.1.1 (rw (named_there name is.0 is.1.0, package_there is.0 url is.2) refl)
  ask_there text (asks.OpenPath name path) is =
      about_there text Open (name ++ space ∷ is.0) (asks.OpenPath name path) is.1.1 (rw (named_there name is.0 is.1.0, path_in_only is.0 path is.2) refl)
  ask_there text (asks.Cat name file) is =
      about_there text Cat (name ++ space ∷ file) (asks.Cat name file) is.0.1 (rw (named_there name file is.0.0, (is_file_text-Decides file).1 is.1) refl)
  ask_there text (asks.Check name file) is =
      about_there text Check (name ++ space ∷ file) (asks.Check name file) is.0.1 (rw (named_there name file is.0.0, (is_file_text-Decides file).1 is.1) refl)
  ask_there text (asks.Close name) is = about_there text Close name (asks.Close name) is.1 (rw ((is_script_name-Decides name).1 is.0) refl)
  ask_there text asks.Collect is = alone_there text Collect asks.Collect is refl
  ask_there text (asks.Retain roots) is = retain_there text roots is.0 is.1 is.2
  ask_there text (asks.Update url) is = about_there text Update is.0 (asks.Update url) is.1 (rw (package_there is.0 url is.2) refl)
  ask_there text asks.Commit is = alone_there text Commit asks.Commit is refl
