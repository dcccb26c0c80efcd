-- What a line asks for is what it spells.
use Rattle.std.proofs.Common.{◌≡◌, ◌≢◌, ℕ, ◌+◌, ◌≤◌, Bool, true, false, not, eqb, cond, List, [], ◌∷◌, ◌++◌, ◌⊎◌, inl, inr, length, map, All, Option, Some, None, Result, Ok, Err, refl, sym, ap, subst, ◌∙◌, arith}
use Rattle.std.specs.Prelude.{codes, nat_le, ◌↔◌}
use Rattle.std.specs.Bool.{Decides}
use Rattle.std.specs.List.{list_all, join_with_byte, slice_split}
use Rattle.std.specs.Str.{bytes_eq}
use Rattle.std.proofs.lemmas.Slice.Eq.{bytes_eq-Decides}
use Rattle.std.proofs.lemmas.Bool.Decides.{Decides-like, Decides-and, Decides-ltb, nat_tests}
use Rattle.std.proofs.lemmas.List.Sums.{AllPass-from_list_all, list_all-from_AllPass}
use Rattle.pkg_names.specs.declared.root.Root.{Root}
use Rattle.pkg_names.specs.Text.{space, HasNo}
use Rattle.package_url.specs.Reading.{first_cut, IsCut}
use Rattle.package_url.proofs.Places.{none_tested, none_passes, cut_there, is_cut}
use Rattle.script_lang.specs.declared.words.Word.{Word}
use Rattle.script_lang.specs.declared.words.Word.TheVariants.{Resolve, Open, Cat, Check, Close, Collect, Retain, Update, Commit}
use Rattle.script_lang.specs.Requests.{byte_in_script_name, is_script_name, word_in, other_word_in}
use Rattle.script_lang.specs.Spelling.{IsScriptName}

-- ---- words

abbrev pub word_text : Word → List ℕ
word_text Resolve = codes "resolve"
word_text Open = codes "open"
word_text Cat = codes "cat"
word_text Check = codes "check"
word_text Close = codes "close"
word_text Collect = codes "collect"
word_text Retain = codes "retain"
word_text Update = codes "update"
word_text Commit = codes "commit"

tried : (text : List ℕ) (x : Word) (rest : Option Word) (word : Word) (test : Bool) → bytes_eq text (word_text x) ≡ test → cond test (Some x) rest ≡ Some word → (rest ≡ Some word → text ≡ word_text word) → text ≡ word_text word
tried text x rest word true on found more = let same : x ≡ word = cc in (bytes_eq-Decides text (word_text x)).0 on ∙ ap word_text same
tried text x rest word false off found more = more found

next : (text : List ℕ) (x : Word) (rest : Option Word) (word : Word) → cond (bytes_eq text (word_text x)) (Some x) rest ≡ Some word → (rest ≡ Some word → text ≡ word_text word) → text ≡ word_text word
next text x rest word found more = tried text x rest word (bytes_eq text (word_text x)) refl found more

pub word_is : (text : List ℕ) (word : Word) → word_in text ≡ Some word → text ≡ word_text word
word_is text word found =
    next text Resolve _ word found (λ found. next text Open _ word found (λ found. next text Cat _ word found (λ found. next text Check _ word found (λ found. next text Close _ word found
    (λ found. next text Collect _ word found (λ found. next text Retain _ word found (λ found. next text Update _ word found (λ found. next text Commit _ word found (λ found. absurd cc)))))))))

pub word_in-text : (word : Word) → word_in (word_text word) ≡ Some word
word_in-text Resolve = refl
word_in-text Open = refl
word_in-text Cat = refl
word_in-text Check = refl
word_in-text Close = refl
word_in-text Collect = refl
word_in-text Retain = refl
word_in-text Update = refl
word_in-text Commit = refl

spaceless : (word : Word) → list_all (λ c. not (eqb c space)) (word_text word) ≡ true
spaceless Resolve = refl
spaceless Open = refl
spaceless Cat = refl
spaceless Check = refl
spaceless Close = refl
spaceless Collect = refl
spaceless Retain = refl
spaceless Update = refl
spaceless Commit = refl

pub word_has_no_space : (word : Word) → HasNo space (word_text word)
word_has_no_space word = none_tested space (word_text word) (spaceless word)

-- ---- names

Decides-leb : (a b : ℕ) → Decides (nat_le a b) (a ≤ b)
Decides-leb a b = (λ h. grind (arith, nat_tests), λ h. grind (arith, nat_tests))

pub is_script_name-Decides : (text : List ℕ) → Decides (is_script_name text) (IsScriptName text)
is_script_name-Decides text =
    let a = Decides-and _ _ (Decides-ltb 0 (length text)) (Decides-leb (length text) 32) in
    let b = Decides-and _ _ a (AllPass-from_list_all byte_in_script_name text, list_all-from_AllPass byte_in_script_name text) in
    Decides-like (is_script_name text) (λ h. record { not_empty = h.0.0; not_long = h.0.1; bytes = h.1 })
    (λ (is : IsScriptName text). ((is.not_empty, is.not_long), is.bytes)) b

pub name_has_no_space : (name : List ℕ) → IsScriptName name → HasNo space name
name_has_no_space name is = none_passes byte_in_script_name space name refl is.bytes
