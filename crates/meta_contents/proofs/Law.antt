-- What is read is what the text stands for.
use Rattle.std.proofs.Common.{◌≡◌, ℕ, ◌+◌, ◌<◌, ◌≤◌, Bool, true, false, cond, ltb, eqb, List, [], ◌∷◌, ◌++◌, length, map, All, Option, Some, None, Result, Ok, Err, refl, sym, ap, subst, ◌∙◌, append_assoc, arith}
use Rattle.std.specs.Prelude.{option_and_then, IsUtf8, ◌↔◌}
use Rattle.std.specs.Option.{option_map}
use Rattle.std.specs.List.{IsDistinct, AllByRecursion, onto_first}
use Rattle.std.specs.Str.{bytes_eq}
use Rattle.std.proofs.lemmas.Str.{is_utf8-from_IsUtf8}
use Rattle.std.proofs.lemmas.Bool.{ltb-false, le-ltb, lt-ltb, eqb-true}
use Rattle.std.proofs.lemmas.List.{append-nil, map-append}
use Rattle.std.proofs.lemmas.List.Elements.{All-nil, All-cons}
use Rattle.pkg_names.specs.declared.root.Root.{Root}
use Rattle.pkg_names.specs.Root.{IsRoot, root_in, root_text}
use Rattle.pkg_names.specs.FileText.{IsFile, is_file_text}
use Rattle.pkg_names.specs.Text.{lines_of}
use Rattle.meta_contents.specs.declared.fault.ContentsFault.{ContentsFault}
use Rattle.meta_contents.specs.declared.fault.ContentsFault.TheVariants.{Utf8, InMeta, Repeat, TooMany}
use Rattle.meta_contents.specs.Lines.{longer, last_cut, pair_of, pair_in}
use Rattle.meta_contents.specs.Contents.{Pair, paths, is_in_meta, is_among, IsContents, line_text, placed, ◌>>=◌, reading, contents_of}
use Rattle.meta_contents.proofs.Cuts.{FilesAreTested}
use Rattle.meta_contents.proofs.Texts.{is_no_text}
use Rattle.meta_contents.proofs.Placing.{among_more}

-- a text has a root where it is that root's text
abbrev pub RootsHaveTexts : Type 0
RootsHaveTexts = (text : List ℕ) (root : Root) → (root_in text ≡ Some root) ↔ ((text ≡ root_text root) × IsRoot root)

-- ---- a line

longer_spells : (c : ℕ) (rest : List ℕ) (below : Option (List ℕ × List ℕ)) → ((cut : List ℕ × List ℕ) → below ≡ Some cut → rest ≡ cut.0 ++ 61 ∷ cut.1)
    → (cut : List ℕ × List ℕ) → longer c rest below ≡ Some cut → c ∷ rest ≡ cut.0 ++ 61 ∷ cut.1
longer_spells c rest (Some inner) so cut e =
    let same : (c ∷ inner.0, inner.1) ≡ cut = cc in
    ap (λ (l : List ℕ). c ∷ l) (so inner refl) ∙ ap (λ (p : List ℕ × List ℕ). p.0 ++ 61 ∷ p.1) same
longer_spells c rest None so cut e = first (eqb c 61) refl e
  where
    first : (b : Bool) → eqb c 61 ≡ b → cond b (Some ([], rest)) None ≡ Some cut → c ∷ rest ≡ cut.0 ++ 61 ∷ cut.1
    first true t h =
        let start : List ℕ × List ℕ = ([], rest) in
        let same : start ≡ cut = cc in
        ap (λ (x : ℕ). x ∷ rest) (eqb-true c 61 t) ∙ ap (λ (p : List ℕ × List ℕ). p.0 ++ 61 ∷ p.1) same
    first false t h = absurd cc

cut_spells : (line : List ℕ) (cut : List ℕ × List ℕ) → last_cut line ≡ Some cut → line ≡ cut.0 ++ 61 ∷ cut.1
unfolding last_cut
cut_spells [] cut e = absurd cc
cut_spells (c ∷ rest) cut e = longer_spells c rest (last_cut rest) (cut_spells rest) cut e

-- what a line that says something is
record Says (line : List ℕ) (pair : Pair) : Type 0 where
  text : line ≡ line_text pair
  file : IsFile pair.0
  root : IsRoot pair.1

mapped : (path : List ℕ) (found : Option Root) (pair : Pair) → option_map (λ root. (path, root)) found ≡ Some pair → (root : Root) × (found ≡ Some root) × ((path, root) ≡ pair)
mapped path (Some root) pair e = (root, refl, cc)
mapped path None pair e = absurd cc

passes : (b : Bool) (found : Option Pair) (pair : Pair) → cond b found None ≡ Some pair → (b ≡ true) × (found ≡ Some pair)
passes true found pair e = (refl, e)
passes false found pair e = absurd cc

cut_says : FilesAreTested → RootsHaveTexts → (line : List ℕ) (cut : List ℕ × List ℕ) (pair : Pair) → line ≡ cut.0 ++ 61 ∷ cut.1 → pair_of cut ≡ Some pair → Says line pair
cut_says tested texts line cut pair spells e =
    let t = passes (is_file_text cut.0) (option_map (λ root. (cut.0, root)) (root_in cut.1)) pair e in
    let m = mapped cut.0 (root_in cut.1) pair t.1 in
    let r = (texts cut.1 m.0).0 m.1 in
    let here : Pair = (cut.0, m.0) in
    subst (Says line) m.2 (record { text = spells ∙ ap (λ (l : List ℕ). cut.0 ++ 61 ∷ l) r.0; file = (tested cut.0).0 t.0; root = r.1 })

line_says : FilesAreTested → RootsHaveTexts → (line : List ℕ) (pair : Pair) → pair_in line ≡ Some pair → Says line pair
line_says tested texts line pair e = go (last_cut line) refl e
  where
    go : (found : Option (List ℕ × List ℕ)) → last_cut line ≡ found → option_and_then pair_of found ≡ Some pair → Says line pair
    go (Some cut) is h = cut_says tested texts line cut pair (cut_spells line cut is) h
    go None is h = absurd cc

-- ---- lines

record Placed (seen : List (List ℕ)) (found : Option Pair) (pair : Pair) : Type 0 where
  same : found ≡ Some pair
  outer : is_in_meta pair.0 ≡ false
  fresh : is_among pair.0 seen ≡ false

choose : (m r : Bool) (n : ℕ) (p pair : Pair) → cond m (Err (InMeta n)) (cond r (Err (Repeat n)) (Ok p)) ≡ Ok pair → (m ≡ false) × (r ≡ false) × (p ≡ pair)
choose true r n p pair e = absurd cc
choose false true n p pair e = absurd cc
choose false false n p pair e = (refl, refl, cc)

placed_is : (n : ℕ) (seen : List (List ℕ)) (found : Option Pair) (pair : Pair) → placed n seen found ≡ Ok pair → Placed seen found pair
placed_is n seen None pair e = absurd cc
placed_is n seen (Some p) pair e =
    let h = choose (is_in_meta p.0) (is_among p.0 seen) n p pair e in
    record { same = ap (λ (x : Pair). Some x) h.2; outer = subst (λ (x : Pair). is_in_meta x.0 ≡ false) h.2 h.0; fresh = subst (λ (x : Pair). is_among x.0 seen ≡ false) h.2 h.1 }

pub bind_ok : {A B : Type 0} (r : Result A ContentsFault) (f : A → Result B ContentsFault) (y : B) → (r >>= f) ≡ Ok y → (x : A) × (r ≡ Ok x) × (f x ≡ Ok y)
bind_ok (Ok x) f y e = (x, refl, e)
bind_ok (Err d) f y e = absurd cc

-- what lines that were read are
pub record AreRead (seen : List (List ℕ)) (n : ℕ) (lines : List (List ℕ)) (list : List Pair) : Type 0 where
  pub text : lines ≡ map line_text list
  pub few : n + length list ≤ 4097
  pub files : All (λ pair. IsFile pair.0) list
  pub roots : All (λ pair. IsRoot pair.1) list
  pub outer : All (λ pair. is_in_meta pair.0 ≡ false) list
  pub fresh : AllByRecursion (λ path. is_among path seen ≡ false) (paths list)
  pub distinct : IsDistinct bytes_eq (paths list)

apart : (a b : Bool) → cond a true b ≡ false → (a ≡ false) × (b ≡ false)
apart true b e = absurd cc
apart false b e = (refl, e)

fresh_apart : (seen : List (List ℕ)) (path : List ℕ) (others : List (List ℕ)) → AllByRecursion (λ q. is_among q (seen ++ path ∷ []) ≡ false) others
    → AllByRecursion (λ q. is_among q seen ≡ false) others × AllByRecursion (λ q. bytes_eq path q ≡ false) others
fresh_apart seen path [] h = (tt, tt)
fresh_apart seen path (q ∷ others) h =
    let both = apart (bytes_eq path q) (is_among q seen) (sym (among_more q path seen) ∙ h.0) in
    let rest = fresh_apart seen path others h.1 in
    ((both.1, rest.0), (both.0, rest.1))

not_many : (b : Bool) (read : Result (List Pair) ContentsFault) (list : List Pair) → cond b (Err TooMany) read ≡ Ok list → (b ≡ false) × (read ≡ Ok list)
not_many true read list e = absurd cc
not_many false read list e = (refl, e)

pub are_read : FilesAreTested → RootsHaveTexts → (lines : List (List ℕ)) (seen : List (List ℕ)) (n : ℕ) (list : List Pair) → n ≤ 4097 → reading seen n lines ≡ Ok list → AreRead seen n lines list
unfolding reading IsDistinct
are_read tested texts [] seen n list le e =
    let none : [] ≡ list = cc in
    subst (AreRead seen n []) none
    (record {
      text = refl;
      few = omega arith;
      files = All-nil (λ pair. IsFile pair.0);
      roots = All-nil (λ pair. IsRoot pair.1);
      outer = All-nil (λ pair. is_in_meta pair.0 ≡ false);
      fresh = tt;
      distinct = tt;
    })
are_read tested texts (line ∷ lines) seen n list le e =
    let m = not_many (ltb 4096 n) _ list e in
    let below : n ≤ 4096 = ltb-false 4096 n m.0 in
    let one = bind_ok (placed n seen (pair_in line)) (λ pair. reading (seen ++ pair.0 ∷ []) (n + 1) lines >>= λ others. Ok (pair ∷ others)) list m.1 in
    let pair = one.0 in
    let is = placed_is n seen (pair_in line) pair one.1 in
    let says = line_says tested texts line pair is.same in
    let more = bind_ok (reading (seen ++ pair.0 ∷ []) (n + 1) lines) (λ others. Ok (pair ∷ others)) list one.2 in
    let others = are_read tested texts lines (seen ++ pair.0 ∷ []) (n + 1) more.0 (omega arith) more.1 in
    let whole : pair ∷ more.0 ≡ list = cc in
    let split = fresh_apart seen pair.0 (paths more.0) others.fresh in
    subst (AreRead seen n (line ∷ lines)) whole
    (record {
      text = ap (λ (l : List ℕ). l ∷ lines) says.text ∙ ap (λ (ls : List (List ℕ)). line_text pair ∷ ls) others.text;
      few = omega (arith, others.few);
      files = All-cons (λ (p : Pair). IsFile p.0) pair more.0 says.file others.files;
      roots = All-cons (λ (p : Pair). IsRoot p.1) pair more.0 says.root others.roots;
      outer = All-cons (λ (p : Pair). is_in_meta p.0 ≡ false) pair more.0 is.outer others.outer;
      fresh = (is.fresh, split.0);
      distinct = (split.1, others.distinct);
    })

pub are_contents : FilesAreTested → RootsHaveTexts → (lines : List (List ℕ)) (list : List Pair) → reading [] 1 lines ≡ Ok list → IsContents list
are_contents tested texts lines list e =
    let is = are_read tested texts lines [] 1 list (omega arith) e in
    record { few = omega (arith, is.few); files = is.files; roots = is.roots; outer = is.outer; distinct = is.distinct }

-- ---- reading one line after the other

abbrev pub with_front : List Pair → Result (List Pair) ContentsFault → Result (List Pair) ContentsFault
with_front front read = read >>= λ others. Ok (front ++ others)

alone : (read : Result (List Pair) ContentsFault) → with_front [] read ≡ read
alone (Ok x) = refl
alone (Err f) = refl

pub begins : (now : List Pair) (lines : List (List ℕ)) → now ≡ [] → with_front now (reading (paths now) 1 lines) ≡ reading [] 1 lines
begins now lines none = ap (λ (l : List Pair). with_front l (reading (paths l) 1 lines)) none ∙ alone (reading [] 1 lines)

regroup : (front : List Pair) (pair : Pair) (read : Result (List Pair) ContentsFault) → with_front front (read >>= λ others. Ok (pair ∷ others)) ≡ with_front (front ++ pair ∷ []) read
regroup front pair (Ok x) = ap (λ (l : List Pair). Ok l) (simp append_assoc)
regroup front pair (Err f) = refl

pub goes_on : (front now : List Pair) (n : ℕ) (line : List ℕ) (rest : List (List ℕ)) (pair : Pair) (total : Result (List Pair) ContentsFault) → n ≤ 4096 → placed n (paths front) (pair_in line) ≡ Ok pair
    → now ≡ front ++ pair ∷ [] → with_front front (reading (paths front) n (line ∷ rest)) ≡ total → with_front now (reading (paths now) (n + 1) rest) ≡ total
unfolding reading
goes_on front now n line rest pair total le found grown so_far =
    let below : ltb 4096 n ≡ false = le-ltb 4096 n le in
    let names : paths (front ++ pair ∷ []) ≡ paths front ++ pair.0 ∷ [] = map-append (λ (p : Pair). p.0) front (pair ∷ []) in
    let one : with_front front (reading (paths front) n (line ∷ rest)) ≡ with_front (front ++ pair ∷ []) (reading (paths front ++ pair.0 ∷ []) (n + 1) rest) = rw (below, found) (regroup front pair (reading (paths front ++ pair.0 ∷ []) (n + 1) rest)) in
    ap (λ (l : List Pair). with_front l (reading (paths l) (n + 1) rest)) grown ∙ ap (λ (ps : List (List ℕ)). with_front (front ++ pair ∷ []) (reading ps (n + 1) rest)) names ∙ sym one ∙ so_far

pub ends : (front : List Pair) (n : ℕ) (line : List ℕ) (rest : List (List ℕ)) (fault : ContentsFault) (total : Result (List Pair) ContentsFault) → n ≤ 4096 → placed n (paths front) (pair_in line) ≡ Err fault
    → with_front front (reading (paths front) n (line ∷ rest)) ≡ total → Err fault ≡ total
unfolding reading
ends front n line rest fault total le found so_far =
    let below : ltb 4096 n ≡ false = le-ltb 4096 n le in
    let one : with_front front (reading (paths front) n (line ∷ rest)) ≡ Err fault = rw (below, found) refl in
    sym one ∙ so_far

pub is_done : (front : List Pair) (n : ℕ) (total : Result (List Pair) ContentsFault) → with_front front (reading (paths front) n []) ≡ total → Ok front ≡ total
unfolding reading
is_done front n total so_far =
    let one : with_front front (reading (paths front) n []) ≡ Ok front = ap (λ (l : List Pair). Ok l) (append-nil front) in
    sym one ∙ so_far

pub too_many : (front : List Pair) (n : ℕ) (line : List ℕ) (rest : List (List ℕ)) (total : Result (List Pair) ContentsFault) → 4096 < n → with_front front (reading (paths front) n (line ∷ rest)) ≡ total → Err TooMany ≡ total
unfolding reading
too_many front n line rest total lt so_far =
    let above : ltb 4096 n ≡ true = lt-ltb 4096 n lt in
    let one : with_front front (reading (paths front) n (line ∷ rest)) ≡ Err TooMany = rw above refl in
    sym one ∙ so_far

-- a text that is UTF-8 or not
pub in_text : (text : List ℕ) → IsUtf8 text → reading [] 1 (lines_of text) ≡ contents_of text
unfolding contents_of
in_text text utf8 = sym (rw (is_utf8-from_IsUtf8 text utf8) refl)

pub in_no_text : (text : List ℕ) → (IsUtf8 text → ⊥) → Err Utf8 ≡ contents_of text
unfolding contents_of
in_no_text text not_utf8 = sym (rw (is_no_text text not_utf8) refl)

-- a text has a first line
onto : (c : ℕ) (b : Bool) (parts : List (List ℕ)) → (line : List ℕ) × (rest : List (List ℕ)) × (cond b ([] ∷ parts) (onto_first c parts) ≡ line ∷ rest)
onto c true parts = ([], parts, refl)
onto c false [] = (c ∷ [], [], refl)
onto c false (part ∷ parts) = (c ∷ part, parts, refl)

pub has_a_line : (text : List ℕ) → 0 < length text → (line : List ℕ) × (rest : List (List ℕ)) × (lines_of text ≡ line ∷ rest)
has_a_line [] some = absurd (omega arith)
has_a_line (c ∷ text) some = onto c (eqb c 10) (lines_of text)
