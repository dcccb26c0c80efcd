-- The inner files: their names ascend, and those that are made are found.
use Rattle.std.proofs.Common.{inl, inr, ◌≡◌, ◌≢◌, ℕ, zero, suc, ◌+◌, ◌-◌, ◌≤◌, Bool, true, false, List, [], ◌∷◌, length, Some, refl, sym, ap, ◌∙◌, arith}
use Rattle.std.specs.Prelude.{◌||◌}
use Rattle.std.specs.List.{All, AllPairs, list_any}
use Rattle.std.specs.Str.{bytes_eq}
use Rattle.std.specs.Ordering.{nat_cmp, is_eq, is_lt, ordering_reverse}
use Rattle.std.specs.Cmp.Lexicographic.{slice_cmp}
use Rattle.std.specs.declared.cmp.Ordering.{Ordering}
use Rattle.std.specs.declared.cmp.Ordering.TheVariants.{Less, Equal, Greater}
use Rattle.std.proofs.lemmas.Bool.{cases_Bool, false≢true}
use Rattle.std.proofs.lemmas.Cmp.{nat_list_cmp_total}
use Rattle.std.proofs.lemmas.List.Elements.{All-nil, All-cons, All-head, All-tail, All-map, All-filter}
use Rattle.std.proofs.lemmas.List.Kept.{AllPairs-cons, AllPairs-filter}
use Rattle.std.proofs.lemmas.Map.Text.{is_eq-slice_cmp}
use Rattle.std.proofs.lemmas.Slice.Eq.{bytes_eq-Decides}
use Rattle.far_archive.specs.declared.write.FarEntry.{FarEntry}
use Rattle.far_archive.specs.Named.{file_named}
use Rattle.far_archive.specs.Written.{listed, IsFirstUnordered}
use Rattle.package_book.specs.Book.{Files, contents_name, package_name}
use Rattle.pkg_names.specs.NameAndVariant.{NameAndVariant}
use Rattle.repo_publish.specs.Published.{put_file, package_text, has_package, with_package, inner_with}
use Rattle.repo_publish.specs.Refusals.{is_inner, inner_of}
use Rattle.repo_publish.specs.Steps.{AreFine}
use Rattle.repo_publish.proofs.Fine.{is_less}

abbrev File : Type 0
File = List ℕ × List ℕ

abbrev IsBefore : File → File → Type 0
IsBefore a b = slice_cmp nat_cmp a.0 b.0 ≡ Less

abbrev pub Ascend : Files → Type 0
Ascend files = AllPairs IsBefore files

-- no file has this name
abbrev pub NoneNamed : List ℕ → Files → Type 0
NoneNamed name files = All (λ (file : File). file.0 ≢ name) files

-- ---- two names

turned : (o : Ordering) → is_eq o ≡ false → is_lt o ≡ false → ordering_reverse o ≡ Less
turned Less eq lt = absurd (false≢true (sym lt))
turned Equal eq lt = absurd (false≢true (sym eq))
turned Greater eq lt = refl

other_name : (a b : List ℕ) → a ≢ b → bytes_eq a b ≡ false
other_name a b other = elim (cases_Bool (bytes_eq a b)) [ inl same ↦ absurd (other ((bytes_eq-Decides a b).0 same)) | inr differ ↦ differ ]

same_name : (a : List ℕ) → bytes_eq a a ≡ true
same_name a = (bytes_eq-Decides a a).1 refl

named_so : (a b : List ℕ) → bytes_eq a b ≡ false → a ≢ b
named_so a b differ same = false≢true (sym differ ∙ (bytes_eq-Decides a b).1 same)

behind : (a b : List ℕ) → a ≢ b → is_lt (slice_cmp nat_cmp a b) ≡ false → slice_cmp nat_cmp b a ≡ Less
behind a b other lt = nat_list_cmp_total.antisymm b a ∙ turned (slice_cmp nat_cmp a b) (is_eq-slice_cmp a b ∙ other_name a b other) lt

-- ---- a file more

put_all : (P : File → Type 0) (file : File) (files : Files) → P file → All P files → All P (put_file file files)
put_all P file [] here others = All-cons P file [] here others
put_all P file (x ∷ files) here others =
    elim (cases_Bool (is_lt (slice_cmp nat_cmp file.0 x.0))) [
      | inl holds ↦ rw holds (All-cons P file (x ∷ files) here others)
      | inr lacks ↦ rw lacks (All-cons P x (put_file file files) (All-head P x files others) (put_all P file files here (All-tail P x files others)))
    ]

put_ascends : (file : File) (files : Files) → Ascend files → NoneNamed file.0 files → Ascend (put_file file files)
put_ascends file [] ascend none = AllPairs-cons IsBefore file [] (All-nil (IsBefore file)) ascend
put_ascends file (x ∷ files) ascend none =
    let rest : Ascend files = λ i j d lt within. ascend (suc i) (suc j) d (omega (arith, lt)) (omega (arith, within)) in
    let first : All (IsBefore x) files = λ k d within. ascend zero (suc k) d (omega arith) (omega (arith, within)) in
    let apart : x.0 ≢ file.0 = All-head (λ (f : File). f.0 ≢ file.0) x files none in
    let others : NoneNamed file.0 files = All-tail (λ (f : File). f.0 ≢ file.0) x files none in
    elim (cases_Bool (is_lt (slice_cmp nat_cmp file.0 x.0))) [
      | inl holds ↦
          let here : IsBefore file x = is_less (slice_cmp nat_cmp file.0 x.0) holds in
          let beyond : All (IsBefore file) files = λ k d within. nat_list_cmp_total.trans file.0 x.0 _ here (first k d within) in
          rw holds (AllPairs-cons IsBefore file (x ∷ files) (All-cons (IsBefore file) x files here beyond) ascend)
      | inr lacks ↦
          let here : IsBefore x file = behind file.0 x.0 (λ e. apart (sym e)) lacks in
          rw lacks (AllPairs-cons IsBefore x (put_file file files) (put_all (IsBefore x) file files here first) (put_ascends file files rest others))
    ]

put_named : (name bytes : List ℕ) (files : Files) → NoneNamed name files → file_named name (put_file (name, bytes) files) ≡ Some bytes
put_named name bytes [] none = rw (same_name name) refl
put_named name bytes (x ∷ files) none =
    let apart : bytes_eq x.0 name ≡ false = other_name x.0 name (All-head (λ (f : File). f.0 ≢ name) x files none) in
    let others : NoneNamed name files = All-tail (λ (f : File). f.0 ≢ name) x files none in
    elim (cases_Bool (is_lt (slice_cmp nat_cmp name x.0))) [
      | inl holds ↦ rw holds (rw (same_name name) refl)
      | inr lacks ↦ rw lacks (rw apart (put_named name bytes files others))
    ]

length-put : (file : File) (files : Files) → length (put_file file files) ≡ length files + 1
length-put file [] = refl
length-put file (x ∷ files) =
    elim (cases_Bool (is_lt (slice_cmp nat_cmp file.0 x.0))) [
      | inl holds ↦ rw holds (omega arith)
      | inr lacks ↦ rw lacks (omega (arith, length-put file files))
    ]

-- ---- with the two files that are made

pub has_listed : (files : List FarEntry) → has_package (listed files) ≡ list_any (λ file. bytes_eq file.name package_name) files
has_listed [] = refl
has_listed (x ∷ files) = ap (λ (b : Bool). bytes_eq x.name package_name || b) (has_listed files)

pub with_there : (name : List ℕ) (files : Files) → has_package files ≡ true → with_package name files ≡ files
with_there name files has = rw has refl

pub with_made : (name : List ℕ) (files : Files) → has_package files ≡ false → with_package name files ≡ put_file (package_name, package_text name) files
with_made name files lacks = rw lacks refl

none_has : (files : Files) → has_package files ≡ false → NoneNamed package_name files
none_has [] none = All-nil (λ (f : File). f.0 ≢ package_name)
none_has (x ∷ files) none =
    elim (cases_Bool (bytes_eq x.0 package_name)) [
      | inl holds ↦ absurd (false≢true (sym (rw holds at none)))
      | inr lacks ↦ All-cons (λ (f : File). f.0 ≢ package_name) x files (named_so x.0 package_name lacks) (none_has files (rw lacks at none))
    ]

apart_names : package_name ≢ contents_name
apart_names e =
    let differ : bytes_eq package_name contents_name ≡ false = refl in
    false≢true (sym differ ∙ sym (ap (bytes_eq package_name) e) ∙ same_name package_name)

module _ (name : List ℕ) (files : Files) (ascend : Ascend files) (none : NoneNamed contents_name files) where
  package_ascends : Ascend (with_package name files)
  package_ascends =
      elim (cases_Bool (has_package files)) [
        | inl holds ↦ rw holds ascend
        | inr lacks ↦ rw lacks (put_ascends (package_name, package_text name) files ascend (none_has files lacks))
      ]

  package_apart : NoneNamed contents_name (with_package name files)
  package_apart =
      elim (cases_Bool (has_package files)) [
        | inl holds ↦ rw holds none
        | inr lacks ↦ rw lacks (put_all (λ (f : File). f.0 ≢ contents_name) (package_name, package_text name) files apart_names none)
      ]

package_short : (name : List ℕ) (files : Files) → length (with_package name files) ≤ length files + 1
package_short name files =
    elim (cases_Bool (has_package files)) [
      | inl holds ↦ rw holds (omega arith)
      | inr lacks ↦ rw lacks (omega (arith, length-put (package_name, package_text name) files))
    ]

pub inner_short : (path : NameAndVariant) (files : Files) (contents : List ℕ) → length (inner_with path files contents) ≤ length files + 2
inner_short path files contents =
    omega (arith, length-put (contents_name, contents) (with_package path.name files), package_short path.name files)

module _ (path : NameAndVariant) (done : List FarEntry) (fine : AreFine done) where
  AllPairs-listed : (files : List FarEntry) → AllPairs (λ a b. slice_cmp nat_cmp a.name b.name ≡ Less) files → Ascend (listed files)
  AllPairs-listed [] ascend = λ i j d lt within. absurd (omega (arith, within))
  AllPairs-listed (x ∷ files) ascend =
      let rest : AllPairs (λ (a b : FarEntry). slice_cmp nat_cmp a.name b.name ≡ Less) files = λ i j d lt within. ascend (suc i) (suc j) d (omega (arith, lt)) (omega (arith, within)) in
      let first : All (λ (f : FarEntry). slice_cmp nat_cmp x.name f.name ≡ Less) files = λ k d within. ascend zero (suc k) d (omega arith) (omega (arith, within)) in
      AllPairs-cons IsBefore (x.name, x.bytes) (listed files) (All-map (IsBefore (x.name, x.bytes)) (λ (f : FarEntry). (f.name, f.bytes)) files first) (AllPairs-listed files rest)

  inner_ascends : Ascend (listed (inner_of done))
  inner_ascends = AllPairs-listed (inner_of done) (AllPairs-filter (λ a b. slice_cmp nat_cmp a.name b.name ≡ Less) is_inner done fine.ascend)

  inner_free : NoneNamed contents_name (listed (inner_of done))
  inner_free = All-map (λ (f : File). f.0 ≢ contents_name) (λ (f : FarEntry). (f.name, f.bytes)) (inner_of done) (All-filter is_inner (λ (f : FarEntry). f.name ≢ contents_name) done fine.not_reserved)

  module _ (contents : List ℕ) where
    pub all_ascend : Ascend (inner_with path (listed (inner_of done)) contents)
    all_ascend =
        put_ascends (contents_name, contents) (with_package path.name (listed (inner_of done)))
        (package_ascends path.name (listed (inner_of done)) inner_ascends inner_free)
        (package_apart path.name (listed (inner_of done)) inner_ascends inner_free)

    pub contents_found : file_named contents_name (inner_with path (listed (inner_of done)) contents) ≡ Some contents
    contents_found =
        put_named contents_name contents (with_package path.name (listed (inner_of done)))
        (package_apart path.name (listed (inner_of done)) inner_ascends inner_free)

pub none_unordered : (files : Files) (k : ℕ) → Ascend files → IsFirstUnordered files k → ⊥
none_unordered files k ascend is = is.not_greater (ascend (k - 1) k ([], []) (omega (arith, is.later)) is.within)
