-- The tests of the faults decide the facts of an archive.
use Rattle.std.proofs.Common.{◌≡◌, ℕ, ◌+◌, ◌%◌, ◌≤◌, leb, List, length, refl, arith}
use Rattle.std.specs.Prelude.{codes, IsTrue, ◌↔◌}
use Rattle.std.specs.Bool.{Decides}
use Rattle.std.specs.declared.cmp.Ordering.{Ordering}
use Rattle.std.specs.declared.cmp.Ordering.TheVariants.{Less, Equal, Greater}
use Rattle.std.specs.Ordering.{nat_cmp, is_lt}
use Rattle.std.specs.Cmp.Lexicographic.{slice_cmp}
use Rattle.std.specs.Int.{w64}
use Rattle.std.proofs.lemmas.Bool.Decides.{Decides-like, Decides-and, Decides-eqb, nat_tests}
use Rattle.std.proofs.lemmas.Slice.Eq.{bytes_eq-Decides}
use Rattle.pkg_names.specs.FileText.{IsFile, is_file_text}
use Rattle.pkg_names.specs.Numbers.{number_at}
use Rattle.far_archive.specs.Fields.{part, places, entry_of, name_of, end_of, names_end}
use Rattle.far_archive.specs.Faults.{magic, has_magic, has_index, has_directory, has_name, has_range, name_before, floor}
use Rattle.far_archive.proofs.Facts.{HasIndex, HasName, HasRange}

-- the test of a file path decides whether it is one
abbrev pub FilesAreTested : Type 0
FilesAreTested = (text : List ℕ) → IsTrue (is_file_text text) ↔ IsFile text

Decides-leb : (a b : ℕ) → Decides (leb a b) (a ≤ b)
Decides-leb a b = (λ h. grind (arith, nat_tests), λ h. grind (arith, nat_tests))

pub Decides-is_lt : (o : Ordering) → Decides (is_lt o) (o ≡ Less)
Decides-is_lt Less = (λ h. refl, λ h. refl)
Decides-is_lt Equal = (λ h. absurd cc, λ h. absurd cc)
Decides-is_lt Greater = (λ h. absurd cc, λ h. absurd cc)

pub has_magic-Decides : (text : List ℕ) → Decides (has_magic text) (part text 0 8 ≡ magic)
has_magic-Decides text = bytes_eq-Decides (part text 0 8) magic

pub has_directory-Decides : (text : List ℕ) → Decides (has_directory text) ((places text).dir_len % 32 ≡ 0)
unfolding has_directory
has_directory-Decides text = Decides-eqb _ 0

pub has_index-Decides : (text : List ℕ) → Decides (has_index text) (HasIndex text)
unfolding has_index
has_index-Decides text =
    let p = places text in
    let two = Decides-eqb (number_at w64 text 8) 48 in
    let types = Decides-and _ _ (Decides-and _ _ two (bytes_eq-Decides (part text 16 8) (codes "DIR-----"))) (bytes_eq-Decides (part text 40 8) (codes "DIRNAMES")) in
    let aligned = Decides-and _ _ (Decides-and _ _ (Decides-and _ _ (Decides-eqb (p.dir_at % 8) 0) (Decides-eqb (p.dir_len % 8) 0)) (Decides-eqb (p.names_at % 8) 0)) (Decides-eqb (p.names_len % 8) 0) in
    let inside = Decides-and _ _ (Decides-and _ _ (Decides-leb 64 p.dir_at) (Decides-leb (p.dir_at + p.dir_len) p.names_at)) (Decides-leb (p.names_at + p.names_len) (length text)) in
    let all = Decides-and _ _ (Decides-and _ _ (Decides-and _ _ (Decides-leb 64 (length text)) types) aligned) inside in
    Decides-like (has_index text)
    (λ h. record {
      long = h.0.0.0;
      two_entries = h.0.0.1.0.0;
      first = h.0.0.1.0.1;
      second = h.0.0.1.1;
      dir_at = h.0.1.0.0.0;
      dir_len = h.0.1.0.0.1;
      names_at = h.0.1.0.1;
      names_len = h.0.1.1;
      behind = h.1.0.0;
      order = h.1.0.1;
      inside = h.1.1;
    })
    (λ (is : HasIndex text). (((is.long, ((is.two_entries, is.first), is.second)), (((is.dir_at, is.dir_len), is.names_at), is.names_len)), ((is.behind, is.order), is.inside))) all

pub has_name-Decides : FilesAreTested → (text : List ℕ) (k : ℕ) → Decides (has_name text k) (HasName text k)
unfolding has_name
has_name-Decides tested text k =
    let e = entry_of text k in
    let a = Decides-and _ _ (Decides-leb (e.name_at + e.name_len) (places text).names_len) (Decides-eqb e.name_zero 0) in
    let b = Decides-and _ _ a (tested (name_of text k)) in
    let d = Decides-and _ _ b (Decides-is_lt (slice_cmp nat_cmp (name_before text k) (name_of text k))) in
    Decides-like (has_name text k) (λ h. record { inside = h.0.0.0; zero = h.0.0.1; path = h.0.1; greater = h.1 })
    (λ (is : HasName text k). (((is.inside, is.zero), is.path), is.greater)) d

pub has_range-Decides : (text : List ℕ) (k : ℕ) → Decides (has_range text k) (HasRange text k)
unfolding has_range
has_range-Decides text k =
    let e = entry_of text k in
    let a = Decides-and _ _ (Decides-eqb e.end_zero 0) (Decides-eqb (e.data_at % 4096) 0) in
    let b = Decides-and _ _ a (Decides-leb (names_end text) e.data_at) in
    let d = Decides-and _ _ b (Decides-leb (floor text k) e.data_at) in
    let f = Decides-and _ _ d (Decides-leb (end_of text k) (length text)) in
    Decides-like (has_range text k) (λ h. record { zero = h.0.0.0.0; page = h.0.0.0.1; behind_names = h.0.0.1; behind = h.0.1; inside = h.1 })
    (λ (is : HasRange text k). ((((is.zero, is.page), is.behind_names), is.behind), is.inside)) f
