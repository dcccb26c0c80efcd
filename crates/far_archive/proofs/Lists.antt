-- The entries that a loop has seen, as the writer lists them.
use Rattle.std.proofs.Common.{◌≡◌, ℕ, ◌+◌, ◌-◌, ◌%◌, ◌<◌, ◌≤◌, List, [], ◌∷◌, ◌++◌, length, get_or, take, drop, refl, sym, ap, subst, ◌∙◌, append_assoc, inl, inr, arith}
use Rattle.std.specs.List.{flat_map}
use Rattle.std.specs.Prelude.{replicate}
use Rattle.std.specs.Ordering.{nat_cmp}
use Rattle.std.specs.Cmp.Lexicographic.{slice_cmp}
use Rattle.std.specs.declared.cmp.Ordering.TheVariants.{Less}
use Rattle.std.proofs.lemmas.Bool.{cases_lt}
use Rattle.std.proofs.lemmas.List.{map_more, drop_more, get_or-map, append-nil, length-append, length-replicate}
use Rattle.std.proofs.lemmas.List.Concat.{flat_map-append}
use Rattle.std.proofs.Common.{All}
use Rattle.std.proofs.lemmas.List.Elements.{All-push}
use Rattle.pkg_names.specs.FileText.{IsFile}
use Rattle.far_archive.specs.declared.write.FarEntry.{FarEntry}
use Rattle.far_archive.specs.Archive.{Item, item_bytes}
use Rattle.far_archive.specs.Written.{up_to, filled, listed, joined_names, items_from}

-- one more entry
pub one_more : (f : List ℕ × List ℕ → List ℕ) (entries : List FarEntry) (k : ℕ) (d : FarEntry) → k < length entries
    → flat_map f (listed (take (k + 1) entries)) ≡ flat_map f (listed (take k entries)) ++ f ((get_or entries k d).name, (get_or entries k d).bytes)
one_more f entries k d lt =
    ap (flat_map f) (map_more (λ (e : FarEntry). (e.name, e.bytes)) entries k d lt)
    ∙ flat_map-append f (listed (take k entries)) (((get_or entries k d).name, (get_or entries k d).bytes) ∷ [])
    ∙ ap (λ (l : List ℕ). flat_map f (listed (take k entries)) ++ l) (append-nil (f ((get_or entries k d).name, (get_or entries k d).bytes)))

-- the name of an entry of the list
pub name_listed : (entries : List FarEntry) (k : ℕ) (d : FarEntry) → k < length entries → (get_or (listed entries) k ([], [])).0 ≡ (get_or entries k d).name
name_listed entries k d lt = ap (λ (file : List ℕ × List ℕ). file.0) (get_or-map (λ (e : FarEntry). (e.name, e.bytes)) entries k d ([], []) lt)

-- names up to k ascend
abbrev pub AscendsBelow : List FarEntry → ℕ → Type 0
AscendsBelow entries k = (j : ℕ) → j + 1 < k → slice_cmp nat_cmp (get_or (listed entries) j ([], [])).0 (get_or (listed entries) (j + 1) ([], [])).0 ≡ Less

pub ascends_on : (entries : List FarEntry) (k : ℕ) (d e : FarEntry) → 1 ≤ k → k < length entries → slice_cmp nat_cmp (get_or entries (k - 1) d).name (get_or entries k e).name ≡ Less → AscendsBelow entries k → AscendsBelow entries (k + 1)
ascends_on entries k d e low lt less so_far j h =
    elim (cases_lt (j + 1) k) [
      | inl before ↦ so_far j before
      | inr at ↦
          let e1 : j + 1 ≡ k = omega arith in
          let e0 : k - 1 ≡ j = omega arith in
          let named0 : (get_or (listed entries) j ([], [])).0 ≡ (get_or entries j d).name = name_listed entries j d (omega arith) in
          let named1 : (get_or (listed entries) k ([], [])).0 ≡ (get_or entries k e).name = name_listed entries k e lt in
          rw (e1, named0, named1) (subst (λ (i : ℕ). slice_cmp nat_cmp (get_or entries i d).name (get_or entries k e).name ≡ Less) e0 less)
    ]

-- ---- zeros up to a unit

pub record IsUnit (unit : ℕ) : Type 0 where
  pub add : (m n : ℕ) → m % unit ≡ 0 → up_to unit (m + n) ≡ m + up_to unit n
  pub above : (n : ℕ) → n ≤ up_to unit n
  pub whole : (n : ℕ) → up_to unit n % unit ≡ 0

pub eight : IsUnit 8
eight = record { add = λ m n h. omega arith; above = λ n. omega arith; whole = λ n. omega arith }

pub page : IsUnit 4096
page = record { add = λ m n h. omega arith; above = λ n. omega arith; whole = λ n. omega arith }

-- zeros behind whole units and more are zeros behind the more
pub filled-append : (unit : ℕ) → IsUnit unit → (a b : List ℕ) → length a % unit ≡ 0 → filled unit (a ++ b) ≡ a ++ filled unit b
filled-append unit is a b whole =
    let size : up_to unit (length (a ++ b)) - length (a ++ b) ≡ up_to unit (length b) - length b =
    ap (λ (n : ℕ). up_to unit n - n) (length-append a b) ∙ ap (λ (n : ℕ). n - (length a + length b)) (is.add (length a) (length b) whole) ∙ omega arith in
    ap (λ (n : ℕ). (a ++ b) ++ replicate n 0) size ∙ append_assoc a b (replicate (up_to unit (length b) - length b) 0)

pub length-filled : (unit : ℕ) → IsUnit unit → (bytes : List ℕ) → length (filled unit bytes) ≡ up_to unit (length bytes)
length-filled unit is bytes = omega (arith, length-append bytes (replicate (up_to unit (length bytes) - length bytes) 0), length-replicate {A = ℕ} (up_to unit (length bytes) - length bytes) 0, is.above (length bytes))

-- files on pages are whole pages
pub pages_whole : (files : List (List ℕ × List ℕ)) → length (flat_map (λ file. filled 4096 file.1) files) % 4096 ≡ 0
pages_whole [] = refl
pages_whole (file ∷ files) =
    let size = length-filled 4096 page file.1 in
    let whole = page.whole (length file.1) in
    omega (arith, length-append (filled 4096 file.1) (flat_map (λ f. filled 4096 f.1) files), size, whole, pages_whole files)

-- one more file on its page
pub one_more_page : (start out : List ℕ) (entries : List FarEntry) (k : ℕ) (d : FarEntry) → k < length entries → length start % 4096 ≡ 0
    → out ≡ start ++ flat_map (λ file. filled 4096 file.1) (listed (take k entries))
    → filled 4096 (out ++ (get_or entries k d).bytes) ≡ start ++ flat_map (λ file. filled 4096 file.1) (listed (take (k + 1) entries))
one_more_page start out entries k d lt whole so_far =
    let before = flat_map (λ file. filled 4096 file.1) (listed (take k entries)) in
    let bytes = (get_or entries k d).bytes in
    let even : length out % 4096 ≡ 0 = omega (arith, ap length so_far, length-append start before, pages_whole (listed (take k entries))) in
    filled-append 4096 page out bytes even ∙ ap (λ (l : List ℕ). l ++ filled 4096 bytes) so_far ∙ append_assoc start before (filled 4096 bytes)
    ∙ ap (λ (l : List ℕ). start ++ l) (sym (one_more (λ file. filled 4096 file.1) entries k d lt))

-- one more item of the directory
pub one_more_item : (out now total : List ℕ) (entries : List FarEntry) (k name_at data_at next_name next_data : ℕ) (e : FarEntry) → k < length entries → e ≡ get_or entries k e
    → next_name ≡ name_at + length e.name → next_data ≡ data_at + up_to 4096 (length e.bytes)
    → now ≡ out ++ item_bytes (record { name_at = name_at; name = e.name; data_at = data_at; bytes = e.bytes })
    → out ++ flat_map item_bytes (items_from (listed (drop k entries)) name_at data_at) ≡ total
    → now ++ flat_map item_bytes (items_from (listed (drop (k + 1) entries)) next_name next_data) ≡ total
one_more_item out now total entries k name_at data_at next_name next_data e lt is name file put so_far =
    let item : Item = record { name_at = name_at; name = e.name; data_at = data_at; bytes = e.bytes } in
    let rest : List ℕ = flat_map item_bytes (items_from (listed (drop (k + 1) entries)) (name_at + length e.name) (data_at + up_to 4096 (length e.bytes))) in
    let first : drop k entries ≡ e ∷ drop (k + 1) entries = drop_more entries k e lt ∙ ap (λ (x : FarEntry). x ∷ drop (k + 1) entries) (sym is) in
    let cut : out ++ flat_map item_bytes (items_from (listed (drop k entries)) name_at data_at) ≡ out ++ (item_bytes item ++ rest) =
    ap (λ (l : List FarEntry). out ++ flat_map item_bytes (items_from (listed l) name_at data_at)) first in
    ap (λ (l : List ℕ). l ++ flat_map item_bytes (items_from (listed (drop (k + 1) entries)) next_name next_data)) put
    ∙ ap (λ (n : ℕ). (out ++ item_bytes item) ++ flat_map item_bytes (items_from (listed (drop (k + 1) entries)) n next_data)) name
    ∙ ap (λ (n : ℕ). (out ++ item_bytes item) ++ flat_map item_bytes (items_from (listed (drop (k + 1) entries)) (name_at + length e.name) n)) file
    ∙ append_assoc out (item_bytes item) rest ∙ sym cut ∙ so_far

-- one more file path
pub paths_more : (entries : List FarEntry) (k : ℕ) (e : FarEntry) → k < length entries → e ≡ get_or entries k e → IsFile e.name → All (λ file. IsFile file.0) (listed (take k entries)) → All (λ file. IsFile file.0) (listed (take (k + 1) entries))
paths_more entries k e lt is path so_far =
    let more : listed (take (k + 1) entries) ≡ listed (take k entries) ++ (e.name, e.bytes) ∷ [] =
    map_more (λ (x : FarEntry). (x.name, x.bytes)) entries k e lt ∙ ap (λ (x : FarEntry). listed (take k entries) ++ (x.name, x.bytes) ∷ []) (sym is) in
    subst (λ (l : List (List ℕ × List ℕ)). All (λ file. IsFile file.0) l) (sym more) (All-push (λ (file : List ℕ × List ℕ). IsFile file.0) (listed (take k entries)) (e.name, e.bytes) so_far path)

-- one more name's length
pub names_more : (entries : List FarEntry) (k len : ℕ) (e : FarEntry) → k < length entries → e ≡ get_or entries k e → len ≡ length (joined_names (listed (take k entries))) → len + length e.name ≡ length (joined_names (listed (take (k + 1) entries)))
names_more entries k len e lt is so_far =
    let more = one_more (λ file. file.0) entries k e lt in
    let named : length (get_or entries k e).name ≡ length e.name = ap (λ (x : FarEntry). length x.name) (sym is) in
    omega (arith, so_far, ap length more, length-append (joined_names (listed (take k entries))) (get_or entries k e).name, named)
