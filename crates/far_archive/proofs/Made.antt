-- What the writer makes stands for its files.
use Rattle.std.proofs.Common.{◌≡◌, ℕ, suc, ◌+◌, ◌-◌, ◌*◌, ◌%◌, ◌^◌, ◌<◌, ◌≤◌, List, [], ◌∷◌, ◌++◌, length, map, All, get_or, take, refl, sym, ap, subst, ◌∙◌, append_assoc, arith}
use Rattle.std.specs.List.{flat_map}
use Rattle.std.specs.Prelude.{replicate}
use Rattle.std.specs.Ordering.{nat_cmp}
use Rattle.std.specs.Cmp.Lexicographic.{slice_cmp}
use Rattle.std.specs.declared.cmp.Ordering.TheVariants.{Less}
use Rattle.std.proofs.lemmas.List.{take_at, drop_at, length-append}
use Rattle.std.proofs.lemmas.List.Elements.{All-nil, All-cons, All-head, All-tail}
use Rattle.pkg_names.specs.FileText.{IsFile}
use Rattle.far_archive.specs.declared.fields.Places.{Places}
use Rattle.far_archive.specs.Fields.{part}
use Rattle.far_archive.specs.Archive.{Item, Stands, IsItem, Ascend, IsArchive, index_bytes, item_bytes, file_of}
use Rattle.far_archive.specs.Written.{up_to, filled, joined_names, places_for, items_from, items_for, data_start, written, IsOrdered}
use Rattle.far_archive.proofs.Standing.{length-directory}
use Rattle.far_archive.proofs.Lists.{eight, page, filled-append, length-filled}

abbrev Files : Type 0
Files = List (List ℕ × List ℕ)

-- a part between others stands there
stands_in : (text a b c : List ℕ) (at : ℕ) → text ≡ a ++ (b ++ c) → length a ≡ at → Stands text at b
stands_in text a b c at is len = record {
  inside = omega (arith, ap length is, length-append a (b ++ c), length-append b c, len);
  same = ap (λ (l : List ℕ). part l at (length b)) is ∙ ap (λ (l : List ℕ). take (length b) l) (drop_at a (b ++ c) at len) ∙ take_at b c (length b) refl;
}

length-items : (files : Files) (n d : ℕ) → length (items_from files n d) ≡ length files
length-items [] n d = refl
length-items (f ∷ files) n d = ap (λ (k : ℕ). suc k) (length-items files (n + length f.0) (d + up_to 4096 (length f.1)))

same_files : (files : Files) (n d : ℕ) → files ≡ map file_of (items_from files n d)
same_files [] n d = refl
same_files (f ∷ files) n d = ap (λ (l : Files). f ∷ l) (same_files files (n + length f.0) (d + up_to 4096 (length f.1)))

-- ---- the files ascend

abbrev Begins : List ℕ → Files → Type 0
Begins name [] = Unit {0}
Begins name (f ∷ files) = slice_cmp nat_cmp name f.0 ≡ Less

ordered_tail : (f : List ℕ × List ℕ) (files : Files) → IsOrdered (f ∷ files) → IsOrdered files
ordered_tail f files h j lt =
    let e : suc j + 1 ≡ suc (j + 1) = omega arith in
    subst (λ (k : ℕ). slice_cmp nat_cmp (get_or files j ([], [])).0 (get_or (f ∷ files) k ([], [])).0 ≡ Less) e (h (suc j) (omega arith))

begins : (f : List ℕ × List ℕ) (files : Files) → IsOrdered (f ∷ files) → Begins f.0 files
begins f [] h = tt
begins f (g ∷ files) h = h 0 (omega arith)

ascends : (files : Files) (name : List ℕ) (end n d : ℕ) → Begins name files → IsOrdered files → end ≤ d → Ascend name end (items_from files n d)
ascends [] name end n d first h le = tt
ascends (f ∷ files) name end n d first h le =
    (first, le, ascends files f.0 (d + length f.1) (n + length f.0) (d + up_to 4096 (length f.1)) (begins f files h) (ordered_tail f files h) (omega (arith, page.above (length f.1))))

not_empty_begins : (files : Files) → All (λ f. IsFile f.0) files → Begins [] files
not_empty_begins [] paths = tt
not_empty_begins (f ∷ files) paths = least f.0 (All-head (λ (g : List ℕ × List ℕ). IsFile g.0) f files paths)
  where
    least : (name : List ℕ) → IsFile name → slice_cmp nat_cmp [] name ≡ Less
    least [] is = absurd (omega (arith, is.not_empty))
    least (x ∷ xs) is = refl

-- ---- each item stands where it says

module _ (text names : List ℕ) where
  each : (files : Files) (front rest before : List ℕ) (n d : ℕ) → All (λ f. IsFile f.0) files → names ≡ front ++ (joined_names files ++ rest) → length front ≡ n → n + 4095 * length files < 2 ^ 32
      → text ≡ before ++ flat_map (λ f. filled 4096 f.1) files → length before ≡ d → d % 4096 ≡ 0 → All (IsItem text names) (items_from files n d)
  each [] front rest before n d paths here size few there at whole = All-nil (IsItem text names)
  each (f ∷ files) front rest before n d paths here size few there at whole =
      let item : Item = record { name_at = n; name = f.0; data_at = d; bytes = f.1 } in
      let path = All-head (λ (g : List ℕ × List ℕ). IsFile g.0) f files paths in
      let zeros : List ℕ = replicate (up_to 4096 (length f.1) - length f.1) 0 in
      let after : List ℕ = flat_map (λ (g : List ℕ × List ℕ). filled 4096 g.1) files in
      let named : names ≡ front ++ (f.0 ++ (joined_names files ++ rest)) = here ∙ ap (λ (l : List ℕ). front ++ l) (append_assoc f.0 (joined_names files) rest) in
      let filed : text ≡ before ++ (f.1 ++ (zeros ++ after)) = there ∙ ap (λ (l : List ℕ). before ++ l) (append_assoc f.1 zeros after) in
      let size' : length (front ++ f.0) ≡ n + length f.0 = omega (arith, length-append front f.0) in
      let at' : length (before ++ filled 4096 f.1) ≡ d + up_to 4096 (length f.1) = omega (arith, length-append before (filled 4096 f.1), length-filled 4096 page f.1) in
      let long = path.not_long in
      All-cons (IsItem text names) item (items_from files (n + length f.0) (d + up_to 4096 (length f.1)))
      (record {
        name = stands_in names front f.0 (joined_names files ++ rest) n named size;
        name_at = omega arith;
        path = path;
        bytes = stands_in text before f.1 (zeros ++ after) d filed at;
        page = whole;
      })
      (each files (front ++ f.0) rest (before ++ filled 4096 f.1) (n + length f.0) (d + up_to 4096 (length f.1)) (All-tail (λ (g : List ℕ × List ℕ). IsFile g.0) f files paths)
      (named ∙ sym (append_assoc front f.0 (joined_names files ++ rest))) size' (omega arith) (there ∙ sym (append_assoc before (filled 4096 f.1) after)) at'
      (omega (arith, page.whole (length f.1))))

-- ---- the whole

module _ (files : Files) (paths : All (λ f. IsFile f.0) files) (ordered : IsOrdered files) (few : length files ≤ 65536) where
  abbrev index : List ℕ
  index = index_bytes (places_for files)

  abbrev directory : List ℕ
  directory = flat_map item_bytes (items_for files)

  abbrev chunk : List ℕ
  chunk = filled 8 (joined_names files)

  abbrev front : List ℕ
  front = index ++ directory ++ chunk

  abbrev zeros : List ℕ
  zeros = replicate (up_to 4096 (length front) - length front) 0

  abbrev pages : List ℕ
  pages = flat_map (λ f. filled 4096 f.1) files

  parts : written files ≡ index ++ (directory ++ (chunk ++ (zeros ++ pages)))
  unfolding written
  parts =
      append_assoc front zeros pages ∙ append_assoc (index ++ directory) chunk (zeros ++ pages) ∙ append_assoc index directory (chunk ++ (zeros ++ pages))

  directory_size : length directory ≡ 32 * length files
  directory_size = omega (arith, length-directory (items_for files), length-items files 0 (data_start files))

  chunk_size : length chunk ≡ (places_for files).names_len
  chunk_size = length-filled 8 eight (joined_names files)

  behind : length (index ++ directory) ≡ (places_for files).names_at
  behind = omega (arith, length-append index directory, directory_size)

  front_size : length front ≡ (places_for files).names_at + (places_for files).names_len
  front_size = omega (arith, length-append (index ++ directory) chunk, behind, chunk_size)

  start : length (front ++ zeros) ≡ data_start files
  start = length-filled 4096 page front ∙ ap (up_to 4096) front_size

  named : part (written files) (places_for files).names_at (places_for files).names_len ≡ chunk
  named =
      let is : written files ≡ (index ++ directory) ++ (chunk ++ (zeros ++ pages)) = parts ∙ sym (append_assoc index directory (chunk ++ (zeros ++ pages))) in
      let there = stands_in (written files) (index ++ directory) chunk (zeros ++ pages) (places_for files).names_at is behind in
      ap (λ (n : ℕ). part (written files) (places_for files).names_at n) (sym chunk_size) ∙ there.same

  inside : (places_for files).names_at + (places_for files).names_len ≤ length (written files)
  inside =
      let is : written files ≡ front ++ (zeros ++ pages) = parts ∙ sym (append_assoc index directory (chunk ++ (zeros ++ pages))) ∙ sym (append_assoc (index ++ directory) chunk (zeros ++ pages)) in
      omega (arith, ap length is, length-append front (zeros ++ pages), front_size)

  pub made_stands : length (written files) < 2 ^ 64 → IsArchive (written files) files
  made_stands short =
      let filed : written files ≡ (front ++ zeros) ++ pages =
      parts ∙ sym (append_assoc index directory (chunk ++ (zeros ++ pages))) ∙ sym (append_assoc (index ++ directory) chunk (zeros ++ pages)) ∙ sym (append_assoc front zeros pages) in
      let items = each (written files) chunk files [] (replicate (up_to 8 (length (joined_names files)) - length (joined_names files)) 0) (front ++ zeros) 0 (data_start files) paths refl refl (omega arith) filed start (page.whole _) in (
        places_for files,
        items_for files,
        record {
          short = short;
          index = stands_in (written files) [] index (directory ++ (chunk ++ (zeros ++ pages))) 0 parts refl;
          directory = stands_in (written files) index directory (chunk ++ (zeros ++ pages)) 64 parts refl;
          dir_len = omega (arith, length-items files 0 (data_start files));
          behind = omega arith;
          order = omega arith;
          inside = inside;
          dir_aligned = refl;
          names_aligned = omega arith;
          names_whole = eight.whole (length (joined_names files));
          each = rw named items;
          ascend = ascends files [] ((places_for files).names_at + (places_for files).names_len) 0 (data_start files) (not_empty_begins files paths) ordered (page.above _);
        },
        same_files files 0 (data_start files),
      )

-- filling the names is filling all that was written up to their end
pub written_is : (files : Files) (p : Places) (start : ℕ) (front page_end out : List ℕ) → p ≡ places_for files → start ≡ up_to 4096 (p.names_at + p.names_len)
    → front ≡ filled 8 (index_bytes p ++ flat_map item_bytes (items_from files 0 start) ++ joined_names files) → page_end ≡ filled 4096 front
    → out ≡ page_end ++ flat_map (λ f. filled 4096 f.1) files → out ≡ written files
unfolding written
written_is files p start front page_end out places at e1 e2 e3 =
    let begin : start ≡ data_start files = at ∙ ap (λ (q : Places). up_to 4096 (q.names_at + q.names_len)) places in
    let head = index_bytes (places_for files) ++ flat_map item_bytes (items_for files) in
    let even : length head % 8 ≡ 0 = omega (arith, length-append (index_bytes (places_for files)) (flat_map item_bytes (items_for files)), length-directory (items_for files), length-items files 0 (data_start files)) in
    let f1 : front ≡ filled 8 (head ++ joined_names files) =
    e1 ∙ ap (λ (q : Places). filled 8 (index_bytes q ++ flat_map item_bytes (items_from files 0 start) ++ joined_names files)) places
    ∙ ap (λ (s : ℕ). filled 8 (index_bytes (places_for files) ++ flat_map item_bytes (items_from files 0 s) ++ joined_names files)) begin in
    let f2 : front ≡ head ++ filled 8 (joined_names files) = f1 ∙ filled-append 8 eight head (joined_names files) even in
    e3 ∙ ap (λ (l : List ℕ). l ++ flat_map (λ (f : List ℕ × List ℕ). filled 4096 f.1) files) (e2 ∙ ap (filled 4096) f2)
