-- How the blobs of a table are checked, one after another: what was read stands in one image.
use Rattle.std.proofs.Common.{◌≡◌, ℕ, ◌+◌, ◌<◌, ◌≤◌, Bool, List, ◌∷◌, ◌++◌, length, take, drop, get_or, Option, IfSome, Ok, All, refl, sym, ap, subst, ◌∙◌, arith}
use Rattle.std.proofs.lemmas.List.{take-append-drop, drop_more, get_or-take, length-take, take_all}
use Rattle.std.proofs.lemmas.List.Elements.{All-more, All-nil}
use Rattle.pkg_names.specs.declared.root.Root.{Root}
use Rattle.pkg_merkle.specs.Merkle.{merkle_root}
use Rattle.disk_model.specs.Past.{Pages, Past, IsPast}
use Rattle.disk_model.specs.Images.{SomeImage, LastsOver}
use Rattle.disk_model.proofs.ReadPages.{some_weaker}
use Rattle.image_layout.specs.declared.geometry.Geometry.{Geometry}
use Rattle.image_layout.specs.declared.Place.TheVariants as place
use Rattle.image_layout.specs.Geometry.{IsWithinLimits, data_start}
use Rattle.node_table.specs.declared.entry.Entry.{Entry}
use Rattle.node_table.specs.Entries.{IsEntry, AreSound}
use Rattle.node_table.specs.Table.{HasTable}
use Rattle.node_table.proofs.Tables.{table_lasts, table_before_data}
use Rattle.blob_pages.specs.Written.{IsOn}
use Rattle.blob_pages.specs.Chains.{bytes_in}
use Rattle.blob_pages.proofs.ImageBytes.{bytes_lasts, read_bytes_some}
use Rattle.blob_disk.specs.Stock.{IsGood, IsFirstRotten, IsDamagedAt}
use Rattle.blob_disk.specs.Reading.{AreReadOf, IsRotten, Checks}
use Rattle.blob_disk.proofs.Placing.{chain_range, places_of_apart, on_data}

-- the image has this table, and its first n blobs have bytes of their roots
abbrev pub GoodTo : Geometry → Bool → List Entry → ℕ → Pages → Type 0
GoodTo g second entries n image = HasTable g second entries image × All (IsGood g image) (take n entries)

pub good_none : (told : Option Past) (g : Geometry) (second : Bool) (entries : List Entry) → SomeImage told (HasTable g second entries) → SomeImage told (GoodTo g second entries 0)
good_none told g second entries some = some_weaker (HasTable g second entries) (GoodTo g second entries 0) told (λ image has. (has, All-nil (IsGood g image))) some

pub good_all : (told : Option Past) (g : Geometry) (second : Bool) (entries : List Entry) (n : ℕ) → length entries ≤ n → SomeImage told (GoodTo g second entries n) → SomeImage told (λ image. HasTable g second entries image × All (IsGood g image) entries)
good_all told g second entries n all some =
    some_weaker (GoodTo g second entries n) (λ image. HasTable g second entries image × All (IsGood g image) entries) told
    (λ image has. (has.0, subst (λ (l : List Entry). All (IsGood g image) l) (take_all n entries all) has.1)) some

module _ (told : Option Past) (count : ℕ) (g : Geometry) (second : Bool) (entries : List Entry) (n : ℕ) (entry : Entry)
    (limits : IsWithinLimits g) (room : data_start g + g.data_pages ≤ count) (fits : IfSome told (IsPast count)) (sound : AreSound g entries)
    (below : n < length entries) (here : (d : Entry) → get_or entries n d ≡ entry) where
  abbrev Region : ℕ → Type 0
  Region m = IsOn (data_start g) entry.pages m

  -- writes of this blob's pages leave the table and the blobs before it
  good_lasts : LastsOver Region (GoodTo g second entries n)
  good_lasts = λ image k written at inside has. (
    table_lasts Region g second entries limits (λ m on own. omega (arith, on_data (data_start g) entry.pages m on, table_before_data g m own)) image k written at inside has.0,
    λ i d before.
        let lt : i < n = omega (arith, before, length-take n entries) in
        let other : Entry = get_or (take n entries) i d in
        let is : other ≡ get_or entries i d = get_or-take n entries i d lt in
        let together = sound.together i n d lt below in
        let chains = subst (λ (e : Entry). (m : ℕ) → IsOn (data_start g) entry.pages m → IsOn (data_start g) e.pages m → ⊥) (sym is)
        (λ m on_this on_other. places_of_apart (data_start g) (get_or entries i d).pages (get_or entries n d).pages together.chains m on_other (subst (λ (e : Entry). IsOn (data_start g) e.pages m) (sym (here d)) on_this)) in
        let same = bytes_lasts Region (data_start g) other.pages other.len (bytes_in (data_start g) other.pages other.len image) chains image k written at inside refl in
        ap merkle_root same ∙ has.1 i d before,
  )

  is_entry : IsEntry g.data_pages entry
  is_entry = subst (IsEntry g.data_pages) (here entry) (sound.each n entry below)

  read_some : SomeImage told (GoodTo g second entries n) → (bytes : List ℕ) → AreReadOf told (data_start g) entry bytes → SomeImage told (λ image. GoodTo g second entries n image × (bytes_in (data_start g) entry.pages entry.len image ≡ bytes))
  read_some some bytes read =
      read_bytes_some (GoodTo g second entries n) (data_start g) entry.pages bytes entry.len count told (omega (arith, is_entry.count)) (chain_range g entry.pages count room is_entry.below) is_entry.distinct fits good_lasts some read

  pub good_next : (len : ℕ) → Checks told (data_start g) entry (Ok len) → SomeImage told (GoodTo g second entries n) → SomeImage told (GoodTo g second entries (n + 1))
  good_next len checks some =
      some_weaker (λ image. GoodTo g second entries n image × (bytes_in (data_start g) entry.pages entry.len image ≡ checks.1)) (GoodTo g second entries (n + 1)) told
      (λ image p. (p.0.0, All-more (IsGood g image) entries n entry below p.0.1 (subst (IsGood g image) (sym (here entry)) (ap merkle_root p.1 ∙ sym checks.3)))) (read_some some checks.1 checks.2)

  pub rotten_found : (got : Root) → IsRotten told (data_start g) entry got → SomeImage told (GoodTo g second entries n) → SomeImage told (IsDamagedAt g (place.Blob entry.root))
  rotten_found got rotten some =
      some_weaker (λ image. GoodTo g second entries n image × (bytes_in (data_start g) entry.pages entry.len image ≡ rotten.0)) (IsDamagedAt g (place.Blob entry.root)) told
      (λ image p.
      let first : IsFirstRotten g image entries entry.root = record {
        before = take n entries;
        entry = entry;
        behind = drop (n + 1) entries;
        are = sym (take-append-drop n entries) ∙ ap (λ (l : List Entry). take n entries ++ l) (drop_more entries n entry below ∙ ap (λ (e : Entry). e ∷ drop (n + 1) entries) (here entry));
        good = p.0.1;
        rotten = λ good. rotten.3 (rotten.2 ∙ ap merkle_root (sym p.1) ∙ good);
        named = refl;
      } in
      (second, entries, p.0.0, first)) (read_some some rotten.0 rotten.1)
