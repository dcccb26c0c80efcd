-- What was looked at grows by one blob.
use Rattle.std.proofs.Common.{◌≡◌, inl, inr, ℕ, ◌<◌, ◌≤◌, true, false, List, [], ◌∷◌, ◌++◌, length, Option, Some, None, is_some, IfSome, refl, sym, ap, ◌∙◌, subst}
use Rattle.std.specs.Option.{option_map}
use Rattle.std.proofs.lemmas.Bool.{cases_Bool}
use Rattle.pkg_names.specs.declared.root.Root.{Root}
use Rattle.pkg_names.specs.Root.{root_eq}
use Rattle.pkg_names.proofs.Roots.{root_eq-true}
use Rattle.pkg_merkle.specs.Merkle.{merkle_root}
use Rattle.package_book.specs.declared.book.TheConstants.{META_LIMIT}
use Rattle.package_book.specs.Books.{Meta, Books, book_at, Sets}
use Rattle.package_book.specs.Books.Meta.{Read, Long}
use Rattle.boot_core.specs.declared.looking.SeenBlob.{SeenBlob}
use Rattle.boot_core.specs.declared.seen.Seen.{Seen}
use Rattle.boot_core.specs.Look.{Stocked, len_in, bytes_in, stock_of, IsBlob, AreHonest}
use Rattle.boot_core.specs.Seen.{IsEntry, IsToldEntry, AreEntries, AreToldEntries, AreSeen}

-- a blob behind others is found where none of them has its root
found_behind : (blobs : List SeenBlob) (blob : SeenBlob) (root : Root) → root_eq blob.root root ≡ true → bytes_in blobs root ≡ None → bytes_in (blobs ++ blob ∷ []) root ≡ Some blob.bytes
found_behind [] blob root same none = rw same refl
found_behind (first ∷ blobs) blob root same none = elim (cases_Bool (root_eq first.root root)) [
  | inl here ↦ let found : bytes_in (first ∷ blobs) root ≡ Some first.bytes = rw here refl in absurd cc
  | inr other ↦
      let later : bytes_in (first ∷ blobs) root ≡ bytes_in blobs root = rw other refl in
      rw other (found_behind blobs blob root same (sym later ∙ none))
]

others_behind : (blobs : List SeenBlob) (blob : SeenBlob) (root : Root) → root_eq blob.root root ≡ false → bytes_in (blobs ++ blob ∷ []) root ≡ bytes_in blobs root
others_behind [] blob root other = rw other refl
others_behind (first ∷ blobs) blob root other = elim (cases_Bool (root_eq first.root root)) [
  | inl here ↦ rw here refl
  | inr next ↦ rw next (others_behind blobs blob root other)
]

pub unseen : (meta : Option Meta) → is_some meta ≡ false → meta ≡ None
unseen None h = refl
unseen (Some meta) h = absurd cc

unseen_bytes : (stock : List Stocked) (root : Root) (meta : Option Meta) (bytes : Option (List ℕ)) → meta ≡ None → IsEntry stock root meta bytes → bytes ≡ None
unseen_bytes stock root None None none entry = refl
unseen_bytes stock root None (Some bytes) none entry = absurd entry
unseen_bytes stock root (Some meta) bytes none entry = absurd cc

-- how the lengths of blobs are told by their bytes
pub len_of_bytes : (all : List SeenBlob) (root : Root) → len_in (stock_of all) root ≡ option_map (λ (bytes : List ℕ). length bytes) (bytes_in all root)
len_of_bytes [] root = refl
len_of_bytes (blob ∷ all) root = elim (cases_Bool (root_eq blob.root root)) [
  | inl here ↦ rw here refl
  | inr other ↦ rw other (len_of_bytes all root)
]

-- the length of a blob that is found, and its root
pub found_len : (all : List SeenBlob) (root : Root) (bytes : List ℕ) → bytes_in all root ≡ Some bytes → len_in (stock_of all) root ≡ Some (length bytes)
found_len all root bytes found = len_of_bytes all root ∙ ap (option_map (λ (text : List ℕ). length text)) found

pub missing_len : (all : List SeenBlob) (root : Root) → bytes_in all root ≡ None → len_in (stock_of all) root ≡ None
missing_len all root none = len_of_bytes all root ∙ ap (option_map (λ (text : List ℕ). length text)) none

pub found_root : (all : List SeenBlob) (root : Root) (bytes : List ℕ) → AreHonest all → bytes_in all root ≡ Some bytes → merkle_root bytes ≡ root
found_root [] root bytes honest found = absurd cc
found_root (blob ∷ all) root bytes honest found = elim (cases_Bool (root_eq blob.root root)) [
  | inl here ↦
      let is : bytes_in (blob ∷ all) root ≡ Some blob.bytes = rw here refl in
      let same : blob.bytes ≡ bytes = cc in
      ap merkle_root (sym same) ∙ honest.0 ∙ root_eq-true blob.root root here
  | inr other ↦
      let later : bytes_in (blob ∷ all) root ≡ bytes_in all root = rw other refl in
      found_root all root bytes honest.1 (sym later ∙ found)
]

pub found_blob : (all : List SeenBlob) (root : Root) (bytes : List ℕ) → AreHonest all → bytes_in all root ≡ Some bytes → IsBlob (stock_of all) root bytes
found_blob all root bytes honest found = record { len = found_len all root bytes found; has_root = found_root all root bytes honest found }

-- ---- what was looked at, as a whole

module _ (stock : List Stocked) (old new : Seen) (root : Root) where
  module _ (bytes : List ℕ) (fresh : book_at old.books root ≡ None) (sets : Sets root (Some (Read bytes)) old.books new.books) where
    abbrev Put : Type 0
    Put = let blob : SeenBlob = record { root = root; bytes = bytes } in new.blobs.items ≡ old.blobs.items ++ blob ∷ []

    meta_here : (other : Root) → root_eq root other ≡ true → book_at new.books other ≡ Some (Read bytes)
    meta_here other same = sets other ∙ rw same refl

    meta_there : (other : Root) → root_eq root other ≡ false → book_at new.books other ≡ book_at old.books other
    meta_there other apart = sets other ∙ rw apart refl

    bytes_here : Put → AreEntries stock old.books old.blobs.items → (other : Root) → root_eq root other ≡ true → bytes_in new.blobs.items other ≡ Some bytes
    bytes_here put entries other same =
        ap (λ (blobs : List SeenBlob). bytes_in blobs other) put
        ∙ found_behind old.blobs.items (record { root = root; bytes = bytes }) other same
        (unseen_bytes stock other (book_at old.books other) (bytes_in old.blobs.items other) (subst (λ (r : Root). book_at old.books r ≡ None) (root_eq-true root other same) fresh) (entries other))

    bytes_there : Put → (other : Root) → root_eq root other ≡ false → bytes_in new.blobs.items other ≡ bytes_in old.blobs.items other
    bytes_there put other apart =
        ap (λ (blobs : List SeenBlob). bytes_in blobs other) put ∙ others_behind old.blobs.items (record { root = root; bytes = bytes }) other apart

    -- what holds of each other blob and of this one holds of all
    each_entry : (P : Root → Option Meta → Option (List ℕ) → Type 0) → Put → AreEntries stock old.books old.blobs.items → ((other : Root) → P other (book_at old.books other) (bytes_in old.blobs.items other)) → P root (Some (Read bytes)) (Some bytes) → (other : Root) → P other (book_at new.books other) (bytes_in new.blobs.items other)
    each_entry P put entries each here other = elim (cases_Bool (root_eq root other)) [
      | inl same ↦
          subst (λ (t : Option (List ℕ)). P other (book_at new.books other) t) (sym (bytes_here put entries other same))
          (subst (λ (m : Option Meta). P other m (Some bytes)) (sym (meta_here other same))
          (subst (λ (r : Root). P r (Some (Read bytes)) (Some bytes)) (root_eq-true root other same) here))
      | inr apart ↦
          subst (λ (t : Option (List ℕ)). P other (book_at new.books other) t) (sym (bytes_there put other apart))
          (subst (λ (m : Option Meta). P other m (bytes_in old.blobs.items other)) (sym (meta_there other apart)) (each other))
    ]

    pub blob_seen : (told : Option (List SeenBlob)) → Put → length bytes ≤ META_LIMIT → IsBlob stock root bytes → IfSome told (λ all. bytes_in all root ≡ Some bytes) → AreSeen stock told old → AreSeen stock told new
    blob_seen None put short is tells seen = record { entries = each_entry (IsEntry stock) put seen.entries seen.entries (refl, short, is); as_told = tt }
    blob_seen (Some all) put short is tells seen = record {
      entries = each_entry (IsEntry stock) put seen.entries seen.entries (refl, short, is);
      as_told = each_entry (IsToldEntry all) put seen.entries seen.as_told tells;
    }

  module _ (len : ℕ) (fresh : book_at old.books root ≡ None) (sets : Sets root (Some (Long len)) old.books new.books) where
    each_other : (P : Root → Option Meta → Option (List ℕ) → Type 0) → new.blobs.items ≡ old.blobs.items → AreEntries stock old.books old.blobs.items → ((other : Root) → P other (book_at old.books other) (bytes_in old.blobs.items other)) → P root (Some (Long len)) None → (other : Root) → P other (book_at new.books other) (bytes_in new.blobs.items other)
    each_other P same_blobs entries each here other = elim (cases_Bool (root_eq root other)) [
      | inl same ↦
          let none : bytes_in new.blobs.items other ≡ None =
          ap (λ (blobs : List SeenBlob). bytes_in blobs other) same_blobs
          ∙ unseen_bytes stock other (book_at old.books other) (bytes_in old.blobs.items other) (subst (λ (r : Root). book_at old.books r ≡ None) (root_eq-true root other same) fresh) (entries other) in
          let meta : book_at new.books other ≡ Some (Long len) = sets other ∙ rw same refl in
          subst (λ (t : Option (List ℕ)). P other (book_at new.books other) t) (sym none)
          (subst (λ (m : Option Meta). P other m None) (sym meta)
          (subst (λ (r : Root). P r (Some (Long len)) None) (root_eq-true root other same) here))
      | inr apart ↦
          let meta : book_at new.books other ≡ book_at old.books other = sets other ∙ rw apart refl in
          subst (λ (blobs : List SeenBlob). P other (book_at new.books other) (bytes_in blobs other)) (sym same_blobs)
          (subst (λ (m : Option Meta). P other m (bytes_in old.blobs.items other)) (sym meta) (each other))
    ]

    pub long_seen : (told : Option (List SeenBlob)) → new.blobs.items ≡ old.blobs.items → META_LIMIT < len → len_in stock root ≡ Some len → IfSome told (λ all. (text : List ℕ) × (bytes_in all root ≡ Some text) × (length text ≡ len)) → AreSeen stock told old → AreSeen stock told new
    long_seen None same long is tells seen = record { entries = each_other (IsEntry stock) same seen.entries seen.entries (long, is); as_told = tt }
    long_seen (Some all) same long is tells seen = record {
      entries = each_other (IsEntry stock) same seen.entries seen.entries (long, is);
      as_told = each_other (IsToldEntry all) same seen.entries seen.as_told tells;
    }

-- where nothing was noted, nothing changed
pub same_seen : (stock : List Stocked) (told : Option (List SeenBlob)) (old new : Seen) → new.books ≡ old.books → new.blobs.items ≡ old.blobs.items → AreSeen stock told old → AreSeen stock told new
same_seen stock told old new books blobs seen = record {
  entries = subst (λ (b : Books). AreEntries stock b new.blobs.items) (sym books) (subst (λ (l : List SeenBlob). AreEntries stock old.books l) (sym blobs) seen.entries);
  as_told = subst (λ (b : Books). IfSome told (λ all. AreToldEntries all b new.blobs.items)) (sym books) (subst (λ (l : List SeenBlob). IfSome told (λ all. AreToldEntries all old.books l)) (sym blobs) seen.as_told);
}

-- nothing was looked at
pub none_seen : (stock : List Stocked) (told : Option (List SeenBlob)) (seen : Seen) → seen.books ≡ [] → seen.blobs.items ≡ [] → AreSeen stock told seen
none_seen stock None seen books blobs = record {
  entries = subst (λ (b : Books). AreEntries stock b seen.blobs.items) (sym books) (subst (λ (l : List SeenBlob). AreEntries stock [] l) (sym blobs) (λ root. tt));
  as_told = tt;
}
none_seen stock (Some all) seen books blobs = record {
  entries = subst (λ (b : Books). AreEntries stock b seen.blobs.items) (sym books) (subst (λ (l : List SeenBlob). AreEntries stock [] l) (sym blobs) (λ root. tt));
  as_told = subst (λ (b : Books). AreToldEntries all b seen.blobs.items) (sym books) (subst (λ (l : List SeenBlob). AreToldEntries all [] l) (sym blobs) (λ root. tt));
}
