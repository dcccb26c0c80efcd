-- The stock of a disk that is loaded.
use Rattle.std.proofs.Common.{inl, inr, ◌≡◌, ℕ, zero, suc, ◌<◌, Bool, true, false, List, [], ◌∷◌, ◌++◌, length, get_or, Option, Some, None, IfSome, unwrap_or, All, refl, sym, ap, subst, ◌∙◌, arith, length-append}
use Rattle.std.specs.Prelude.{find}
use Rattle.std.specs.Option.{option_map}
use Rattle.std.proofs.lemmas.Bool.{cases_lt, cases_Bool}
use Rattle.std.proofs.lemmas.List.{get_or_at}
use Rattle.pkg_names.specs.Root.{root_eq}
use Rattle.pkg_names.proofs.Roots.{root_eq-true, root_eq-refl}
use Rattle.pkg_merkle.specs.Merkle.{merkle_root}
use Rattle.disk_model.specs.Past.{Past, Pages}
use Rattle.disk_model.specs.Images.{SomeImage}
use Rattle.disk_model.proofs.ReadPages.{some_weaker}
use Rattle.image_layout.specs.declared.geometry.Geometry.{Geometry}
use Rattle.image_layout.specs.declared.Place.{Place}
use Rattle.image_layout.specs.declared.Place.TheVariants as place
use Rattle.pkg_names.specs.declared.root.Root.{Root}
use Rattle.node_table.specs.declared.entry.Entry.{Entry}
use Rattle.node_table.specs.declared.entry.LoadFault.{LoadFault}
use Rattle.node_table.specs.declared.entry.LoadFault.TheVariants.{Read, Damaged, NoMemory}
use Rattle.node_table.specs.Entries.{AreSound, entry_of}
use Rattle.node_table.specs.Table.{TableView, HasTable, Has, HasCause as TableCause}
use Rattle.node_table.proofs.Tables.{table_is_one, table_not_damaged}
use Rattle.blob_disk.specs.Stock.{blob_bytes, IsGood, HasBlobs, Stores, HaveOneStock, IsFirstRotten, IsDamagedAt, HasCause, IsNotDamaged}
use Rattle.blob_disk.proofs.Placing.{found_at}

-- where all images have one stock, the table that was loaded is its table
pub one_stock : (told : Option Past) (g : Geometry) (t : TableView) (contents : Root → List ℕ) → t.geometry ≡ g → t.broken ≡ false → SomeImage told (Has t) → HaveOneStock told g contents → Stores told t contents
one_stock None g t contents geometry unbroken some one = tt
one_stock (Some past) g t contents geometry unbroken some one =
    let has = one.2 some.0 some.1 in
    let same = table_is_one g t.second one.0 t.entries one.1 some.0 (subst (λ (x : Geometry). HasTable x t.second t.entries some.0) geometry some.2) has.table in
    let make : Geometry → Bool → List Entry → Bool → TableView = λ a b c d. record { geometry = a; second = b; entries = c; broken = d } in
    let view : t ≡ make g one.0 one.1 false = ap (λ (x : Geometry). make x t.second t.entries t.broken) geometry ∙ ap (λ (x : Bool). make g x t.entries t.broken) same.0
    ∙ ap (λ (x : List Entry). make g one.0 x t.broken) same.1 ∙ ap (λ (x : Bool). make g one.0 one.1 x) unbroken in
    subst (λ (v : TableView). Stores (Some past) v contents) (sym view) one.2

finds : {X : Type 0} (p : X → Bool) (xs : List X) (i : ℕ) (d : X) → i < length xs → p (get_or xs i d) ≡ true → (x : X) × (find p xs ≡ Some x)
finds p [] i d below is = absurd (omega (arith, below))
finds p (y ∷ xs) zero d below is = (y, rw is refl)
finds p (y ∷ xs) (suc i) d below is =
    elim (cases_Bool (p y)) [
      | inl holds ↦ (y, rw holds refl)
      | inr lacks ↦
          let rest = finds p xs i d (omega (arith, below)) is in
          (rest.0, rw lacks rest.1)
    ]

-- the entry of an entry's root is that entry
entry_found : (g : Geometry) (entries : List Entry) (i : ℕ) (d : Entry) → AreSound g entries → i < length entries → entry_of entries (get_or entries i d).root ≡ Some (get_or entries i d)
entry_found g entries i d sound below =
    let own : Entry = get_or entries i d in
    let p : Entry → Bool = λ other. root_eq own.root other.root in
    let some = finds p entries i d below (root_eq-refl own.root) in
    let at = found_at p entries some.0 some.1 in
    let there : get_or entries at.0 d ≡ some.0 = at.2 d in
    let roots : own.root ≡ (get_or entries at.0 d).root = root_eq-true own.root some.0.root at.3 ∙ ap (λ (e : Entry). e.root) (sym there) in
    let same : some.0 ≡ own = elim (cases_lt at.0 i) [
      | inl lt ↦ absurd ((sound.together at.0 i d lt below).roots (sym roots))
      | inr ge ↦ elim (cases_lt i at.0) [
        | inl lt ↦ absurd ((sound.together i at.0 d lt at.1).roots roots)
        | inr le ↦
            let index : at.0 ≡ i = omega (arith, ge, le) in
            sym there ∙ ap (λ (n : ℕ). get_or entries n d) index
      ]
    ] in
    some.1 ∙ ap (λ (e : Entry). Some e) same

-- An image with a table whose blobs are good has them, with the bytes that stand there.
has_blobs : (t : TableView) (image : Pages) → AreSound t.geometry t.entries → Has t image → All (IsGood t.geometry image) t.entries → (contents : Root → List ℕ) × HasBlobs t contents image
has_blobs t image sound has good =
    let of_entry : Option Entry → List ℕ = λ entry. unwrap_or (option_map (blob_bytes t.geometry image) entry) [] in
    let contents : Root → List ℕ = λ root. of_entry (entry_of t.entries root) in
    let are : All (λ (entry : Entry). contents entry.root ≡ blob_bytes t.geometry image entry) t.entries = λ k d below. ap of_entry (entry_found t.geometry t.entries k d sound below) in
    let blobs : HasBlobs t contents image = record {
      table = has;
      bytes = λ k d below. sym (are k d below);
      roots = λ k d below. ap merkle_root (are k d below) ∙ good k d below;
    } in
    (contents, blobs)

pub stock_of : (told : Option Past) (g : Geometry) (t : TableView) → t.geometry ≡ g → AreSound t.geometry t.entries → SomeImage told (λ image. HasTable g t.second t.entries image × All (IsGood g image) t.entries) → SomeImage told (λ image. (contents : Root → List ℕ) × HasBlobs t contents image)
stock_of told g t geometry sound some =
    some_weaker (λ image. HasTable g t.second t.entries image × All (IsGood g image) t.entries) (λ image. (contents : Root → List ℕ) × HasBlobs t contents image) told
    (λ image p. has_blobs t image sound (subst (λ (x : Geometry). HasTable x t.second t.entries image) (sym geometry) p.0) (subst (λ (x : Geometry). All (IsGood x image) t.entries) (sym geometry) p.1)) some

-- Where all its blobs have bytes of their roots, none is rotten.
good_not_rotten : (g : Geometry) (image : Pages) (entries : List Entry) (root : Root) → All (IsGood g image) entries → IsFirstRotten g image entries root → ⊥
good_not_rotten g image entries root good first =
    let n : ℕ = length first.before in
    let all : All (IsGood g image) (first.before ++ first.entry ∷ first.behind) = subst (λ (l : List Entry). All (IsGood g image) l) first.are good in
    let below : n < length (first.before ++ first.entry ∷ first.behind) = omega (arith, length-append first.before (first.entry ∷ first.behind)) in
    first.rotten (subst (IsGood g image) (get_or_at first.before first.entry first.behind first.entry n refl) (all n first.entry below))

-- An image that has blobs is damaged nowhere.
not_damaged_at : (t : TableView) (contents : Root → List ℕ) (found : Place) (image : Pages) → HasBlobs t contents image → IsDamagedAt t.geometry found image → ⊥
not_damaged_at t contents place.Super image has damage = damage
not_damaged_at t contents place.Selector image has damage = table_not_damaged t.geometry t.second t.entries place.Selector image has.table damage
not_damaged_at t contents (place.Table page) image has damage = table_not_damaged t.geometry t.second t.entries (place.Table page) image has.table damage
not_damaged_at t contents (place.Blob root) image has damage =
    let same = table_is_one t.geometry t.second damage.0 t.entries damage.1 image has.table damage.2 in
    let good : All (IsGood t.geometry image) t.entries = λ k d below. ap merkle_root (has.bytes k d below) ∙ has.roots k d below in
    good_not_rotten t.geometry image damage.1 root (subst (λ (l : List Entry). All (IsGood t.geometry image) l) same.1 good) damage.3
not_damaged_at t contents (place.SlotPlace slot) image has damage = damage

-- So where all images have one stock, none is damaged.
pub never_damaged : (told : Option Past) (g : Geometry) (contents : Root → List ℕ) → HaveOneStock told g contents → (fault : LoadFault) → HasCause told g fault → IfSome told (λ (past : Past). IsNotDamaged fault)
never_damaged None g contents one fault cause = tt
never_damaged (Some past) g contents one Read cause = tt
never_damaged (Some past) g contents one NoMemory cause = tt
never_damaged (Some past) g contents one (Damaged found) cause =
    not_damaged_at (record { geometry = g; second = one.0; entries = one.1; broken = false }) contents found cause.0 (one.2 cause.0 cause.1) cause.2

-- what was loaded, under the names that the blobs' checks are told
pub loaded_some : (told mid : Option Past) (g : Geometry) (t : TableView) (entries : List Entry) → mid ≡ told → entries ≡ t.entries → t.geometry ≡ g → SomeImage told (Has t) → SomeImage mid (HasTable g t.second entries)
loaded_some told mid g t entries stays list geometry some =
    subst (λ (o : Option Past). SomeImage o (HasTable g t.second entries)) (sym stays)
    (subst (λ (l : List Entry). SomeImage told (HasTable g t.second l)) (sym list)
    (subst (λ (x : Geometry). SomeImage told (HasTable x t.second t.entries)) geometry some))

-- nor does the table's own loading find damage
pub table_never : (told : Option Past) (g : Geometry) (contents : Root → List ℕ) → HaveOneStock told g contents → (fault : LoadFault) → TableCause told g fault → IfSome told (λ (past : Past). IsNotDamaged fault)
table_never None g contents one fault cause = tt
table_never (Some past) g contents one Read cause = tt
table_never (Some past) g contents one NoMemory cause = tt
table_never (Some past) g contents one (Damaged found) cause =
    table_not_damaged g one.0 one.1 found cause.0 (one.2 cause.0 cause.1).table cause.2
