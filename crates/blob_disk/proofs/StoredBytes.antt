-- What is read of a stored blob, where each image has one stock.
use Rattle.std.proofs.Common.{◌≡◌, ℕ, ◌+◌, ◌<◌, ◌≤◌, List, Option, Some, None, IfSome, Result, Ok, Err, All, sym, ap, subst, ◌∙◌, arith}
use Rattle.pkg_names.specs.declared.root.Root.{Root}
use Rattle.pkg_names.specs.Root.{root_eq}
use Rattle.pkg_names.proofs.Roots.{root_eq-true}
use Rattle.pkg_merkle.specs.Merkle.{merkle_root}
use Rattle.disk_model.specs.Past.{Past, IsPast}
use Rattle.disk_model.specs.Images.{EachImage}
use Rattle.disk_model.proofs.Moments.{each_weaker}
use Rattle.disk_model.proofs.ReadPages.{some_each}
use Rattle.image_layout.specs.declared.geometry.Geometry.{Geometry}
use Rattle.image_layout.specs.Geometry.{data_start}
use Rattle.node_table.specs.declared.entry.Entry.{Entry}
use Rattle.node_table.specs.Entries.{IsEntry, AreSound, entry_of}
use Rattle.node_table.specs.Table.{TableView}
use Rattle.blob_pages.specs.Chains.{bytes_in}
use Rattle.blob_pages.proofs.ImageBytes.{read_bytes}
use Rattle.blob_disk.specs.Stock.{HasBlobs, Stores}
use Rattle.blob_disk.specs.Reading.{AreReadOf, IsRotten, ReadsAll, GivesBytes, Checks, IsNotRotten}
use Rattle.blob_disk.specs.declared.answers.BlobFault.{BlobFault}
use Rattle.blob_disk.specs.declared.answers.BlobFault.TheVariants as fault
use Rattle.blob_disk.specs.declared.answers.CheckFault.{CheckFault}
use Rattle.blob_disk.specs.declared.answers.CheckFault.TheVariants as check
use Rattle.blob_disk.proofs.Placing.{found_at, chain_range}

pub entry_is : (g : Geometry) (entries : List Entry) (root : Root) (entry : Entry) → AreSound g entries → entry_of entries root ≡ Some entry → IsEntry g.data_pages entry
entry_is g entries root entry sound found =
    let at = found_at (λ (other : Entry). root_eq root other.root) entries entry found in
    subst (IsEntry g.data_pages) (at.2 entry) (sound.each at.0 entry at.1)

pub entry_root : (entries : List Entry) (root : Root) (entry : Entry) → entry_of entries root ≡ Some entry → root ≡ entry.root
entry_root entries root entry found =
    root_eq-true root entry.root (found_at (λ (other : Entry). root_eq root other.root) entries entry found).3

-- the bytes of a stored blob in each image
pub stored_bytes : (told : Option Past) (t : TableView) (contents : Root → List ℕ) (root : Root) (entry : Entry) → entry_of t.entries root ≡ Some entry → Stores told t contents → EachImage told (λ image. bytes_in (data_start t.geometry) entry.pages entry.len image ≡ contents root)
stored_bytes told t contents root entry found stores =
    let at = found_at (λ (other : Entry). root_eq root other.root) t.entries entry found in
    each_weaker (HasBlobs t contents) (λ image. bytes_in (data_start t.geometry) entry.pages entry.len image ≡ contents root) told
    (λ image has. subst (λ (e : Entry). bytes_in (data_start t.geometry) e.pages e.len image ≡ contents e.root) (at.2 entry) (has.bytes at.0 entry at.1) ∙ ap contents (sym (entry_root t.entries root entry found))) stores

-- they have its root
stored_root : (past : Past) (t : TableView) (contents : Root → List ℕ) (root : Root) (entry : Entry) → entry_of t.entries root ≡ Some entry → Stores (Some past) t contents → merkle_root (contents root) ≡ entry.root
stored_root past t contents root entry found stores =
    let at = found_at (λ (other : Entry). root_eq root other.root) t.entries entry found in
    let has = (some_each (HasBlobs t contents) (Some past) stores).2 in
    ap (λ (r : Root). merkle_root (contents r)) (entry_root t.entries root entry found) ∙ subst (λ (e : Entry). merkle_root (contents e.root) ≡ e.root) (at.2 entry) (has.roots at.0 entry at.1)

module _ (told : Option Past) (count start : ℕ) (t : TableView) (contents : Root → List ℕ) (root : Root) (entry : Entry)
    (found : entry_of t.entries root ≡ Some entry) (is : IsEntry t.geometry.data_pages entry) (start_is : start ≡ data_start t.geometry)
    (room : data_start t.geometry + t.geometry.data_pages ≤ count) (fits : IfSome told (IsPast count)) (stores : Stores told t contents) where
  -- the bytes read are the blob's
  pub read_same : (bytes : List ℕ) → AreReadOf told start entry bytes → IfSome told (λ (past : Past). bytes ≡ contents root)
  read_same bytes read =
      read_bytes start entry.pages (contents root) bytes entry.len count told (omega (arith, is.count))
      (subst (λ (s : ℕ). All (λ page. s + page < count) entry.pages) (sym start_is) (chain_range t.geometry entry.pages count room is.below)) is.distinct fits
      (subst (λ (s : ℕ). EachImage told (λ image. bytes_in s entry.pages entry.len image ≡ contents root)) (sym start_is) (stored_bytes told t contents root entry found stores)) read

-- and never have another root
pub rotten_never : (told : Option Past) (count start : ℕ) (t : TableView) (contents : Root → List ℕ) (root : Root) (entry : Entry) → entry_of t.entries root ≡ Some entry → IsEntry t.geometry.data_pages entry → start ≡ data_start t.geometry → data_start t.geometry + t.geometry.data_pages ≤ count → IfSome told (IsPast count) → Stores told t contents → (got : Root) → IsRotten told start entry got → IfSome told (λ (past : Past). ⊥)
rotten_never None count start t contents root entry found is start_is room fits stores got rotten = tt
rotten_never (Some past) count start t contents root entry found is start_is room fits stores got rotten =
    let same : rotten.0 ≡ contents root = read_same (Some past) count start t contents root entry found is start_is room fits stores rotten.0 rotten.1 in
    rotten.3 (rotten.2 ∙ ap merkle_root same ∙ stored_root past t contents root entry found stores)

if_told : (told : Option Past) (P : Type 0) → P → IfSome told (λ (past : Past). P)
if_told None P p = tt
if_told (Some past) P p = p

pub checks_same : (told : Option Past) (count start : ℕ) (t : TableView) (contents : Root → List ℕ) (root : Root) (entry : Entry) → entry_of t.entries root ≡ Some entry → IsEntry t.geometry.data_pages entry → start ≡ data_start t.geometry → data_start t.geometry + t.geometry.data_pages ≤ count → IfSome told (IsPast count) → Stores told t contents → (result : Result ℕ CheckFault) → Checks told start entry result → IfSome told (λ (past : Past). IsNotRotten result)
checks_same told count start t contents root entry found is start_is room fits stores (Ok len) checks = if_told told (Unit {0}) tt
checks_same told count start t contents root entry found is start_is room fits stores (Err check.Read) checks = if_told told (Unit {0}) tt
checks_same told count start t contents root entry found is start_is room fits stores (Err (check.Rotten got)) checks = rotten_never told count start t contents root entry found is start_is room fits stores got checks

pub gives_same : (told : Option Past) (count start limit : ℕ) (t : TableView) (contents : Root → List ℕ) (root : Root) (entry : Entry) → entry_of t.entries root ≡ Some entry → IsEntry t.geometry.data_pages entry → start ≡ data_start t.geometry → data_start t.geometry + t.geometry.data_pages ≤ count → IfSome told (IsPast count) → Stores told t contents → (result : Result (List ℕ) BlobFault) → ReadsAll told start limit entry result → IfSome told (λ (past : Past). GivesBytes (contents root) result)
gives_same told count start limit t contents root entry found is start_is room fits stores (Ok bytes) reads = read_same told count start t contents root entry found is start_is room fits stores bytes reads.0
gives_same told count start limit t contents root entry found is start_is room fits stores (Err (fault.TooLong len)) reads = if_told told (Unit {0}) tt
gives_same told count start limit t contents root entry found is start_is room fits stores (Err fault.Read) reads = if_told told (Unit {0}) tt
gives_same told count start limit t contents root entry found is start_is room fits stores (Err (fault.Rotten got)) reads = rotten_never told count start t contents root entry found is start_is room fits stores got reads
gives_same told count start limit t contents root entry found is start_is room fits stores (Err fault.NoMemory) reads = if_told told (Unit {0}) tt
