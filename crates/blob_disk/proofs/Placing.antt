-- Where drafts and blobs lie, and that writes of a draft's pages leave all blobs.
use Rattle.std.proofs.Common.{inl, inr, ◌≡◌, ℕ, suc, ◌+◌, ◌<◌, ◌≤◌, Bool, true, List, [], ◌∷◌, ◌++◌, length, get_or, Option, Some, All, Contains, refl, sym, ap, subst, ◌∙◌, arith, length-append}
use Rattle.std.specs.Prelude.{find, unwrap_or}
use Rattle.std.specs.Option.{option_map}
use Rattle.std.proofs.lemmas.Bool.{cases_Bool}
use Rattle.std.proofs.lemmas.List.{get_or_append_left, get_or-append-add, get_or_default}
use Rattle.pkg_names.specs.declared.root.Root.{Root}
use Rattle.pkg_names.specs.Root.{root_eq}
use Rattle.disk_model.specs.Past.{Past}
use Rattle.disk_model.specs.Images.{AtEach, WritesOnly, LastsOver}
use Rattle.disk_model.proofs.Regions.{outside}
use Rattle.image_layout.specs.declared.geometry.Geometry.{Geometry}
use Rattle.image_layout.specs.Geometry.{IsWithinLimits, data_start}
use Rattle.node_table.specs.declared.entry.Entry.{Entry}
use Rattle.node_table.specs.Entries.{IsEntry, AreSound, AreApart, MayStandTogether, entry_of}
use Rattle.node_table.specs.Table.{TableView}
use Rattle.node_table.proofs.Tables.{table_lasts, table_before_data}
use Rattle.blob_pages.specs.Written.{IsOn, AreWritten}
use Rattle.blob_pages.proofs.ImageBytes.{bytes_lasts}
use Rattle.blob_disk.specs.Chains.{chain_of}
use Rattle.blob_disk.specs.Stock.{HasBlobs, Stores}

-- what is found stands at a place
pub found_at : {X : Type 0} (p : X → Bool) (xs : List X) (x : X) → find p xs ≡ Some x → (i : ℕ) × (i < length xs) × ((d : X) → get_or xs i d ≡ x) × (p x ≡ true)
found_at p [] x found = absurd (cc found)
found_at p (y ∷ xs) x found =
    elim (cases_Bool (p y)) [
      | inl holds ↦
          let here : Some y ≡ Some x = rw holds at found in
          let same : y ≡ x = cc here in
          (0, omega arith, λ d. same, subst (λ z. p z ≡ true) same holds)
      | inr lacks ↦
          let rest = found_at p xs x (rw lacks at found) in
          (suc rest.0, omega (arith, rest.1), rest.2, rest.3)
    ]

-- an entry behind others, which could stand in one table with them
pub record IsBehind (g : Geometry) (entries : List Entry) (entry : Entry) : Type 0 where
  pub is : IsEntry g.data_pages entry
  pub together : All (λ (other : Entry). MayStandTogether other entry) entries

pub draft_behind : (g : Geometry) (entries drafts : List Entry) (root : Root) (entry : Entry) → AreSound g (entries ++ drafts) → entry_of drafts root ≡ Some entry → IsBehind g entries entry
draft_behind g entries drafts root entry sound found =
    let at = found_at (λ (other : Entry). root_eq root other.root) drafts entry found in
    let n : ℕ = length entries in
    let here : (d : Entry) → get_or (entries ++ drafts) (n + at.0) d ≡ entry = λ d. get_or-append-add entries drafts at.0 d ∙ at.2 d in
    let inside : n + at.0 < length (entries ++ drafts) = omega (arith, length-append entries drafts, at.1) in
    record {
      is = subst (IsEntry g.data_pages) (here entry) (sound.each (n + at.0) entry inside);
      together = λ k d below.
          subst (λ (other : Entry). MayStandTogether other entry) (get_or_append_left entries drafts d k below)
          (subst (MayStandTogether (get_or (entries ++ drafts) k d)) (here d) (sound.together k (n + at.0) d (omega (arith, below)) inside));
    }

pub chain-found : (drafts : List Entry) (root : Root) (entry : Entry) → entry_of drafts root ≡ Some entry → chain_of drafts root ≡ entry.pages
chain-found drafts root entry found = ap (λ (o : Option Entry). unwrap_or (option_map (λ (e : Entry). e.pages) o) []) found

-- the pages of a chain lie on the disk
pub chain_range : (g : Geometry) (chain : List ℕ) (count : ℕ) → data_start g + g.data_pages ≤ count → All (λ page. page < g.data_pages) chain → All (λ page. data_start g + page < count) chain
chain_range g chain count room below = λ k d inside. omega (arith, below k d inside, room)

contains_at : (xs : List ℕ) (i x : ℕ) → i < length xs → x ≡ get_or xs i 0 → Contains xs x
contains_at xs i x inside is = (i, inside, get_or_default xs i x 0 inside ∙ sym is)

-- chains without a common page lie on pages without a common one
pub places_of_apart : (start : ℕ) (a b : List ℕ) → AreApart a b → (n : ℕ) → IsOn start a n → IsOn start b n → ⊥
places_of_apart start a b apart n on_a on_b =
    let page : ℕ = get_or a on_a.0 0 in
    apart page (contains_at a on_a.0 page on_a.1 refl) (contains_at b on_b.0 page on_b.1 (omega (arith, on_a.2, on_b.2)))

-- the blobs of an image last over writes of other data pages
pub blobs_last : (region : ℕ → Type 0) (t : TableView) (contents : Root → List ℕ) → IsWithinLimits t.geometry → ((n : ℕ) → region n → data_start t.geometry ≤ n) → All (λ (entry : Entry). (n : ℕ) → region n → IsOn (data_start t.geometry) entry.pages n → ⊥) t.entries → LastsOver region (HasBlobs t contents)
blobs_last region t contents limits behind apart = λ image n bytes within below has.
    record {
      table = table_lasts region t.geometry t.second t.entries limits (λ m inside own. omega (arith, behind m inside, table_before_data t.geometry m own)) image n bytes within below has.table;
      bytes = λ k d inside.
          let entry : Entry = get_or t.entries k d in
          bytes_lasts region (data_start t.geometry) entry.pages entry.len (contents entry.root) (apart k d inside) image n bytes within below (has.bytes k d inside);
      roots = has.roots;
    }

-- the pages of an entry behind the stock are none of a blob's
pub stock_apart : (g : Geometry) (entries : List Entry) (entry : Entry) → IsBehind g entries entry → All (λ (other : Entry). (n : ℕ) → IsOn (data_start g) entry.pages n → IsOn (data_start g) other.pages n → ⊥) entries
stock_apart g entries entry behind = λ k d below n on_draft on_blob.
    places_of_apart (data_start g) (get_or entries k d).pages entry.pages (behind.together k d below).chains n on_blob on_draft

pub on_data : (start : ℕ) (chain : List ℕ) (n : ℕ) → IsOn start chain n → start ≤ n
on_data start chain n on = omega (arith, on.2)

-- writes of an entry's pages leave the blobs in each image at each moment
pub stores_outside : (t : TableView) (contents : Root → List ℕ) (entry : Entry) (old new : Option Past) → IsWithinLimits t.geometry → IsBehind t.geometry t.entries entry → Stores old t contents → WritesOnly old new (IsOn (data_start t.geometry) entry.pages) → AtEach old new (HasBlobs t contents)
stores_outside t contents entry old new limits behind stores only =
    outside (IsOn (data_start t.geometry) entry.pages) (HasBlobs t contents) old new
    (blobs_last (IsOn (data_start t.geometry) entry.pages) t contents limits (on_data (data_start t.geometry) entry.pages) (stock_apart t.geometry t.entries entry behind)) stores only

-- what is written at places is so under their other names
pub written_as : (old new : Option Past) (start s : ℕ) (chain ch blob : List ℕ) (before after : ℕ) → start ≡ s → chain ≡ ch → (AreWritten old start chain blob before → AreWritten new start chain blob after) → AreWritten old s ch blob before → AreWritten new s ch blob after
written_as old new start s chain ch blob before after start_is chain_is f =
    subst (λ (l : List ℕ). AreWritten old s l blob before → AreWritten new s l blob after) chain_is
    (subst (λ (k : ℕ). AreWritten old k chain blob before → AreWritten new k chain blob after) start_is f)

pub only_as : (old new : Option Past) (start s : ℕ) (chain ch : List ℕ) → start ≡ s → chain ≡ ch → WritesOnly old new (IsOn start chain) → WritesOnly old new (IsOn s ch)
only_as old new start s chain ch start_is chain_is only =
    subst (λ (l : List ℕ). WritesOnly old new (IsOn s l)) chain_is (subst (λ (k : ℕ). WritesOnly old new (IsOn k chain)) start_is only)
