-- What a commit of the table makes of the blobs: at each moment each image has those before or those after.
use Rattle.std.proofs.Common.{inl, inr, ◌≡◌, ◌⊎◌, ℕ, ◌+◌, ◌<◌, ◌≤◌, Bool, not, List, [], ◌∷◌, ◌++◌, length, get_or, Option, Some, Result, Ok, Err, OnOk, OnErr, All, filter, refl, sym, ap, subst, ◌∙◌, arith}
use Rattle.std.proofs.lemmas.Bool.{cases_Bool}
use Rattle.std.proofs.lemmas.List.{length_push, get_or_default}
use Rattle.std.proofs.lemmas.List.Elements.{All-push, All-nil, All-cons, All-head, All-tail}
use Rattle.pkg_names.specs.declared.root.Root.{Root}
use Rattle.pkg_merkle.specs.Merkle.{merkle_root}
use Rattle.disk_model.specs.Past.{Pages, Past}
use Rattle.disk_model.specs.Images.{EachImage, AtEach, WritesOnly, LastsOver}
use Rattle.disk_model.proofs.Moments.{each_weaker, each_both, at_both, at_weaker, at_end, at_then}
use Rattle.disk_model.proofs.Regions.{outside}
use Rattle.image_layout.specs.declared.geometry.Geometry.{Geometry}
use Rattle.image_layout.specs.Geometry.{IsWithinLimits, data_start}
use Rattle.node_table.specs.declared.entry.Entry.{Entry}
use Rattle.node_table.specs.Entries.{is_among, without, with_added, MayCome, IsChained}
use Rattle.node_table.specs.Table.{TableView, Has, Fits, IsCommitPage, committed}
use Rattle.node_table.proofs.Tables.{table_before_data}
use Rattle.blob_pages.specs.Pages.{page_count}
use Rattle.blob_pages.specs.Written.{IsOn, AreWritten, AreSettled}
use Rattle.blob_pages.specs.Chains.{bytes_in}
use Rattle.blob_pages.proofs.ImageBytes.{bytes_lasts, settled_bytes}
use Rattle.blob_disk.specs.Drafts.{with_flag}
use Rattle.blob_disk.specs.Stock.{blob_bytes, HasBlobs, Stores}
use Rattle.blob_disk.proofs.Placing.{IsBehind, on_data, stores_outside}

-- each of these entries has its bytes in the image, and they have its root
pub record HasBytes (g : Geometry) (contents : Root → List ℕ) (entries : List Entry) (image : Pages) : Type 0 where
  pub bytes : All (λ (entry : Entry). blob_bytes g image entry ≡ contents entry.root) entries
  pub roots : All (λ (entry : Entry). merkle_root (contents entry.root) ≡ entry.root) entries

bytes_of : (t : TableView) (contents : Root → List ℕ) (image : Pages) → HasBlobs t contents image → HasBytes t.geometry contents t.entries image
bytes_of t contents image has = record { bytes = has.bytes; roots = has.roots }

-- the pages of a commit lie before the data
pub commit_before_data : (t : TableView) (n : ℕ) → IsCommitPage t n → n < data_start t.geometry
commit_before_data t n (inl e) = table_before_data t.geometry n (inl e)
commit_before_data t n (inr within) = table_before_data t.geometry n (inr (not t.second, within))

-- the bytes of entries last over a commit
bytes_last : (t : TableView) (contents : Root → List ℕ) (entries : List Entry) → LastsOver (IsCommitPage t) (HasBytes t.geometry contents entries)
bytes_last t contents entries = λ image n bytes within below has.
    record {
      bytes = λ k d inside.
          let entry : Entry = get_or entries k d in
          bytes_lasts (IsCommitPage t) (data_start t.geometry) entry.pages entry.len (contents entry.root)
          (λ m commit on. omega (arith, commit_before_data t m commit, on_data (data_start t.geometry) entry.pages m on)) image n bytes within below (has.bytes k d inside);
      roots = has.roots;
    }

-- one commit, from the table to another, where the bytes of both are there
pub commit_moments : (t : TableView) (entries : List Entry) (second : Bool) (contents : Root → List ℕ) (old new : Option Past) → WritesOnly old new (IsCommitPage t) → Stores old t contents → EachImage old (HasBytes t.geometry contents entries) → AtEach old new (λ image. Has t image ⊎ Has (record t { second = second; entries = entries }) image) → AtEach old new (λ image. HasBlobs t contents image ⊎ HasBlobs (record t { second = second; entries = entries }) contents image)
commit_moments t entries second contents old new only stores next moments =
    let after : TableView = record t { second = second; entries = entries } in
    let here : EachImage old (HasBytes t.geometry contents t.entries) = each_weaker (HasBlobs t contents) (HasBytes t.geometry contents t.entries) old (bytes_of t contents) stores in
    let stay = outside (IsCommitPage t) (HasBytes t.geometry contents t.entries) old new (bytes_last t contents t.entries) here only in
    let stay_next = outside (IsCommitPage t) (HasBytes t.geometry contents entries) old new (bytes_last t contents entries) next only in
    at_weaker (λ image. (HasBytes t.geometry contents t.entries image × HasBytes t.geometry contents entries image) × (Has t image ⊎ Has after image)) (λ image. HasBlobs t contents image ⊎ HasBlobs after contents image) old new
    (λ image have. elim have.1 [
      | inl before ↦ inl (record { table = before; bytes = have.0.0.bytes; roots = have.0.0.roots })
      | inr behind ↦ inr (record { table = behind; bytes = have.0.1.bytes; roots = have.0.1.roots })
    ])
    (at_both (λ image. HasBytes t.geometry contents t.entries image × HasBytes t.geometry contents entries image) (λ image. Has t image ⊎ Has after image) old new
    (at_both (HasBytes t.geometry contents t.entries) (HasBytes t.geometry contents entries) old new stay stay_next) moments)

-- after it each image has the blobs of the new table
pub commit_stores : (t : TableView) (entries : List Entry) (second : Bool) (contents : Root → List ℕ) (old new : Option Past) → WritesOnly old new (IsCommitPage t) → EachImage old (HasBytes t.geometry contents entries) → Fits new (record t { second = second; entries = entries }) → Stores new (record t { second = second; entries = entries }) contents
commit_stores t entries second contents old new only next fits =
    let after : TableView = record t { second = second; entries = entries } in
    let stay = outside (IsCommitPage t) (HasBytes t.geometry contents entries) old new (bytes_last t contents entries) next only in
    each_weaker (λ image. HasBytes t.geometry contents entries image × Has after image) (HasBlobs after contents) new
    (λ image have. record { table = have.1; bytes = have.0.bytes; roots = have.0.roots })
    (each_both (HasBytes t.geometry contents entries) (Has after) new (at_end (HasBytes t.geometry contents entries) old new stay) fits)

-- what holds of all holds of those that are left
All-filter : {X : Type 0} (P : X → Type 0) (test : X → Bool) (xs : List X) → All P xs → All P (filter test xs)
All-filter P test [] all = All-nil P
All-filter P test (x ∷ xs) all =
    elim (cases_Bool (test x)) [
      | inl holds ↦ rw holds (All-cons P x (filter test xs) (All-head P x xs all) (All-filter P test xs (All-tail P x xs all)))
      | inr lacks ↦ rw lacks (All-filter P test xs (All-tail P x xs all))
    ]

-- the bytes of the blobs that are left
pub left_bytes : (t : TableView) (contents : Root → List ℕ) (gone : List Root) (told : Option Past) → Stores told t contents → EachImage told (HasBytes t.geometry contents (without gone t.entries))
left_bytes t contents gone told stores =
    let left : Entry → Bool = λ entry. not (is_among gone entry.root) in
    each_weaker (HasBlobs t contents) (HasBytes t.geometry contents (without gone t.entries)) told
    (λ image has. record {
      bytes = All-filter (λ (entry : Entry). blob_bytes t.geometry image entry ≡ contents entry.root) left t.entries has.bytes;
      roots = All-filter (λ (entry : Entry). merkle_root (contents entry.root) ≡ entry.root) left t.entries has.roots;
    }) stores

-- nothing goes
pub without_none : (entries : List Entry) → without [] entries ≡ entries
without_none [] = refl
without_none (entry ∷ entries) = ap (λ (l : List Entry). entry ∷ l) (without_none entries)

-- the bytes of the blobs with the one that comes
pub more_bytes : (t : TableView) (contents : Root → List ℕ) (entry : Entry) (blob : List ℕ) (told : Option Past) → length blob ≡ entry.len → merkle_root blob ≡ entry.root → contents entry.root ≡ blob → page_count entry.len ≤ length entry.pages → Stores told t contents → AreSettled told (data_start t.geometry) entry.pages blob (page_count entry.len) → EachImage told (HasBytes t.geometry contents (with_added (Some entry) (without [] t.entries)))
more_bytes t contents entry blob told size root is within stores settled =
    let g : Geometry = t.geometry in
    let start : ℕ = data_start g in
    let there : EachImage told (λ image. bytes_in start entry.pages entry.len image ≡ blob) =
    subst (λ (n : ℕ). EachImage told (λ image. bytes_in start entry.pages n image ≡ blob)) size
    (settled_bytes start entry.pages blob told (omega (arith, ap page_count size, within)) (subst (λ (n : ℕ). AreSettled told start entry.pages blob (page_count n)) (sym size) settled)) in
    subst (λ (l : List Entry). EachImage told (HasBytes g contents (l ++ entry ∷ []))) (sym (without_none t.entries))
    (each_weaker (λ image. HasBlobs t contents image × (bytes_in start entry.pages entry.len image ≡ blob)) (HasBytes g contents (t.entries ++ entry ∷ [])) told
    (λ image have. record {
      bytes = All-push (λ (other : Entry). blob_bytes g image other ≡ contents other.root) t.entries entry have.0.bytes (have.1 ∙ sym is);
      roots = All-push (λ (other : Entry). merkle_root (contents other.root) ≡ other.root) t.entries entry have.0.roots (ap merkle_root is ∙ root);
    })
    (each_both (HasBlobs t contents) (λ image. bytes_in start entry.pages entry.len image ≡ blob) told stores there))

-- An entry that may come could stand behind the others.
pub come_behind : (g : Geometry) (entries : List Entry) (entry : Entry) → MayCome g entries entry → IsBehind g entries entry
come_behind g entries entry may =
    record {
      is = may.entry;
      together = λ k d below. record {
        roots = may.fresh k d below;
        chains = λ page on_other on_entry.
            let here : get_or entry.pages on_entry.0 page ≡ page = on_entry.2 in
            let other : Entry = get_or entries k d in
            may.free on_entry.0 page on_entry.1
            (subst (λ (p : ℕ). IsChained entries p) (sym here) (k, other, below, get_or_default entries k other d below, on_other));
      };
    }

-- no more are left than there were
pub length-without : (gone : List Root) (entries : List Entry) → length (without gone entries) ≤ length entries
length-without gone [] = omega arith
length-without gone (entry ∷ entries) =
    elim (cases_Bool (not (is_among gone entry.root))) [
      | inl holds ↦ rw holds (omega (arith, length-without gone entries))
      | inr lacks ↦ rw lacks (omega (arith, length-without gone entries))
    ]

pub length-with_added : (entry : Entry) (entries : List Entry) → length (with_added (Some entry) (without [] entries)) ≡ length entries + 1
length-with_added entry entries = length_push (without [] entries) entry ∙ ap (λ (l : List Entry). length l + 1) (without_none entries)

-- what is settled is so under other names of its places
pub settled_as : (old new : Option Past) (start s : ℕ) (chain ch blob : List ℕ) (before after : ℕ) → start ≡ s → chain ≡ ch → (AreWritten old start chain blob before → AreSettled new start chain blob after) → AreWritten old s ch blob before → AreSettled new s ch blob after
settled_as old new start s chain ch blob before after start_is chain_is f =
    subst (λ (l : List ℕ). AreWritten old s l blob before → AreSettled new s l blob after) chain_is
    (subst (λ (k : ℕ). AreWritten old k chain blob before → AreSettled new k chain blob after) start_is f)

pub fits_of : (told : Option Past) (t : TableView) (contents : Root → List ℕ) → Stores told t contents → Fits told t
fits_of told t contents stores = each_weaker (HasBlobs t contents) (Has t) told (λ image has. has.table) stores

pub both_ok : {T E A B C : Type 0} (r : Result T E) → OnOk r A → OnOk r B → (A → B → C) → OnOk r C
both_ok (Ok x) a b f = f a b
both_ok (Err e) a b f = tt

-- first the pages of the blob that comes, then the table
module _ (t : TableView) (entry : Entry) (limits : IsWithinLimits t.geometry) (behind : IsBehind t.geometry t.entries entry)
    (blob : List ℕ) (contents : Root → List ℕ) (size : length blob ≡ entry.len) (root : merkle_root blob ≡ entry.root) (is : contents entry.root ≡ blob)
    (old mid new : Option Past) (stores : Stores old t contents) (pages : WritesOnly old mid (IsOn (data_start t.geometry) entry.pages)) where
  abbrev Either : Pages → Type 0
  Either image = HasBlobs t contents image ⊎ HasBlobs (committed t (Some entry) []) contents image

  pub at_mid : AtEach old mid Either
  at_mid = at_weaker (HasBlobs t contents) Either old mid (λ image has. inl has) (stores_outside t contents entry old mid limits behind stores pages)

  pub stores_mid : Stores mid t contents
  stores_mid = at_end (HasBlobs t contents) old mid (stores_outside t contents entry old mid limits behind stores pages)

  module _ (settled : AreSettled mid (data_start t.geometry) entry.pages blob (page_count entry.len)) (only : WritesOnly mid new (IsCommitPage t)) where
    next : EachImage mid (HasBytes t.geometry contents (with_added (Some entry) (without [] t.entries)))
    next = more_bytes t contents entry blob mid size root is (omega (arith, behind.is.count)) stores_mid settled

    pub at_new : AtEach mid new (λ image. Has t image ⊎ Has (committed t (Some entry) []) image) → AtEach old new Either
    at_new moments = at_then Either old mid new at_mid (commit_moments t (with_added (Some entry) (without [] t.entries)) (not t.second) contents mid new only stores_mid next moments)

    pub stores_new : Fits new (committed t (Some entry) []) → Stores new (committed t (Some entry) []) contents
    stores_new fits = commit_stores t (with_added (Some entry) (without [] t.entries)) (not t.second) contents mid new only next fits

pub any_ok : {T E A : Type 0} (r : Result T E) → A → OnOk r A
any_ok (Ok x) a = a
any_ok (Err e) a = tt

pub mapped_err : {T E A B : Type 0} (r : Result T E) → (A → B) → OnErr r A → OnErr r B
mapped_err (Ok x) f a = tt
mapped_err (Err e) f a = f a

-- a table whose flag is set has that flag
pub own_flag : (t now : TableView) (flag : Bool) → now ≡ with_flag flag t → now ≡ with_flag now.broken t
own_flag t now flag is = subst (λ (v : TableView). v ≡ with_flag v.broken t) (sym is) refl
