-- A draft lends its pages to the entry that is to be stored, and gets them back or goes.
use Rattle.std.proofs.Common.{◌≡◌, ℕ, suc, ◌<◌, ◌≤◌, Bool, false, List, ◌∷◌, ◌++◌, length, take, drop, get_or, set, remove, Some, Vec, vec_capacity, sym, subst, ap, ◌∙◌, arith, length-append}
use Rattle.std.specs.declared.alloc.Global.{Global}
use Rattle.std.proofs.lemmas.List.{set-set, set-get_or, get_or-set_same, take-set-le, drop-set-lt}
use Rattle.std.proofs.lemmas.List.Sums.{sum_by-append, sum_by-cons}
use Rattle.pkg_names.specs.declared.root.Root.{Root}
use Rattle.pkg_names.specs.Root.{root_eq}
use Rattle.node_table.specs.declared.entry.Entry.{Entry}
use Rattle.node_table.specs.Entries.{MayCome, entry_of}
use Rattle.node_table.specs.Table.{TableView}
use Rattle.blob_disk.specs.Chains.{draft_place, without_pages}
use Rattle.blob_disk.specs.Pooled.{IsPooled}
use Rattle.blob_disk.specs.Drafts.{AreBlobs, BlobsView}
use Rattle.blob_disk.proofs.Placing.{IsBehind, draft_behind}
use Rattle.blob_disk.proofs.SoundLists.{split_at, find_place}
use Rattle.blob_disk.proofs.Moving.{behind_comes, view_of}

-- The entry of this root stands at this place among the drafts. It may come to the stock, and there is room to note
-- its pages.
pub record Lends (v : BlobsView) (t : TableView) (ds : List Entry) (spare : Vec ℕ Global) (root : Root) (place : ℕ) (own e : Entry) : Type 0 where
  pub table : t ≡ v.table
  pub drafts : ds ≡ v.drafts
  pub found : entry_of v.drafts root ≡ Some e
  pub same : own ≡ e
  pub at : place ≡ draft_place root ds
  pub below : place < length ds
  pub here : (d : Entry) → get_or ds place d ≡ e
  pub behind : IsBehind t.geometry t.entries e
  pub comes : MayCome t.geometry t.entries e
  pub node : length t.entries < t.geometry.blobs
  pub few : v.broken ≡ false → length e.pages ≤ vec_capacity spare

pub lends : (v : BlobsView) (t : TableView) (ds : List Entry) (flags : List Bool) (spare : Vec ℕ Global) (broken : Bool) (root : Root) (place : ℕ) (own e : Entry) → view_of t ds broken ≡ v → AreBlobs t ds flags spare broken → entry_of v.drafts root ≡ Some own → place ≡ draft_place root ds → ((d : Entry) → get_or ds place d ≡ e) → Lends v t ds spare root place own e
lends v t ds flags spare broken root place own e view are found at here =
    let pages : Entry → ℕ = λ other. length other.pages in
    let drafts : ds ≡ v.drafts = ap (λ (b : BlobsView). b.drafts) view in
    let mine : entry_of ds root ≡ Some own = subst (λ (l : List Entry). entry_of l root ≡ Some own) (sym drafts) found in
    let spot = find_place (λ (other : Entry). root_eq root other.root) ds own mine in
    let same : own ≡ e = sym (spot.1 own) ∙ ap (λ (n : ℕ). get_or ds n own) (sym at) ∙ here own in
    let below : place < length ds = omega (arith, spot.0, at) in
    let behind : IsBehind t.geometry t.entries e = subst (λ (o : Entry). IsBehind t.geometry t.entries o) same (draft_behind t.geometry t.entries ds root own are.sound mine) in
    let all = split_at t.entries ds place e below here in
    let before : List Entry = t.entries ++ take place ds in
    let after : List Entry = drop (suc place) ds in
    let pooled : IsPooled (before ++ e ∷ after) flags t.geometry.data_pages = subst (λ (l : List Entry). IsPooled l flags t.geometry.data_pages) all are.pool in
    record {
      table = ap (λ (b : BlobsView). b.table) view;
      drafts = drafts;
      found = found ∙ ap (λ (o : Entry). Some o) same;
      same = same;
      at = at;
      below = below;
      here = here;
      behind = behind;
      comes = behind_comes t.geometry t.entries e behind;
      node = omega (arith, are.sound.room, length-append t.entries ds, below);
      few = λ whole. omega (arith, are.noted (ap (λ (b : BlobsView). b.broken) view ∙ whole), pooled.free, sum_by-append pages before (e ∷ after), sum_by-cons pages e after);
    }

abbrev with_pages : List ℕ → Entry → Entry
with_pages pages entry = record entry { pages = pages }

-- the draft that lent its pages has gone
lent_gone : (ds : List Entry) (i : ℕ) (x : Entry) → remove (set ds i x) i ≡ remove ds i
lent_gone ds i x = ap (λ (l : List Entry). l ++ drop (suc i) (set ds i x)) (take-set-le i ds i x (omega arith)) ∙ ap (λ (l : List Entry). take i ds ++ l) (drop-set-lt (suc i) ds i x (omega arith))

pub gone : (ds lent now : List Entry) (i : ℕ) (e : Entry) → lent ≡ set ds i (without_pages e) → now ≡ remove lent i → now ≡ remove ds i
gone ds lent now i e left back = back ∙ ap (λ (l : List Entry). remove l i) left ∙ lent_gone ds i (without_pages e)

-- they were returned, so all drafts are what they were
lent_back : (ds : List Entry) (i : ℕ) (e : Entry) (pages : List ℕ) → i < length ds → ((d : Entry) → get_or ds i d ≡ e) → pages ≡ e.pages → set (set ds i (without_pages e)) i (with_pages pages (get_or (set ds i (without_pages e)) i e)) ≡ ds
lent_back ds i e pages below here are =
    let lent : Entry = without_pages e in
    let there : get_or (set ds i lent) i e ≡ lent = get_or-set_same ds i lent e below in
    let whole : with_pages pages (get_or (set ds i lent) i e) ≡ get_or ds i e = ap (with_pages pages) there ∙ ap (λ (l : List ℕ). with_pages l lent) are ∙ sym (here e) in
    set-set ds i lent (with_pages pages (get_or (set ds i lent) i e)) ∙ ap (set ds i) whole ∙ set-get_or ds i e

pub returned : (ds lent now : List Entry) (i : ℕ) (e : Entry) (pages : List ℕ) → i < length ds → ((d : Entry) → get_or ds i d ≡ e) → lent ≡ set ds i (without_pages e) → now ≡ set lent i (with_pages pages (get_or lent i e)) → pages ≡ e.pages → now ≡ ds
returned ds lent now i e pages below here left back are =
    back ∙ ap (λ (l : List Entry). set l i (with_pages pages (get_or l i e))) left ∙ lent_back ds i e pages below here are
