use Rattle.std.proofs.Common.{◌≡◌, ◌≢◌, ℕ, ◌<◌, Bool, List, [], ◌∷◌, ◌++◌, length, All, Some, sym, ap, subst, ◌∙◌, arith, length-append}
use Rattle.image_layout.specs.declared.geometry.Geometry.{Geometry}
use Rattle.node_table.specs.declared.entry.Entry.{Entry}
use Rattle.pkg_names.specs.declared.root.Root.{Root}
use Rattle.node_table.specs.Entries.{IsEntry, entry_of}
use Rattle.node_table.specs.Table.{TableView}
use Rattle.page_pool.specs.Flags.{IsFree, AreDistinct}
use Rattle.blob_disk.specs.Drafts.{BlobsView}
use Rattle.blob_disk.proofs.SoundLists.{free_below}
use Rattle.blob_disk.proofs.Rooms.{with_draft, last_found}
use Rattle.blob_disk.proofs.blobs.Blobs.room.Goals as goal

pub invariant_of-self-2 : goal.invariant_of-self-2
invariant_of-self-2 c =
    let t : TableView = c.self.inside.table in
    let ds : List Entry = c.self.inside.drafts.items in
    let all : List Entry = t.entries ++ ds in
    let flags : List Bool = c.self.inside.pool in
    let inv = c.self.invariant in
    let entry : Entry = record { root = c.args.root; len = c.args.len; pages = c.make-2.result } in
    let pages_are : entry.pages ≡ c.take_pages.new.out.items = c.make-2.ensures.list in
    let room : length all < t.geometry.blobs = omega (arith, c.if-entries-len.false, c.len.ensures, ap length c.entries.ensures.list, ap (λ (g : Geometry). g.blobs) c.geometry.ensures.geometry, inv.sound.room, length-append t.entries ds, c.self.inside.drafts.ok.0) in
    let free = subst (λ (l : List ℕ). All (IsFree flags) l) (sym pages_are) c.take_pages.ensures.were_free in
    let is : IsEntry t.geometry.data_pages entry = record {
      limit = c.if-len-gt-BLOB_LIMIT.false;
      count = ap length pages_are ∙ c.take_pages.ensures.given ∙ c.pages_for-need.ensures;
      below = λ k d inside. omega (arith, free_below flags _ (free k d inside), inv.pool.size);
      distinct = subst (λ (l : List ℕ). AreDistinct l) (sym pages_are) c.take_pages.ensures.apart;
    } in
    let fresh = subst (λ (b : BlobsView). All (λ (other : Entry). other.root ≢ c.args.root) (b.table.entries ++ b.drafts)) (sym c.self.view_is) c.requires.fresh in
    with_draft t ds c.push_reserved.new.self.items entry flags c.take_pages.new.pool c.self.inside.spare c.self.inside.broken inv room is free fresh
    (c.take_pages.ensures.pooled all entry t.geometry.data_pages pages_are inv.pool) (c.push_reserved.ensures.items ∙ ap (λ (l : List Entry). l ++ entry ∷ []) c.reserve.ensures.items)

pub returns-clause-own : goal.returns-clause-own
returns-clause-own c =
    let es : List Entry = c.self.inside.table.entries in
    let ds : List Entry = c.self.inside.drafts.items in
    let entry : Entry = record { root = c.args.root; len = c.args.len; pages = c.make-2.result } in
    let fresh = subst (λ (b : BlobsView). All (λ (other : Entry). other.root ≢ c.args.root) (b.table.entries ++ b.drafts)) (sym c.self.view_is) c.requires.fresh in
    let items : c.push_reserved.new.self.items ≡ ds ++ entry ∷ [] = c.push_reserved.ensures.items ∙ ap (λ (l : List Entry). l ++ entry ∷ []) c.reserve.ensures.items in
    let found : entry_of c.push_reserved.new.self.items entry.root ≡ Some entry = subst (λ (l : List Entry). entry_of l entry.root ≡ Some entry) (sym items) (last_found es ds entry fresh) in
    (entry, subst (λ (r : Root). entry_of c.push_reserved.new.self.items r ≡ Some entry) (sym c.in-Ok.ensures.declared.0) found, sym c.in-Ok.ensures.declared.1)
