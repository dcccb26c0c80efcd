use Rattle.std.proofs.Common.{◌≡◌, ◌⊎◌, ℕ, false, Bool, List, [], None, All, sym, ap, subst, ◌∙◌}
use Rattle.disk_model.specs.Images.{AtEach}
use Rattle.pkg_names.specs.declared.root.Root.{Root}
use Rattle.page_pool.specs.Flags.{with_flags, IsTaken, AreDistinct}
use Rattle.node_table.specs.declared.entry.Entry.{Entry}
use Rattle.node_table.specs.Entries.{without}
use Rattle.node_table.specs.Table.{TableView, committed}
use Rattle.blob_disk.specs.Drafts.{BlobsView}
use Rattle.blob_disk.specs.Gone.{gone_pages}
use Rattle.blob_disk.specs.Stock.{HasBlobs, Stores}
use Rattle.blob_disk.proofs.Removing.{AreGiven, are_given, with_removed}
use Rattle.blob_disk.proofs.blobs.Blobs.remove.Goals as goal

pub give-requires-clause-taken : goal.give-requires-clause-taken
give-requires-clause-taken g c =
    let t : TableView = c.self.inside.table in
    let ds : List Entry = c.self.inside.drafts.items in
    let pool : List Bool = c.self.inside.pool in
    let roots : List Root = c.args.roots.now in
    let noted : c.deref.result.now ≡ gone_pages roots t.entries = c.deref.ensures.value ∙ c.note_gone.ensures.items ∙ ap (λ (l : List Entry). gone_pages roots l) c.entries.ensures.list in
    let given : AreGiven t.geometry [] (without roots t.entries) ds (gone_pages roots t.entries) pool =
    are_given t.geometry ds roots c.taken_after.ensures.length c.taken_after.ensures.give c.taken_after.ensures.give_count [] t.entries pool c.self.invariant.sound c.self.invariant.pool in
    subst (λ (l : List ℕ). All (IsTaken pool) l) (sym noted) given.taken

pub give-requires-clause-apart : goal.give-requires-clause-apart
give-requires-clause-apart g c =
    let t : TableView = c.self.inside.table in
    let ds : List Entry = c.self.inside.drafts.items in
    let pool : List Bool = c.self.inside.pool in
    let roots : List Root = c.args.roots.now in
    let noted : c.deref.result.now ≡ gone_pages roots t.entries = c.deref.ensures.value ∙ c.note_gone.ensures.items ∙ ap (λ (l : List Entry). gone_pages roots l) c.entries.ensures.list in
    let given : AreGiven t.geometry [] (without roots t.entries) ds (gone_pages roots t.entries) pool =
    are_given t.geometry ds roots c.taken_after.ensures.length c.taken_after.ensures.give c.taken_after.ensures.give_count [] t.entries pool c.self.invariant.sound c.self.invariant.pool in
    subst (λ (l : List ℕ). AreDistinct l) (sym noted) given.distinct

pub invariant_of-self : goal.invariant_of-self
invariant_of-self g c =
    let t : TableView = c.self.inside.table in
    let ds : List Entry = c.self.inside.drafts.items in
    let pool : List Bool = c.self.inside.pool in
    let roots : List Root = c.args.roots.now in
    let noted : c.deref.result.now ≡ gone_pages roots t.entries = c.deref.ensures.value ∙ c.note_gone.ensures.items ∙ ap (λ (l : List Entry). gone_pages roots l) c.entries.ensures.list in
    let given : AreGiven t.geometry [] (without roots t.entries) ds (gone_pages roots t.entries) pool =
    are_given t.geometry ds roots c.taken_after.ensures.length c.taken_after.ensures.give c.taken_after.ensures.give_count [] t.entries pool c.self.invariant.sound c.self.invariant.pool in
    with_removed t c.remove_entries.new.table ds roots pool c.give.new.self c.self.inside.spare c.note_gone.new.spare c.self.inside.broken c.self.invariant c.in-Ok.ensures.removed c.note_gone.ensures.room given (c.give.ensures.given ∙ ap (λ (l : List ℕ). with_flags false l pool) noted)

pub returns-in-Ok-clause-each_moment : goal.returns-in-Ok-clause-each_moment
returns-in-Ok-clause-each_moment g c =
    subst (λ (x : TableView). (contents : Root → List ℕ) → Stores (g.D.Disk.past c.args.disk.now) x contents → AtEach (g.D.Disk.past c.args.disk.now) (g.D.Disk.past c.remove_entries.new.disk) (λ image. HasBlobs x contents image ⊎ HasBlobs (committed x None c.args.roots.now) contents image))
    (ap (λ (b : BlobsView). b.table) c.self.view_is) c.remove_entries.ensures.each_moment

pub returns-in-Err-clause-each_moment : goal.returns-in-Err-clause-each_moment
returns-in-Err-clause-each_moment g c =
    subst (λ (x : TableView). (contents : Root → List ℕ) → Stores (g.D.Disk.past c.args.disk.now) x contents → AtEach (g.D.Disk.past c.args.disk.now) (g.D.Disk.past c.remove_entries.new.disk) (λ image. HasBlobs x contents image ⊎ HasBlobs (committed x None c.args.roots.now) contents image))
    (ap (λ (b : BlobsView). b.table) c.self.view_is) c.remove_entries.ensures.each_moment
