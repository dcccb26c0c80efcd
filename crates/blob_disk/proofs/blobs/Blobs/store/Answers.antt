use Rattle.std.proofs.Common.{◌≡◌, ℕ, ◌%◌, ◌<◌, List, [], length, remove, Option, Some, Vec, sym, subst, ap, ◌∙◌, arith}
use Rattle.std.specs.declared.alloc.Global.{Global}
use Rattle.pkg_names.specs.declared.root.Root.{Root}
use Rattle.node_table.specs.declared.entry.Entry.{Entry}
use Rattle.node_table.specs.Entries.{entry_of}
use Rattle.node_table.specs.Table.{TableView, committed}
use Rattle.blob_disk.specs.Chains.{chain_of, draft_place, without_draft}
use Rattle.blob_disk.specs.Drafts.{BlobsView, with_landed}
use Rattle.blob_disk.proofs.Placing.{chain-found}
use Rattle.blob_disk.proofs.Moving.{landed_fields, failed_fields, failed_view, same_view, moments_as, land_stores_as, land_only_as}
use Rattle.blob_disk.proofs.SoundLists.{same_entry}
use Rattle.blob_disk.proofs.Lending.{lends, gone, returned}
use Rattle.blob_disk.proofs.blobs.Blobs.store.Goals as goal

pub note_pages-requires : goal.note_pages-requires
note_pages-requires g c =
    let l = lends c.args.self.now c.self.inside.table c.self.inside.drafts.items c.self.inside.pool c.self.inside.spare c.self.inside.broken c.args.root.now c.draft_at-place.result c.requires.own.0 c.lend_chain-entry.result c.self.view_is c.self.invariant c.requires.own.1 (c.draft_at-place.ensures.at ∙ ap (draft_place c.args.root.now) c.deref.ensures.value) c.lend_chain-entry.ensures.was in
    omega (arith, ap length c.as_slice.ensures.list, l.few c.requires.unbroken)

pub land_entry-requires-clause-added : goal.land_entry-requires-clause-added
land_entry-requires-clause-added g c =
    let l = lends c.args.self.now c.self.inside.table c.self.inside.drafts.items c.self.inside.pool c.self.inside.spare c.self.inside.broken c.args.root.now c.draft_at-place.result c.requires.own.0 c.lend_chain-entry.result c.self.view_is c.self.invariant c.requires.own.1 (c.draft_at-place.ensures.at ∙ ap (draft_place c.args.root.now) c.deref.ensures.value) c.lend_chain-entry.ensures.was in
    l.comes

pub land_entry-requires-clause-begun : goal.land_entry-requires-clause-begun
land_entry-requires-clause-begun g c = λ some.
    let l = lends c.args.self.now c.self.inside.table c.self.inside.drafts.items c.self.inside.pool c.self.inside.spare c.self.inside.broken c.args.root.now c.draft_at-place.result c.requires.own.0 c.lend_chain-entry.result c.self.view_is c.self.invariant c.requires.own.1 (c.draft_at-place.ensures.at ∙ ap (draft_place c.args.root.now) c.deref.ensures.value) c.lend_chain-entry.ensures.was in
    omega (arith, subst (λ (o : Entry). 0 < o.len % 4096) l.same (c.requires.own.2 some), l.behind.is.count)

pub land_entry-requires-clause-node : goal.land_entry-requires-clause-node
land_entry-requires-clause-node g c =
    let l = lends c.args.self.now c.self.inside.table c.self.inside.drafts.items c.self.inside.pool c.self.inside.spare c.self.inside.broken c.args.root.now c.draft_at-place.result c.requires.own.0 c.lend_chain-entry.result c.self.view_is c.self.invariant c.requires.own.1 (c.draft_at-place.ensures.at ∙ ap (draft_place c.args.root.now) c.deref.ensures.value) c.lend_chain-entry.ensures.was in
    l.node

pub invariant_of-self : goal.invariant_of-self
invariant_of-self g c =
    let l = lends c.args.self.now c.self.inside.table c.self.inside.drafts.items c.self.inside.pool c.self.inside.spare c.self.inside.broken c.args.root.now c.draft_at-place.result c.requires.own.0 c.lend_chain-entry.result c.self.view_is c.self.invariant c.requires.own.1 (c.draft_at-place.ensures.at ∙ ap (draft_place c.args.root.now) c.deref.ensures.value) c.lend_chain-entry.ensures.was in
    landed_fields c.self.inside.table c.land_entry.new.table c.self.inside.drafts.items c.remove-draft.new.self.items c.draft_at-place.result c.lend_chain-entry.result c.self.inside.pool c.self.inside.spare c.note_pages.new.spare c.self.inside.broken c.self.invariant l.below l.here c.in-Ok.ensures.landed
    (gone c.self.inside.drafts.items c.lend_chain-entry.new.drafts.items c.remove-draft.new.self.items c.draft_at-place.result c.lend_chain-entry.result c.lend_chain-entry.ensures.left c.remove-draft.ensures.items) c.note_pages.ensures.room

pub invariant_of-self-in-Err : goal.invariant_of-self-in-Err
invariant_of-self-in-Err g c =
    let l = lends c.args.self.now c.self.inside.table c.self.inside.drafts.items c.self.inside.pool c.self.inside.spare c.self.inside.broken c.args.root.now c.draft_at-place.result c.requires.own.0 c.lend_chain-entry.result c.self.view_is c.self.invariant c.requires.own.1 (c.draft_at-place.ensures.at ∙ ap (draft_place c.args.root.now) c.deref.ensures.value) c.lend_chain-entry.ensures.was in
    failed_fields c.self.inside.table c.land_entry.new.table c.self.inside.drafts.items c.return_chain.new.drafts.items c.self.inside.pool c.self.inside.spare c.replace-pages.new.dest c.self.inside.broken c.self.invariant c.in-Err.ensures.failed
    (returned c.self.inside.drafts.items c.lend_chain-entry.new.drafts.items c.return_chain.new.drafts.items c.draft_at-place.result c.lend_chain-entry.result c.replace-pages.result.items l.below l.here c.lend_chain-entry.ensures.left (c.return_chain.ensures c.lend_chain-entry.result)
    (ap (λ (v : Vec ℕ Global). v.items) c.replace-pages.ensures.value ∙ c.note_pages.ensures.items ∙ c.as_slice.ensures.list))

pub returns-in-Ok-clause-landed : goal.returns-in-Ok-clause-landed
returns-in-Ok-clause-landed g c =
    let l = lends c.args.self.now c.self.inside.table c.self.inside.drafts.items c.self.inside.pool c.self.inside.spare c.self.inside.broken c.args.root.now c.draft_at-place.result c.requires.own.0 c.lend_chain-entry.result c.self.view_is c.self.invariant c.requires.own.1 (c.draft_at-place.ensures.at ∙ ap (draft_place c.args.root.now) c.deref.ensures.value) c.lend_chain-entry.ensures.was in
    let t : TableView = c.self.inside.table in
    let ds : List Entry = c.self.inside.drafts.items in
    let root : Root = c.args.root.now in
    let found : entry_of ds root ≡ Some c.lend_chain-entry.result = subst (λ (d : List Entry). entry_of d root ≡ Some c.lend_chain-entry.result) (sym l.drafts) l.found in
    same_view c.land_entry.new.table (committed t (entry_of ds root) []) c.remove-draft.new.self.items (without_draft root ds) c.self.inside.broken
    (c.in-Ok.ensures.landed ∙ ap (λ (o : Option Entry). committed t o []) (sym found))
    (gone ds c.lend_chain-entry.new.drafts.items c.remove-draft.new.self.items c.draft_at-place.result c.lend_chain-entry.result c.lend_chain-entry.ensures.left c.remove-draft.ensures.items ∙ ap (remove ds) l.at)
    ∙ ap (λ (b : BlobsView). with_landed root b) c.self.view_is

pub returns-in-Err-clause-failed : goal.returns-in-Err-clause-failed
returns-in-Err-clause-failed g c =
    let l = lends c.args.self.now c.self.inside.table c.self.inside.drafts.items c.self.inside.pool c.self.inside.spare c.self.inside.broken c.args.root.now c.draft_at-place.result c.requires.own.0 c.lend_chain-entry.result c.self.view_is c.self.invariant c.requires.own.1 (c.draft_at-place.ensures.at ∙ ap (draft_place c.args.root.now) c.deref.ensures.value) c.lend_chain-entry.ensures.was in
    failed_view c.args.self.now c.self.inside.table c.land_entry.new.table c.self.inside.drafts.items c.return_chain.new.drafts.items c.self.inside.broken c.self.view_is c.in-Err.ensures.failed
    (returned c.self.inside.drafts.items c.lend_chain-entry.new.drafts.items c.return_chain.new.drafts.items c.draft_at-place.result c.lend_chain-entry.result c.replace-pages.result.items l.below l.here c.lend_chain-entry.ensures.left (c.return_chain.ensures c.lend_chain-entry.result)
    (ap (λ (v : Vec ℕ Global). v.items) c.replace-pages.ensures.value ∙ c.note_pages.ensures.items ∙ c.as_slice.ensures.list))

pub returns-in-Ok-clause-each_moment : goal.returns-in-Ok-clause-each_moment
returns-in-Ok-clause-each_moment g c = λ entry blob contents is.
    let l = lends c.args.self.now c.self.inside.table c.self.inside.drafts.items c.self.inside.pool c.self.inside.spare c.self.inside.broken c.args.root.now c.draft_at-place.result c.requires.own.0 c.lend_chain-entry.result c.self.view_is c.self.invariant c.requires.own.1 (c.draft_at-place.ensures.at ∙ ap (draft_place c.args.root.now) c.deref.ensures.value) c.lend_chain-entry.ensures.was in
    moments_as (g.D.Disk.past c.args.disk.now) (g.D.Disk.past c.land_entry.new.disk) c.args.page.now c.self.inside.table c.args.self.now.table c.lend_chain-entry.result entry l.table (same_entry c.lend_chain-entry.result entry (sym l.found ∙ is)) c.land_entry.ensures.each_moment blob contents

pub returns-in-Ok-clause-only : goal.returns-in-Ok-clause-only
returns-in-Ok-clause-only g c =
    let l = lends c.args.self.now c.self.inside.table c.self.inside.drafts.items c.self.inside.pool c.self.inside.spare c.self.inside.broken c.args.root.now c.draft_at-place.result c.requires.own.0 c.lend_chain-entry.result c.self.view_is c.self.invariant c.requires.own.1 (c.draft_at-place.ensures.at ∙ ap (draft_place c.args.root.now) c.deref.ensures.value) c.lend_chain-entry.ensures.was in
    land_only_as (g.D.Disk.past c.args.disk.now) (g.D.Disk.past c.land_entry.new.disk) c.self.inside.table c.args.self.now.table c.lend_chain-entry.result.pages (chain_of c.args.self.now.drafts c.args.root.now) l.table (sym (chain-found c.args.self.now.drafts c.args.root.now c.lend_chain-entry.result l.found)) c.land_entry.ensures.only

pub returns-in-Err-clause-each_moment : goal.returns-in-Err-clause-each_moment
returns-in-Err-clause-each_moment g c = λ entry blob contents is.
    let l = lends c.args.self.now c.self.inside.table c.self.inside.drafts.items c.self.inside.pool c.self.inside.spare c.self.inside.broken c.args.root.now c.draft_at-place.result c.requires.own.0 c.lend_chain-entry.result c.self.view_is c.self.invariant c.requires.own.1 (c.draft_at-place.ensures.at ∙ ap (draft_place c.args.root.now) c.deref.ensures.value) c.lend_chain-entry.ensures.was in
    moments_as (g.D.Disk.past c.args.disk.now) (g.D.Disk.past c.land_entry.new.disk) c.args.page.now c.self.inside.table c.args.self.now.table c.lend_chain-entry.result entry l.table (same_entry c.lend_chain-entry.result entry (sym l.found ∙ is)) c.land_entry.ensures.each_moment blob contents

pub returns-in-Err-clause-only : goal.returns-in-Err-clause-only
returns-in-Err-clause-only g c =
    let l = lends c.args.self.now c.self.inside.table c.self.inside.drafts.items c.self.inside.pool c.self.inside.spare c.self.inside.broken c.args.root.now c.draft_at-place.result c.requires.own.0 c.lend_chain-entry.result c.self.view_is c.self.invariant c.requires.own.1 (c.draft_at-place.ensures.at ∙ ap (draft_place c.args.root.now) c.deref.ensures.value) c.lend_chain-entry.ensures.was in
    land_only_as (g.D.Disk.past c.args.disk.now) (g.D.Disk.past c.land_entry.new.disk) c.self.inside.table c.args.self.now.table c.lend_chain-entry.result.pages (chain_of c.args.self.now.drafts c.args.root.now) l.table (sym (chain-found c.args.self.now.drafts c.args.root.now c.lend_chain-entry.result l.found)) c.land_entry.ensures.only

pub returns-in-Ok-clause-stores : goal.returns-in-Ok-clause-stores
returns-in-Ok-clause-stores g c = λ entry blob contents is.
    let l = lends c.args.self.now c.self.inside.table c.self.inside.drafts.items c.self.inside.pool c.self.inside.spare c.self.inside.broken c.args.root.now c.draft_at-place.result c.requires.own.0 c.lend_chain-entry.result c.self.view_is c.self.invariant c.requires.own.1 (c.draft_at-place.ensures.at ∙ ap (draft_place c.args.root.now) c.deref.ensures.value) c.lend_chain-entry.ensures.was in
    land_stores_as (g.D.Disk.past c.args.disk.now) (g.D.Disk.past c.land_entry.new.disk) c.args.page.now c.land_entry.new.table c.self.inside.table c.args.self.now.table c.lend_chain-entry.result entry l.table (same_entry c.lend_chain-entry.result entry (sym l.found ∙ is)) c.in-Ok.ensures.stores blob contents
