use Rattle.std.proofs.Common.{◌≡◌, ℕ, suc, ◌+◌, ◌<◌, List, ◌++◌, length, take, drop, remove, All, sym, subst, ap, ◌∙◌, arith, append_assoc, length-append}
use Rattle.page_pool.specs.Flags.{IsTaken, AreDistinct}
use Rattle.node_table.specs.declared.entry.Entry.{Entry}
use Rattle.node_table.specs.Entries.{AreSound}
use Rattle.blob_disk.specs.Chains.{draft_place}
use Rattle.blob_disk.specs.Pooled.{IsPooled}
use Rattle.blob_disk.proofs.SoundLists.{split_at, entry_taken, entry_sound, middle_apart, sound_remove, remove-append}
use Rattle.blob_disk.proofs.blobs.Blobs.forget.Goals as goal

pub give_pages-requires-clause-taken : goal.give_pages-requires-clause-taken
give_pages-requires-clause-taken c =
    let es : List Entry = c.self.inside.table.entries in
    let ds : List Entry = c.self.inside.drafts.items in
    let inv = c.self.invariant in
    let e : Entry = c.take_draft-entry.result in
    let i : ℕ = draft_place c.args.root.now ds in
    let below : i < length ds = omega (arith, c.take_draft-entry.ensures.at, c.self.inside.drafts.ok.0) in
    let all = split_at es ds i e below c.take_draft-entry.ensures.was in
    let xs : List Entry = es ++ take i ds in
    let ys : List Entry = drop (suc i) ds in
    let pooled = subst (λ (l : List Entry). IsPooled l c.self.inside.pool c.self.inside.table.geometry.data_pages) all inv.pool in
    let sound = subst (λ (l : List Entry). AreSound c.self.inside.table.geometry l) all inv.sound in
    subst (λ (l : List ℕ). All (IsTaken c.self.inside.pool) l) (sym c.as_slice.ensures.list) (entry_taken xs ys e c.self.inside.pool c.self.inside.table.geometry.data_pages pooled)

pub give_pages-requires-clause-apart : goal.give_pages-requires-clause-apart
give_pages-requires-clause-apart c =
    let es : List Entry = c.self.inside.table.entries in
    let ds : List Entry = c.self.inside.drafts.items in
    let inv = c.self.invariant in
    let e : Entry = c.take_draft-entry.result in
    let i : ℕ = draft_place c.args.root.now ds in
    let below : i < length ds = omega (arith, c.take_draft-entry.ensures.at, c.self.inside.drafts.ok.0) in
    let all = split_at es ds i e below c.take_draft-entry.ensures.was in
    let xs : List Entry = es ++ take i ds in
    let ys : List Entry = drop (suc i) ds in
    let pooled = subst (λ (l : List Entry). IsPooled l c.self.inside.pool c.self.inside.table.geometry.data_pages) all inv.pool in
    let sound = subst (λ (l : List Entry). AreSound c.self.inside.table.geometry l) all inv.sound in
    subst (λ (l : List ℕ). AreDistinct l) (sym c.as_slice.ensures.list) (entry_sound c.self.inside.table.geometry xs ys e sound).distinct

pub invariant_of-self : goal.invariant_of-self
invariant_of-self c =
    let es : List Entry = c.self.inside.table.entries in
    let ds : List Entry = c.self.inside.drafts.items in
    let inv = c.self.invariant in
    let e : Entry = c.take_draft-entry.result in
    let i : ℕ = draft_place c.args.root.now ds in
    let below : i < length ds = omega (arith, c.take_draft-entry.ensures.at, c.self.inside.drafts.ok.0) in
    let all = split_at es ds i e below c.take_draft-entry.ensures.was in
    let xs : List Entry = es ++ take i ds in
    let ys : List Entry = drop (suc i) ds in
    let pooled = subst (λ (l : List Entry). IsPooled l c.self.inside.pool c.self.inside.table.geometry.data_pages) all inv.pool in
    let sound = subst (λ (l : List Entry). AreSound c.self.inside.table.geometry l) all inv.sound in
    let left : es ++ remove ds i ≡ es ++ c.take_draft-entry.new.drafts.items = ap (λ (l : List Entry). es ++ l) (sym c.take_draft-entry.ensures.left) in
    let joined : xs ++ ys ≡ es ++ remove ds i = append_assoc es (take i ds) ys in
    let given = c.give_pages.ensures xs ys e c.self.inside.table.geometry.data_pages (sym c.as_slice.ensures.list) (middle_apart c.self.inside.table.geometry xs ys e sound) pooled in
    record {
      limits = inv.limits;
      sound = subst (λ (l : List Entry). AreSound c.self.inside.table.geometry l) (remove-append es ds i ∙ left) (sound_remove c.self.inside.table.geometry (es ++ ds) (length es + i) (omega (arith, below, length-append es ds)) inv.sound);
      pool = subst (λ (l : List Entry). IsPooled l c.give_pages.new.pool c.self.inside.table.geometry.data_pages) (joined ∙ left) given;
      noted = inv.noted;
      flag = inv.flag;
    }
