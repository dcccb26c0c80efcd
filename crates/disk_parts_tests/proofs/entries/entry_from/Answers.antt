use Rattle.std.proofs.Common.{◌≡◌, ℕ, List, All, sym, ◌∙◌, subst}
use Rattle.node_table.specs.declared.entry.Entry.{Entry}
use Rattle.node_table.specs.Entries.{IsChained, MayCome}
use Rattle.disk_parts_tests.proofs.Rows.{may_come}
use Rattle.disk_parts_tests.proofs.entries.entry_from.Goals as goal

pub returns : goal.returns
returns c = λ x e.
    let g = c.args.geometry.now in
    let entries = c.args.entries.now in
    let made : Entry = record { root = c.args.root; len = c.args.len; pages = c.make.result } in
    let same : made ≡ x = cc e in
    subst (MayCome g entries) same
    (may_come g entries c.args.root c.args.len c.args.first c.make.result (c.make.ensures.list ∙ c.requires.pages) c.requires.limit c.requires.room
    (c.is_new.ensures c.if-not-is_new.false)
    (subst (λ (l : List ℕ). All (λ page. IsChained entries page → ⊥) l) (c.deref.ensures.value ∙ sym c.make.ensures.list) (c.are_free.ensures c.if-not-are_free.false)))
