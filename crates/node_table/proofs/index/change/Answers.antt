use Rattle.std.proofs.Common.{◌≢◌, List, length, AllPairs, sym, ◌∙◌, ap, subst, arith}
use Rattle.std.proofs.lemmas.Bool.{eqb-true}
use Rattle.std.proofs.lemmas.List.{length_push}
use Rattle.node_table.specs.declared.entry.Entry.{Entry}
use Rattle.node_table.proofs.IndexLemmas.{none_comes, one_comes, new_last}
use Rattle.node_table.proofs.index.change.Goals as goal

pub put_last-requires-clause-spare : goal.put_last-requires-clause-spare
put_last-requires-clause-spare c =
    let items = c.args.entries.now.items in
    let entry = c.in-Some.entry in
    let none = eqb-true (length c.args.gone.now) 0 (sym c.is_empty.ensures ∙ c.if-not-is_empty.false) in
    let comes = one_comes c.args.add entry c.args.gone.now items none c.in-Some.is in
    omega (arith, c.requires.left, c.requires.room, ap length comes, length_push items entry)

pub put_last-requires-clause-capacity : goal.put_last-requires-clause-capacity
put_last-requires-clause-capacity c =
    let items = c.args.entries.now.items in
    let entry = c.in-Some.entry in
    let none = eqb-true (length c.args.gone.now) 0 (sym c.is_empty.ensures ∙ c.if-not-is_empty.false) in
    let comes = one_comes c.args.add entry c.args.gone.now items none c.in-Some.is in
    omega (arith, c.args.entries.now.ok.0, c.requires.room, ap length comes, length_push items entry)

pub returns-in-Some-clause-items : goal.returns-in-Some-clause-items
returns-in-Some-clause-items c =
    let items = c.args.entries.now.items in
    let entry = c.in-Some.entry in
    let none = eqb-true (length c.args.gone.now) 0 (sym c.is_empty.ensures ∙ c.if-not-is_empty.false) in
    let comes = one_comes c.args.add entry c.args.gone.now items none c.in-Some.is in
    let yes = c.put_last.ensures.fresh.1 (new_last items entry (subst (λ (l : List Entry). AllPairs (λ (a b : Entry). a.root ≢ b.root) l) comes c.requires.distinct)) in
    c.put_last.ensures.put yes ∙ sym comes

pub returns-in-Some-clause-index : goal.returns-in-Some-clause-index
returns-in-Some-clause-index c =
    let items = c.args.entries.now.items in
    let entry = c.in-Some.entry in
    let none = eqb-true (length c.args.gone.now) 0 (sym c.is_empty.ensures ∙ c.if-not-is_empty.false) in
    let comes = one_comes c.args.add entry c.args.gone.now items none c.in-Some.is in
    let yes = c.put_last.ensures.fresh.1 (new_last items entry (subst (λ (l : List Entry). AllPairs (λ (a b : Entry). a.root ≢ b.root) l) comes c.requires.distinct)) in
    c.put_last.ensures.index yes

pub returns-in-Some-clause-left : goal.returns-in-Some-clause-left
returns-in-Some-clause-left c =
    let items = c.args.entries.now.items in
    let entry = c.in-Some.entry in
    let none = eqb-true (length c.args.gone.now) 0 (sym c.is_empty.ensures ∙ c.if-not-is_empty.false) in
    let comes = one_comes c.args.add entry c.args.gone.now items none c.in-Some.is in
    let yes = c.put_last.ensures.fresh.1 (new_last items entry (subst (λ (l : List Entry). AllPairs (λ (a b : Entry). a.root ≢ b.root) l) comes c.requires.distinct)) in
    omega (arith, c.requires.left, c.put_last.ensures.spare, ap length (c.put_last.ensures.put yes), length_push items entry)

pub returns-in-Some-clause-room : goal.returns-in-Some-clause-room
returns-in-Some-clause-room c =
    let items = c.args.entries.now.items in
    let entry = c.in-Some.entry in
    let none = eqb-true (length c.args.gone.now) 0 (sym c.is_empty.ensures ∙ c.if-not-is_empty.false) in
    let comes = one_comes c.args.add entry c.args.gone.now items none c.in-Some.is in
    let yes = c.put_last.ensures.fresh.1 (new_last items entry (subst (λ (l : List Entry). AllPairs (λ (a b : Entry). a.root ≢ b.root) l) comes c.requires.distinct)) in
    c.put_last.ensures.room yes

pub returns-in_default-clause-items : goal.returns-in_default-clause-items
returns-in_default-clause-items c =
    let none = eqb-true (length c.args.gone.now) 0 (sym c.is_empty.ensures ∙ c.if-not-is_empty.false) in
    sym (none_comes c.args.add c.args.gone.now c.args.entries.now.items none c.in_default.is)
