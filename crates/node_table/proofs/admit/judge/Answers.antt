use Rattle.std.proofs.Common.{ℕ, ◌+◌, List, length, sym, ◌∙◌, ap, subst, arith}
use Rattle.std.proofs.lemmas.List.{length_push}
use Rattle.node_table.specs.declared.entry.Entry.{Entry}
use Rattle.node_table.specs.Spelling.{Lists}
use Rattle.node_table.specs.Steps.{Flags, row_from, link_from}
use Rattle.node_table.proofs.WalkLemmas.{flags_push}
use Rattle.node_table.proofs.JudgeLemmas.{no_row, listed_more, bad_unread, bad_twice, ends_here, ends_full}
use Rattle.node_table.proofs.admit.judge.Goals as goal

pub returns-then-not-row-clause-judged : goal.returns-then-not-row-clause-judged
returns-then-not-row-clause-judged c = λ g sheets.
    let i = c.loop-i.i in
    let inv = c.loop-i.invariant in
    ends_here g c.args.rows.now c.args.links.now c.loop-i.taken c.loop-i.entries.items i no_row sheets (c.requires.sizes ∙ sym c.loop-i.auto.taken) inv.size c.loop-i-test.true (inv.listed g sheets) inv.flags c.if-not-row.true

pub returns-in_default-clause-judged : goal.returns-in_default-clause-judged
returns-in_default-clause-judged c = λ g sheets.
    let i = c.loop-i.i in
    let inv = c.loop-i.invariant in
    bad_unread g c.args.rows.now c.args.links.now c.loop-i.taken c.loop-i.entries.items i no_row sheets (c.requires.sizes ∙ sym c.loop-i.auto.taken) inv.size c.loop-i-test.true (inv.listed g sheets) inv.flags c.if-not-row.false
    (rw c.in_default.is at c.in_ok-entry.ensures.none)

pub returns-then-not-put_last-clause-judged : goal.returns-then-not-put_last-clause-judged
returns-then-not-put_last-clause-judged c = λ g sheets.
    let i = c.loop-i.i in
    let inv = c.loop-i.invariant in
    let read = rw c.in-Some.is at c.in_ok-entry.ensures.found in
    bad_twice g c.args.rows.now c.args.links.now c.loop-i.taken c.loop-i.entries.items i no_row sheets (c.requires.sizes ∙ sym c.loop-i.auto.taken) inv.size c.loop-i-test.true (inv.listed g sheets) inv.flags c.if-not-row.false
    c.in-Some.entry read.row (λ none. let yes = c.put_last.ensures.fresh.1 none in absurd (cc (yes, c.if-not-put_last.true)))

pub loop-i-preserved : goal.loop-i-preserved
loop-i-preserved c =
    let i = c.loop-i.i in
    let inv = c.loop-i.invariant in
    let entry = c.in-Some.entry in
    let read = rw c.in-Some.is at c.in_ok-entry.ensures.found in
    let took = rw c.in-Some.is at c.in_ok-entry.ensures.took in
    let yes = c.if-not-put_last.false in
    let items = c.put_last.ensures.put yes in
    record {
      listed = λ g sheets. subst (λ (es : List Entry). Lists g (row_from c.args.rows.now) (link_from c.args.links.now) es) (sym items)
          (listed_more g c.args.rows.now c.args.links.now c.loop-i.taken c.loop-i.entries.items i no_row sheets (c.requires.sizes ∙ sym c.loop-i.auto.taken) inv.size c.loop-i-test.true (inv.listed g sheets) inv.flags
          entry read (c.put_last.ensures.fresh.0 yes));
      size = ap length items ∙ length_push c.loop-i.entries.items entry ∙ ap (λ (n : ℕ). n + 1) inv.size;
      flags = subst (λ (es : List Entry). Flags c.entry_in.new.taken es) (sym items) (flags_push c.loop-i.taken c.entry_in.new.taken c.loop-i.entries.items entry inv.flags took);
      index = c.put_last.ensures.index yes;
      left = omega (arith, inv.left, c.put_last.ensures.spare);
      room = omega (arith, inv.room, c.put_last.ensures.room yes);
      capacity = c.put_last.ensures.capacity ∙ inv.capacity;
    }

pub returns-clause-judged : goal.returns-clause-judged
returns-clause-judged c = λ g sheets.
    ends_full g c.args.rows.now c.args.links.now c.loop-i.entries.items sheets (c.loop-i.invariant.listed g sheets) (omega (arith, c.loop-i.invariant.size, c.loop-i-test.false))
