use Rattle.std.proofs.Common.{◌≡◌, ℕ, Bool, false, not, cond, List, [], ◌∷◌, ◌++◌, length, set, sym, ◌∙◌, ap, subst, arith, append-nil}
use Rattle.pkg_names.specs.declared.root.Root.{Root}
use Rattle.node_table.specs.declared.entry.Entry.{Entry}
use Rattle.node_table.specs.Entries.{is_among, without}
use Rattle.node_table.specs.Spelling.{row_of}
use Rattle.node_table.specs.Steps.{LaidOut}
use Rattle.node_table.proofs.LayLemmas.{laid_more}
use Rattle.node_table.proofs.layout.lay_next.Goals as goal

-- nothing stays of an entry that goes, and all of one that doesn't
goes : (c : goal.Then-is_among) → without c.args.gone.now (c.args.entry.now ∷ []) ≡ []
goes c = ap (λ (b : Bool). cond (not b) (c.args.entry.now ∷ []) []) (sym c.is_among.ensures ∙ c.if-is_among.true)

stays : (gone : List Root) (entry : Entry) → is_among gone entry.root ≡ false → without gone (entry ∷ []) ≡ entry ∷ []
stays gone entry e = ap (λ (b : Bool). cond (not b) (entry ∷ []) []) e

pub returns-then-is_among-clause-next : goal.returns-then-is_among-clause-next
returns-then-is_among-clause-next c = omega (arith, ap length (goes c))

pub returns-then-is_among-clause-laid : goal.returns-then-is_among-clause-laid
returns-then-is_among-clause-laid c = λ kept size apart laid.
    subst (λ (es : List Entry). LaidOut c.args.rows.now c.args.links.now es) (sym (ap (λ (l : List Entry). kept ++ l) (goes c) ∙ append-nil kept)) laid

pub returns-clause-next : goal.returns-clause-next
returns-clause-next c = omega (arith, ap length (stays c.args.gone.now c.args.entry.now (sym c.is_among.ensures ∙ c.if-is_among.false)))

pub returns-clause-laid : goal.returns-clause-laid
returns-clause-laid c = λ kept size apart laid.
    subst (λ (l : List Entry). LaidOut c.put_entry.new.rows c.put_entry.new.links (kept ++ l)) (sym (stays c.args.gone.now c.args.entry.now (sym c.is_among.ensures ∙ c.if-is_among.false)))
    (laid_more c.args.rows.now c.put_entry.new.rows c.args.links.now c.put_entry.new.links kept c.args.entry.now laid (omega (arith, size, c.requires.at))
    (c.put_entry.ensures.rows ∙ ap (λ (n : ℕ). set c.args.rows.now n (row_of c.args.entry.now)) (sym size)) c.put_entry.ensures.chain c.put_entry.ensures.others apart)
