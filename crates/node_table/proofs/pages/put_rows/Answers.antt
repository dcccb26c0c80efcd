use Rattle.std.proofs.Common.{◌≡◌, ℕ, ◌+◌, ◌*◌, ◌<◌, ◌≤◌, ◌-◌, length, get_or, refl, sym, ◌∙◌, ap, inl, inr, arith}
use Rattle.std.proofs.lemmas.Bool.{cases_eq}
use Rattle.std.proofs.lemmas.List.{get_or_default}
use borrow.Rule.Slice.PartMut.{put_mid}
use Rattle.node_table.specs.Spelling.{row_in, row_on}
use Rattle.node_table.proofs.Parts.{part_same, part_below, length-put}
use Rattle.node_table.proofs.pages.put_rows.Goals as goal

pub loop-k-preserved : goal.loop-k-preserved
loop-k-preserved c =
    let page = c.loop-k.page in
    let k = c.loop-k.k in
    let ys = c.copy_from_slice.new.self in
    let inv = c.loop-k.invariant in
    let lt = c.loop-k-test.true in
    let room : 64 * k + 64 ≤ length page = omega (arith, inv.size, lt) in
    let long : length ys ≡ 64 = ap length c.copy_from_slice.ensures.after ∙ (omega arith) in
    let new = put_mid (64 * k) (64 * k + 64 - 64 * k) page ys in
    record {
      size = length-put 64 k (64 * k + 64) page ys refl room long ∙ inv.size;
      made = λ j d below. elim (cases_eq j k) [
        | inl e ↦
            ap (row_on new) e ∙ ap row_in (part_same 64 k (64 * k + 64) page ys refl room long ∙ c.copy_from_slice.ensures.after) ∙ c.row_bytes.ensures
            ∙ get_or_default c.args.rows.now k _ d (omega (arith, c.requires, lt)) ∙ ap (λ (i : ℕ). get_or c.args.rows.now i d) (sym e)
        | inr ne ↦
            let low : j < k = omega (arith, ne, below) in
            ap row_in (part_below 64 k (64 * k + 64) j page ys (omega (arith, low)) (omega (arith, room))) ∙ inv.made j d low
      ];
    }
