use Rattle.std.proofs.Common.{◌≡◌, ℕ, [], ◌∷◌, ◌++◌, map, sym, ◌∙◌, ap, arith, append_assoc}
use Rattle.std.specs.List.{range_with_len}
use Rattle.std.proofs.lemmas.List.FromFn.{map-range_with_len_more}
use Rattle.node_table.specs.Spelling.{row_on}
use Rattle.node_table.proofs.pages.take_rows.Goals as goal

pub loop-k-preserved : goal.loop-k-preserved
loop-k-preserved c =
    let f = row_on c.args.page.now in
    let old = c.args.rows.now.items in
    let k = c.loop-k.k in
    record {
      rows = c.push_reserved.ensures.items ∙ ap (λ l. l ++ c.row_on.result ∷ []) c.loop-k.invariant.rows ∙ append_assoc old (map f (range_with_len 0 k)) (c.row_on.result ∷ [])
          ∙ ap (λ x. old ++ (map f (range_with_len 0 k) ++ x ∷ [])) c.row_on.ensures ∙ ap (λ l. old ++ l) (sym (map-range_with_len_more f 0 k k (omega arith)));
      len = omega (arith, c.push_reserved.ensures.len, c.loop-k.invariant.len);
      capacity = c.push_reserved.ensures.capacity ∙ c.loop-k.invariant.capacity;
    }

pub returns-clause-rows : goal.returns-clause-rows
returns-clause-rows c =
    let all : c.loop-k.k ≡ 64 = omega (arith, c.loop-k-test.false, c.loop-k.auto.k-end) in
    c.loop-k.invariant.rows ∙ ap (λ (n : ℕ). c.args.rows.now.items ++ map (row_on c.args.page.now) (range_with_len 0 n)) all
