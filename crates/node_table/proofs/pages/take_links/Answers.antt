use Rattle.std.proofs.Common.{◌≡◌, ℕ, [], ◌∷◌, ◌++◌, map, sym, ◌∙◌, ap, arith, append_assoc}
use Rattle.std.specs.List.{range_with_len}
use Rattle.std.proofs.lemmas.List.FromFn.{map-range_with_len_more}
use Rattle.node_table.specs.Spelling.{link_on}
use Rattle.node_table.proofs.pages.take_links.Goals as goal

pub loop-k-preserved : goal.loop-k-preserved
loop-k-preserved c =
    let f = link_on c.args.page.now in
    let old = c.args.links.now.items in
    let k = c.loop-k.k in
    record {
      links = c.push_reserved.ensures.items ∙ ap (λ l. l ++ c.u32_at.result ∷ []) c.loop-k.invariant.links ∙ append_assoc old (map f (range_with_len 0 k)) (c.u32_at.result ∷ [])
          ∙ ap (λ x. old ++ (map f (range_with_len 0 k) ++ x ∷ [])) c.u32_at.ensures ∙ ap (λ l. old ++ l) (sym (map-range_with_len_more f 0 k k (omega arith)));
      len = omega (arith, c.push_reserved.ensures.len, c.loop-k.invariant.len);
      capacity = c.push_reserved.ensures.capacity ∙ c.loop-k.invariant.capacity;
    }

pub returns-clause-links : goal.returns-clause-links
returns-clause-links c =
    let all : c.loop-k.k ≡ 1024 = omega (arith, c.loop-k-test.false, c.loop-k.auto.k-end) in
    c.loop-k.invariant.links ∙ ap (λ (n : ℕ). c.args.links.now.items ++ map (link_on c.args.page.now) (range_with_len 0 n)) all
