use Rattle.std.proofs.Common.{◌<◌, length, All, arith}
use Rattle.node_table.proofs.LayLemmas.{link_set, others_set}
use Rattle.node_table.proofs.layout.put_chain.Goals as goal

pub loop-k-preserved : goal.loop-k-preserved
loop-k-preserved c =
    let pages = c.args.pages.now in
    let links = c.loop-k.links in
    let k = c.loop-k.k in
    let below : All (λ p. p < length links) pages = λ j d lt. omega (arith, c.requires.below j d lt, c.loop-k.auto.links) in
    record {
      chain = link_set pages links k c.next_page.result c.loop-k-test.true below c.requires.distinct c.next_page.ensures c.loop-k.invariant.chain;
      others = others_set pages links k c.next_page.result c.loop-k-test.true below c.requires.distinct c.args.links.now c.loop-k.invariant.others;
    }
