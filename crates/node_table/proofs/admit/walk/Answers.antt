use Rattle.std.proofs.Common.{◌≡◌, ◌≢◌, ℕ, ◌+◌, ◌<◌, List, length, sym, refl, ◌∙◌, ap, subst, arith}
use Rattle.std.proofs.lemmas.Bool.Decides.{nat_tests}
use Rattle.std.proofs.lemmas.List.{length_push}
use Rattle.node_table.specs.declared.entry.TheConstants.{CHAIN_END}
use Rattle.node_table.specs.Steps.{link_from}
use Rattle.node_table.proofs.WalkLemmas.{IsFollowed, followed_none, followed_more, followed_stuck, followed_all, followed_on}
use Rattle.node_table.proofs.admit.walk.Goals as goal

pub loop-k-init : goal.loop-k-init
loop-k-init c = record {
  followed = subst (λ (items : List ℕ). IsFollowed (link_from c.args.links.now) c.args.taken.now c.args.taken.now c.args.first c.args.count items c.args.first) (sym c.requires.empty) (followed_none (link_from c.args.links.now) c.args.taken.now c.args.first c.args.count c.requires.some);
  size = ap length c.requires.empty;
  capacity = refl;
}

pub returns-then-not-take_page-clause-none : goal.returns-then-not-take_page-clause-none
returns-then-not-take_page-clause-none c = λ _ other walk.
    followed_stuck (link_from c.args.links.now) c.args.taken.now c.loop-k.taken c.args.first c.args.count c.loop-k.pages.items c.loop-k.page c.loop-k.invariant.followed
    (omega (arith, c.loop-k.invariant.size, c.loop-k-test.true))
    (λ good.
    let free : c.loop-k.page < length c.loop-k.taken = omega (arith, good.0, c.loop-k.auto.taken) in
    let yes = c.take_page.ensures.answer.1 (free, good.1) in
    absurd (cc (yes, c.if-not-take_page.true)))
    other walk

pub loop-k-preserved : goal.loop-k-preserved
loop-k-preserved c =
    let link = link_from c.args.links.now in
    let inv = c.loop-k.invariant in
    let page = c.loop-k.page in
    let items = c.loop-k.pages.items in
    let good = c.take_page.ensures.answer.0 c.if-not-take_page.false in
    record {
      followed = subst (λ (l : List ℕ). IsFollowed link c.args.taken.now c.take_page.new.taken c.args.first c.args.count l (link page)) (sym c.push_reserved.ensures.items)
          (followed_more link c.args.taken.now c.loop-k.taken c.args.first c.args.count items page inv.followed c.take_page.new.taken
          (omega (arith, inv.size, c.loop-k-test.true)) (omega (arith, good.0, c.loop-k.auto.taken)) good.1 (c.take_page.ensures.took c.if-not-take_page.false));
      size = ap length c.push_reserved.ensures.items ∙ length_push items page ∙ ap (λ (n : ℕ). n + 1) inv.size;
      capacity = c.push_reserved.ensures.capacity ∙ inv.capacity;
    }

pub returns-clause-walked : goal.returns-clause-walked
returns-clause-walked c = λ is.
    let end : c.loop-k.page ≡ CHAIN_END = grind (arith, nat_tests) in
    let all : length c.loop-k.pages.items ≡ c.args.count = omega (arith, c.loop-k.invariant.size, c.loop-k-test.false, c.loop-k.auto) in
    followed_all (link_from c.args.links.now) c.args.taken.now c.loop-k.taken c.args.first c.args.count c.loop-k.pages.items c.loop-k.page c.loop-k.invariant.followed all c.requires.some end

pub returns-clause-none : goal.returns-clause-none
returns-clause-none c = λ is other walk.
    let on : c.loop-k.page ≢ CHAIN_END = grind (arith, nat_tests) in
    let all : length c.loop-k.pages.items ≡ c.args.count = omega (arith, c.loop-k.invariant.size, c.loop-k-test.false, c.loop-k.auto) in
    followed_on (link_from c.args.links.now) c.args.taken.now c.loop-k.taken c.args.first c.args.count c.loop-k.pages.items c.loop-k.page c.loop-k.invariant.followed all on other walk
