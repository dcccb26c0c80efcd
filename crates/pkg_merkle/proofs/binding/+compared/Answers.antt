use Rattle.std.proofs.Common.{◌≢◌, ◌≤◌, ◌⊎◌, length, ◌∙◌, sym, inl, inr, rules, arith}
use Rattle.pkg_merkle.proofs.BindingLaw.{Collide-tops, HasZeroDigest-first, HasZeroDigest-second, Collide-blocks, IsFound-up, IsLevel-up, root_above-up, same_count, count-up, width-up, length-up}
use Rattle.pkg_merkle.proofs.binding.+compared.Goals as goal
use Rattle.pkg_merkle.proofs.binding.+compared.Goals.{then-a-le-BLOCK-via-then-a-le-BLOCK, then-a-le-BLOCK-via-else-a-le-BLOCK+then-b-le-BLOCK}

pub returns-then-a-le-BLOCK-clause-found : goal.returns-then-a-le-BLOCK-clause-found
returns-then-a-le-BLOCK-clause-found t c =
    let apart : c.args.a.now ≢ c.args.b.now = search rules in
    let short : (length c.args.a.now ≤ 8192) ⊎ (length c.args.b.now ≤ 8192) =
    elim c.then-a-le-BLOCK.branch [
      | then-a-le-BLOCK-via-then-a-le-BLOCK w ↦ inl w.if-a-le-BLOCK.true
      | then-a-le-BLOCK-via-else-a-le-BLOCK+then-b-le-BLOCK w ↦ inr w.if-b-le-BLOCK.true
    ] in
    Collide-tops c.args.level c.args.a.now c.args.b.now c.in_ok-x.x c.in_ok-y.y c.requires.level_a c.requires.level_b (omega arith) (omega arith)
    short c.in_ok-x.ensures c.in_ok-y.ensures c.requires.root apart

pub zero_hash-requires : goal.zero_hash-requires
zero_hash-requires t c = width-up c.args.level c.args.a.now c.deref.result.now (c.deref.ensures.value ∙ c.in_ok-above_a.ensures)

pub input_at-requires-clause-within : goal.input_at-requires-clause-within
input_at-requires-clause-within t c =
    count-up c.args.level c.in-Some.i c.args.a.now c.deref.result.now (c.deref.ensures.value ∙ c.in_ok-above_a.ensures) c.in-Some.ensures.within

pub returns-in-Some-clause-found : goal.returns-in-Some-clause-found
returns-in-Some-clause-found t c =
    let is = c.deref.ensures.value ∙ c.in_ok-above_a.ensures in
    let within = count-up c.args.level c.in-Some.i c.args.a.now c.deref.result.now is c.in-Some.ensures.within in
    HasZeroDigest-first c.args.level c.in-Some.i c.args.a.now c.args.b.now c.deref.result.now _ c.if-a-le-BLOCK.false is within c.in-Some.ensures.found c.in_ok-x-2.ensures

pub zero_hash-requires-2 : goal.zero_hash-requires-2
zero_hash-requires-2 t c = width-up c.args.level c.args.b.now c.deref-2.result.now (c.deref-2.ensures.value ∙ c.in_ok-above_b.ensures)

pub input_at-requires-in-Some-zero_hash-clause-within : goal.input_at-requires-in-Some-zero_hash-clause-within
input_at-requires-in-Some-zero_hash-clause-within t c =
    count-up c.args.level c.in-Some-zero_hash.j c.args.b.now c.deref-2.result.now (c.deref-2.ensures.value ∙ c.in_ok-above_b.ensures) c.in-Some-zero_hash.ensures.within

pub returns-in-Some-zero_hash-clause-found : goal.returns-in-Some-zero_hash-clause-found
returns-in-Some-zero_hash-clause-found t c =
    let is = c.deref-2.ensures.value ∙ c.in_ok-above_b.ensures in
    let within = count-up c.args.level c.in-Some-zero_hash.j c.args.b.now c.deref-2.result.now is c.in-Some-zero_hash.ensures.within in
    HasZeroDigest-second c.args.level c.in-Some-zero_hash.j c.args.a.now c.args.b.now c.deref-2.result.now _ c.if-b-le-BLOCK.false is within
    c.in-Some-zero_hash.ensures.found c.in_ok-x-3.ensures

pub compared-requires : goal.compared-requires
compared-requires t c =
    let level = c.args.level in
    let a = c.args.a.now in
    let b = c.args.b.now in
    let above = c.deref-3.result.now in
    let above' = c.deref-4.result.now in
    let is = c.deref-3.ensures.value ∙ c.in_ok-above_a.ensures in
    let is' = c.deref-4.ensures.value ∙ c.in_ok-above_b.ensures in
    let none = rw (c.deref.ensures.value, ← c.deref-3.ensures.value) at c.in_default.ensures.none in
    let none' = rw (c.deref-2.ensures.value, ← c.deref-4.ensures.value) at c.in_default-zero_hash.ensures.none in
    let less = length-up level a above c.if-a-le-BLOCK.false is in
    let less' = length-up level b above' c.if-b-le-BLOCK.false is' in
    let root = root_above-up level a b above above' c.if-a-le-BLOCK.false c.if-b-le-BLOCK.false is is' c.requires.root in
    (omega arith, (IsLevel-up level a above is none, (IsLevel-up level b above' is' none', (omega arith, (omega arith, root)))))

pub different_block-k-requires-clause-count : goal.different_block-k-requires-clause-count
different_block-k-requires-clause-count t c =
    let is = c.deref-3.ensures.value ∙ c.in_ok-above_a.ensures in
    let is' = c.deref-4.ensures.value ∙ c.in_ok-above_b.ensures in
    let same = c.in_ok-found.ensures.same.0 c.in-Same.is in
    sym (same_count c.args.level c.args.a.now c.args.b.now (sym is ∙ same ∙ is'))

pub input_at-requires-in-Same-2-clause-within : goal.input_at-requires-in-Same-2-clause-within
input_at-requires-in-Same-2-clause-within t c =
    let is = c.deref-3.ensures.value ∙ c.in_ok-above_a.ensures in
    let is' = c.deref-4.ensures.value ∙ c.in_ok-above_b.ensures in
    let same = c.in_ok-found.ensures.same.0 c.in-Same.is in
    let count = same_count c.args.level c.args.a.now c.args.b.now (sym is ∙ same ∙ is') in
    let within = c.different_block-k.ensures.within in
    omega arith

pub returns-in-Same-clause-found : goal.returns-in-Same-clause-found
returns-in-Same-clause-found t c =
    let is = c.deref-3.ensures.value ∙ c.in_ok-above_a.ensures in
    let is' = c.deref-4.ensures.value ∙ c.in_ok-above_b.ensures in
    let same = c.in_ok-found.ensures.same.0 c.in-Same.is in
    Collide-blocks c.args.level c.different_block-k.result c.args.a.now c.args.b.now c.in_ok-x-in-Same.x c.in_ok-y-in-Same.y
    c.requires.level_a c.requires.level_b c.if-a-le-BLOCK.false c.if-b-le-BLOCK.false (sym is ∙ same ∙ is')
    c.different_block-k.ensures.within c.different_block-k.ensures.apart c.in_ok-x-in-Same.ensures c.in_ok-y-in-Same.ensures

pub returns-clause-found : goal.returns-clause-found
returns-clause-found t c =
    let is = c.deref-3.ensures.value ∙ c.in_ok-above_a.ensures in
    let is' = c.deref-4.ensures.value ∙ c.in_ok-above_b.ensures in
    IsFound-up c.args.level c.args.a.now c.args.b.now c.deref-3.result.now c.deref-4.result.now c.in_ok-found.found c.if-a-le-BLOCK.false c.if-b-le-BLOCK.false is is'
    c.in_ok-found.ensures.found
