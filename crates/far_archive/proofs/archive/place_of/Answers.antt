use Rattle.std.proofs.Common.{◌≡◌, ◌+◌, ◌-◌, ◌/◌, ap, sym, ◌∙◌, arith}
use Rattle.std.specs.Ordering.{nat_cmp}
use Rattle.std.specs.Cmp.Lexicographic.{slice_cmp}
use Rattle.std.specs.declared.cmp.Ordering.TheVariants.{Less, Equal, Greater}
use Rattle.far_archive.specs.Fields.{name_of}
use Rattle.far_archive.proofs.Order.{count_fits, goes_up, goes_down, excluded, equal_is}
use Rattle.far_archive.proofs.archive.place_of.Goals as goal

pub overflow_cast-high : goal.overflow_cast-high
overflow_cast-high c = omega (arith, count_fits c.args.bytes.now c.args.p.now c.requires)

pub returns-in-Equal-clause-found : goal.returns-in-Equal-clause-found
returns-in-Equal-clause-found c =
    let middle = c.loop-low.low + (c.loop-low.high - c.loop-low.low) / 2 in
    let compared : slice_cmp nat_cmp (name_of c.args.bytes.now middle) c.args.name.now ≡ Equal = ap (λ n. slice_cmp nat_cmp n c.args.name.now) (sym c.kept_name.ensures) ∙ sym c.cmp.ensures ∙ c.in-Equal.is in
    (omega (arith, c.loop-low.invariant.top), equal_is (name_of c.args.bytes.now middle) c.args.name.now compared)

pub loop-low-preserved-in-Less : goal.loop-low-preserved-in-Less
loop-low-preserved-in-Less c =
    let middle = c.loop-low.low + (c.loop-low.high - c.loop-low.low) / 2 in
    let compared : slice_cmp nat_cmp (name_of c.args.bytes.now middle) c.args.name.now ≡ Less = ap (λ n. slice_cmp nat_cmp n c.args.name.now) (sym c.kept_name.ensures) ∙ sym c.cmp.ensures ∙ c.in-Less.is in
    goes_up c.args.bytes.now c.args.name.now c.loop-low.low c.loop-low.high middle c.requires.sound c.loop-low.invariant (omega arith) compared

pub loop-low-preserved : goal.loop-low-preserved
loop-low-preserved c =
    let middle = c.loop-low.low + (c.loop-low.high - c.loop-low.low) / 2 in
    let compared : slice_cmp nat_cmp (name_of c.args.bytes.now middle) c.args.name.now ≡ Greater = ap (λ n. slice_cmp nat_cmp n c.args.name.now) (sym c.kept_name.ensures) ∙ sym c.cmp.ensures ∙ c.in-Greater.is in
    goes_down c.args.bytes.now c.args.name.now c.loop-low.low c.loop-low.high middle c.requires.sound c.loop-low.invariant (omega arith) (omega arith) compared

pub returns-clause-none : goal.returns-clause-none
returns-clause-none c = excluded c.args.bytes.now c.args.name.now c.loop-low.low c.loop-low.high c.loop-low.invariant c.loop-low-test.false
