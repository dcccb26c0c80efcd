use Rattle.std.proofs.Common.{◌≡◌, suc, ◌<◌, List, length, take, drop, sym, ap, subst, ◌∙◌, arith}
use Rattle.pkg_names.specs.declared.root.Root.{Root}
use Rattle.package_book.specs.Names.{names}
use Rattle.collector.specs.Counts.{CountsNames, IsGained, Loses}
use Rattle.parts_tests.specs.Protected.{Protected}
use Rattle.parts_tests.proofs.Entries.{cut}
use Rattle.parts_tests.proofs.protection.Protection.remove.Goals as goal

pub lose-requires : goal.lose-requires
lose-requires c =
    let p = c.self.inside in
    let entries = p.entries.items in
    let top = c.index.result.now in
    let named : c.as_slice.result.now ≡ names top p.shelf = c.as_slice.ensures.list ∙ c.in_ok-names.ensures in
    let within : c.args.place < length entries = omega (arith, c.requires, ap (λ (v : Protected). length v.entries) c.self.view_is) in
    let whole = subst (λ (tops : List Root). CountsNames tops p.shelf p.counts) (cut entries c.args.place top within c.index.ensures) c.self.invariant in
    subst (λ (roots : List Root). IsGained roots p.counts) (sym named)
    (c.counts_follow_packages.ensures.held (take c.args.place entries) (drop (suc c.args.place) entries) top p.shelf p.counts whole)

pub invariant_of-self : goal.invariant_of-self
invariant_of-self c =
    let p = c.self.inside in
    let entries = p.entries.items in
    let top = c.index.result.now in
    let new = c.lose.new.self in
    let named : c.as_slice.result.now ≡ names top p.shelf = c.as_slice.ensures.list ∙ c.in_ok-names.ensures in
    let within : c.args.place < length entries = omega (arith, c.requires, ap (λ (v : Protected). length v.entries) c.self.view_is) in
    let whole = subst (λ (tops : List Root). CountsNames tops p.shelf p.counts) (cut entries c.args.place top within c.index.ensures) c.self.invariant in
    let loses = subst (λ (roots : List Root). Loses roots p.counts new) named c.lose.ensures in
    subst (λ (tops : List Root). CountsNames tops p.shelf new) (sym c.remove.ensures.items)
    (c.counts_follow_packages.ensures.lost (take c.args.place entries) (drop (suc c.args.place) entries) top p.shelf p.counts new whole loses)
