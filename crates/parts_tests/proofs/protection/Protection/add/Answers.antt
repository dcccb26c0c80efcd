use Rattle.std.proofs.Common.{◌≡◌, List, [], ◌∷◌, ◌++◌, append-nil, sym, ap, subst, ◌∙◌}
use Rattle.pkg_names.specs.declared.root.Root.{Root}
use Rattle.package_book.specs.Names.{names}
use Rattle.collector.specs.Counts.{CountsNames, Gains}
use Rattle.parts_tests.proofs.protection.Protection.add.Goals as goal

pub invariant_of-self-2 : goal.invariant_of-self-2
invariant_of-self-2 c =
    let top = c.args.top in
    let shelf = c.self.inside.shelf in
    let entries = c.self.inside.entries.items in
    let old = c.self.inside.counts in
    let new = c.gain.new.self in
    let named : c.as_slice.result.now ≡ names top shelf = c.as_slice.ensures.list ∙ c.in_ok-names.ensures in
    let gains = subst (λ (roots : List Root). Gains roots old new) named c.in_ok-gain.ensures.ok in
    let before = subst (λ (tops : List Root). CountsNames tops shelf old) (sym (append-nil entries)) c.self.invariant in
    let more : c.push_reserved.new.self.items ≡ entries ++ top ∷ [] = c.push_reserved.ensures.items ∙ ap (λ (l : List Root). l ++ top ∷ []) c.in_ok-reserve.ensures.items in
    subst (λ (tops : List Root). CountsNames tops shelf new) (sym more) (c.counts_follow_packages.ensures.gained entries [] top shelf old new before gains)
