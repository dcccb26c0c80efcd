use Rattle.std.proofs.Common.{◌≡◌, List, ◌++◌, ap, ap₂, ◌∙◌}
use Rattle.pkg_names.specs.declared.root.Root.{Root}
use Rattle.system_lists.specs.Judging.{cached_list}
use Rattle.system_judge.specs.Listed.{pinned_roots, pairs_in, base_pairs}
use Rattle.system_judge.proofs.judging.listed.Goals as goal

pub returns : goal.returns
returns g c =
    let at = g.E.Evidence.at_hand c.args.evidence.now in
    let base : c.as_slice.result.now ≡ base_pairs at c.in_ok-list.list = c.as_slice.ensures.list ∙ c.in_ok-base.ensures in
    let cached : c.as_slice-2.result.now ≡ pairs_in (cached_list at c.in_ok-list-2.list) = c.as_slice-2.ensures.list ∙ c.in_ok-cached.ensures in
    c.make.ensures.list
    ∙ c.in_ok-add_roots-2.ensures
    ∙ ap₂ (λ (xs ys : List Root). xs ++ ys)
    (c.in_ok-add_roots.ensures ∙ ap (λ (xs : List Root). xs ++ pinned_roots c.as_slice.result.now) c.new-roots.ensures.items ∙ ap pinned_roots (base ∙ ap (base_pairs at) c.in_ok-list.ensures))
    (ap pinned_roots (cached ∙ ap (λ root. pairs_in (cached_list at root)) c.in_ok-list-2.ensures))
