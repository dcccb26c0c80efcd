use Rattle.std.proofs.Common.{◌≡◌, sym, set, ap, ◌∙◌}
use Rattle.std.specs.List.{position}
use Rattle.std.proofs.lemmas.List.Quantifiers.{position-Some}
use Rattle.pkg_names.specs.declared.pinned.Pinned.{Pinned}
use Rattle.package_indexes.proofs.Paths.{has_path, rooted, with_root_first, with_root_last}
use Rattle.package_indexes.proofs.Tickets.{placeless, none_passes}
use Rattle.package_indexes.proofs.lists.put_root.Goals as goal

pub returns-in-Some-clause-pairs : goal.returns-in-Some-clause-pairs
returns-in-Some-clause-pairs c =
    let at = position-Some (has_path c.args.path) c.args.pairs.now.items c.in-Some.place c.index_mut.result.now (sym (c.place_at.ensures ∙ ap (position (has_path c.args.path)) c.deref.ensures.value) ∙ c.in-Some.is) in
    ap (λ (pair : Pinned). set c.args.pairs.now.items c.in-Some.place (rooted pair c.args.root)) c.index_mut.ensures.value
    ∙ with_root_first c.args.pairs.now.items c.args.path c.args.root c.in-Some.place c.index_mut.result.now at.0 at.1 at.2

pub returns-in-None-clause-pairs : goal.returns-in-None-clause-pairs
returns-in-None-clause-pairs c =
    c.push_reserved.ensures.items
    ∙ sym (with_root_last c.args.pairs.now.items c.args.path c.args.root (none_passes (has_path c.args.path) c.args.pairs.now.items (placeless (has_path c.args.path) c.args.pairs.now.items (sym (c.place_at.ensures ∙ ap (position (has_path c.args.path)) c.deref.ensures.value) ∙ c.in-None.is))))
