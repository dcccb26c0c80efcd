use Rattle.std.proofs.Common.{sym, ap, ◌∙◌}
use Rattle.std.specs.Prelude.{option_copied}
use Rattle.std.specs.Option.{option_map}
use Rattle.pkg_names.specs.declared.pinned.Pinned.{Pinned}
use Rattle.package_indexes.proofs.Paths.{root_at-find}
use Rattle.package_indexes.proofs.lists.root_of_path.Goals as goal

pub returns-in-Some : goal.returns-in-Some
returns-in-Some c =
    ap (option_map (λ (pair : Pinned). pair.root)) (ap option_copied (sym c.in-Some.is) ∙ c.pair_of.ensures) ∙ sym (root_at-find c.args.pairs.now c.args.path.now)

pub returns-in-None : goal.returns-in-None
returns-in-None c =
    ap (option_map (λ (pair : Pinned). pair.root)) (ap option_copied (sym c.in-None.is) ∙ c.pair_of.ensures) ∙ sym (root_at-find c.args.pairs.now c.args.path.now)
