use Rattle.std.proofs.Common.{ap, sym}
use Rattle.pkg_names.specs.declared.root.Root.{Root}
use Rattle.pkg_merkle.proofs.RootLemmas.{HashesLast-merkle_root}
use Rattle.pkg_merkle.proofs.hasher.root_of.Goals as goal

pub returns-clause-inputs : goal.returns-clause-inputs
returns-clause-inputs c =
    let bytes = c.args.bytes.now in
    let is = c.finish.ensures.root bytes (c.add.ensures.grown _ c.new-hasher.ensures.empty) in
    rw (sym (ap (λ (root : Root). root.0) is)) at (HashesLast-merkle_root bytes)
