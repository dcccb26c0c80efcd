use Rattle.std.proofs.Common.{rules}
use Rattle.pkg_names.specs.Root.{IsRoot}
use Rattle.repo_publish.proofs.line.put_line.Goals as goal

pub returns-clause-pinned : goal.returns-clause-pinned
returns-clause-pinned c =
    let root : IsRoot c.args.root = record { length = search rules; bytes = λ i. search rules } in
    record { path = c.name.ensures.valid; root = root }
