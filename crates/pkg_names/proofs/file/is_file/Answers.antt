use Rattle.pkg_names.proofs.FileTests.{tested}
use Rattle.pkg_names.proofs.file.is_file.Goals as goal

pub returns-clause-test : goal.returns-clause-test
returns-clause-test c = tested c.args.text.now c.passes_all.result c.passes_all.ensures
