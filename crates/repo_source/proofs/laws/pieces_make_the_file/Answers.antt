use Rattle.repo_source.proofs.Pieces.{honest_file}
use Rattle.repo_source.proofs.laws.pieces_make_the_file.Goals as goal

pub returns-clause-honest : goal.returns-clause-honest
returns-clause-honest c = honest_file
