use Rattle.package_book.proofs.NameLaws.{unprotected_so}
use Rattle.package_book.proofs.laws.unprotected_are_unnamed.Goals as goal

pub returns : goal.returns
returns c = unprotected_so
