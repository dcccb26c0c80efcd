use Rattle.package_book.proofs.NameLaws.{stand_once}
use Rattle.package_book.proofs.names.names_stand_once.Goals as goal

pub returns : goal.returns
returns c = stand_once
