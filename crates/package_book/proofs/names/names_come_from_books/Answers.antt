use Rattle.package_book.proofs.NameLaws.{has_itself, depends_on, is_listed}
use Rattle.package_book.proofs.names.names_come_from_books.Goals as goal

pub returns : goal.returns
returns c = record { itself = has_itself; depends = depends_on; listed = is_listed }
