use Rattle.package_book.proofs.BookLaws.{stands, only}
use Rattle.package_book.proofs.laws.books_are_read.Goals as goal

pub returns : goal.returns
returns c =
    let archives = c.texts_stand_or_have_a_fault.ensures in
    let texts = c.texts_stand_for_what_is_read.ensures in
    record { stands = stands archives.stands texts.stands; only = only archives.one archives.no_fault texts.only }
