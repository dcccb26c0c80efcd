use Rattle.std.proofs.Common.{sym, ◌∙◌}
use Rattle.package_book.specs.Alone.{names_alone-itself}
use Rattle.package_book.proofs.names.names_alone.Goals as goal

pub returns : goal.returns
returns c = λ books. c.make.ensures.list ∙ c.in_ok-vec.ensures.items ∙ sym (names_alone-itself c.args.root.now books)
