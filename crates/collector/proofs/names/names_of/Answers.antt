use Rattle.std.proofs.Common.{◌≡◌, List, ◌∷◌, length, take, sym, ap, ◌∙◌, arith}
use Rattle.std.proofs.lemmas.List.{take_all}
use Rattle.pkg_names.specs.declared.root.Root.{Root}
use Rattle.package_book.specs.Books.{book_at}
use Rattle.package_book.specs.Names.{roots_known}
use Rattle.collector.proofs.NameLists.{but, names_so}
use Rattle.collector.proofs.names.names_of.Goals as goal

pub returns : goal.returns
returns c =
    let top = c.args.top.now in
    let known = roots_known (book_at c.args.shelf.now top) in
    let all : take c.loop-root.root-index known ≡ known = take_all c.loop-root.root-index known (omega (arith, ap length c.listed-root-items.ensures, c.loop-root-test.false)) in
    c.make.ensures.list ∙ c.loop-root.invariant ∙ ap (λ (l : List Root). top ∷ but top l) all ∙ sym (names_so top c.args.shelf.now)
