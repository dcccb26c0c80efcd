use Rattle.std.proofs.Common.{sym, ap, ◌∙◌, not, is_some, Option}
use Rattle.pkg_names.specs.declared.root.Root.{Root}
use Rattle.store_model.specs.State.{State}
use Rattle.store_model.specs.Packages.{known_book}
use Rattle.plain_stock.proofs.Named.{complete_by}
use Rattle.plain_state.proofs.state.State.is_complete.Goals as goal

pub returns-in-Some : goal.returns-in-Some
returns-in-Some c =
    sym (complete_by c.args.self.now c.args.root.now (ap (λ (s : State). is_some (known_book s.books c.args.root.now)) (sym c.self.view_is) ∙ sym c.is_book.ensures ∙ c.if-not-is_book.false) ∙ ap (λ (o : Option Root). not (is_some o)) (sym c.first_missing.ensures ∙ c.in-Some.is))

pub returns-in-None : goal.returns-in-None
returns-in-None c =
    sym (complete_by c.args.self.now c.args.root.now (ap (λ (s : State). is_some (known_book s.books c.args.root.now)) (sym c.self.view_is) ∙ sym c.is_book.ensures ∙ c.if-not-is_book.false) ∙ ap (λ (o : Option Root). not (is_some o)) (sym c.first_missing.ensures ∙ c.in-None.is))
