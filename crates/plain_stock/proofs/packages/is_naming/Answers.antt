use Rattle.std.proofs.Common.{sym, ap, ◌∙◌}
use Rattle.std.specs.Prelude.{◌||◌}
use Rattle.pkg_names.specs.Root.{root_eq}
use Rattle.store_model.specs.State.{has_root}
use Rattle.package_book.specs.Books.{book_at}
use Rattle.package_book.specs.Names.{roots_known}
use Rattle.plain_stock.proofs.Named.{named_any}
use Rattle.plain_stock.proofs.packages.is_naming.Goals as goal

pub returns-then-eq : goal.returns-then-eq
returns-then-eq c = c.if-eq.true ∙ sym (named_any (λ other. root_eq other c.args.root.now) c.args.top.now c.args.books.now ∙ ap (λ test. test || has_root (roots_known (book_at c.args.books.now c.args.top.now)) c.args.root.now) (sym c.eq.ensures ∙ c.if-eq.true))

pub returns-else-eq : goal.returns-else-eq
returns-else-eq c =
    c.is_among.ensures
    ∙ ap (λ roots. has_root roots c.args.root.now) c.listed.ensures
    ∙ sym (named_any (λ other. root_eq other c.args.root.now) c.args.top.now c.args.books.now ∙ ap (λ test. test || has_root (roots_known (book_at c.args.books.now c.args.top.now)) c.args.root.now) (sym c.eq.ensures ∙ c.if-eq.false))
