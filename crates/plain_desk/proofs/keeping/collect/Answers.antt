use Rattle.std.proofs.Common.{List, sym, ap, subst, ◌∙◌}
use Rattle.pkg_names.specs.declared.root.Root.{Root}
use Rattle.store_model.specs.State.{State, Stored}
use Rattle.plain_stock.specs.Contents.{AreBytesOf}
use Rattle.plain_desk.specs.Stores.{AreRemoved}
use Rattle.plain_desk.proofs.Blobs.{bytes_left}
use Rattle.plain_desk.proofs.keeping.collect.Goals as goal

pub returns-clause-bytes : goal.returns-clause-bytes
returns-clause-bytes c =
    subst (λ (x : List Stored). AreBytesOf c.remove_all.new.contents x) (sym (ap (λ (s : State). s.stock) c.in_ok-collect.ensures.ok.state.rest))
    (bytes_left _ c.requires.bytes (subst (λ (rs : List Root). AreRemoved rs c.args.contents.now c.remove_all.new.contents)
    (c.as_slice.ensures.list ∙ sym c.in_ok-try_copy.ensures.same) c.remove_all.ensures))
