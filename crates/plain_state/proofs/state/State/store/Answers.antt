use Rattle.std.proofs.Common.{◌&&◌, None, sym, ap, ◌∙◌}
use Rattle.std.specs.Prelude.{nat_le}
use Rattle.package_book.specs.declared.book.TheConstants.{META_LIMIT}
use Rattle.store_model.specs.State.{State}
use Rattle.store_model.specs.Acts.Land.{next_land}
use Rattle.plain_state.proofs.SettledLooks.{lands_learned, lands_unlearned}
use Rattle.plain_state.proofs.state.State.store.Goals as goal
use Rattle.plain_state.proofs.state.State.store.Goals.{then-learns+in_ok-learn_landing, else-learns}

pub returns-clause-ok : goal.returns-clause-ok
returns-clause-ok c =
    elim c.if-learns.branch [
      | then-learns+in_ok-learn_landing w ↦
          let among = sym c.is_protected-learns.ensures ∙ w.if-learns.true in
          lands_learned c.args.self.now w.learn_landing.new.self c.land.new.self c.args.root c.args.len c.args.meta c.requires.ready c.requires.missing among
          (c.requires.read ∙ ap (λ test. test && nat_le c.args.len META_LIMIT) among)
          w.in_ok-learn_landing.ensures.ok
          (c.in_default.ensures.ok ∙ ap (λ (s : State). next_land s c.args.root c.args.len None) w.self-is)
      | else-learns w ↦
          lands_unlearned c.args.self.now c.land.new.self c.args.root c.args.len c.args.meta c.requires.ready c.requires.missing
          (sym c.is_protected-learns.ensures ∙ w.if-learns.false)
          (c.in_default.ensures.ok ∙ ap (λ (s : State). next_land s c.args.root c.args.len None) w.self-is)
    ]
