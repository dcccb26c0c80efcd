use Rattle.std.proofs.Common.{Option, subst}
use Rattle.pkg_names.specs.declared.root.Root.{Root}
use Rattle.store_model.specs.State.{State}
use Rattle.store_model.specs.Acts.Close.{next_close}
use Rattle.plain_state.specs.Learning.{Forgets, listed}
use Rattle.plain_state.proofs.SettledActs.{closes}
use Rattle.plain_state.proofs.state.State.close_dir.Goals as goal

pub returns-clause-settled : goal.returns-clause-settled
returns-clause-settled c =
    closes c.args.self.now c.args.lane c.args.dir c.forget_found.new.self c.requires
    (subst (λ (o : Option Root). Forgets (listed o) (next_close c.args.self.now c.args.lane c.args.dir) c.forget_found.new.self) c.root_of_dir-root.ensures
    (subst (λ (s : State). Forgets (listed c.root_of_dir-root.result) s c.forget_found.new.self) c.close-closed.ensures.closed c.forget_found.ensures))
