use Rattle.store_model.specs.Desk.{Rests}
use Rattle.std.proofs.Common.{subst}
use Rattle.plain_desk.specs.Stores.{StoreOf, view_of}
use Rattle.plain_desk.proofs.Stores.{rests_still}
use Rattle.plain_desk.proofs.store.Store.pause.Goals as goal

pub returns : goal.returns
returns c = λ tie. subst (λ (s : StoreOf). Rests (view_of tie c.args.lane s) (view_of tie c.args.lane s)) c.self.view_is
    (rests_still c.self.invariant.holds)
