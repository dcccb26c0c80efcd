use Rattle.std.proofs.Common.{refl, arith, sym, ◌∙◌}
use Rattle.std.proofs.lemmas.Result.{on_ok_weaker}
use Rattle.plain_ledger.proofs.Looks.{no_more, open_goes}
use Rattle.plain_ledger.proofs.directories.room_to_close.Goals as goal

pub returns-in-Some-clause-ok : goal.returns-in-Some-clause-ok
returns-in-Some-clause-ok c =
    omega (arith, open_goes c.args.state.now c.args.lane c.args.dir _ _ refl (sym c.root_of_dir.ensures ∙ c.in-Some.is))

pub returns-in-None-clause-ok : goal.returns-in-None-clause-ok
returns-in-None-clause-ok c =
    on_ok_weaker c.make_room.result (no_more c.args.state.now c.args.lane c.args.dir _) c.make_room.ensures.ok
