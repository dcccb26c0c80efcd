use Rattle.store_model.proofs.Calls.{held_by-Rests}
use Rattle.store_model.proofs.CallsRest.{held_after_collect, held_after_commit, held_after_reject}
use Rattle.lane_steps.proofs.Kept.{as_much, as_much_closed}
use Rattle.lane_steps.proofs.keeping.plain_call.Goals as goal

pub returns-in-Close-clause-held : goal.returns-in-Close-clause-held
returns-in-Close-clause-held g c =
    as_much_closed c.in-Close.dir c.close.result (g.K.Desk.view c.args.desk.now) (g.K.Desk.view c.close.new.self) c.close.ensures.event

pub returns-in-Collect-clause-held : goal.returns-in-Collect-clause-held
returns-in-Collect-clause-held g c =
    as_much (g.K.Desk.view c.args.desk.now) (g.K.Desk.view c.collect.new.self) (held_after_collect c.collect.result (g.K.Desk.view c.args.desk.now) (g.K.Desk.view c.collect.new.self) c.collect.ensures.event)

pub returns-in-Commit-clause-held : goal.returns-in-Commit-clause-held
returns-in-Commit-clause-held g c =
    as_much (g.K.Desk.view c.args.desk.now) (g.K.Desk.view c.commit.new.self) (held_after_commit c.commit.result (g.K.Desk.view c.args.desk.now) (g.K.Desk.view c.commit.new.self) c.commit.ensures.event)

pub returns-in-Reject-clause-held : goal.returns-in-Reject-clause-held
returns-in-Reject-clause-held g c =
    as_much (g.K.Desk.view c.args.desk.now) (g.K.Desk.view c.reject.new.self) (held_after_reject c.in-Reject.file c.in-Reject.why c.reject.result (g.K.Desk.view c.args.desk.now) (g.K.Desk.view c.reject.new.self) c.reject.ensures.event)

pub returns-in-Pause-clause-held : goal.returns-in-Pause-clause-held
returns-in-Pause-clause-held g c =
    as_much (g.K.Desk.view c.args.desk.now) (g.K.Desk.view c.pause.new.self) (held_by-Rests (g.K.Desk.view c.args.desk.now) (g.K.Desk.view c.pause.new.self) c.pause.ensures.none)
