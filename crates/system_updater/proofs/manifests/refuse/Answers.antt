use Rattle.std.proofs.Common.{ap}
use Rattle.store_model.specs.declared.replies.RejectReply.TheVariants as reject
use Rattle.system_updater.specs.Serving.{closed}
use Rattle.system_updater.specs.Steps.{at_refusal}
use Rattle.system_updater.proofs.Goes.{goes_none, goes_at}
use Rattle.system_updater.proofs.Desks.{reject_goes}
use Rattle.system_updater.proofs.manifests.refuse.Goals as goal

pub returns-in-Noted-clause-goes : goal.returns-in-Noted-clause-goes
returns-in-Noted-clause-goes g c = λ dir repo.
    goes_at _ _ _ _ _ _ _ _ _ (ap (at_refusal dir) c.in-Bad.is)
    (reject_goes dir c.in-Bad.file c.in-Bad.why (g.K.Desk.view c.args.desk.now) (g.K.Desk.view c.reject.new.self) repo (g.K.Desk.firm c.args.desk.now) (g.K.Desk.firm c.reject.new.self) reject.Noted c.in-Noted.ensures.event c.in-Noted.ensures.firm)

pub returns-in-Broken-clause-goes : goal.returns-in-Broken-clause-goes
returns-in-Broken-clause-goes g c = λ dir repo.
    goes_at _ _ _ _ _ _ _ _ _ (ap (at_refusal dir) c.in-Bad.is)
    (reject_goes dir c.in-Bad.file c.in-Bad.why (g.K.Desk.view c.args.desk.now) (g.K.Desk.view c.reject.new.self) repo (g.K.Desk.firm c.args.desk.now) (g.K.Desk.firm c.reject.new.self) (reject.Broken c.in-Broken.number) c.in-Broken.ensures.event c.in-Broken.ensures.firm)

pub returns-in-NoMemory-clause-goes : goal.returns-in-NoMemory-clause-goes
returns-in-NoMemory-clause-goes g c = λ dir repo.
    goes_at _ _ _ _ _ _ _ _ _ (ap (at_refusal dir) c.in-Bad.is)
    (reject_goes dir c.in-Bad.file c.in-Bad.why (g.K.Desk.view c.args.desk.now) (g.K.Desk.view c.reject.new.self) repo (g.K.Desk.firm c.args.desk.now) (g.K.Desk.firm c.reject.new.self) reject.NoMemory c.in-NoMemory.ensures.event c.in-NoMemory.ensures.firm)

pub returns-in-Ended-clause-goes : goal.returns-in-Ended-clause-goes
returns-in-Ended-clause-goes g c = λ dir repo.
    goes_at _ _ _ _ _ _ _ _ _ (ap (at_refusal dir) c.in-Ended.is)
    (goes_none (closed dir c.in-Ended.reply) (g.K.Desk.view c.args.desk.now) repo (g.K.Desk.firm c.args.desk.now))
