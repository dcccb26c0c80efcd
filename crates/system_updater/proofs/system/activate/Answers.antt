use Rattle.store_model.specs.declared.replies.ActivateReply.TheVariants as activate
use Rattle.system_updater.proofs.Desks.{activate_goes}
use Rattle.system_updater.proofs.system.activate.Goals as goal

pub returns-in-Active-clause-goes : goal.returns-in-Active-clause-goes
returns-in-Active-clause-goes g c = λ dir sys repo.
    activate_goes dir sys (g.K.Desk.view c.args.desk.now) (g.K.Desk.view c.activate.new.self) repo (g.K.Desk.firm c.args.desk.now) (g.K.Desk.firm c.activate.new.self) (activate.Active c.in-Active.slot) c.in-Active.ensures.event c.in-Active.ensures.firm

pub returns-in-BaseMissing-clause-goes : goal.returns-in-BaseMissing-clause-goes
returns-in-BaseMissing-clause-goes g c = λ dir sys repo.
    activate_goes dir sys (g.K.Desk.view c.args.desk.now) (g.K.Desk.view c.activate.new.self) repo (g.K.Desk.firm c.args.desk.now) (g.K.Desk.firm c.activate.new.self) (activate.BaseMissing c.in-BaseMissing.root) c.in-BaseMissing.ensures.event c.in-BaseMissing.ensures.firm

pub returns-in-NotASystem-clause-goes : goal.returns-in-NotASystem-clause-goes
returns-in-NotASystem-clause-goes g c = λ dir sys repo.
    activate_goes dir sys (g.K.Desk.view c.args.desk.now) (g.K.Desk.view c.activate.new.self) repo (g.K.Desk.firm c.args.desk.now) (g.K.Desk.firm c.activate.new.self) (activate.NotASystem c.in-NotASystem.why) c.in-NotASystem.ensures.event c.in-NotASystem.ensures.firm

pub returns-in-DiskRead-clause-goes : goal.returns-in-DiskRead-clause-goes
returns-in-DiskRead-clause-goes g c = λ dir sys repo.
    activate_goes dir sys (g.K.Desk.view c.args.desk.now) (g.K.Desk.view c.activate.new.self) repo (g.K.Desk.firm c.args.desk.now) (g.K.Desk.firm c.activate.new.self) activate.DiskRead c.in-DiskRead.ensures.event c.in-DiskRead.ensures.firm

pub returns-in-Rotten-clause-goes : goal.returns-in-Rotten-clause-goes
returns-in-Rotten-clause-goes g c = λ dir sys repo.
    activate_goes dir sys (g.K.Desk.view c.args.desk.now) (g.K.Desk.view c.activate.new.self) repo (g.K.Desk.firm c.args.desk.now) (g.K.Desk.firm c.activate.new.self) (activate.Rotten c.in-Rotten.root c.in-Rotten.got) c.in-Rotten.ensures.event c.in-Rotten.ensures.firm

pub returns-in-Broken-clause-goes : goal.returns-in-Broken-clause-goes
returns-in-Broken-clause-goes g c = λ dir sys repo.
    activate_goes dir sys (g.K.Desk.view c.args.desk.now) (g.K.Desk.view c.activate.new.self) repo (g.K.Desk.firm c.args.desk.now) (g.K.Desk.firm c.activate.new.self) (activate.Broken c.in-Broken.number) c.in-Broken.ensures.event c.in-Broken.ensures.firm

pub returns-in-NoMemory-clause-goes : goal.returns-in-NoMemory-clause-goes
returns-in-NoMemory-clause-goes g c = λ dir sys repo.
    activate_goes dir sys (g.K.Desk.view c.args.desk.now) (g.K.Desk.view c.activate.new.self) repo (g.K.Desk.firm c.args.desk.now) (g.K.Desk.firm c.activate.new.self) activate.NoMemory c.in-NoMemory.ensures.event c.in-NoMemory.ensures.firm
