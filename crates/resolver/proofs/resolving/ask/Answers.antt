use Rattle.store_model.specs.declared.replies.BeginReply.TheVariants as begin
use Rattle.store_model.proofs.CallsHeld.{begun}
use Rattle.resolver.proofs.Desks.{begin_goes}
use Rattle.resolver.proofs.resolving.ask.Goals as goal

pub returns-in-Made-clause-goes : goal.returns-in-Made-clause-goes
returns-in-Made-clause-goes g c = λ pin listing files before after.
    begin_goes c.args.path.now pin c.args.choice listing files before after (begin.Made c.in-Made.ticket) (g.K.Desk.view c.args.desk.now) (g.K.Desk.view c.begin.new.self) c.in-Made.ensures.event c.in-Made.ensures.fillers

pub returns-in-InRecovery-clause-goes : goal.returns-in-InRecovery-clause-goes
returns-in-InRecovery-clause-goes g c = λ pin listing files before after.
    begin_goes c.args.path.now pin c.args.choice listing files before after begin.InRecovery (g.K.Desk.view c.args.desk.now) (g.K.Desk.view c.begin.new.self) c.in-InRecovery.ensures.event c.in-InRecovery.ensures.fillers

pub returns-in-InRecovery-clause-held : goal.returns-in-InRecovery-clause-held
returns-in-InRecovery-clause-held g c = begun c.args.path.now c.args.choice begin.InRecovery (g.K.Desk.view c.args.desk.now) (g.K.Desk.view c.begin.new.self) c.in-InRecovery.ensures.event

pub returns-in-NotFound-clause-goes : goal.returns-in-NotFound-clause-goes
returns-in-NotFound-clause-goes g c = λ pin listing files before after.
    begin_goes c.args.path.now pin c.args.choice listing files before after begin.NotFound (g.K.Desk.view c.args.desk.now) (g.K.Desk.view c.begin.new.self) c.in-NotFound.ensures.event c.in-NotFound.ensures.fillers

pub returns-in-NotFound-clause-held : goal.returns-in-NotFound-clause-held
returns-in-NotFound-clause-held g c = begun c.args.path.now c.args.choice begin.NotFound (g.K.Desk.view c.args.desk.now) (g.K.Desk.view c.begin.new.self) c.in-NotFound.ensures.event

pub returns-in-ListingFault-clause-goes : goal.returns-in-ListingFault-clause-goes
returns-in-ListingFault-clause-goes g c = λ pin listing files before after.
    begin_goes c.args.path.now pin c.args.choice listing files before after begin.ListingFault (g.K.Desk.view c.args.desk.now) (g.K.Desk.view c.begin.new.self) c.in-ListingFault.ensures.event c.in-ListingFault.ensures.fillers

pub returns-in-ListingFault-clause-held : goal.returns-in-ListingFault-clause-held
returns-in-ListingFault-clause-held g c = begun c.args.path.now c.args.choice begin.ListingFault (g.K.Desk.view c.args.desk.now) (g.K.Desk.view c.begin.new.self) c.in-ListingFault.ensures.event

pub returns-in-DiskRead-clause-goes : goal.returns-in-DiskRead-clause-goes
returns-in-DiskRead-clause-goes g c = λ pin listing files before after.
    begin_goes c.args.path.now pin c.args.choice listing files before after begin.DiskRead (g.K.Desk.view c.args.desk.now) (g.K.Desk.view c.begin.new.self) c.in-DiskRead.ensures.event c.in-DiskRead.ensures.fillers

pub returns-in-DiskRead-clause-held : goal.returns-in-DiskRead-clause-held
returns-in-DiskRead-clause-held g c = begun c.args.path.now c.args.choice begin.DiskRead (g.K.Desk.view c.args.desk.now) (g.K.Desk.view c.begin.new.self) c.in-DiskRead.ensures.event

pub returns-in-Rotten-clause-goes : goal.returns-in-Rotten-clause-goes
returns-in-Rotten-clause-goes g c = λ pin listing files before after.
    begin_goes c.args.path.now pin c.args.choice listing files before after (begin.Rotten c.in-Rotten.root c.in-Rotten.got) (g.K.Desk.view c.args.desk.now) (g.K.Desk.view c.begin.new.self) c.in-Rotten.ensures.event c.in-Rotten.ensures.fillers

pub returns-in-Rotten-clause-held : goal.returns-in-Rotten-clause-held
returns-in-Rotten-clause-held g c = begun c.args.path.now c.args.choice (begin.Rotten c.in-Rotten.root c.in-Rotten.got) (g.K.Desk.view c.args.desk.now) (g.K.Desk.view c.begin.new.self) c.in-Rotten.ensures.event

pub returns-in-Broken-clause-goes : goal.returns-in-Broken-clause-goes
returns-in-Broken-clause-goes g c = λ pin listing files before after.
    begin_goes c.args.path.now pin c.args.choice listing files before after (begin.Broken c.in-Broken.number) (g.K.Desk.view c.args.desk.now) (g.K.Desk.view c.begin.new.self) c.in-Broken.ensures.event c.in-Broken.ensures.fillers

pub returns-in-Broken-clause-held : goal.returns-in-Broken-clause-held
returns-in-Broken-clause-held g c = begun c.args.path.now c.args.choice (begin.Broken c.in-Broken.number) (g.K.Desk.view c.args.desk.now) (g.K.Desk.view c.begin.new.self) c.in-Broken.ensures.event

pub returns-in-NoMemory-clause-goes : goal.returns-in-NoMemory-clause-goes
returns-in-NoMemory-clause-goes g c = λ pin listing files before after.
    begin_goes c.args.path.now pin c.args.choice listing files before after begin.NoMemory (g.K.Desk.view c.args.desk.now) (g.K.Desk.view c.begin.new.self) c.in-NoMemory.ensures.event c.in-NoMemory.ensures.fillers

pub returns-in-NoMemory-clause-held : goal.returns-in-NoMemory-clause-held
returns-in-NoMemory-clause-held g c = begun c.args.path.now c.args.choice begin.NoMemory (g.K.Desk.view c.args.desk.now) (g.K.Desk.view c.begin.new.self) c.in-NoMemory.ensures.event
