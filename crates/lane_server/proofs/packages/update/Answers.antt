use Rattle.lane_server.proofs.Asked.{update_served, update_cut}
use Rattle.lane_server.proofs.packages.update.Goals as goal

pub returns-in_default : goal.returns-in_default
returns-in_default g c =
    update_served c.args.url.now (g.K.Desk.view c.args.desk.now) (g.K.Desk.view c.update.new.desk) _ _ (g.K.Desk.firm c.args.desk.now) (g.K.Desk.firm c.update.new.desk) c.args.names.now.bindings c.update.result c.update.ensures.run c.update.ensures.images c.in_default.not-NoMemory c.update.ensures.firm

pub returns-in-NoMemory : goal.returns-in-NoMemory
returns-in-NoMemory g c =
    update_cut c.args.url.now (g.K.Desk.view c.args.desk.now) (g.K.Desk.view c.update.new.desk) _ _ (g.K.Desk.firm c.args.desk.now) (g.K.Desk.firm c.update.new.desk) c.in-NoMemory.ensures.run c.in-NoMemory.ensures.firm
