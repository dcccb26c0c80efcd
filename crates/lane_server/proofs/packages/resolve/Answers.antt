use Rattle.script_lang.specs.declared.request.Ask.TheVariants as asks
use Rattle.lane_server.specs.Serving.{IsCut}
use Rattle.lane_server.proofs.Asked.{resolve_none}
use Rattle.lane_server.proofs.Called.{none_does}
use Rattle.lane_server.proofs.packages.resolve.Goals as goal

pub returns-in_default : goal.returns-in_default
returns-in_default g c =
    none_does (IsCut (asks.Resolve c.args.name.now c.args.url.now)) (g.K.Desk.view c.args.desk.now) _ (g.K.Desk.firm c.args.desk.now) (resolve_none c.args.name.now c.args.url.now)
