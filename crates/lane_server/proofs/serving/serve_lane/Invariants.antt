use Rattle.std.proofs.Common.{take}
use Rattle.system_updater.specs.Viewing.{told}
use Rattle.lane_server.specs.Serving.{asks_of}
use Rattle.lane_server.specs.Steps.{Served}
use Rattle.lane_server.proofs.serving.serve_lane.Given as goal

abbrev pub invariant-loop-request : goal.invariant-loop-request
invariant-loop-request g l =
    Served (asks_of l.lane (take l.request-index l.requests)) l.names.bindings (g.K.Desk.view l.initial.desk) (g.K.Desk.view l.desk)
    (told (g.R.Repo.listing l.initial.repo) (g.R.Repo.files l.initial.repo) (g.R.Repo.faults l.initial.repo) (g.R.Repo.fetches l.initial.repo))
    (told (g.R.Repo.listing l.repo) (g.R.Repo.files l.repo) (g.R.Repo.faults l.repo) (g.R.Repo.fetches l.repo)) (g.K.Desk.firm l.initial.desk) (g.K.Desk.firm l.desk)
