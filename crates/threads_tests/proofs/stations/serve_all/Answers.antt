use denote.Exit.{no}
use denote.Param.{param}
use denote.Param.Send.{param_send, arg_send}
use Rattle.threads_tests.proofs.Sent.{station_send, shared_sync}
use Rattle.threads_tests.proofs.stations.serve_all.Goals as goal

pub for_each_mut-requires-send-T : goal.for_each_mut-requires-send-T
for_each_mut-requires-send-T g c κs within = param_send 1 _ (arg_send _ no _ (station_send _ g.D.Disk c.type_bounds.send-D))

pub for_each_mut-requires-sync-F : goal.for_each_mut-requires-sync-F
for_each_mut-requires-sync-F g c κs within =
    let lock = shared_sync (param 0 g.row.D) g.D.Disk c.type_bounds.send-D in
    record { shared = λ x b o κ. ((((λ q. tt), c.type_bounds.sync-R.shared x.0.now _ _ _), (((λ q. tt), lock.shared x.1.now _ _ _), tt)), λ q. tt) }
