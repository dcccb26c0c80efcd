-- What may go to another thread, and what several may borrow, where the disk may go.
use denote.RattleType.{RattleType}
use denote.Param.Send.{IsSend, IsSync, sendable}
use Rattle.std.proofs.Crossing.{crosses}
use Rattle.disk_model.specs.declared.disk.Disk.{Ghosts}
use Rattle.turn_lock.proofs.Crossing.{seat_send, turn_sync}
use Rattle.threads_tests.specs.contracts.depot.Depot as depot
use Rattle.threads_tests.specs.contracts.stations.Station as station
use Rattle.threads_tests.specs.contracts.stations.Shared as shared

depot_send : (D : RattleType) (g : Ghosts D.Denot) → IsSend D → IsSend (depot.the_row D g)
depot_send D g s = search (sendable, crosses) depth 30

pub station_send : (D : RattleType) (g : Ghosts D.Denot) → IsSend D → IsSend (station.the_row D g)
station_send D g s = search (sendable, seat_send, depot_send) depth 30

pub shared_sync : (D : RattleType) (g : Ghosts D.Denot) → IsSend D → IsSync (shared.the_row D g)
shared_sync D g s = search (sendable, turn_sync, depot_send) depth 30
