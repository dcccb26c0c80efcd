-- What may go to other threads: a seat may go, and several threads may borrow the lock, where the value may go.
use denote.RattleType.{RattleType}
use denote.Param.Send.{IsSend, IsSync, sendable, part_keyless}
use denote.Struct.Struct.{Struct}
use denote.Struct.Owning.{shape}
use Rattle.std.proofs.Crossing.{crosses}
use Rattle.std.specs.declared.alloc.Allocator as allocator
use denote.Param.Send.{Frees}
use Rattle.atomic_table.specs.declared.shared.TableRule as table_rule
use Rattle.atomic_table.specs.contracts.shared.Seat as table_seat
use Rattle.atomic_table.specs.contracts.shared.Shared as boards
use Rattle.atomic_table.specs.contracts.send_lease.SendLease as leases
use Rattle.atomic_table.proofs.Sent.{seat_keyless, shares_keyless}
use Rattle.atomic_table.proofs.Rights.{right_send}
use Rattle.turn_lock.specs.declared.logged.Logged.{Ghosts}
use Rattle.turn_lock.specs.contracts.seat.Seat as seat
use Rattle.turn_lock.specs.contracts.turn.Turn as turn

table_seat_send : (S V : RattleType) → IsSend S → IsSend (table_seat.the_row S V)
table_seat_send S V s = record { owned = λ d vs. ((λ vss. (tt, ((λ uss. (tt, tt)), tt))), seat_keyless S s V.coded.code d.table_id d.id d.me); leaving = λ k f vs. tt }

boards_sync : (S V K P : RattleType) (g : table_rule.Ghosts P.Denot S.Denot V.Denot K.Denot) → IsSend S → IsSync (boards.the_row S V K P g)
boards_sync S V K P g s = let fields : IsSync (Struct (shape (boards.the_type S V K P g))) = search sendable depth 20 in
    record { shared = λ d b o ν. (fields.shared (d.words, (d.slots, (tt, tt))) b o ν, shares_keyless S s V.coded.code d.table_id (g.holds d.key) d.words d.slots ν) }

leases_sync : (T A : RattleType) (g : allocator.Ghosts A.Denot) → IsSend A → Frees g g.dealloc_token → IsSync (leases.the_row T A g)
leases_sync T A g s f = record { shared = λ d b o ν q. part_keyless (leases.the_row T A g) (right_send T A g f) q d b o }

pub seat_send : (T : RattleType) → IsSend T → IsSend (seat.the_row T)
seat_send T s = search (sendable, crosses, table_seat_send) depth 30

pub turn_sync : (T E O H : RattleType) (g : Ghosts T.Denot E.Denot O.Denot H.Denot) → IsSend T → IsSync (turn.the_row T E O H g)
turn_sync T E O H g s = search (sendable, crosses, boards_sync, leases_sync) depth 30
