-- What a station does.
use Rattle.std.specs.Prelude.{◌≡◌, IfSome, IsSome, replicate}
use Rattle.turn_lock.specs.Sitting.{Lock}
use Rattle.threads_tests.specs.Depot.{PutTimes}
use Rattle.threads_tests.specs.declared.stations.Station.{Station}

-- it has a seat, which is of this lock
abbrev pub IsReady : {D : Type 0} → Lock → Station D → Type 0
IsReady lock s = IsSome s.seat × IfSome s.seat (λ z. z.lock ≡ lock)

-- the station has its seat again, with which it has put as many of its pieces as it counted
abbrev pub Served : {D : Type 0} → Station D → Station D → Type 0
Served old new = IsSome new.seat
    × IfSome old.seat (λ s. IfSome new.seat (PutTimes (replicate 4096 old.byte) new.count s))
