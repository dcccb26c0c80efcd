-- The running system is to stay, and no other is booted.
use Rattle.std.specs.Prelude.{◌≡◌, Bool, true, false}
use Rattle.abr_record.specs.Marks.{committed_record}
use Rattle.store_model.specs.State.{State, is_pending}

abbrev pub IsDueCommit : State → Bool → Type 0
IsDueCommit s done = done ≡ is_pending s

abbrev pub next_commit : State → Bool → State
next_commit s true = record s { abr = committed_record s.running s.abr }
next_commit s false = s
