-- How a list of notes is read.
use Rattle.std.specs.Prelude.{ℕ}
use Rattle.turn_lock.specs.Rule.{Log, log}
use Rattle.threads_tests.specs.declared.notes.Note.{Note}
use Rattle.threads_tests.specs.declared.notes.Notes.{Notes}

abbrev pub notes_log : Log Notes Note ℕ (Unit {0})
notes_log = log (λ n. n.notes.items) (λ e. e.lane) (λ n. n.name) (λ lane n. tt)
