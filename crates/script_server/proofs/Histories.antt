-- What a legal history says of its reads and of its collections.
use Rattle.std.proofs.Common.{◌≡◌, ℕ, ◌+◌, List, [], ◌∷◌, ◌++◌, length, Option, Some, None, refl, subst, arith}
use Rattle.pkg_merkle.specs.Merkle.{merkle_root}
use Rattle.store_model.specs.declared.events.Event.{Event}
use Rattle.store_model.specs.declared.events.Act.TheVariants as acts
use Rattle.store_model.specs.declared.ends.ReadEnd.TheVariants.{Got}
use Rattle.store_model.specs.State.{State, stored_len}
use Rattle.store_model.specs.Files.{Found, found}
use Rattle.store_model.specs.Files.Found.{NotOpen, NoSuchFile, Inner, Outer}
use Rattle.store_model.specs.Acts.Read.{IsReadFrom}
use Rattle.store_model.specs.Step.{IsDue, step}
use Rattle.store_model.specs.History.{Origin, start, IsLegalFrom, IsLegal, after_from, after}
use Rattle.store_model.proofs.SoundPackages.{collects}
use Rattle.plain_ledger.specs.Ledgers.{event_by}
use Rattle.script_server.specs.Serving.{AreBytesOf, ReadsFiles, CollectsRest}

due_from : (s : State) (number : ℕ) (first later : List Event) (e : Event) → IsLegalFrom s number (first ++ e ∷ later)
    → IsDue (after_from s number first) (number + length first) e
due_from s number [] later e legal = subst (λ (n : ℕ). IsDue s n e) (omega arith) legal.0
due_from s number (x ∷ first) later e legal =
    subst (λ (n : ℕ). IsDue (after_from (step s number x) (number + 1) first) n e) (omega arith)
    (due_from (step s number x) (number + 1) first later e legal.1)

-- each event is due in the state after those before it
due_at : (origin : Origin) (first later : List Event) (e : Event) → IsLegal origin (first ++ e ∷ later)
    → IsDue (after origin first) (length first + 1) e
due_at origin first later e legal =
    subst (λ (n : ℕ). IsDue (after origin first) n e) (omega arith) (due_from (start origin) 1 first later e legal)

read_of : (s : State) (file : Found) (bytes : List ℕ) → IsReadFrom s file (Got bytes) → AreBytesOf file bytes
read_of s NotOpen bytes due = absurd cc
read_of s NoSuchFile bytes due = absurd cc
read_of s (Inner own) bytes due = due.0
read_of s (Outer root) bytes due = go (stored_len s.stock root) refl where
  go : (len : Option ℕ) → stored_len s.stock root ≡ len → merkle_root bytes ≡ root
  go None is = absurd (rw is at due)
  go (Some len) is = let read = rw is at due in read.2

pub reads_files : (origin : Origin) (history : List Event) → IsLegal origin history → ReadsFiles origin history
reads_files origin history legal first later lane dir file bytes is =
    let due = due_at origin first later (event_by lane (acts.Read dir file (Got bytes))) (subst (IsLegal origin) is legal) in
    read_of (after origin first) (found (after origin first) lane dir file) bytes due.due

pub collects_rest : (origin : Origin) (history : List Event) → IsLegal origin history → CollectsRest origin history
collects_rest origin history legal first later lane roots is =
    let due = due_at origin first later (event_by lane (acts.Collect (Some roots))) (subst (IsLegal origin) is legal) in
    record { due = collects (after origin first) roots due.due; gone = refl }
