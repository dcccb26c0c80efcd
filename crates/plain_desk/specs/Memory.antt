-- Events of a store in memory: no disk is in what they tell.
use Rattle.std.specs.Prelude.{◌≡◌, ◌&&◌, not, All, ℕ, Bool, true, false, List, Option, Some, None}
use Rattle.store_model.specs.declared.ends.ActivateEnd.{ActivateEnd}
use Rattle.store_model.specs.declared.ends.ActivateEnd.TheVariants as activations
use Rattle.store_model.specs.declared.ends.BeginEnd.{BeginEnd}
use Rattle.store_model.specs.declared.ends.BeginEnd.TheVariants as begins
use Rattle.store_model.specs.declared.ends.CheckEnd.{CheckEnd}
use Rattle.store_model.specs.declared.ends.CheckEnd.TheVariants as checks
use Rattle.store_model.specs.declared.ends.CopyEnd.{CopyEnd}
use Rattle.store_model.specs.declared.ends.CopyEnd.TheVariants as copies
use Rattle.store_model.specs.declared.ends.ReadEnd.{ReadEnd}
use Rattle.store_model.specs.declared.ends.ReadEnd.TheVariants as reads
use Rattle.store_model.specs.declared.ends.RetainEnd.{RetainEnd}
use Rattle.store_model.specs.declared.ends.RetainEnd.TheVariants as retains
use Rattle.store_model.specs.declared.events.Act.{Act}
use Rattle.store_model.specs.declared.events.Act.TheVariants as acts
use Rattle.store_model.specs.declared.events.Event.{Event}

-- ---- ends by which no read failed and no bytes had another root

abbrev pub begins_in_memory : BeginEnd → Bool
begins_in_memory begins.DiskRead = false
begins_in_memory (begins.Rotten root got) = false
begins_in_memory end = true

abbrev pub reads_in_memory : ReadEnd → Bool
reads_in_memory reads.DiskRead = false
reads_in_memory (reads.Rotten root got) = false
reads_in_memory end = true

abbrev pub checks_in_memory : CheckEnd → Bool
checks_in_memory checks.DiskRead = false
checks_in_memory (checks.Rotten root got) = false
checks_in_memory end = true

abbrev pub retains_in_memory : RetainEnd → Bool
retains_in_memory retains.DiskRead = false
retains_in_memory (retains.Rotten root got) = false
retains_in_memory end = true

abbrev pub ends_in_memory : CopyEnd → Bool
ends_in_memory copies.DiskRead = false
ends_in_memory end = true

abbrev pub copies_in_memory : Option CopyEnd → Bool
copies_in_memory None = true
copies_in_memory (Some end) = ends_in_memory end

abbrev pub activates_in_memory : ActivateEnd → Bool
activates_in_memory activations.DiskRead = false
activates_in_memory (activations.Rotten root got) = false
activates_in_memory end = true

-- ---- events

-- the answer is none of these, and the call wasn't refused for a write that had failed
abbrev pub acts_in_memory : Act → Bool
acts_in_memory (acts.Begin path choice reply seen) = begins_in_memory reply
acts_in_memory (acts.Read dir file reply) = reads_in_memory reply
acts_in_memory (acts.Check dir file reply) = checks_in_memory reply
acts_in_memory (acts.Retain roots reply seen) = retains_in_memory reply
acts_in_memory (acts.Copy image dir file reply) = copies_in_memory reply
acts_in_memory (acts.Activate reply seen) = activates_in_memory reply
acts_in_memory (acts.Refused call broken) = false
acts_in_memory act = true

-- no write failed in the event, and its answer is none of a disk
abbrev pub is_of_memory : Event → Bool
is_of_memory e = not e.broke && acts_in_memory e.act

abbrev pub IsOfMemory : Event → Type 0
IsOfMemory e = is_of_memory e ≡ true

-- none of the events tells of a disk
abbrev pub AreOfMemory : List Event → Type 0
AreOfMemory history = All IsOfMemory history

-- the event is such a one, and tells of no disk
pub record InMemory (IsIts : ℕ → Event → Type 0) (number : ℕ) (e : Event) : Type 0 where
  pub its : IsIts number e
  pub steady : IsOfMemory e
