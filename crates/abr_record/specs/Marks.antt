-- The records that a store begins with or falls back to, and what each mark makes of a record.
use Rattle.std.specs.Prelude.{◌==◌, min, true, false, if◌then◌else◌}
use Rattle.abr_record.specs.declared.Slot.{Slot}
use Rattle.abr_record.specs.declared.Slot.TheVariants.{A, B, R}
use Rattle.abr_record.specs.declared.SlotRecord.{SlotRecord}
use Rattle.abr_record.specs.declared.Record.{Record}

-- a slot that was made active: the highest priority, and all tries
abbrev pub active_slot : SlotRecord
active_slot = record { priority = 15; tries = 7; successful = false }

-- a slot that can't be booted
abbrev pub unbootable_slot : SlotRecord
unbootable_slot = record { priority = 0; tries = 0; successful = false }

-- the other slot, once one is active: a priority of 15 or more becomes 14
abbrev pub lowered : SlotRecord → SlotRecord
lowered slot = record slot { priority = min slot.priority 14 }

-- a slot that was committed: it needs no tries, and keeps its priority, but a 0 becomes 15
abbrev pub committed_slot : SlotRecord → SlotRecord
committed_slot slot = record {
  priority = if slot.priority == 0 then 15 else slot.priority;
  tries = 0;
  successful = true;
}

-- one change of the slot that is named, A or B, and one of the other; all else stays
abbrev pub marked : (SlotRecord → SlotRecord) → (SlotRecord → SlotRecord) → Slot → Record → Record
marked this other A r = record r { a = this r.a; b = other r.b }
marked this other B r = record r { a = other r.a; b = this r.b }
marked this other R r = r

abbrev pub active_record : Slot → Record → Record
active_record slot r = marked (λ _. active_slot) lowered slot r

abbrev pub unbootable_record : Slot → Record → Record
unbootable_record slot r = marked (λ _. unbootable_slot) (λ other. other) slot r

abbrev pub committed_record : Slot → Record → Record
committed_record slot r = marked committed_slot (λ _. unbootable_slot) slot r

-- the record where none can be read: both slots may be tried, A first
abbrev pub initial_record : Record
initial_record = record {
  a = record { priority = 15; tries = 7; successful = false };
  b = record { priority = 14; tries = 7; successful = false };
  one_shot = 0;
}
