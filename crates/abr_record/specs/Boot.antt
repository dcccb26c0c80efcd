-- Which slot a boot record boots, and the record after it.
use Rattle.std.specs.Prelude.{◌-◌, ◌==◌, ◌&&◌, ◌||◌, nat_le, nat_lt, not, Bool, true, false, if◌then◌else◌}
use Rattle.abr_record.specs.declared.Slot.{Slot}
use Rattle.abr_record.specs.declared.Slot.TheVariants.{A, B, R}
use Rattle.abr_record.specs.declared.SlotRecord.{SlotRecord}
use Rattle.abr_record.specs.declared.Record.{Record}

-- a slot can be booted: it has a priority, and has succeeded or has a try left
abbrev pub is_bootable : SlotRecord → Bool
is_bootable slot = nat_lt 0 slot.priority && (slot.successful || nat_lt 0 slot.tries)

-- A goes first: B can't be booted, or A's priority is no lower
abbrev pub is_a_first : Record → Bool
is_a_first r = is_bootable r.a && (not (is_bootable r.b) || nat_le r.b.priority r.a.priority)

-- the slot that boots: R where recovery is asked for once or neither can be booted, else the one of higher
-- priority, A on a tie
abbrev pub boot_slot : Record → Slot
boot_slot r = if not (r.one_shot == 0) then R else if is_a_first r then A else if is_bootable r.b then B else R

-- a slot that boots before it has succeeded loses a try
abbrev pub tried : SlotRecord → SlotRecord
tried slot = if slot.successful then slot else record slot { tries = slot.tries - 1 }

-- the record after the slot booted
abbrev pub after_slot : Slot → Record → Record
after_slot A r = record r { a = tried r.a }
after_slot B r = record r { b = tried r.b }
after_slot R r = record r { one_shot = 0 }

-- the record after a boot
abbrev pub boot_record : Record → Record
boot_record r = after_slot (boot_slot r) r

-- the record that a store begins with: A has succeeded, and B can't be booted
abbrev pub factory_record : Record
factory_record = record {
  a = record { priority = 15; tries = 0; successful = true };
  b = record { priority = 0; tries = 0; successful = false };
  one_shot = 0;
}
