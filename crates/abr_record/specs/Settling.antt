-- The slot that a record settles on, when it is booted again and again without a mark.
use Rattle.std.specs.Prelude.{ℕ, zero, suc, ◌≡◌, ◌≢◌, ◌<◌}
use Rattle.abr_record.specs.declared.Record.{Record}
use Rattle.abr_record.specs.declared.settling.Settled.{Settled}
use Rattle.abr_record.specs.Boot.{boot_slot, boot_record}

-- the record after so many boots
unfoldable pub record_after : ℕ → Record → Record
record_after zero r = r
record_after (suc n) r = boot_record (record_after n r)

-- after this number of boots, and no smaller one, a boot leaves the record as it is; then this slot boots
pub record SettlesOn (r : Record) (settled : Settled) : Type 0 where
  pub stays : boot_record (record_after settled.boots r) ≡ record_after settled.boots r
  pub least : (n : ℕ) → n < settled.boots → boot_record (record_after n r) ≢ record_after n r
  pub slot : settled.slot ≡ boot_slot (record_after settled.boots r)
