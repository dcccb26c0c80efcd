-- What a boot makes of the state.
use Rattle.std.specs.Prelude.{true, List, []}
use Rattle.abr_record.specs.Boot.{boot_slot, boot_record}
use Rattle.pkg_names.specs.declared.pinned.Pinned.{Pinned}
use Rattle.store_model.specs.State.{State}

-- the slot that the record chooses runs, with these packages; nothing is active, retained, claimed or arriving
abbrev pub booted_with : State → List Pinned → List Pinned → State
booted_with s base cached = record s {
  booted = true;
  claims = [];
  arriving = [];
  base = base;
  cached = cached;
  active = [];
  retained = [];
  abr = boot_record s.abr;
  running = boot_slot s.abr;
}
