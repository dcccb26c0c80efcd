use Rattle.std.proofs.Common.{refl}
use Rattle.abr_record.specs.Boot.{boot_slot}
use Rattle.boot_core.proofs.SlotLemmas.{boots_whole}
use Rattle.boot_core.proofs.laws.booted_slots_are_whole.Goals as goal

pub returns : goal.returns
returns c = λ slots all image is. boots_whole slots all image (boot_slot slots.boot) is refl
