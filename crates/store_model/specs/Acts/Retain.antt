-- These packages, and no others, are retained from now on.
use Rattle.std.specs.Prelude.{◌≡◌, true, false, List, Contains}
use Rattle.pkg_names.specs.declared.root.Root.{Root}
use Rattle.pkg_names.specs.Root.{root_eq}
use Rattle.package_indexes.specs.Sets.{each_once}
use Rattle.store_model.specs.declared.ends.RetainEnd.{RetainEnd}
use Rattle.store_model.specs.declared.ends.RetainEnd.TheVariants.{Done, SlotInUse, DiskRead, Rotten}
use Rattle.store_model.specs.State.{State, is_other_bootable}
use Rattle.store_model.specs.Acts.Begin.{has_to_read}

-- one of the packages has to be read
pub record IsReadOf (s : State) (roots : List Root) (root : Root) : Type 0 where
  pub given : Contains roots root
  pub read : has_to_read s root ≡ true

-- no other slot can be booted
abbrev pub IsFree : State → Type 0
IsFree s = is_other_bootable s.abr s.running ≡ false

abbrev pub IsDueRetain : State → List Root → RetainEnd → Type 0
IsDueRetain s roots SlotInUse = is_other_bootable s.abr s.running ≡ true
IsDueRetain s roots DiskRead = IsFree s × ((root : Root) × IsReadOf s roots root)
IsDueRetain s roots (Rotten root got) = IsFree s × IsReadOf s roots root × (root_eq root got ≡ false)
IsDueRetain s roots Done = IsFree s

abbrev pub retained_after : List Root → List Root → RetainEnd → List Root
retained_after retained roots Done = each_once roots
retained_after retained roots reply = retained

abbrev pub next_retain : State → List Root → RetainEnd → State
next_retain s roots reply = record s { retained = retained_after s.retained roots reply }
