use Rattle.std.proofs.Common.{◌≡◌, ℕ, ◌<◌, ◌^◌, length, Option, Some, None, sym, arith}
use Rattle.std.specs.Prelude.{IfNone, List}
use Rattle.far_archive.specs.declared.fault.FarFault.{FarFault}
use Rattle.far_archive.specs.Fields.{AreBytes, files}
use Rattle.far_archive.specs.Faults.{first_fault}
use Rattle.far_archive.specs.Archive.{IsArchive}
use Rattle.far_archive.proofs.Decided.{FilesAreTested}
use Rattle.far_archive.proofs.Law.{stands}
use Rattle.far_archive.proofs.judging.first_fault.Goals as goal

when_none : FilesAreTested → (text : List ℕ) (r : Option FarFault) → AreBytes text → length text < 2 ^ 64 → r ≡ first_fault text → IfNone r (IsArchive text (files text))
when_none tested text None fits short e = stands tested text fits short (sym e)
when_none tested text (Some f) fits short e = tt

pub returns-clause-stands : goal.returns-clause-stands
returns-clause-stands c = when_none c.files_are_tested.ensures c.args.bytes.now c.fault_of.result (λ i. omega (arith, c.type_inv.bytes i)) (omega arith) c.fault_of.ensures.value
