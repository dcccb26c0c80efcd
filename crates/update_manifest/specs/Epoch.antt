-- The epoch in a text, or its first fault.
use Rattle.std.specs.Prelude.{ℕ, List, codes, Option, Some, None, option_and_then, Result, Ok, Err}
use Rattle.serde_json.specs.Data.{Data}
use Rattle.serde_json.specs.Find.{get, as_number, as_u64}
use Rattle.system_lists.specs.declared.document.DocumentFault.{DocumentFault}
use Rattle.system_lists.specs.declared.fault.ManifestFault.{ManifestFault}
use Rattle.system_lists.specs.declared.fault.ManifestFault.TheVariants.{Json}
use Rattle.system_lists.specs.Document.{document_in}
use Rattle.system_lists.specs.Faults.{manifest_fault}

abbrev pub epoch_of : Option ℕ → Result ℕ ManifestFault
epoch_of None = Err Json
epoch_of (Some epoch) = Ok epoch

-- a whole number below 2^64
abbrev pub epoch_document : Result Data DocumentFault → Result ℕ ManifestFault
epoch_document (Ok value) = epoch_of (option_and_then as_u64 (option_and_then as_number (get (codes "epoch") value)))
epoch_document (Err fault) = Err (manifest_fault fault)

-- the epoch in a text, or its first fault
abbrev pub epoch_in : List ℕ → Result ℕ ManifestFault
epoch_in text = epoch_document (document_in text)
