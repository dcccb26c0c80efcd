-- What is wrong with a text that is no document is never want of memory.
use Rattle.std.proofs.Common.{◌≡◌, ℕ, List, Bool, true, false, cond, Option, Some, None, Err, ap}
use Rattle.serde_json.specs.Find.{as_object}
use Rattle.serde_json.specs.Data.{Data, Members}
use Rattle.system_lists.specs.declared.document.DocumentFault.{DocumentFault}
use Rattle.system_lists.specs.declared.document.DocumentFault.TheVariants.{Version, NoMemory}
use Rattle.system_lists.specs.Document.{value_in, fault_of, judged, document_of, document_in}

either_other : (test : Bool) → cond test None (Some Version) ≡ Some NoMemory → ⊥
either_other true e = cc
either_other false e = cc

fault_other : (value : Data) (members : Option Members) → fault_of value members ≡ Some NoMemory → ⊥
fault_other value None e = cc
fault_other value (Some found) e = either_other _ e

judged_other : (value : Data) (fault : Option DocumentFault) → (fault ≡ Some NoMemory → ⊥) → judged value fault ≡ Err NoMemory → ⊥
judged_other value None other e = cc
judged_other value (Some fault) other e =
    let same : fault ≡ NoMemory = cc in
    other (ap (λ (f : DocumentFault). Some f) same)

document_other : (value : Option Data) → document_of value ≡ Err NoMemory → ⊥
document_other None e = cc
document_other (Some value) e = judged_other value (fault_of value (as_object value)) (fault_other value (as_object value)) e

pub never_starved : (text : List ℕ) → document_in text ≡ Err NoMemory → ⊥
never_starved text e = document_other (value_in text) e
