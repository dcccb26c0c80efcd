-- A store in memory that can be looked into.
use Rattle.std.specs.Prelude.{ℕ, List, []}
use Rattle.boot_core.specs.declared.looking.SeenBlob.{SeenBlob}

-- its blobs, the numbers of the reads that fail, and how many reads and failures there were
pub record StoreInMemory : Type 0 where
  pub blobs : List SeenBlob
  pub failing : List ℕ
  pub reads : ℕ
  pub faults : ℕ

abbrev pub new_store : List ℕ → StoreInMemory
new_store failing = record { blobs = []; failing = failing; reads = 0; faults = 0 }
