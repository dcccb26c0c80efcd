-- What the boot of the start finds.
use Rattle.std.specs.Prelude.{List, [], ◌∷◌}
use Rattle.pkg_merkle.specs.Merkle.{merkle_root}
use Rattle.system_lists.specs.Judging.{Verdict, system_path}
use Rattle.system_lists.specs.Judging.Verdict.{Whole}
use Rattle.store_model.specs.declared.events.LookedAt.{LookedAt}
use Rattle.first_store.specs.Start.{system_meta}

-- the two blobs
abbrev pub start_blobs : List LookedAt
start_blobs =
    record { root = merkle_root system_meta; bytes = system_meta } ∷ record { root = merkle_root []; bytes = [] } ∷ []

-- a base of the system package alone, and nothing cached
abbrev pub whole_start : Verdict
whole_start = Whole (record { path = system_path; root = merkle_root system_meta } ∷ []) []
