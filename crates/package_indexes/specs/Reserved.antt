-- What a value keeps beside its lists: the active packages have a place for each that arrives.
use Rattle.std.specs.Prelude.{◌+◌, ◌≤◌, List, length, Vec, vec_len, vec_capacity}
use Rattle.std.specs.declared.alloc.Global.{Global}
use Rattle.pkg_names.specs.declared.pinned.Pinned.{Pinned}
use Rattle.package_indexes.specs.declared.Arriving.{Arriving}
use Rattle.package_indexes.specs.Sets.{AreDistinct}

pub record IsReserved (active : Vec Pinned Global) (arriving : List Arriving) : Type 0 where
  pub tickets : AreDistinct arriving
  pub room : vec_len active + length arriving ≤ vec_capacity active
