-- The two lists of a pool that keeps a list of its free pages.
use Rattle.std.specs.Prelude.{ℕ, ◌≡◌, ◌^◌, ◌<◌, ◌≤◌, List, length, Bool, Vec, vec_len, vec_capacity}
use Rattle.std.specs.List.{All}
use Rattle.std.specs.declared.alloc.Global.{Global}
use Rattle.page_pool.specs.Flags.{IsFree, free_count, AreDistinct}

-- the list has each free page once
pub record IsFreeList (free : List ℕ) (flags : List Bool) : Type 0 where
  pub each : All (IsFree flags) free
  pub apart : AreDistinct free
  pub count : length free ≡ free_count flags

-- the free pages stand in a list that has room for all pages
pub record HasFreeList (free : Vec ℕ Global) (taken : Vec Bool Global) : Type 0 where
  pub list : IsFreeList free.items taken.items
  pub small : vec_len taken < 2 ^ 32
  pub room : vec_len taken ≤ vec_capacity free
