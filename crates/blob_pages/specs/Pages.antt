-- The pages that a blob is cut into.
use Rattle.std.specs.Prelude.{ℕ, ◌+◌, ◌-◌, ◌*◌, ◌/◌, ◌%◌, ◌==◌, List, ◌++◌, length, take, drop, replicate, Option, Some, None, if◌then◌else◌}
use Rattle.blob_pages.specs.declared.draft.TheConstants.{PAGE_SIZE}

-- these bytes, with zeros behind them up to a page
abbrev pub filled : List ℕ → List ℕ
filled bytes = bytes ++ replicate (PAGE_SIZE - length bytes) 0

-- page i of a blob: its next 4096 bytes, or those that are left, with zeros behind them
abbrev pub page_of : List ℕ → ℕ → List ℕ
page_of blob i = filled (take PAGE_SIZE (drop (PAGE_SIZE * i) blob))

-- how many pages of a blob of this length have a byte
abbrev pub page_count : ℕ → ℕ
page_count len = (len + 4095) / PAGE_SIZE

-- the page behind the full ones, where it has a byte
abbrev pub open_page : List ℕ → Option (List ℕ)
open_page blob = if length blob % PAGE_SIZE == 0 then None else Some (page_of blob (length blob / PAGE_SIZE))

-- the page that bytes begin; no bytes begin none
abbrev pub begun_page : List ℕ → Option (List ℕ)
begun_page bytes = if length bytes == 0 then None else Some (filled bytes)
