-- Which pages are taken: those of the chains of the entries, and no others.
use Rattle.std.specs.Prelude.{ℕ, ◌≡◌, ◌+◌, ◌↔◌, Bool, List, length}
use Rattle.std.specs.List.{sum_by}
use Rattle.node_table.specs.declared.entry.Entry.{Entry}
use Rattle.node_table.specs.Entries.{IsChained}
use Rattle.page_pool.specs.Flags.{IsTaken, free_count}

-- how many pages entries have
abbrev pub page_sum : List Entry → ℕ
page_sum entries = sum_by (λ (entry : Entry). length entry.pages) entries

-- just the pages of the chains are taken, of this number of pages
pub record IsPooled (entries : List Entry) (flags : List Bool) (count : ℕ) : Type 0 where
  pub size : length flags ≡ count
  pub taken : (page : ℕ) → IsTaken flags page ↔ IsChained entries page
  pub free : free_count flags + page_sum entries ≡ count
