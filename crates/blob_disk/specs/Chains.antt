-- The chains of entries.
use Rattle.std.specs.Prelude.{ℕ, List, [], unwrap_or}
use Rattle.std.specs.Option.{option_map}
use Rattle.std.specs.List.{remove, position_or_len}
use Rattle.pkg_names.specs.Root.{root_eq}
use Rattle.pkg_names.specs.declared.root.Root.{Root}
use Rattle.node_table.specs.declared.entry.Entry.{Entry}
use Rattle.node_table.specs.Entries.{entry_of}

-- the chain of the entry of this root; none where there is no such entry
abbrev pub chain_of : List Entry → Root → List ℕ
chain_of drafts root = unwrap_or (option_map (λ (entry : Entry). entry.pages) (entry_of drafts root)) []

-- the place of the first entry of this root
abbrev pub draft_place : Root → List Entry → ℕ
draft_place root drafts = position_or_len (λ (entry : Entry). root_eq root entry.root) drafts

-- the drafts without that entry
abbrev pub without_draft : Root → List Entry → List Entry
without_draft root drafts = remove drafts (draft_place root drafts)

-- the entry without its pages
abbrev pub without_pages : Entry → Entry
without_pages entry = record entry { pages = [] }
