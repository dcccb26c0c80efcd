-- The pages of entries that go.
use Rattle.std.specs.Prelude.{ℕ, List, filter}
use Rattle.std.specs.List.{flat_map}
use Rattle.pkg_names.specs.declared.root.Root.{Root}
use Rattle.node_table.specs.declared.entry.Entry.{Entry}
use Rattle.node_table.specs.Entries.{is_among}

-- the pages of the entries with these roots
abbrev pub gone_pages : List Root → List Entry → List ℕ
gone_pages roots entries =
    flat_map (λ (entry : Entry). entry.pages) (filter (λ (entry : Entry). is_among roots entry.root) entries)
