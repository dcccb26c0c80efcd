-- One row more is judged: an entry comes from it, or it is the first bad one.
use Rattle.std.proofs.Common.{◌≡◌, ℕ, ◌<◌, ◌≤◌, Bool, true, false, List, [], ◌∷◌, ◌++◌, length, get_or, sym, ◌∙◌, ap, subst, arith, None}
use Rattle.std.proofs.lemmas.List.{get_or_default}
use Rattle.image_layout.specs.declared.geometry.Geometry.{Geometry}
use Rattle.node_table.specs.declared.entry.Entry.{Entry}
use Rattle.node_table.specs.declared.rows.Row.{Row}
use Rattle.node_table.specs.Entries.{IsEntry}
use Rattle.node_table.specs.Spelling.{row_of, unused_row, Lists, IsFirstBad}
use Rattle.node_table.specs.Steps.{AreSheets, LaysOut, IsReadFrom, Flags, row_from, link_from, place_from}
use Rattle.node_table.proofs.Listing.{Comes, lists_push, none_longer}
use Rattle.node_table.proofs.IndexLemmas.{place_none, none_place}

-- a row where a list needs some row
abbrev pub no_row : Row
no_row = record { root = record { 0 = [] }; len = 0; first = 0; used = false }

module _ (g : Geometry) (rows : List Row) (links : List ℕ) (flags : List Bool) (entries : List Entry) (i : ℕ) (d : Row) (sheets : AreSheets g rows links) (size : length links ≡ length flags) (count : length entries ≡ i) (lt : i < length rows) (listed : Lists g (row_from rows) (link_from links) entries) (set : Flags flags entries) where
  abbrev pub row : Row
  row = get_or rows i d

  at : row_from rows (length entries) ≡ row
  at = ap (row_from rows) count ∙ get_or_default rows i unused_row d lt

  room : length entries < g.blobs
  room = omega (arith, count, lt, sheets.row_count)

  pub comes : (entry : Entry) → IsReadFrom row (link_from links) flags entry → place_from 0 entries entry.root ≡ None → Comes g (link_from links) entries entry
  comes entry read fresh = record {
    entry = subst (λ (n : ℕ). IsEntry n entry) {x = length flags} {y = g.data_pages} (omega (arith, size, sheets.link_count)) read.entry;
    chain = read.chain;
    fresh = none_place 0 entries entry.root fresh;
    free = λ k d below chained. read.free k d below ((set (get_or entry.pages k d)).1 chained);
  }

  from_comes : (entry : Entry) → row_from rows (length entries) ≡ row_of entry → Comes g (link_from links) entries entry → IsReadFrom row (link_from links) flags entry
  from_comes entry same c = record {
    row = sym at ∙ same;
    entry = subst (λ (n : ℕ). IsEntry n entry) {x = g.data_pages} {y = length flags} (omega (arith, size, sheets.link_count)) c.entry;
    chain = c.chain;
    free = λ k d below taken. c.free k d below ((set (get_or entry.pages k d)).0 taken);
  }

  pub listed_more : (entry : Entry) → IsReadFrom row (link_from links) flags entry → place_from 0 entries entry.root ≡ None → Lists g (row_from rows) (link_from links) (entries ++ entry ∷ [])
  listed_more entry read fresh = lists_push g (row_from rows) (link_from links) entries entry listed room (at ∙ read.row) (comes entry read fresh)

  bad_row : row.used ≡ true → ((entry : Entry) → row_from rows (length entries) ≡ row_of entry → Comes g (link_from links) entries entry → ⊥) → IsFirstBad g (row_from rows) (link_from links) i
  bad_row used none = record {
    within = omega (arith, lt, sheets.row_count);
    used = ap (λ (n : ℕ). (row_from rows n).used) (sym count) ∙ ap (λ (r : Row). r.used) at ∙ used;
    before = (entries, count, listed);
    bad = λ longer long more. none_longer g (row_from rows) (link_from links) entries listed none longer (omega (arith, long, count)) more;
  }

  -- no entry can be read from the row
  pub bad_unread : row.used ≡ true → ((entry : Entry) → IsReadFrom row (link_from links) flags entry → ⊥) → IsFirstBad g (row_from rows) (link_from links) i
  bad_unread used none = bad_row used (λ entry same c. none entry (from_comes entry same c))

  -- its root stands before
  pub bad_twice : row.used ≡ true → (entry : Entry) → row ≡ row_of entry → (place_from 0 entries entry.root ≡ None → ⊥) → IsFirstBad g (row_from rows) (link_from links) i
  bad_twice used entry read there = bad_row used (λ other same c.
      let root : other.root ≡ entry.root = ap (λ (r : Row). r.root) (sym same ∙ at ∙ read) in
      there (ap (place_from 0 entries) (sym root) ∙ place_none 0 entries other.root c.fresh))

  -- the row isn't used
  pub ends_here : row.used ≡ false → LaysOut g rows links entries
  ends_here unused = record {
    listed = listed;
    ends = λ _. ap (λ (r : Row). r.used) at ∙ unused;
  }

pub ends_full : (g : Geometry) (rows : List Row) (links : List ℕ) (entries : List Entry) → AreSheets g rows links → Lists g (row_from rows) (link_from links) entries → length rows ≤ length entries → LaysOut g rows links entries
ends_full g rows links entries sheets listed full = record { listed = listed; ends = λ lt. absurd (omega (arith, lt, full, sheets.row_count)) }
