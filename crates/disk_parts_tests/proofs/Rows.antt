-- Pages in a row are those of an entry that may come.
use Rattle.std.proofs.Common.{◌≡◌, ◌≢◌, ℕ, ◌+◌, ◌<◌, ◌≤◌, List, [], ◌∷◌, ◌++◌, All, length, get_or, sym, refl, ◌∙◌, ap, arith}
use Rattle.std.specs.List.{range_with_len}
use Rattle.std.proofs.lemmas.List.{map-id}
use Rattle.std.proofs.lemmas.List.FromFn.{length-range_with_len, get_or-range_with_len, map-range_with_len_more}
use Rattle.pkg_names.specs.declared.root.Root.{Root}
use Rattle.image_layout.specs.declared.geometry.Geometry.{Geometry}
use Rattle.node_table.specs.declared.entry.Entry.{Entry}
use Rattle.node_table.specs.declared.entry.TheConstants.{BLOB_LIMIT}
use Rattle.node_table.specs.Entries.{pages_for, IsChained, MayCome}

pub row_more : (first n : ℕ) → range_with_len first (n + 1) ≡ range_with_len first n ++ (first + n) ∷ []
row_more first n =
    sym (map-id (range_with_len first (n + 1))) ∙ map-range_with_len_more (λ k. k) first n (first + n) refl
    ∙ ap (λ (l : List ℕ). l ++ (first + n) ∷ []) (map-id (range_with_len first n))

pub may_come : (g : Geometry) (entries : List Entry) (root : Root) (len first : ℕ) (pages : List ℕ) → pages ≡ range_with_len first (pages_for len) → len ≤ BLOB_LIMIT → first + pages_for len ≤ g.data_pages → All (λ other. other.root ≢ root) entries → All (λ page. IsChained entries page → ⊥) pages → MayCome g entries (record { root = root; len = len; pages = pages })
may_come g entries root len first pages is limit room fresh free =
    let n = pages_for len in
    let count : length pages ≡ n = ap length is ∙ length-range_with_len first n in
    let at = λ (k d : ℕ) (lt : k < length pages). ap (λ (l : List ℕ). get_or l k d) is ∙ get_or-range_with_len first n k d (omega (arith, lt, count)) in
    record {
      entry = record {
        limit = limit;
        count = count;
        below = λ k d lt. omega (arith, at k d lt, lt, count, room);
        distinct = λ i j d before lt e. omega (arith, at i d (omega (arith, before, lt)), at j d lt, e, before);
      };
      fresh = fresh;
      free = free;
    }
