-- Rows and links as they are laid out.
use Rattle.std.proofs.Common.{◌≡◌, ◌≢◌, ℕ, ◌+◌, ◌<◌, ◌≤◌, not, List, [], ◌∷◌, ◌++◌, length, take, set, get_or, replicate, All, AllPairs, Contains, sym, refl, ◌∙◌, ap, subst, inl, inr, arith, Option, Some, None}
use Rattle.std.specs.Option.{ForSome}
use Rattle.std.proofs.lemmas.Bool.{cases_lt, cases_eq}
use Rattle.std.proofs.lemmas.List.{length-take-le, take_more, get_or-take, get_or_default, get_or-set_same, get_or-set_other, get_or_append_left, get_or_push, length_push, get_or-replicate, get_or_past, length-replicate}
use Rattle.std.proofs.lemmas.List.Elements.{filter-append, All-weaker, All-push, All-filter, Contains-get_or}
use Rattle.std.proofs.lemmas.List.Kept.{AllPairs-filter}
use Rattle.std.proofs.lemmas.List.Filters.{length-filter_both}
use Rattle.image_layout.specs.declared.geometry.Geometry.{Geometry}
use Rattle.pkg_names.specs.declared.root.Root.{Root}
use Rattle.node_table.specs.declared.entry.Entry.{Entry}
use Rattle.node_table.specs.declared.entry.TheConstants.{CHAIN_END}
use Rattle.node_table.specs.declared.rows.Row.{Row}
use Rattle.node_table.specs.Entries.{IsEntry, AreApart, MayStandTogether, AreSound, MayCome, is_among, without, with_added}
use Rattle.node_table.specs.Spelling.{row_of, unused_row, IsChain}
use Rattle.node_table.specs.Steps.{row_from, link_from, LaidOut, LaysOut}
use Rattle.node_table.proofs.Listing.{sound_push, stands_last}

-- a chain stays where the links of its pages do
pub chain_stays : (old new : List ℕ) (pages : List ℕ) → ((k : ℕ) → k < length pages → link_from new (get_or pages k 0) ≡ link_from old (get_or pages k 0)) → IsChain (link_from old) pages → IsChain (link_from new) pages
chain_stays old new pages same chain k lt = same k lt ∙ chain k lt

-- one link more of a chain is set
module _ (pages links : List ℕ) (k next : ℕ) (lt : k < length pages) (below : All (λ p. p < length links) pages) (distinct : AllPairs (λ a b. a ≢ b) pages) where
  pub link_set : next ≡ get_or pages (k + 1) CHAIN_END → ((j : ℕ) → j < k → link_from links (get_or pages j 0) ≡ get_or pages (j + 1) CHAIN_END) → (j : ℕ) → j < k + 1 → link_from (set links (get_or pages k 0) next) (get_or pages j 0) ≡ get_or pages (j + 1) CHAIN_END
  link_set is before j bound = elim (cases_eq j k) [
    | inl e ↦ ap (λ (i : ℕ). get_or (set links (get_or pages k 0) next) (get_or pages i 0) 0) e ∙ get_or-set_same links (get_or pages k 0) next 0 (below k 0 lt) ∙ is ∙ ap (λ (i : ℕ). get_or pages (i + 1) CHAIN_END) (sym e)
    | inr ne ↦ let low : j < k = omega (arith, ne, bound) in
        get_or-set_other links (get_or pages k 0) (get_or pages j 0) next 0 (distinct j k 0 low lt) ∙ before j low
  ]

  pub others_set : (first : List ℕ) → ((page : ℕ) → ((j : ℕ) → j < k → get_or pages j 0 ≢ page) → link_from links page ≡ link_from first page) → (page : ℕ) → ((j : ℕ) → j < k + 1 → get_or pages j 0 ≢ page) → link_from (set links (get_or pages k 0) next) page ≡ link_from first page
  others_set first before page none =
      get_or-set_other links (get_or pages k 0) page next 0 (λ e. none k (omega arith) (sym e)) ∙ before page (λ j low. none j (omega (arith, low)))

-- nothing is laid out yet
row_unused : (n i : ℕ) → row_from (replicate n unused_row) i ≡ unused_row
row_unused n i = elim (cases_lt i n) [
  | inl lt ↦ get_or-replicate n i unused_row unused_row lt
  | inr past ↦ get_or_past (replicate n unused_row) i unused_row (omega (arith, past, length-replicate n unused_row))
]

pub laid_none : (rows : List Row) (links : List ℕ) (n : ℕ) → rows ≡ replicate n unused_row → LaidOut rows links []
laid_none rows links n is = record {
  rows = λ i d lt. absurd (omega (arith, lt));
  rest = λ i _. ap (λ (l : List Row). row_from l i) is ∙ row_unused n i;
  chains = λ k d lt. absurd (omega (arith, lt));
}

-- one entry more
pub laid_more : (rows next : List Row) (links more : List ℕ) (kept : List Entry) (entry : Entry) → LaidOut rows links kept → length kept < length rows → next ≡ set rows (length kept) (row_of entry) → IsChain (link_from more) entry.pages → ((page : ℕ) → (Contains entry.pages page → ⊥) → link_from more page ≡ link_from links page) → All (λ other. AreApart other.pages entry.pages) kept → LaidOut next more (kept ++ entry ∷ [])
laid_more rows next links more kept entry laid room is chain others apart =
    let n = length kept in
    let other = λ (i : ℕ) (ne : i ≢ n). ap (λ (l : List Row). row_from l i) is ∙ get_or-set_other rows n i (row_of entry) unused_row ne in
    record {
      rows = λ i d lt. elim (cases_lt i n) [
        | inl below ↦ other i (λ e. omega (arith, e, below)) ∙ laid.rows i d below ∙ ap row_of (sym (get_or_append_left kept (entry ∷ []) d i below))
        | inr past ↦
            let here : i ≡ n = omega (arith, past, lt, length_push kept entry) in
            ap (λ (l : List Row). row_from l i) is ∙ ap (row_from (set rows n (row_of entry))) here ∙ get_or-set_same rows n (row_of entry) unused_row room
            ∙ ap row_of (sym (get_or_push kept entry d i (sym here)))
      ];
      rest = λ i past. other i (λ e. omega (arith, e, past, length_push kept entry)) ∙ laid.rest i (omega (arith, past, length_push kept entry));
      chains = All-push (λ e. IsChain (link_from more) e.pages) kept entry
          (λ k d lt. let e = get_or kept k d in
          chain_stays links more e.pages (λ j below. others (get_or e.pages j 0) (λ has. apart k d lt (get_or e.pages j 0) (Contains-get_or e.pages j 0 below) has)) (laid.chains k d lt))
          chain;
    }

-- no more stay than there are
pub stays_short : (gone : List Root) (entries : List Entry) → length (without gone entries) ≤ length entries
stays_short gone entries =
    omega (arith, length-filter_both (λ entry. not (is_among gone entry.root)) (λ entry. not (not (is_among gone entry.root))) (λ entry. refl) entries)

-- what stays lies apart from what comes
pub kept_apart : (gone : List Root) (entries : List Entry) (entry : Entry) → All (λ other. MayStandTogether other entry) entries → All (λ other. AreApart other.pages entry.pages) (without gone entries)
kept_apart gone entries entry together =
    All-weaker (λ other. MayStandTogether other entry) (λ other. AreApart other.pages entry.pages) (λ other t. t.chains) (without gone entries)
    (All-filter (λ other. not (is_among gone other.root)) (λ other. MayStandTogether other entry) entries together)

-- of the first entries that stay, one more
pub without_more : (gone : List Root) (entries : List Entry) (i : ℕ) (entry : Entry) → i < length entries → entry ≡ get_or entries i entry → without gone (take (i + 1) entries) ≡ without gone (take i entries) ++ without gone (entry ∷ [])
without_more gone entries i entry lt is =
    let keep = λ (e : Entry). not (is_among gone e.root) in
    ap (without gone) (take_more entries i entry lt ∙ ap (λ (e : Entry). take i entries ++ e ∷ []) (sym is)) ∙ filter-append keep (take i entries) (entry ∷ [])

pub front_apart : (gone : List Root) (entries : List Entry) (i : ℕ) (entry : Entry) → i < length entries → entry ≡ get_or entries i entry → AllPairs MayStandTogether entries → All (λ other. AreApart other.pages entry.pages) (without gone (take i entries))
front_apart gone entries i entry lt is together =
    kept_apart gone (take i entries) entry
    (λ k d below. let low : k < i = omega (arith, below, length-take-le i entries (omega (arith, lt))) in
    subst (λ (e : Entry). MayStandTogether (get_or (take i entries) k d) e) (get_or_default entries i d entry lt ∙ sym is)
    (subst (λ (e : Entry). MayStandTogether e (get_or entries i d)) (sym (get_or-take i entries k d low)) (together k i d low lt)))

-- Rows and links that are laid out for sound entries are those of a table.
pub lays_out : (g : Geometry) (rows : List Row) (links : List ℕ) (entries : List Entry) → LaidOut rows links entries → AreSound g entries → LaysOut g rows links entries
lays_out g rows links entries laid sound = record {
  listed = record { rows = laid.rows; chains = laid.chains; sound = sound };
  ends = λ lt. ap (λ (r : Row). r.used) (laid.rest (length entries) (omega arith));
}

-- What stays is sound, and so it is with what comes.
pub sound_without : (g : Geometry) (gone : List Root) (entries : List Entry) → AreSound g entries → AreSound g (without gone entries)
sound_without g gone entries sound = record {
  room = omega (arith, stays_short gone entries, sound.room);
  each = All-filter (λ entry. not (is_among gone entry.root)) (IsEntry g.data_pages) entries sound.each;
  together = AllPairs-filter MayStandTogether (λ entry. not (is_among gone entry.root)) entries sound.together;
}

pub sound_committed : (g : Geometry) (gone : List Root) (entries : List Entry) (add : Option Entry) → AreSound g entries → ForSome add (MayCome g entries) → length (with_added add (without gone entries)) ≤ g.blobs → AreSound g (with_added add (without gone entries))
sound_committed g gone entries None sound may room = sound_without g gone entries sound
sound_committed g gone entries (Some entry) sound may room =
    let keep = λ (e : Entry). not (is_among gone e.root) in
    let kept = without gone entries in
    let comes = stands_last entries entry (may entry refl).fresh (may entry refl).free in
    let all : All (λ e. MayStandTogether e entry) kept = All-filter keep (λ e. MayStandTogether e entry) entries comes in
    sound_push g kept entry (sound_without g gone entries sound) (omega (arith, room, length_push kept entry)) (may entry refl).entry all
