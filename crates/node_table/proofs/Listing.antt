-- The entries that rows and links list: there is one such list of each length, and how it grows.
use Rattle.std.proofs.Common.{◌≡◌, ◌≢◌, ℕ, zero, suc, ◌+◌, ◌<◌, ◌≤◌, List, [], ◌∷◌, ◌++◌, length, take, get_or, All, AllPairs, Contains, sym, ◌∙◌, ap, subst, inl, inr, arith, length-take-le}
use Rattle.std.proofs.lemmas.Bool.{cases_lt}
use Rattle.std.proofs.lemmas.List.{same_lists, get_or_default, get_or-take, get_or_append_left, get_or_push, length_push}
use Rattle.std.proofs.lemmas.List.Elements.{All-take, All-push, All-contains, Contains-get_or}
use Rattle.std.proofs.lemmas.List.Quantifiers.{all_pairs_push}
use Rattle.pkg_names.specs.declared.root.Root.{Root}
use Rattle.image_layout.specs.declared.geometry.Geometry.{Geometry}
use Rattle.node_table.specs.declared.entry.Entry.{Entry}
use Rattle.node_table.specs.declared.entry.TheConstants.{CHAIN_END}
use Rattle.node_table.specs.declared.rows.Row.{Row}
use Rattle.node_table.specs.Entries.{pages_for, IsEntry, MayStandTogether, AreSound, IsChained}
use Rattle.node_table.specs.Spelling.{row_of, IsChain, Lists, IsFirstBad}

-- an entry of no blob, where a list needs some entry
pub no_entry : Entry
no_entry = record { root = record { 0 = [] }; len = 0; pages = [] }

-- rows and links that agree where a table of this geometry has them list the same
pub lists_same : (g : Geometry) (row other : ℕ → Row) (link next : ℕ → ℕ) (entries : List Entry) → ((i : ℕ) → i < g.blobs → row i ≡ other i) → ((p : ℕ) → p < g.data_pages → link p ≡ next p) → Lists g row link entries → Lists g other next entries
lists_same g row other link next entries rows links l = record {
  rows = λ i d lt. sym (rows i (omega (arith, lt, l.sound.room))) ∙ l.rows i d lt;
  chains = λ k d lt j below. sym (links (get_or (get_or entries k d).pages j 0) ((l.sound.each k d lt).below j 0 below)) ∙ l.chains k d lt j below;
  sound = l.sound;
}

pub bad_same : (g : Geometry) (row other : ℕ → Row) (link next : ℕ → ℕ) (i : ℕ) → ((i : ℕ) → i < g.blobs → row i ≡ other i) → ((p : ℕ) → p < g.data_pages → link p ≡ next p) → IsFirstBad g row link i → IsFirstBad g other next i
bad_same g row other link next i rows links b = record {
  within = b.within;
  used = ap (λ (r : Row). r.used) (sym (rows i b.within)) ∙ b.used;
  before = (b.before.0, b.before.1, lists_same g row other link next b.before.0 rows links b.before.2);
  bad = λ entries long l. b.bad entries long (lists_same g other row next link entries (λ k lt. sym (rows k lt)) (λ p lt. sym (links p lt)) l);
}

-- One chain begins at a page.
chain_page : (link : ℕ → ℕ) (a b : List ℕ) → length a ≡ length b → get_or a 0 0 ≡ get_or b 0 0 → IsChain link a → IsChain link b → (k : ℕ) → k < length a → get_or a k 0 ≡ get_or b k 0
chain_page link a b same first x y zero lt = first
chain_page link a b same first x y (suc k) lt =
    let below : k < length a = omega arith in
    let here = chain_page link a b same first x y k below in
    let e : get_or a (k + 1) CHAIN_END ≡ get_or b (k + 1) CHAIN_END = sym (x k below) ∙ ap link here ∙ y k (omega (arith, same, below)) in
    let up : suc k ≡ k + 1 = omega arith in
    ap (λ (n : ℕ). get_or a n 0) up ∙ get_or_default a (k + 1) 0 CHAIN_END (omega (arith, lt)) ∙ e
    ∙ get_or_default b (k + 1) CHAIN_END 0 (omega (arith, lt, same)) ∙ ap (λ (n : ℕ). get_or b n 0) (sym up)

pub chain_one : (link : ℕ → ℕ) (a b : List ℕ) → length a ≡ length b → get_or a 0 0 ≡ get_or b 0 0 → IsChain link a → IsChain link b → a ≡ b
chain_one link a b same first x y =
    same_lists a b same (λ k d lt. get_or_default a k d 0 lt ∙ chain_page link a b same first x y k lt ∙ get_or_default b k 0 d (omega (arith, lt, same)))

entry_from : (x y : Entry) → x.root ≡ y.root → x.len ≡ y.len → x.pages ≡ y.pages → x ≡ y
entry_from x y root len pages =
    ap (λ (r : Root). let e : Entry = record { root = r; len = x.len; pages = x.pages } in e) root
    ∙ ap (λ (n : ℕ). let e : Entry = record { root = y.root; len = n; pages = x.pages } in e) len
    ∙ ap (λ (p : List ℕ). let e : Entry = record { root = y.root; len = y.len; pages = p } in e) pages

-- One entry has a row and a chain.
pub entry_one : (link : ℕ → ℕ) (count : ℕ) (x y : Entry) → row_of x ≡ row_of y → IsEntry count x → IsEntry count y → IsChain link x.pages → IsChain link y.pages → x ≡ y
entry_one link count x y same a b chain other =
    let len : x.len ≡ y.len = ap (λ (r : Row). r.len) same in
    entry_from x y (ap (λ (r : Row). r.root) same) len
    (chain_one link x.pages y.pages (a.count ∙ ap pages_for len ∙ sym b.count) (ap (λ (r : Row). r.first) same) chain other)

-- One list of a length is listed.
pub lists_one : (g : Geometry) (row : ℕ → Row) (link : ℕ → ℕ) (a b : List Entry) → Lists g row link a → Lists g row link b → length a ≡ length b → a ≡ b
lists_one g row link a b x y same =
    same_lists a b same (λ k d lt.
    let below : k < length b = omega (arith, lt, same) in
    entry_one link g.data_pages (get_or a k d) (get_or b k d) (sym (x.rows k d lt) ∙ y.rows k d below) (x.sound.each k d lt) (y.sound.each k d below) (x.chains k d lt) (y.chains k d below))

pub pairs_take : {X : Type 0} (R : X → X → Type 0) (n : ℕ) (xs : List X) → n ≤ length xs → AllPairs R xs → AllPairs R (take n xs)
pairs_take R n xs le h i j d before below =
    let lt : j < n = omega (arith, below, length-take-le n xs le) in
    rw (get_or-take n xs i d (omega (arith, lt, before)), get_or-take n xs j d lt) (h i j d before (omega (arith, lt, le)))

-- a front of a list that is listed
pub lists_take : (g : Geometry) (row : ℕ → Row) (link : ℕ → ℕ) (n : ℕ) (entries : List Entry) → n ≤ length entries → Lists g row link entries → Lists g row link (take n entries)
lists_take g row link n entries le l = record {
  rows = λ i d lt. let below : i < n = omega (arith, lt, length-take-le n entries le) in
      l.rows i d (omega (arith, below, le)) ∙ ap row_of (sym (get_or-take n entries i d below));
  chains = All-take (λ entry. IsChain link entry.pages) n entries l.chains;
  sound = record {
    room = omega (arith, length-take-le n entries le, le, l.sound.room);
    each = All-take (IsEntry g.data_pages) n entries l.sound.each;
    together = pairs_take MayStandTogether n entries le l.sound.together;
  };
}

-- an entry that may come behind these
pub record Comes (g : Geometry) (link : ℕ → ℕ) (entries : List Entry) (coming : Entry) : Type 0 where
  pub entry : IsEntry g.data_pages coming
  pub chain : IsChain link coming.pages
  pub fresh : All (λ other. other.root ≢ coming.root) entries
  pub free : All (λ page. IsChained entries page → ⊥) coming.pages

pub chained_at : (entries : List Entry) (k : ℕ) (d : Entry) (page : ℕ) → k < length entries → Contains (get_or entries k d).pages page → IsChained entries page
chained_at entries k d page lt has = (k, get_or entries k d, lt, get_or_default entries k (get_or entries k d) d lt, has)

pub stands_last : (entries : List Entry) (entry : Entry) → All (λ other. other.root ≢ entry.root) entries → All (λ page. IsChained entries page → ⊥) entry.pages → (k : ℕ) (d : Entry) → k < length entries → MayStandTogether (get_or entries k d) entry
stands_last entries entry fresh free k d lt = record {
  roots = fresh k d lt;
  chains = λ page one other. All-contains (λ page. IsChained entries page → ⊥) entry.pages page free other (chained_at entries k d page lt one);
}

pub sound_push : (g : Geometry) (entries : List Entry) (entry : Entry) → AreSound g entries → length entries < g.blobs → IsEntry g.data_pages entry → ((k : ℕ) (d : Entry) → k < length entries → MayStandTogether (get_or entries k d) entry) → AreSound g (entries ++ entry ∷ [])
sound_push g entries entry sound room is together = record {
  room = omega (arith, length_push entries entry, room);
  each = All-push (IsEntry g.data_pages) entries entry sound.each is;
  together = all_pairs_push MayStandTogether entries entry sound.together together;
}

pub lists_push : (g : Geometry) (row : ℕ → Row) (link : ℕ → ℕ) (entries : List Entry) (entry : Entry) → Lists g row link entries → length entries < g.blobs → row (length entries) ≡ row_of entry → Comes g link entries entry → Lists g row link (entries ++ entry ∷ [])
lists_push g row link entries entry l room is comes = record {
  rows = λ i d lt. elim (cases_lt i (length entries)) [
    | inl below ↦ l.rows i d below ∙ ap row_of (sym (get_or_append_left entries (entry ∷ []) d i below))
    | inr past ↦ let here : i ≡ length entries = omega (arith, past, lt, length_push entries entry) in
        ap row here ∙ is ∙ ap row_of (sym (get_or_push entries entry d i (sym here)))
  ];
  chains = All-push (λ entry. IsChain link entry.pages) entries entry l.chains comes.chain;
  sound = sound_push g entries entry l.sound room comes.entry (stands_last entries entry comes.fresh comes.free);
}

-- Where no entry can come from the next row, that row is the first bad one.
pub none_longer : (g : Geometry) (row : ℕ → Row) (link : ℕ → ℕ) (entries : List Entry) → Lists g row link entries → ((entry : Entry) → row (length entries) ≡ row_of entry → Comes g link entries entry → ⊥) → (longer : List Entry) → length longer ≡ length entries + 1 → Lists g row link longer → ⊥
none_longer g row link entries l none longer long more =
    let n = length entries in
    let front = lists_take g row link n longer (omega (arith, long)) more in
    let same : take n longer ≡ entries = lists_one g row link (take n longer) entries front l (length-take-le n longer (omega (arith, long))) in
    let last = get_or longer n no_entry in
    let within : n < length longer = omega (arith, long) in
    let at = λ (k : ℕ) (d : Entry) (lt : k < n). sym (get_or-take n longer k d lt) ∙ ap (λ (es : List Entry). get_or es k d) same in
    none last (more.rows n no_entry within) (record {
      entry = more.sound.each n no_entry within;
      chain = more.chains n no_entry within;
      fresh = λ k d lt. subst (λ (e : Entry). e.root ≢ last.root) (at k d lt)
          (let t = more.sound.together k n no_entry lt within in
          subst (λ (e : Entry). e.root ≢ last.root) (get_or_default longer k no_entry d (omega (arith, lt, within))) t.roots);
      free = λ j d below chained.
          let x = chained.1 in
          let t = more.sound.together chained.0 n no_entry chained.2 within in
          let is : get_or longer chained.0 no_entry ≡ x = get_or_default longer chained.0 no_entry x (omega (arith, chained.2, within)) ∙ at chained.0 x chained.2 ∙ chained.3 in
          t.chains (get_or last.pages j d) (subst (λ (e : Entry). Contains e.pages (get_or last.pages j d)) (sym is) chained.4) (Contains-get_or last.pages j d below);
    })
