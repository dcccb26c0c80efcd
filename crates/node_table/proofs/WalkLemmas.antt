-- Flags of taken pages, and chains that are followed.
use Rattle.std.proofs.Common.{◌≡◌, ◌≢◌, ◌⊎◌, ◌↔◌, ℕ, ◌+◌, ◌<◌, Bool, true, false, List, [], ◌∷◌, ◌++◌, length, take, set, get_or, All, AllPairs, Contains, sym, refl, ◌∙◌, ap, subst, inl, inr, arith}
use Rattle.std.proofs.lemmas.Bool.{cases_lt, cases_eq}
use Rattle.std.proofs.lemmas.List.{get_or_default, get_or-set_same, get_or-set_other, get_or_append_left, get_or_push, length_push, take_more, get_or_past, get_or-take}
use Rattle.std.proofs.lemmas.List.Elements.{All-push, Contains-append_left, Contains-push, Contains-push_cases}
use Rattle.std.proofs.lemmas.List.Quantifiers.{all_pairs_push}
use Rattle.node_table.specs.declared.entry.Entry.{Entry}
use Rattle.node_table.specs.declared.entry.TheConstants.{CHAIN_END}
use Rattle.node_table.specs.Entries.{IsChained}
use Rattle.node_table.specs.Steps.{IsTaken, IsWalk, Flags}

-- the flags after one was set
pub took : (flags : List Bool) (page : ℕ) → page < length flags → (other : ℕ) → IsTaken (set flags page true) other ↔ (IsTaken flags other ⊎ (page ≡ other))
took flags page lt other = (
  λ is. elim (cases_eq other page) [
    | inl e ↦ inr (sym e)
    | inr ne ↦ inl (sym (get_or-set_other flags page other true false ne) ∙ is)
  ],
  λ c. elim c [
    | inl is ↦ elim (cases_eq other page) [
      | inl e ↦ ap (λ (n : ℕ). get_or (set flags page true) n false) e ∙ get_or-set_same flags page true false lt
      | inr ne ↦ get_or-set_other flags page other true false ne ∙ is
    ]
    | inr e ↦ ap (λ (n : ℕ). get_or (set flags page true) n false) (sym e) ∙ get_or-set_same flags page true false lt
  ],
)

-- A chain that was followed so far: these pages, and the page that comes next.
pub record IsFollowed (link : ℕ → ℕ) (old now : List Bool) (from count : ℕ) (pages : List ℕ) (page : ℕ) : Type 0 where
  pub taken : (other : ℕ) → IsTaken now other ↔ (IsTaken old other ⊎ Contains pages other)
  pub first : get_or (pages ++ page ∷ []) 0 0 ≡ from
  pub chain : (k : ℕ) → k < length pages → link (get_or pages k 0) ≡ get_or (pages ++ page ∷ []) (k + 1) 0
  pub below : All (λ p. p < length old) pages
  pub distinct : AllPairs (λ a b. a ≢ b) pages
  pub free : All (λ p. IsTaken old p → ⊥) pages
  pub only : (other : List ℕ) → IsWalk link old from count other → (take (length pages) other ≡ pages) × (page ≡ get_or other (length pages) CHAIN_END)

pub followed_none : (link : ℕ → ℕ) (old : List Bool) (first count : ℕ) → 0 < count → IsFollowed link old old first count [] first
followed_none link old first count some = record {
  taken = λ other. (λ is. inl is, λ c. elim c [ inl is ↦ is | inr has ↦ absurd (omega (arith, has.1)) ]);
  first = refl;
  chain = λ k lt. absurd (omega (arith, lt));
  below = λ k d lt. absurd (omega (arith, lt));
  distinct = λ i j d lt below. absurd (omega (arith, below));
  free = λ k d lt. absurd (omega (arith, lt));
  only = λ other walk. (refl, sym walk.first ∙ get_or_default other 0 0 CHAIN_END (omega (arith, some, walk.size)));
}

module _ (link : ℕ → ℕ) (old now : List Bool) (first count : ℕ) (pages : List ℕ) (page : ℕ) (f : IsFollowed link old now first count pages page) where
  abbrev n : ℕ
  n = length pages

  abbrev longer : List ℕ
  longer = pages ++ page ∷ []

  not_before : (IsTaken now page → ⊥) → (k d : ℕ) → k < n → get_or pages k d ≢ page
  not_before free k d lt same = free ((f.taken page).1 (inr (k, lt, get_or_default pages k page d lt ∙ same)))

  one_page : (other : List ℕ) → IsWalk link old first count other → n < count → page ≡ get_or other n 0
  one_page other walk lt = (f.only other walk).1 ∙ get_or_default other n CHAIN_END 0 (omega (arith, lt, walk.size))

  -- the chain goes on from a page that was free
  pub followed_more : (next : List Bool) → n < count → page < length old → (IsTaken now page → ⊥) → ((other : ℕ) → IsTaken next other ↔ (IsTaken now other ⊎ (page ≡ other))) → IsFollowed link old next first count longer (link page)
  followed_more next room lt free taken =
      let long : length longer ≡ n + 1 = length_push pages page in
      record {
        taken = λ other. (
          λ is. elim ((taken other).0 is) [
            | inl now_taken ↦ elim ((f.taken other).0 now_taken) [
              | inl was ↦ inl was
              | inr has ↦ inr (Contains-append_left pages (page ∷ []) other has)
            ]
            | inr e ↦ inr (subst (Contains longer) e (Contains-push pages page))
          ],
          λ c. elim c [
            | inl was ↦ (taken other).1 (inl ((f.taken other).1 (inl was)))
            | inr has ↦ elim (Contains-push_cases pages page other has) [
              | inl before ↦ (taken other).1 (inl ((f.taken other).1 (inr before)))
              | inr e ↦ (taken other).1 (inr e)
            ]
          ],
        );
        first = get_or_append_left longer (link page ∷ []) 0 0 (omega (arith, long)) ∙ f.first;
        chain = λ k below. elim (cases_lt k n) [
          | inl before ↦
              ap link (get_or_append_left pages (page ∷ []) 0 k before) ∙ f.chain k before
              ∙ sym (get_or_append_left longer (link page ∷ []) 0 (k + 1) (omega (arith, long, before)))
          | inr past ↦
              let here : k ≡ n = omega (arith, past, below, long) in
              ap link (ap (λ (i : ℕ). get_or longer i 0) here ∙ get_or_push pages page 0 n refl)
              ∙ sym (get_or_push longer (link page) 0 (k + 1) (omega (arith, long, here)))
        ];
        below = All-push (λ p. p < length old) pages page f.below lt;
        distinct = all_pairs_push (λ a b. a ≢ b) pages page f.distinct (not_before free);
        free = All-push (λ p. IsTaken old p → ⊥) pages page f.free (λ was. free ((f.taken page).1 (inl was)));
        only = λ other walk.
            let within : n < length other = omega (arith, room, walk.size) in
            let at = one_page other walk room in (
              ap (λ (i : ℕ). take i other) long ∙ take_more other n 0 within ∙ ap (λ (xs : List ℕ). xs ++ get_or other n 0 ∷ []) (f.only other walk).0 ∙ ap (λ (p : ℕ). pages ++ p ∷ []) (sym at),
              ap link at ∙ walk.chain n within ∙ ap (λ (i : ℕ). get_or other i CHAIN_END) (sym long),
            );
      }

  -- No chain goes on from a page that doesn't exist or was taken.
  pub followed_stuck : n < count → ((page < length old) × (IsTaken now page → ⊥) → ⊥) → (other : List ℕ) → IsWalk link old first count other → ⊥
  followed_stuck room bad other walk =
      let within : n < length other = omega (arith, room, walk.size) in
      let at = one_page other walk room in
      let free : IsTaken old page → ⊥ = λ was. walk.free n 0 within (subst (IsTaken old) at was) in
      bad (
        subst (λ (p : ℕ). p < length old) (sym at) (walk.below n 0 within),
        λ is. elim ((f.taken page).0 is) [
          | inl was ↦ free was
          | inr has ↦
              let before : has.0 < n = has.1 in
              let e : get_or (take n other) has.0 page ≡ get_or pages has.0 page = ap (λ (xs : List ℕ). get_or xs has.0 page) (f.only other walk).0 in
              walk.distinct has.0 n 0 before within
              (get_or_default other has.0 0 page (omega (arith, before, within)) ∙ sym (get_or-take n other has.0 page before) ∙ e ∙ has.2 ∙ at)
        ],
      )

  -- At the end it is a chain where the end mark comes, and there is none where another page comes.
  pub followed_all : n ≡ count → 0 < count → page ≡ CHAIN_END → IsWalk link old first count pages
  followed_all all some end = record {
    size = all;
    first = sym (get_or_append_left pages (page ∷ []) 0 0 (omega (arith, all, some))) ∙ f.first;
    chain = λ k lt. f.chain k lt ∙ elim (cases_lt (k + 1) n) [
      | inl below ↦ get_or_append_left pages (page ∷ []) 0 (k + 1) below ∙ get_or_default pages (k + 1) 0 CHAIN_END below
      | inr past ↦ get_or_push pages page 0 (k + 1) (omega (arith, past, lt)) ∙ end ∙ sym (get_or_past pages (k + 1) CHAIN_END past)
    ];
    below = f.below;
    distinct = f.distinct;
    free = f.free;
  }

  pub followed_on : n ≡ count → page ≢ CHAIN_END → (other : List ℕ) → IsWalk link old first count other → ⊥
  followed_on all on other walk = on ((f.only other walk).1 ∙ get_or_past other n CHAIN_END (omega (arith, all, walk.size)))

-- No flag is set yet, and no chain has a page.
pub flags_none : (flags : List Bool) → ((page : ℕ) → IsTaken flags page → ⊥) → Flags flags []
flags_none flags free page = (λ is. absurd (free page is), λ has. absurd (omega (arith, has.2)))

chained_push : (entries : List Entry) (entry : Entry) (page : ℕ) → IsChained (entries ++ entry ∷ []) page → IsChained entries page ⊎ Contains entry.pages page
chained_push entries entry page has =
    let k = has.0 in
    let x = has.1 in
    elim (cases_lt k (length entries)) [
      | inl lt ↦ inl (k, x, lt, sym (get_or_append_left entries (entry ∷ []) x k lt) ∙ has.3, has.4)
      | inr past ↦
          let here : length entries ≡ k = omega (arith, past, has.2, length_push entries entry) in
          inr (subst (λ (e : Entry). Contains e.pages page) (sym has.3 ∙ get_or_push entries entry x k here) has.4)
    ]

chained_left : (entries : List Entry) (entry : Entry) (page : ℕ) → IsChained entries page → IsChained (entries ++ entry ∷ []) page
chained_left entries entry page has = (has.0, has.1, omega (arith, has.2, length_push entries entry), get_or_append_left entries (entry ∷ []) has.1 has.0 has.2 ∙ has.3, has.4)

chained_last : (entries : List Entry) (entry : Entry) (page : ℕ) → Contains entry.pages page → IsChained (entries ++ entry ∷ []) page
chained_last entries entry page has = (length entries, entry, omega (arith, length_push entries entry), get_or_push entries entry entry (length entries) refl, has)

-- The flags after the pages of one entry more were set.
pub flags_push : (old new : List Bool) (entries : List Entry) (entry : Entry) → Flags old entries → ((page : ℕ) → IsTaken new page ↔ (IsTaken old page ⊎ Contains entry.pages page)) → Flags new (entries ++ entry ∷ [])
flags_push old new entries entry flags took page = (
  λ is. elim ((took page).0 is) [
    | inl was ↦ chained_left entries entry page ((flags page).0 was)
    | inr has ↦ chained_last entries entry page has
  ],
  λ is. elim (chained_push entries entry page is) [
    | inl was ↦ (took page).1 (inl ((flags page).1 was))
    | inr has ↦ (took page).1 (inr has)
  ],
)
