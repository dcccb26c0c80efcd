-- The places of entries, and the index that has them.
use Rattle.std.proofs.Common.{◌≡◌, ◌≢◌, ℕ, suc, ◌+◌, ◌-◌, ◌<◌, ◌≤◌, Bool, true, false, cond, List, [], ◌∷◌, ◌++◌, length, take, get_or, All, AllPairs, slice_get, sym, refl, ◌∙◌, ap, subst, arith, Option, Some, None}
use Rattle.std.proofs.lemmas.Bool.{false≢true}
use Rattle.std.proofs.lemmas.List.{length-take-le, length_push, take_more, get_or-take, get_or_default, get_or_append_left, get_or_push}
use Rattle.std.proofs.lemmas.List.Elements.{All-nil, All-cons, All-head, All-tail}
use Rattle.std.proofs.lemmas.Option.{slice_get-get_or}
use Rattle.pkg_names.specs.declared.root.Root.{Root}
use Rattle.pkg_names.specs.Root.{root_eq}
use Rattle.pkg_names.proofs.Roots.{root_eq-true, root_eq-same}
use Rattle.node_table.specs.declared.entry.Entry.{Entry}
use Rattle.node_table.specs.Entries.{entry_of, without, with_added}
use Rattle.node_table.specs.Steps.{place_from}

-- the place with one entry more, which has place m
pub place_last : Option ℕ → ℕ → Root → Entry → Option ℕ
place_last (Some k) m root entry = Some k
place_last None m root entry = cond (root_eq root entry.root) (Some m) None

pub place_push : (n : ℕ) (entries : List Entry) (entry : Entry) (root : Root) → place_from n (entries ++ entry ∷ []) root ≡ place_last (place_from n entries root) (n + length entries) root entry
unfolding place_last
place_push n [] entry root = ap (λ (m : ℕ). cond (root_eq root entry.root) (Some m) None) {x = n} {y = n + 0} (omega arith)
place_push n (x ∷ entries) entry root =
    elim (root_eq root x.root) as (λ b. cond b (Some n) (place_from (n + 1) (entries ++ entry ∷ []) root) ≡ place_last (cond b (Some n) (place_from (n + 1) entries root)) (n + suc (length entries)) root entry) [
      | true ↦ refl
      | false ↦ place_push (n + 1) entries entry root ∙ ap (λ (m : ℕ). place_last (place_from (n + 1) entries root) m root entry) {x = n + 1 + length entries} {y = n + suc (length entries)} (omega arith)
    ]

-- where no entry has the root
pub place_none : (n : ℕ) (entries : List Entry) (root : Root) → All (λ other. other.root ≢ root) entries → place_from n entries root ≡ None
place_none n [] root fresh = refl
place_none n (x ∷ entries) root fresh =
    let rest = place_none (n + 1) entries root (All-tail (λ other. other.root ≢ root) x entries fresh) in
    let head : (b : Bool) → root_eq root x.root ≡ b → cond b (Some n) (place_from (n + 1) entries root) ≡ None =
    λ b e. (elim b as (λ v. root_eq root x.root ≡ v → cond v (Some n) (place_from (n + 1) entries root) ≡ None) [
      | true ↦ λ same. absurd (All-head (λ other. other.root ≢ root) x entries fresh (sym (root_eq-true root x.root same)))
      | false ↦ λ _. rest
    ]) e in
    head (root_eq root x.root) refl

pub none_place : (n : ℕ) (entries : List Entry) (root : Root) → place_from n entries root ≡ None → All (λ other. other.root ≢ root) entries
none_place n [] root e = All-nil (λ other. other.root ≢ root)
none_place n (x ∷ entries) root e =
    let head : (b : Bool) → root_eq root x.root ≡ b → cond b (Some n) (place_from (n + 1) entries root) ≡ None → All (λ (other : Entry). other.root ≢ root) (x ∷ entries) =
    λ b. elim b as (λ v. root_eq root x.root ≡ v → cond v (Some n) (place_from (n + 1) entries root) ≡ None → All (λ (other : Entry). other.root ≢ root) (x ∷ entries)) [
      | true ↦ λ same some. absurd (cc some)
      | false ↦ λ differs none. All-cons (λ other. other.root ≢ root) x entries (λ same. false≢true (sym differs ∙ root_eq-same root x.root (sym same))) (none_place (n + 1) entries root none)
    ] in
    head (root_eq root x.root) refl e

place_below : (n : ℕ) (entries : List Entry) (root : Root) (k : ℕ) → place_from n entries root ≡ Some k → k < n + length entries
place_below n [] root k e = absurd (cc e)
place_below n (x ∷ entries) root k e =
    let at : (b : Bool) → cond b (Some n) (place_from (n + 1) entries root) ≡ Some k → k < n + suc (length entries) =
    λ b. elim b as (λ v. cond v (Some n) (place_from (n + 1) entries root) ≡ Some k → k < n + suc (length entries)) [
      | true ↦ λ some. let same : n ≡ k = cc some in omega (arith, same)
      | false ↦ λ rest. let lt = place_below (n + 1) entries root k rest in omega (arith, lt)
    ] in
    at (root_eq root x.root) e

-- the entry at the place is the one that is found
found_at : (n : ℕ) (entries : List Entry) (root : Root) (k : ℕ) → place_from n entries root ≡ Some k → (n ≤ k) × (slice_get entries (k - n) ≡ entry_of entries root)
found_at n [] root k e = absurd (cc e)
found_at n (x ∷ entries) root k e =
    let at : (b : Bool) → cond b (Some n) (place_from (n + 1) entries root) ≡ Some k → (n ≤ k) × (slice_get (x ∷ entries) (k - n) ≡ cond b (Some x) (entry_of entries root)) =
    λ b. elim b as (λ v. cond v (Some n) (place_from (n + 1) entries root) ≡ Some k → (n ≤ k) × (slice_get (x ∷ entries) (k - n) ≡ cond v (Some x) (entry_of entries root))) [
      | true ↦ λ some. let same : n ≡ k = cc some in (omega (arith, same), ap (slice_get (x ∷ entries)) {x = k - n} {y = 0} (omega (arith, same)))
      | false ↦ λ rest. let h = found_at (n + 1) entries root k rest in
          (omega (arith, h.0), ap (slice_get (x ∷ entries)) {x = k - n} {y = suc (k - (n + 1))} (omega (arith, h.0)) ∙ h.1)
    ] in
    at (root_eq root x.root) e

pub found_entry : (entries : List Entry) (root : Root) (k : ℕ) (d : Entry) → place_from 0 entries root ≡ Some k → (k < length entries) × (Some (get_or entries k d) ≡ entry_of entries root)
found_entry entries root k d e =
    let h = found_at 0 entries root k e in
    let lt = place_below 0 entries root k e in
    (omega (arith, lt), sym (slice_get-get_or entries k d (omega (arith, lt))) ∙ ap (slice_get entries) {x = k} {y = k - 0} (omega arith) ∙ h.1)

pub none_found : (n : ℕ) (entries : List Entry) (root : Root) → place_from n entries root ≡ None → None ≡ entry_of entries root
none_found n [] root e = refl
none_found n (x ∷ entries) root e =
    let at : (b : Bool) → cond b (Some n) (place_from (n + 1) entries root) ≡ None → None ≡ cond b (Some x) (entry_of entries root) =
    λ b. elim b as (λ v. cond v (Some n) (place_from (n + 1) entries root) ≡ None → None ≡ cond v (Some x) (entry_of entries root)) [
      | true ↦ λ some. absurd (cc some)
      | false ↦ λ rest. none_found (n + 1) entries root rest
    ] in
    at (root_eq root x.root) e

other : (o : Option ℕ) (m : ℕ) (root : Root) (entry : Entry) → root ≢ entry.root → o ≡ place_last o m root entry
unfolding place_last
other (Some k) m root entry ne = refl
other None m root entry ne =
    let at : (b : Bool) → root_eq root entry.root ≡ b → None ≡ cond b (Some m) None =
    λ b. elim b as (λ v. root_eq root entry.root ≡ v → None ≡ cond v (Some m) None) [
      | true ↦ λ same. absurd (ne (root_eq-true root entry.root same))
      | false ↦ λ _. refl
    ] in
    at (root_eq root entry.root) refl

-- what a map has at each root after the place of a new entry was put into it
pub placed : (entries : List Entry) (entry : Entry) (old new : Option ℕ) (root : Root) → place_from 0 entries entry.root ≡ None → old ≡ place_from 0 entries root → new ≡ cond (root_eq entry.root root) (Some (length entries)) old → new ≡ place_from 0 (entries ++ entry ∷ []) root
unfolding place_last
placed entries entry old new root fresh is put =
    let m = length entries in
    let push = place_push 0 entries entry root ∙ ap (λ (n : ℕ). place_last (place_from 0 entries root) n root entry) {x = 0 + m} {y = m} (omega arith) in
    let same : (b : Bool) → root_eq entry.root root ≡ b → cond b (Some m) old ≡ place_last (place_from 0 entries root) m root entry =
    λ b. elim b as (λ v. root_eq entry.root root ≡ v → cond v (Some m) old ≡ place_last (place_from 0 entries root) m root entry) [
      | true ↦ λ eq. let e : entry.root ≡ root = root_eq-true entry.root root eq in
          let none : place_from 0 entries root ≡ None = ap (place_from 0 entries) (sym e) ∙ fresh in
          sym (ap (λ (o : Option ℕ). place_last o m root entry) none ∙ ap (λ (v : Bool). cond v (Some m) None) (root_eq-same root entry.root (sym e)))
      | false ↦ λ ne. is ∙ other (place_from 0 entries root) m root entry (λ e. false≢true (sym ne ∙ root_eq-same entry.root root (sym e)))
    ] in
    put ∙ same (root_eq entry.root root) refl ∙ sym push

-- the root of the next of entries whose roots differ is new
pub new_next : (entries : List Entry) (i : ℕ) (entry : Entry) → i < length entries → entry ≡ get_or entries i entry → AllPairs (λ a b. a.root ≢ b.root) entries → place_from 0 (take i entries) entry.root ≡ None
new_next entries i entry lt at distinct =
    place_none 0 (take i entries) entry.root (λ k d below.
    let low : k < i = omega (arith, below, length-take-le i entries (omega (arith, lt))) in
    subst (λ (e : Entry). (get_or (take i entries) k d).root ≢ e.root) (get_or_default entries i d entry lt ∙ sym at)
    (subst (λ (e : Entry). e.root ≢ (get_or entries i d).root) (sym (get_or-take i entries k d low)) (distinct k i d low lt)))

-- and so its place is put into the map
pub placed_next : (entries : List Entry) (i : ℕ) (entry : Entry) (old new : Option ℕ) (root : Root) → i < length entries → entry ≡ get_or entries i entry → AllPairs (λ a b. a.root ≢ b.root) entries → old ≡ place_from 0 (take i entries) root → new ≡ cond (root_eq entry.root root) (Some i) old → new ≡ place_from 0 (take (i + 1) entries) root
placed_next entries i entry old new root lt at distinct is put =
    let front = take i entries in
    let long : length front ≡ i = length-take-le i entries (omega (arith, lt)) in
    placed front entry old new root (new_next entries i entry lt at distinct) is (put ∙ ap (λ (n : ℕ). cond (root_eq entry.root root) (Some n) old) (sym long))
    ∙ ap (λ (es : List Entry). place_from 0 es root) (sym (take_more entries i entry lt ∙ ap (λ (e : Entry). front ++ e ∷ []) (sym at)))

-- where no root goes, all entries stay
pub none_go : (gone : List Root) (entries : List Entry) → length gone ≡ 0 → without gone entries ≡ entries
none_go [] [] none = refl
none_go [] (x ∷ entries) none = ap (λ (l : List Entry). x ∷ l) (none_go [] entries none)
none_go (r ∷ gone) entries none = absurd (omega (arith, none))

pub none_comes : (add : Option Entry) (gone : List Root) (entries : List Entry) → length gone ≡ 0 → add ≡ None → with_added add (without gone entries) ≡ entries
none_comes add gone entries none is = ap (λ (o : Option Entry). with_added o (without gone entries)) is ∙ none_go gone entries none

pub one_comes : (add : Option Entry) (entry : Entry) (gone : List Root) (entries : List Entry) → length gone ≡ 0 → add ≡ Some entry → with_added add (without gone entries) ≡ entries ++ entry ∷ []
one_comes add entry gone entries none is =
    ap (λ (o : Option Entry). with_added o (without gone entries)) is ∙ ap (λ (l : List Entry). l ++ entry ∷ []) (none_go gone entries none)

-- the root of the last of entries whose roots differ is new
pub new_last : (entries : List Entry) (entry : Entry) → AllPairs (λ a b. a.root ≢ b.root) (entries ++ entry ∷ []) → place_from 0 entries entry.root ≡ None
new_last entries entry distinct =
    place_none 0 entries entry.root (λ k d below.
    let n = length entries in
    let all = entries ++ entry ∷ [] in
    let lt : n < length all = omega (arith, length_push entries entry) in
    subst (λ (e : Entry). e.root ≢ entry.root) (get_or_append_left entries (entry ∷ []) d k below)
    (subst (λ (e : Entry). (get_or all k d).root ≢ e.root) (get_or_push entries entry d n refl) (distinct k n d below lt)))
