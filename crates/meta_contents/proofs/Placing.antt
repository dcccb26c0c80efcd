-- Placing a line behind others.
use Rattle.std.proofs.Common.{◌≡◌, ℕ, Bool, true, false, cond, ◌||◌, List, [], ◌∷◌, ◌++◌, Some, Ok, refl, sym, ap, subst, inl, inr, ◌∙◌}
use Rattle.std.proofs.Common.{Vec}
use Rattle.std.specs.declared.alloc.Global.{Global}
use Rattle.std.specs.Str.{bytes_eq}
use Rattle.std.specs.declared.cmp.Ordering.{Ordering}
use Rattle.std.specs.Ordering.{nat_cmp, is_eq, eq_by_cmp}
use Rattle.std.specs.Set.{KeepsOthers}
use Rattle.std.proofs.lemmas.Bool.{cases_Bool}
use Rattle.std.proofs.lemmas.Cmp.{eq_by_cmp_equiv, nat_list_cmp_total, nat_list_eq_equiv}
use Rattle.std.proofs.lemmas.Slice.Eq.{bytes_eq-Decides}
use Rattle.std.specs.Cmp.Lexicographic.{slice_cmp}
use Rattle.std.specs.BTreeSet.{BTreeSet, Updates}
use Rattle.std.specs.BTreeMap.{is_at}
use Rattle.std.specs.List.{list_any}
use Rattle.std.proofs.lemmas.List.{map-append}
use Rattle.std.proofs.lemmas.Map.Text.{is_eq-slice_cmp}
use Rattle.pkg_names.specs.declared.root.Root.{Root}
use Rattle.meta_contents.specs.declared.contents.ContentsLine.{ContentsLine}
use Rattle.meta_contents.specs.Lines.{pair_in}
use Rattle.meta_contents.specs.Contents.{Pair, pairs, paths, is_in_meta, is_among, placed}
use Rattle.meta_contents.specs.Invariant.{has, HasPaths}

abbrev pub Key : Type 0
Key = Vec ℕ Global

either_way : (a b r : Bool) → (a || cond b true r) ≡ cond b true (a || r)
either_way true true r = refl
either_way true false r = refl
either_way false true r = refl
either_way false false r = refl

alone : (b : Bool) → (b || false) ≡ cond b true false
alone true = refl
alone false = refl

pub among_more : (path other : List ℕ) (xs : List (List ℕ)) → is_among path (xs ++ other ∷ []) ≡ cond (bytes_eq other path) true (is_among path xs)
among_more path other [] = alone (bytes_eq other path)
among_more path other (x ∷ xs) = ap (λ (b : Bool). bytes_eq x path || b) (among_more path other xs) ∙ either_way (bytes_eq x path) (bytes_eq other path) (is_among path xs)

-- ---- the index after a path was put in

abbrev pub order : Key → Key → Ordering
order x y = slice_cmp nat_cmp x.items y.items

abbrev at : List ℕ → Key → Bool
at bytes key = is_at (λ (k : Key). slice_cmp nat_cmp bytes k.items) key

apart : (bs cs ks : List ℕ) → bytes_eq bs cs ≡ false → is_eq (slice_cmp nat_cmp bs ks) ≡ true → is_eq (slice_cmp nat_cmp cs ks) ≡ false
apart bs cs ks other here =
    is_eq-slice_cmp cs ks ∙ nat_list_eq_equiv.symm cs ks ∙ sym (nat_list_eq_equiv.congr bs ks cs (sym (is_eq-slice_cmp bs ks) ∙ here)) ∙ other

kept_elsewhere : (old new : List Key) (key : Key) → KeepsOthers (eq_by_cmp order) (at key.items) old new → (bytes : List ℕ) → bytes_eq key.items bytes ≡ false
    → list_any (at bytes) new ≡ list_any (at bytes) old
unfolding KeepsOthers
kept_elsewhere old new key keeps bytes other =
    keeps (at bytes) (λ x y. (eq_by_cmp_equiv nat_list_cmp_total).congr bytes x.items y.items) (λ k. apart key.items bytes k.items other)

pub updated : (old new : BTreeSet Key) (key : Key) → Updates order old new key true → (bytes : List ℕ) → has new bytes ≡ cond (bytes_eq key.items bytes) true (has old bytes)
updated old new key updates bytes =
    elim (cases_Bool (bytes_eq key.items bytes)) [
      | inl same ↦ subst (λ (l : List ℕ). has new l ≡ true) ((bytes_eq-Decides key.items bytes).0 same) updates.1 ∙ sym (rw same refl)
      | inr other ↦ kept_elsewhere old.keys new.keys key updates.3 bytes other ∙ sym (rw other refl)
    ]

-- lines that grow with their index
pub known_more : (old new : BTreeSet Key) (before after : List ContentsLine) (item : ContentsLine) (key : Key) → HasPaths old before
    → Updates order old new key true → key.items ≡ item.file → after ≡ before ++ item ∷ [] → HasPaths new after
known_more old new before after item key known updates same grown bytes =
    let listed : paths (pairs after) ≡ paths (pairs before) ++ item.file ∷ [] =
    ap (λ (l : List ContentsLine). paths (pairs l)) grown ∙ ap paths (map-append (λ (l : ContentsLine). (l.file, l.root)) before (item ∷ [])) ∙ map-append (λ (p : Pair). p.0) (pairs before) ((item.file, item.root) ∷ []) in
    updated old new key updates bytes ∙ ap (λ (l : List ℕ). cond (bytes_eq l bytes) true (has old bytes)) same ∙ ap (λ (b : Bool). cond (bytes_eq item.file bytes) true b) (known bytes)
    ∙ sym (among_more bytes item.file (paths (pairs before))) ∙ ap (is_among bytes) (sym listed)

pub is_placed : (n : ℕ) (seen : List (List ℕ)) (line : List ℕ) (path : List ℕ) (root : Root) → pair_in line ≡ Some (path, root) → is_in_meta path ≡ false → is_among path seen ≡ false → placed n seen (pair_in line) ≡ Ok (path, root)
is_placed n seen line path root e outer fresh = ap (placed n seen) e ∙ rw (outer, fresh) refl
