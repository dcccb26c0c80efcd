-- The contents of a map, by its look-ups.
use Rattle.std.proofs.Common.{◌≡◌, ℕ, cond, List, [], ◌∷◌, map, Option, refl, sym, ◌∙◌, inl, inr}
use Rattle.std.specs.Ordering.{is_eq, nat_cmp}
use Rattle.std.specs.Cmp.Lexicographic.{slice_cmp}
use Rattle.std.specs.declared.cmp.Ordering.{Ordering}
use Rattle.std.specs.Map.{lookup}
use Rattle.std.specs.BTreeMap.{BTreeMap, get, is_at}
use Rattle.std.proofs.lemmas.Bool.{cases_Bool}
use Rattle.std.proofs.lemmas.Cmp.{nat_list_eq_equiv}
use Rattle.std.proofs.lemmas.Map.Text.{is_eq-slice_cmp}
use Rattle.pkg_names.specs.declared.root.Root.{Root}
use Rattle.pkg_names.specs.Root.{root_eq}
use Rattle.store_model.specs.Systems.{seen_bytes}
use Rattle.plain_stock.specs.Contents.{pair_of, contents_in, Holds}

-- the order of the keys
abbrev pub root_cmp : Root → Root → Ordering
root_cmp a b = slice_cmp nat_cmp a.0 b.0

is_eq-root_cmp : (a b : Root) → is_eq (root_cmp a b) ≡ root_eq a b
is_eq-root_cmp a b = is_eq-slice_cmp a.0 b.0

seen_bytes-entries : (entries : List (Root × List ℕ)) (root : Root) → seen_bytes (map pair_of entries) root ≡ lookup (is_at (root_cmp root)) entries
seen_bytes-entries [] root = refl
seen_bytes-entries (entry ∷ entries) root =
    let test : is_eq (root_cmp root entry.0) ≡ root_eq entry.0 root = is_eq-root_cmp root entry.0 ∙ nat_list_eq_equiv.symm root.0 entry.0.0 in
    elim (cases_Bool (root_eq entry.0 root)) [
      | inl same ↦ rw (test ∙ same, same) refl
      | inr other ↦ rw (test ∙ other, other) (seen_bytes-entries entries root)
    ]

pub is_got : (blobs : BTreeMap Root (List ℕ)) (root : Root) → seen_bytes (contents_in blobs) root ≡ get root_cmp blobs root
is_got blobs root = seen_bytes-entries blobs.entries root

pub holds : (root : Root) (bytes : Option (List ℕ)) (old new : BTreeMap Root (List ℕ))
    → ((other : Root) → get root_cmp new other ≡ cond (is_at (root_cmp root) other) bytes (get root_cmp old other)) → Holds root bytes (contents_in old) (contents_in new)
holds root bytes old new updated other =
    is_got new other ∙ updated other ∙
    elim (cases_Bool (root_eq root other)) [
      | inl same ↦ rw (is_eq-root_cmp root other ∙ same, same) refl
      | inr differs ↦ rw (is_eq-root_cmp root other ∙ differs, differs) (sym (is_got old other))
    ]
