-- The three laws of names and levels, and what is unprotected.
use Rattle.std.proofs.Common.{◌≡◌, Bool, true, false, ◌||◌, not, List, [], ◌∷◌, refl, sym, ap, subst, inl, inr}
use Rattle.std.specs.Prelude.{◌⊎◌, ◌↔◌, Contains, filter, Option, Some, None}
use Rattle.std.proofs.lemmas.Bool.{cases_Bool}
use Rattle.std.specs.List.{IsDistinct}
use Rattle.pkg_names.specs.declared.root.Root.{Root}
use Rattle.pkg_names.specs.Root.{root_eq}
use Rattle.package_book.specs.Books.{Meta, Books, book_at}
use Rattle.package_book.specs.Book.{each_once}
use Rattle.package_book.specs.Names.{roots_known, levels, names, HasItself, AgreeOn, DependsOn, IsListed}
use Rattle.package_book.specs.Unprotected.{has_root, is_named, unprotected}
use Rattle.package_book.proofs.Once.{differs, none_in, here, there, first_or_later, from_filter, passes_filter, to_filter, has_root-true, has_root-Contains, from_each_once, each_once-IsDistinct}

pub has_itself : (top : Root) (books : Books) → HasItself top books
unfolding levels names
has_itself top books = record {
  level = here top [];
  named = λ root h. elim (first_or_later top root [] h) [
    | inl same ↦ subst (λ (r : Root). Contains (each_once (top ∷ roots_known (book_at books top))) r) same (here top (filter (differs top) (each_once (roots_known (book_at books top)))))
    | inr never ↦ absurd (none_in root never)
  ];
}

pub depends_on : (top : Root) (books others : Books) → AgreeOn (levels top books) books others → DependsOn top books others
unfolding levels names
depends_on top books others agree = record {
  levels = refl;
  names = ap (λ (meta : Option Meta). each_once (top ∷ roots_known meta)) (agree top (here top []));
}

listed_by : (top root : Root) (books : Books) (meta : Option Meta) → book_at books top ≡ meta → Contains (roots_known meta) root → IsListed top root books
unfolding levels
listed_by top root books None known h = absurd (none_in root h)
listed_by top root books (Some meta) known h = record { by = top; meta = meta; level = here top []; known = known; listed = h }

pub is_listed : (top root : Root) (books : Books) → Contains (names top books) root → Contains (levels top books) root ⊎ IsListed top root books
unfolding levels names
is_listed top root books named =
    elim (first_or_later top root (roots_known (book_at books top)) (from_each_once (top ∷ roots_known (book_at books top)) root named)) [
      | inl same ↦ inl (subst (λ (r : Root). Contains (top ∷ []) r) same (here top []))
      | inr later ↦ inr (listed_by top root books (book_at books top) refl later)
    ]

pub stand_once : (top : Root) (books : Books) → IsDistinct root_eq (names top books)
unfolding names
stand_once top books = each_once-IsDistinct (top ∷ roots_known (book_at books top))

-- ---- what is unprotected

or_cases : (a b : Bool) → (a || b) ≡ true → (a ≡ true) ⊎ (b ≡ true)
or_cases true b e = inl refl
or_cases false b e = inr e

pub is_named-true : (tops : List Root) (books : Books) (root : Root) → is_named tops books root ≡ true → (top : Root) × Contains tops top × Contains (names top books) root
is_named-true [] books root h = absurd cc
is_named-true (top ∷ tops) books root h =
    elim (or_cases (has_root (names top books) root) (is_named tops books root) h) [
      | inl named ↦ (top, here top tops, has_root-true (names top books) root named)
      | inr later ↦ let found = is_named-true tops books root later in (found.0, there top found.0 tops found.1, found.2)
    ]

or_left : (a b : Bool) → a ≡ true → (a || b) ≡ true
or_left true b e = refl
or_left false b e = absurd cc

or_right : (a b : Bool) → b ≡ true → (a || b) ≡ true
or_right true b e = refl
or_right false b e = e

pub is_named-names : (tops : List Root) (books : Books) (top root : Root) → Contains tops top → Contains (names top books) root → is_named tops books root ≡ true
is_named-names [] books top root among named = absurd (none_in top among)
is_named-names (other ∷ tops) books top root among named =
    elim (first_or_later other top tops among) [
      | inl same ↦ or_left (has_root (names other books) root) (is_named tops books root) (has_root-Contains (names other books) root (subst (λ (t : Root). Contains (names t books) root) (sym same) named))
      | inr later ↦ or_right (has_root (names other books) root) (is_named tops books root) (is_named-names tops books top root later named)
    ]

not_both : (b : Bool) → not b ≡ true → b ≡ true → ⊥
not_both true e f = absurd cc
not_both false e f = absurd cc

pub unprotected_so : (stock protected : List Root) (books : Books) (root : Root)
    → Contains (unprotected stock protected books) root ↔ (Contains stock root × ((top : Root) → Contains protected top → ¬ Contains (names top books) root))
unprotected_so stock protected books root = (
  λ h. (
    from_filter (λ (r : Root). not (is_named protected books r)) stock root h,
    λ top among named.
        not_both (is_named protected books root) (passes_filter (λ (r : Root). not (is_named protected books r)) stock root h) (is_named-names protected books top root among named),
  ),
  λ h. to_filter (λ (r : Root). not (is_named protected books r)) stock root h.0 (elim (cases_Bool (is_named protected books root)) [
    | inl named ↦ let found = is_named-true protected books root named in absurd (h.1 found.0 found.1 found.2)
    | inr free ↦ rw free refl
  ]),
)
