-- How often roots stand in lists, and what that comes to for the names of packages.
use Rattle.std.proofs.Common.{◌≡◌, ℕ, ◌+◌, ◌<◌, ◌≤◌, ◌^◌, Bool, true, false, cond, eqb, not, ◌||◌, List, [], ◌∷◌, ◌++◌, length, get_or, take, refl, sym, ap, ◌∙◌, zero-add, arith}
use Rattle.std.specs.List.{IsDistinct, AllByRecursion}
use Rattle.std.proofs.lemmas.Bool.{ne_eqb}
use Rattle.std.proofs.lemmas.Cmp.{nat_list_eq_equiv}
use Rattle.std.proofs.lemmas.List.Elements.{filter_agree}
use Rattle.std.proofs.lemmas.List.Sums.{sum_by-cons, sum_by-append, sum_by_more_le, count_by-le-length}
use Rattle.std.proofs.lemmas.Map.Keys.{IsDistinct-head, IsDistinct-tail}
use Rattle.pkg_names.specs.declared.root.Root.{Root}
use Rattle.pkg_names.specs.Root.{root_eq}
use Rattle.pkg_names.proofs.Roots.{root_eq-true, root_eq-refl}
use Rattle.package_book.specs.Books.{Books}
use Rattle.package_book.specs.Names.{names}
use Rattle.package_book.specs.Unprotected.{has_root, is_named, unprotected}
use Rattle.package_book.proofs.NameLaws.{stand_once}
use Rattle.collector.specs.Counts.{Tally, count_of, times, HasRoom, IsGained, Gains, Loses, zeros, namers, CountsNames}

abbrev one_if : Bool → ℕ
one_if b = cond b 1 0

-- ---- one root more

-- what stands at a place stands there beside what came before
pub times_here : (roots : List Root) (i : ℕ) (d : Root) → i < length roots → times (take i roots) (get_or roots i d) + 1 ≤ times roots (get_or roots i d)
times_here roots i d lt =
    let root = get_or roots i d in
    let within = sum_by_more_le (λ other. one_if (root_eq other root)) roots i d lt in
    rw (root_eq-refl root) at within

-- ---- a list in which no root stands twice

none_behind : (x root : Root) (roots : List Root) → root_eq x root ≡ true → AllByRecursion (λ other. root_eq x other ≡ false) roots → has_root roots root ≡ false
none_behind x root [] same apart = refl
none_behind x root (y ∷ roots) same apart =
    let other : root_eq y root ≡ false = ap (root_eq y) (sym (root_eq-true x root same)) ∙ nat_list_eq_equiv.symm y.0 x.0 ∙ apart.0 in
    rw other (none_behind x root roots same apart.1)

one_more_once : (b r : Bool) (n : ℕ) → n ≡ cond r 1 0 → (b ≡ true → r ≡ false) → cond b 1 0 + n ≡ cond (b || r) 1 0
one_more_once true r n is apart = rw (is, apart refl) refl
one_more_once false r n is apart = zero-add n ∙ is

pub times_once : (roots : List Root) (root : Root) → IsDistinct root_eq roots → times roots root ≡ cond (has_root roots root) 1 0
times_once [] root distinct = refl
times_once (x ∷ roots) root distinct =
    sum_by-cons (λ other. one_if (root_eq other root)) x roots
    ∙ one_more_once (root_eq x root) (has_root roots root) (times roots root)
    (times_once roots root (IsDistinct-tail root_eq x roots distinct))
    (λ same. none_behind x root roots same (IsDistinct-head root_eq x roots distinct))

-- how often a package names a root
pub times_named : (top root : Root) (books : Books) → times (names top books) root ≡ cond (has_root (names top books) root) 1 0
times_named top root books = times_once (names top books) root (stand_once top books)

-- ---- how many packages name a blob

abbrev counted : Books → Root → Root → ℕ
counted books root top = one_if (has_root (names top books) root)

namers-cons : (top : Root) (tops : List Root) (books : Books) (root : Root) → namers (top ∷ tops) books root ≡ cond (has_root (names top books) root) 1 0 + namers tops books root
namers-cons top tops books root = sum_by-cons (counted books root) top tops

namers-append : (before after : List Root) (books : Books) (root : Root) → namers (before ++ after) books root ≡ namers before books root + namers after books root
namers-append before after books root = sum_by-append (counted books root) before after

-- one more entry, wherever it stands
namers_more : (before after : List Root) (top : Root) (books : Books) (root : Root)
    → namers (before ++ top ∷ after) books root ≡ namers (before ++ after) books root + times (names top books) root
namers_more before after top books root =
    let whole = namers-append before (top ∷ after) books root in
    let rest = namers-append before after books root in
    let first = namers-cons top after books root in
    let once = times_named top root books in
    omega (arith, whole, rest, first, once)

zero_iff : (b r : Bool) (n : ℕ) → eqb n 0 ≡ not r → eqb (cond b 1 0 + n) 0 ≡ not (b || r)
zero_iff true r n is = ne_eqb (1 + n) 0 (λ e. omega (arith, e))
zero_iff false r n is = ap (λ m. eqb m 0) (zero-add n) ∙ is

none_iff : (tops : List Root) (books : Books) (root : Root) → eqb (namers tops books root) 0 ≡ not (is_named tops books root)
none_iff [] books root = refl
none_iff (top ∷ tops) books root =
    ap (λ n. eqb n 0) (namers-cons top tops books root)
    ∙ zero_iff (has_root (names top books) root) (is_named tops books root) (namers tops books root) (none_iff tops books root)

-- ---- the laws

pub zeros_so : (stock tops : List Root) (books : Books) (tally : Tally) → CountsNames tops books tally → zeros tally stock ≡ unprotected stock tops books
zeros_so stock tops books tally counts =
    filter_agree (λ root. eqb (count_of tally root) 0) (λ root. not (is_named tops books root)) (λ root. ap (λ (n : ℕ). eqb n 0) (counts root) ∙ none_iff tops books root) stock

at_most_one : (b : Bool) → cond b 1 0 ≤ 1
at_most_one true = omega arith
at_most_one false = omega arith

pub room : (tops : List Root) (top : Root) (books : Books) (tally : Tally) → CountsNames tops books tally → length tops + 1 < 2 ^ 128 → HasRoom (names top books) tally
room tops top books tally counts short root =
    let count = counts root in
    let few = count_by-le-length (λ other. has_root (names other books) root) tops in
    let once = times_named top root books in
    let one = at_most_one (has_root (names top books) root) in
    omega (arith, count, few, once, one, short)

pub gained : (before after : List Root) (top : Root) (books : Books) (old new : Tally) → CountsNames (before ++ after) books old → Gains (names top books) old new → CountsNames (before ++ top ∷ after) books new
gained before after top books old new counts gains root =
    let was = counts root in
    let is = gains root in
    let more = namers_more before after top books root in
    omega (arith, was, is, more)

pub held : (before after : List Root) (top : Root) (books : Books) (tally : Tally) → CountsNames (before ++ top ∷ after) books tally → IsGained (names top books) tally
held before after top books tally counts root =
    let was = counts root in
    let more = namers_more before after top books root in
    omega (arith, was, more)

pub lost : (before after : List Root) (top : Root) (books : Books) (old new : Tally) → CountsNames (before ++ top ∷ after) books old → Loses (names top books) old new → CountsNames (before ++ after) books new
lost before after top books old new counts loses root =
    let was = counts root in
    let is = loses root in
    let more = namers_more before after top books root in
    omega (arith, was, is, more)
