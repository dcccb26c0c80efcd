-- The roots of lines, one line after the other.
use Rattle.std.proofs.Common.{◌≡◌, ℕ, ◌+◌, ◌<◌, Bool, true, false, cond, ◌||◌, List, [], ◌∷◌, ◌++◌, length, get_or, take, refl, sym, ap, ◌∙◌}
use Rattle.std.specs.Prelude.{map}
use Rattle.std.specs.List.{list_any}
use Rattle.std.specs.BTreeSet.{BTreeSet, contains}
use Rattle.std.specs.BTreeMap.{is_at}
use Rattle.std.proofs.lemmas.List.{map_more, map-append}
use Rattle.pkg_names.specs.declared.root.Root.{Root}
use Rattle.pkg_names.specs.Root.{root_eq}
use Rattle.meta_contents.specs.declared.contents.ContentsLine.{ContentsLine}
use Rattle.meta_contents.specs.Contents.{Pair, pairs}
use Rattle.package_book.specs.Book.{each_once, outer_roots}
use Rattle.package_book.specs.Unprotected.{has_root}
use Rattle.package_book.specs.Invariant.{root_cmp}
use Rattle.package_book.proofs.Once.{each_once-push}
use Rattle.package_book.proofs.Shelves.{is_eq-root_cmp}

-- the set has these roots, and no others
abbrev pub HasRoots : BTreeSet Root → List Root → Type 0
HasRoots seen roots = (root : Root) → contains root_cmp seen root ≡ has_root roots root

has_root-push : (roots : List Root) (x root : Root) → has_root (roots ++ x ∷ []) root ≡ cond (root_eq x root) true (has_root roots root)
has_root-push [] x root = alone (root_eq x root)
  where
    alone : (b : Bool) → (b || false) ≡ cond b true false
    alone true = refl
    alone false = refl
has_root-push (y ∷ roots) x root = ap (λ (b : Bool). root_eq y root || b) (has_root-push roots x root) ∙ either_way (root_eq y root) (root_eq x root) (has_root roots root)
  where
    either_way : (a b r : Bool) → (a || cond b true r) ≡ cond b true (a || r)
    either_way true true r = refl
    either_way true false r = refl
    either_way false true r = refl
    either_way false false r = refl

pub has_more : (old new : BTreeSet Root) (roots : List Root) (x : Root) → HasRoots old roots
    → ((root : Root) → contains root_cmp new root ≡ cond (is_at (root_cmp x) root) true (contains root_cmp old root)) → HasRoots new (roots ++ x ∷ [])
has_more old new roots x known updated root =
    updated root ∙ ap (λ (b : Bool). cond b true (contains root_cmp old root)) (is_eq-root_cmp x root) ∙ ap (λ (b : Bool). cond (root_eq x root) true b) (known root) ∙ sym (has_root-push roots x root)

pub has_same : (old new : BTreeSet Root) (roots : List Root) → HasRoots old roots → new.keys ≡ old.keys → HasRoots new roots
has_same old new roots known same root = ap (λ (keys : List Root). list_any (is_at (root_cmp root)) keys) same ∙ known root

roots_more : (lines : List ContentsLine) (i : ℕ) (line : ContentsLine) → i < length lines → line ≡ get_or lines i line
    → map (λ (pair : Pair). pair.1) (pairs (take (i + 1) lines)) ≡ map (λ (pair : Pair). pair.1) (pairs (take i lines)) ++ line.root ∷ []
roots_more lines i line lt is =
    ap (map (λ (pair : Pair). pair.1)) (map_more (λ (l : ContentsLine). (l.file, l.root)) lines i line lt)
    ∙ map-append (λ (pair : Pair). pair.1) (pairs (take i lines)) (((get_or lines i line).file, (get_or lines i line).root) ∷ [])
    ∙ ap (λ (l : ContentsLine). map (λ (pair : Pair). pair.1) (pairs (take i lines)) ++ l.root ∷ []) (sym is)

-- one more line, of a new root and of one that stood before
pub new_root : (lines : List ContentsLine) (i : ℕ) (line : ContentsLine) (roots : List Root) → i < length lines → line ≡ get_or lines i line
    → roots ≡ outer_roots (pairs (take i lines)) → has_root roots line.root ≡ false → roots ++ line.root ∷ [] ≡ outer_roots (pairs (take (i + 1) lines))
new_root lines i line roots lt is so_far new =
    let fresh : has_root (outer_roots (pairs (take i lines))) line.root ≡ false = ap (λ (l : List Root). has_root l line.root) (sym so_far) ∙ new in
    ap (λ (l : List Root). l ++ line.root ∷ []) so_far
    ∙ sym (ap each_once (roots_more lines i line lt is) ∙ each_once-push (map (λ (pair : Pair). pair.1) (pairs (take i lines))) line.root ∙ rw fresh refl)

pub old_root : (lines : List ContentsLine) (i : ℕ) (line : ContentsLine) (roots : List Root) → i < length lines → line ≡ get_or lines i line
    → roots ≡ outer_roots (pairs (take i lines)) → has_root roots line.root ≡ true → roots ≡ outer_roots (pairs (take (i + 1) lines))
old_root lines i line roots lt is so_far old =
    let known : has_root (outer_roots (pairs (take i lines))) line.root ≡ true = ap (λ (l : List Root). has_root l line.root) (sym so_far) ∙ old in
    so_far ∙ sym (ap each_once (roots_more lines i line lt is) ∙ each_once-push (map (λ (pair : Pair). pair.1) (pairs (take i lines))) line.root ∙ rw known refl)
