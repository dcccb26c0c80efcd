-- Contents that grow.
use Rattle.std.proofs.Common.{◌≡◌, ℕ, ◌<◌, false, List, [], ◌∷◌, ◌++◌, length, refl, sym, subst, ◌∙◌, arith}
use Rattle.std.specs.List.{IsDistinct, list_any}
use Rattle.std.specs.Str.{bytes_eq}
use Rattle.std.proofs.lemmas.List.{length-append, map-append}
use Rattle.std.proofs.lemmas.Cmp.{nat_list_eq_equiv}
use Rattle.std.proofs.lemmas.Map.Keys.{IsDistinct-push}
use Rattle.std.proofs.lemmas.List.Elements.{All-nil, All-push}
use Rattle.pkg_names.specs.Root.{IsRoot}
use Rattle.pkg_names.specs.FileText.{IsFile}
use Rattle.meta_contents.specs.Contents.{Pair, paths, is_in_meta, is_among, IsContents}

pub none_are : IsContents []
unfolding IsDistinct
none_are = record {
  few = omega arith;
  files = All-nil (λ pair. IsFile pair.0);
  roots = All-nil (λ pair. IsRoot pair.1);
  outer = All-nil (λ pair. is_in_meta pair.0 ≡ false);
  distinct = tt;
}

symmetric : (a b : List ℕ) → bytes_eq a b ≡ bytes_eq b a
symmetric a b = nat_list_eq_equiv.symm a b

any_same : (path : List ℕ) (others : List (List ℕ)) → list_any (bytes_eq path) others ≡ is_among path others
any_same path [] = refl
any_same path (other ∷ others) = rw (symmetric path other, any_same path others) refl

-- one more pair
pub one_more : (list : List Pair) (pair : Pair) → IsContents list → length list < 4096 → IsFile pair.0 → IsRoot pair.1 → is_in_meta pair.0 ≡ false → is_among pair.0 (paths list) ≡ false → IsContents (list ++ pair ∷ [])
one_more list pair is few file root outer fresh =
    record {
      few = omega (arith, length-append list (pair ∷ []));
      files = All-push (λ (p : Pair). IsFile p.0) list pair is.files file;
      roots = All-push (λ (p : Pair). IsRoot p.1) list pair is.roots root;
      outer = All-push (λ (p : Pair). is_in_meta p.0 ≡ false) list pair is.outer outer;
      distinct =
          subst (IsDistinct bytes_eq) (sym (map-append (λ (p : Pair). p.0) list (pair ∷ [])))
          (IsDistinct-push nat_list_eq_equiv (paths list) pair.0 is.distinct (any_same pair.0 (paths list) ∙ fresh));
    }
