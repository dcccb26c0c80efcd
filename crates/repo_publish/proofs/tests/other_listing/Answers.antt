use Rattle.std.proofs.Common.{◌≡◌, List, [], ◌∷◌, ◌++◌, sym, subst}
use Rattle.std.specs.List.{IsDistinct}
use Rattle.pkg_names.specs.declared.pinned.Pinned.{Pinned}
use Rattle.system_lists.specs.Lists.{has_path_of}
use Rattle.repo_publish.proofs.tests.other_listing.Goals as goal

alone : (before : List Pinned) (pair : Pinned) → before ≡ [] → IsDistinct has_path_of (before ++ pair ∷ [])
unfolding IsDistinct
alone before pair none = subst (λ (l : List Pinned). IsDistinct has_path_of (l ++ pair ∷ [])) (sym none) (tt, tt)

pub returns : goal.returns
returns c = subst (λ (l : List Pinned). IsDistinct has_path_of l) (sym c.in_ok-push.ensures.items) (alone _ _ c.new-listing.ensures.items)
