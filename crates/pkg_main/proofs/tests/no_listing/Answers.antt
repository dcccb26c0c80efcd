use Rattle.std.proofs.Common.{◌≡◌, List, [], sym, subst}
use Rattle.std.specs.List.{IsDistinct}
use Rattle.pkg_names.specs.declared.pinned.Pinned.{Pinned}
use Rattle.system_lists.specs.Lists.{has_path_of}
use Rattle.pkg_main.proofs.tests.no_listing.Goals as goal

none : (listing : List Pinned) → listing ≡ [] → IsDistinct has_path_of listing
unfolding IsDistinct
none listing is = subst (λ (l : List Pinned). IsDistinct has_path_of l) (sym is) tt

pub returns : goal.returns
returns c = none _ c.new.ensures.items
