-- Sets of roots.
use Rattle.std.specs.Prelude.{not, Bool, List, filter}
use Rattle.std.specs.declared.cmp.Ordering.{Ordering}
use Rattle.std.specs.Ordering.{nat_cmp}
use Rattle.std.specs.Cmp.Lexicographic.{slice_cmp}
use Rattle.std.specs.BTreeSet.{BTreeSet, contains}
use Rattle.pkg_names.specs.declared.root.Root.{Root}

-- the order of roots in a set
abbrev pub root_cmp : Root → Root → Ordering
root_cmp a b = slice_cmp nat_cmp a.0 b.0

-- the set has this root
abbrev pub is_in : BTreeSet Root → Root → Bool
is_in set root = contains root_cmp set root

-- the roots that the set hasn't
abbrev pub outside : BTreeSet Root → List Root → List Root
outside set roots = filter (λ root. not (is_in set root)) roots
