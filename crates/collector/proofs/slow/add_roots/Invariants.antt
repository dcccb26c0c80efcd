use Rattle.std.proofs.Common.{◌≡◌, ◌||◌, take}
use Rattle.pkg_names.specs.declared.root.Root.{Root}
use Rattle.package_book.specs.Unprotected.{has_root}
use Rattle.collector.specs.Sets.{is_in}
use Rattle.collector.proofs.slow.add_roots.Given as goal

abbrev pub invariant-loop-root : goal.invariant-loop-root
invariant-loop-root l = (other : Root) → is_in l.set other ≡ (is_in l.fn.set other || has_root (take l.root-index l.roots) other)
