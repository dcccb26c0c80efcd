use Rattle.std.proofs.Common.{◌≡◌, take}
use Rattle.pkg_names.specs.declared.root.Root.{Root}
use Rattle.package_book.specs.Unprotected.{is_named}
use Rattle.collector.specs.Sets.{is_in}
use Rattle.collector.proofs.slow.all_names.Given as goal

abbrev pub invariant-loop-top : goal.invariant-loop-top
invariant-loop-top l = (root : Root) → is_in l.named root ≡ is_named (take l.top-index l.tops) l.shelf root
