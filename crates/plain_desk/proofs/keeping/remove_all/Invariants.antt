use Rattle.std.proofs.Common.{◌≡◌, None, take}
use Rattle.std.specs.Prelude.{if◌then◌else◌}
use Rattle.pkg_names.specs.declared.root.Root.{Root}
use Rattle.store_model.specs.State.{has_root}
use Rattle.store_model.specs.Systems.{seen_bytes}
use Rattle.plain_desk.proofs.keeping.remove_all.Given as goal

abbrev pub invariant-loop-root : goal.invariant-loop-root
invariant-loop-root l = (other : Root) → seen_bytes l.contents other
    ≡ (if has_root (take l.root-index l.roots) other then None else seen_bytes l.fn.contents other)
