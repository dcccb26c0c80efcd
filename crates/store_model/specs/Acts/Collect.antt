-- What no protected package names is removed, once the running system is to stay.
use Rattle.std.specs.Prelude.{◌≡◌, List, Option, Some, None, if◌then◌else◌}
use Rattle.pkg_names.specs.declared.root.Root.{Root}
use Rattle.store_model.specs.State.{State, is_committed, without_blobs}
use Rattle.store_model.specs.Packages.{rest}

abbrev pub collect_answer : State → Option (List Root)
collect_answer s = if is_committed s then Some (rest s) else None

abbrev pub IsDueCollect : State → Option (List Root) → Type 0
IsDueCollect s reply = reply ≡ collect_answer s

abbrev pub next_collect : State → Option (List Root) → State
next_collect s None = s
next_collect s (Some roots) = record s { stock = without_blobs s.stock roots }
