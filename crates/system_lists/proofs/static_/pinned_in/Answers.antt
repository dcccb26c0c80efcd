use Rattle.std.proofs.Common.{sym, ◌∙◌}
use Rattle.system_lists.proofs.StaticLines.{no_pinned, root_missing, no_root_there, no_path_there, both_said}
use Rattle.system_lists.proofs.static_.pinned_in.Goals as goal

pub returns-in_default : goal.returns-in_default
returns-in_default c = sym (no_pinned c.args.line.now c.in_default.ensures.none)

pub returns-in_default-read_root : goal.returns-in_default-read_root
returns-in_default-read_root c =
    no_root_there c.args.line.now c.in-Some.path.now c.in-Some.root.now c.in-Some.ensures.found c.in-Some.ensures.first
    (root_missing c.read_root.result c.in-Some.root.now c.in_default-read_root.not-Ok c.read_root.ensures.value)

pub returns-in-Some-2 : goal.returns-in-Some-2
returns-in-Some-2 c =
    both_said c.args.line.now c.in-Some.path.now c.in-Some.root.now c.in-Some.ensures.found c.in-Some.ensures.first c.in-Some-2.path c.in-Ok.root (sym c.in-Some-2.is ∙ c.in_ok-path.ensures) c.in-Ok.ensures.value

pub returns-in-None : goal.returns-in-None
returns-in-None c =
    no_path_there c.args.line.now c.in-Some.path.now c.in-Some.root.now c.in-Some.ensures.found c.in-Some.ensures.first (sym c.in-None.is ∙ c.in_ok-path.ensures)
