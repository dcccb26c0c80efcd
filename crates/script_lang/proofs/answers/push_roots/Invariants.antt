use Rattle.std.proofs.Common.{◌≡◌, ◌++◌, drop}
use Rattle.script_lang.specs.Ends.{roots_text}
use Rattle.script_lang.proofs.answers.push_roots.Given as goal

abbrev pub invariant-loop-root : goal.invariant-loop-root
invariant-loop-root l = l.out.items ++ roots_text (drop l.root-index l.roots) ≡ l.initial.out.items ++ roots_text l.roots
