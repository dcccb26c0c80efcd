use Rattle.std.proofs.Common.{◌≡◌, ◌+◌, ◌++◌, drop}
use Rattle.script_lang.specs.Text.{lines_from, text}
use Rattle.script_lang.proofs.line.text_of.Given as goal

abbrev pub invariant-loop-place : goal.invariant-loop-place
invariant-loop-place l = l.out.items ++ lines_from (l.place + 1) (drop l.place l.history) ≡ text l.history
