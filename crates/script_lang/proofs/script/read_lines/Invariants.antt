use Rattle.std.proofs.Common.{length, ◌≤◌, ◌+◌, vec_len}
use Rattle.script_lang.specs.declared.script.TheConstants.{REQUEST_LIMIT}
use Rattle.script_lang.proofs.Lines.{StandsAt}
use Rattle.script_lang.proofs.script.read_lines.Given as goal

abbrev pub invariant-loop-rest : goal.invariant-loop-rest
invariant-loop-rest l = record {
  stands : StandsAt l.text l.rest l.number l.requests.items;
  few : vec_len l.requests ≤ REQUEST_LIMIT;
  numbered : l.number + length l.rest ≤ length l.text;
}

abbrev pub decreases-loop-rest : goal.decreases-loop-rest
decreases-loop-rest l = length l.rest
