use Rattle.std.proofs.Common.{arith}
use Rattle.script_lang.proofs.Lines.{past_skipped, past_asked}
use Rattle.script_lang.proofs.script.read_lines.Goals as goal

pub loop-rest-preserved-in-None : goal.loop-rest-preserved-in-None
loop-rest-preserved-in-None c =
    let skipped = rw c.in-None.is at c.in_ok-request_at.ensures.found in
    record {
      stands = past_skipped c.args.text.now c.loop-rest.rest.now c.next_line.result.0.now c.next_line.result.1.now c.loop-rest.number c.loop-rest.requests.items c.loop-rest.invariant.stands c.next_line.ensures.lines skipped;
      few = c.loop-rest.invariant.few;
      numbered = omega (arith, c.loop-rest.invariant.numbered, c.next_line.ensures.shorter);
    }

pub loop-rest-preserved : goal.loop-rest-preserved
loop-rest-preserved c =
    let asks = rw c.in-Some.is at c.in_ok-request_at.ensures.found in
    record {
      stands = rw c.in_ok-push-in-Some.ensures.items (past_asked c.args.text.now c.loop-rest.rest.now c.next_line.result.0.now c.next_line.result.1.now c.loop-rest.number c.loop-rest.requests.items c.loop-rest.invariant.stands c.next_line.ensures.lines c.in-Some.request asks);
      few = omega (arith, c.if-len-ge-REQUEST_LIMIT.false, c.in_ok-push-in-Some.ensures.len);
      numbered = omega (arith, c.loop-rest.invariant.numbered, c.next_line.ensures.shorter);
    }
