use Rattle.std.proofs.Common.{sym, ◌∙◌}
use Rattle.pkg_tool.proofs.Ending.{ended_so, put_back}
use Rattle.pkg_tool.proofs.running.run.Goals as goal

pub returns-in-Err-clause-bad_script : goal.returns-in-Err-clause-bad_script
returns-in-Err-clause-bad_script g c = rw c.refused-in-Err.ensures.why (λ line is. c.in-Err.ensures.bad line (sym c.refused-in-Err.ensures.status ∙ is))

pub returns-clause-leaves : goal.returns-clause-leaves
returns-clause-leaves g c = let served = rw c.deref_mut.ensures.value at (c.in-Ok-serve_script.ensures.served (g.S.Source.left c.args.script.now) (rw c.requests-2.ensures c.in-Ok.ensures.ok)) in
    rw (put_back c.args.repos.len c.serve_script.new.repos _ (sym (c.serve_script.auto.repos ∙ c.deref_mut.ensures.len)))
    (ended_so c.end.result c.print-printed.result (g.S.Source.left c.args.script.now) c.in-Ok-serve_script.served.1 _ _ _ c.end.ensures c.print-printed.ensures.end served)
