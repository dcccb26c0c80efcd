use Rattle.script_server.proofs.Scripts.{serves_script}
use Rattle.script_server.proofs.serving.serve_script.Goals as goal

pub returns-clause-served : goal.returns-clause-served
returns-clause-served g c = λ text asked. rw c.into_history.ensures.history (serves_script c.in_ok-store.ensures.0 c.in_ok-store.ensures.1 c.in_ok-store.store c.serve_lanes-starved.new.store c.in_ok-store.ensures.2 c.args.requests.now c.args.lanes c.serve_lanes-starved.result _ _ c.serve_lanes-starved.ensures c.into_history.ensures.legal c.into_history.ensures.steady c.requires.greatest text asked)
