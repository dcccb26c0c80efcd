use Rattle.std.proofs.Common.{◌≡◌, length, Err, ap, ◌∙◌, arith, rules}
use Rattle.std.proofs.lemmas.List.{take_all}
use Rattle.std.specs.Allocator.{alloc_error}
use Rattle.std.specs.declared.alloc.AllocError.{AllocError}
use Rattle.lane_server.specs.Serving.{asks_of}
use Rattle.lane_server.proofs.Lanes.{served_none, served_all, own_push, own_cut, asks_more, asks_parted, own_servable, answered, served_of, all_of}
use Rattle.lane_server.proofs.serving.serve_lane.Goals as goal

pub serve_own-requires : goal.serve_own-requires
serve_own-requires g c = record {
  servable = own_servable c.args.lane c.args.requests.now c.loop-request.request-index c.request-item.result c.loop-request-test.true c.request-item.is c.requires.servable;
  free = c.loop-request.invariant.does.claim ∙ c.requires.free;
}

pub loop-request-init : goal.loop-request-init
loop-request-init g c = served_none _ c.new-names.ensures (g.K.Desk.view c.args.desk.now) _ (g.K.Desk.firm c.args.desk.now)

pub loop-request-preserved : goal.loop-request-preserved
loop-request-preserved g c =
    served_of _ _ _ _ _ _ _ _ _ (asks_more c.args.lane c.args.requests.now c.loop-request.request-index c.request-item.result c.loop-request-test.true c.request-item.is)
    (own_push (Unit {0}) AllocError _ _ _ _ _ _ _ _ _ _ _ _ _ _ tt c.loop-request.invariant c.in_ok-serve_own.ensures)

pub returns-in_err-serve_own : goal.returns-in_err-serve_own
returns-in_err-serve_own g c =
    let same : Err c.in_err-serve_own.field-0.0 ≡ c.from_residual.result = search rules in
    answered _ _ _ _ _ _ _ _ _ _ _ same
    (own_cut (Unit {0}) AllocError _ _ _ _ _ _ _ _ _ _ _ _ _ _ alloc_error _ _ (asks_parted c.args.lane c.args.requests.now c.loop-request.request-index c.request-item.result c.loop-request-test.true c.request-item.is) c.loop-request.invariant c.in_err-serve_own.ensures)

pub returns : goal.returns
returns g c =
    let same : c.loop-request.request-index ≡ length c.args.requests.now = omega arith in
    all_of _ _ _ _ _ _ _ _ (ap (asks_of c.args.lane) (take_all _ c.args.requests.now (omega arith))) (served_all _ _ _ _ _ _ _ _ c.loop-request.invariant)
