use Rattle.std.proofs.Common.{◌≡◌, ℕ, ◌+◌, suc, List, ◌++◌, ◌∷◌, [], take, get_or, sym, ap, subst, ◌∙◌, arith}
use Rattle.std.proofs.lemmas.List.{get_or_read}
use Rattle.std.proofs.Math.Seq.{take-suc}
use Rattle.script_lang.specs.declared.request.Request.{Request}
use Rattle.script_lang.specs.Scripts.{IsGreatestLane}
use Rattle.script_lang.proofs.Lanes.{one_more}
use Rattle.script_lang.proofs.script.Script.lanes.Goals as goal

pub loop-request-preserved : goal.loop-request-preserved
loop-request-preserved c =
    let requests = c.deref-request-items.result.now in
    let at = c.loop-request.request-index in
    let request = c.request-item.result in
    let plus : suc at ≡ at + 1 = omega arith in
    let next : take (at + 1) requests ≡ take at requests ++ request ∷ [] =
    subst (λ (n : ℕ). take n requests ≡ take at requests ++ get_or requests at request ∷ []) plus (take-suc requests at request c.loop-request-test.true)
    ∙ ap (λ (r : Request). take at requests ++ r ∷ []) (sym c.request-item.is) in
    subst (λ (first : List Request). IsGreatestLane first c.greater-lanes.result) (sym next)
    (one_more (take at requests) c.loop-request.lanes c.greater-lanes.result request (record { bound = c.loop-request.invariant.bound; met = c.loop-request.invariant.met }) c.greater-lanes.ensures.left c.greater-lanes.ensures.right c.greater-lanes.ensures.one)
