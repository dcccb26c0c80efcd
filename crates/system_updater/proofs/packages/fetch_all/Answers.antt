use Rattle.std.proofs.Common.{◌≡◌, ◌+◌, ◌<◌, ℕ, suc, List, [], ◌∷◌, length, get_or, drop, drop-cons, add-one, Err, sym, ap, ◌∙◌, arith, rules}
use Rattle.std.proofs.Math.Seq.{drop-length}
use Rattle.pkg_names.specs.declared.pinned.Pinned.{Pinned}
use Rattle.store_model.specs.declared.replies.Dir.{Dir}
use Rattle.store_model.specs.Desk.{View}
use Rattle.system_updater.specs.declared.plan.Plan.{Plan}
use Rattle.system_updater.specs.Serving.{Point}
use Rattle.system_updater.specs.Serving.Point.{Fetching}
use Rattle.system_updater.specs.Holding.{HoldsAt}
use Rattle.system_updater.specs.Viewing.{Told}
use Rattle.system_updater.specs.Steps.{Goes, or_left}
use Rattle.system_updater.proofs.Goes.{goes_none, goes_then, goes_to}
use Rattle.system_updater.proofs.Wholes.{no_claim, holds_then}
use Rattle.system_updater.proofs.Grown.{early_err}
use Rattle.system_updater.proofs.packages.fetch_all.Goals as goal

front : (packages : List Pinned) (i : ℕ) (x : Pinned) → i < length packages → x ≡ get_or packages i x → drop i packages ≡ x ∷ drop (i + 1) packages
front packages i x lt is = rw (add-one, drop-cons packages i x) (ap (λ (y : Pinned). y ∷ drop (suc i) packages) (sym is))

-- one package more
fetched : (a to : Point) (dir : Dir) (plan : Plan) (x : Pinned) (ps qs : List Pinned) (v w u : View) (r s t : Told) (F G H : Type 0) → ps ≡ x ∷ qs → HoldsAt a v → Goes a (Fetching dir plan ps) v w r s F G
    → (HoldsAt (Fetching dir plan (x ∷ qs)) w → Goes (Fetching dir plan (x ∷ qs)) to w u s t G H) → Goes a to v u r t F H
fetched a to dir plan x ps qs v w u r s t F G H same at goes step =
    let there = goes_to a (Fetching dir plan ps) (Fetching dir plan (x ∷ qs)) v w r s F G (ap (Fetching dir plan) same) goes in
    goes_then a (Fetching dir plan (x ∷ qs)) to v w u r s t F G H there (step (holds_then a (Fetching dir plan (x ∷ qs)) v w r s F G there at))

pub fetch-requires : goal.fetch-requires
fetch-requires g c = no_claim _ _ (holds_then _ _ _ _ _ _ _ _ (c.loop-pinned.invariant.goes c.requires.0 c.requires.1 c.requires.2) c.requires.2)

pub loop-pinned-init : goal.loop-pinned-init
loop-pinned-init g c = record {
  goes = λ dir plan at. goes_none (Fetching dir plan c.args.packages.now) (g.K.Desk.view c.args.desk.now) _ (g.K.Desk.firm c.args.desk.now);
  images = λ image bytes there. there;
}

pub loop-pinned-preserved : goal.loop-pinned-preserved
loop-pinned-preserved g c = record {
  goes = λ dir plan at.
      fetched _ _ dir plan c.pinned-item.result _ (drop (c.loop-pinned.pinned-index + 1) c.args.packages.now) _ _ _ _ _ _ _ _ _ (front c.args.packages.now c.loop-pinned.pinned-index c.pinned-item.result c.loop-pinned-test.true c.pinned-item.is) at
      (c.loop-pinned.invariant.goes dir plan at) (c.in_ok-fetch.ensures.goes dir plan (drop (c.loop-pinned.pinned-index + 1) c.args.packages.now));
  images = λ image bytes there. c.in_ok-fetch.ensures.images image bytes (c.loop-pinned.invariant.images image bytes there);
}

pub returns-in_err-fetch-clause-goes : goal.returns-in_err-fetch-clause-goes
returns-in_err-fetch-clause-goes g c = λ dir plan at.
    let same : Err c.in_err-fetch.field-0.0 ≡ c.from_residual.result = search rules in
    goes_to _ _ _ _ _ _ _ _ _ (ap (or_left (λ done. Fetching dir plan []) dir) same)
    (fetched _ _ dir plan c.pinned-item.result _ (drop (c.loop-pinned.pinned-index + 1) c.args.packages.now) _ _ _ _ _ _ _ _ _ (front c.args.packages.now c.loop-pinned.pinned-index c.pinned-item.result c.loop-pinned-test.true c.pinned-item.is) at
    (c.loop-pinned.invariant.goes dir plan at) (c.in_err-fetch.ensures.goes dir plan (drop (c.loop-pinned.pinned-index + 1) c.args.packages.now)))

pub returns-clause-goes : goal.returns-clause-goes
returns-clause-goes g c = λ dir plan at.
    let same : c.loop-pinned.pinned-index ≡ length c.args.packages.now = omega arith in
    goes_to _ _ _ _ _ _ _ _ _ (ap (Fetching dir plan) (ap (λ (i : ℕ). drop i c.args.packages.now) same ∙ drop-length c.args.packages.now)) (c.loop-pinned.invariant.goes dir plan at)

pub returns-in_err-fetch-clause-images : goal.returns-in_err-fetch-clause-images
returns-in_err-fetch-clause-images g c =
    let same : Err c.in_err-fetch.field-0.0 ≡ c.from_residual.result = search rules in
    early_err _ c.in_err-fetch.field-0.0 c.from_residual.result same c.in_err-fetch.ensures.images

pub returns-clause-images : goal.returns-clause-images
returns-clause-images g c = c.loop-pinned.invariant.images
