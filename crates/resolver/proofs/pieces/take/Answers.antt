use Rattle.std.proofs.Common.{List, Option, refl, sym, ap, subst, ◌∙◌, arith}
use Rattle.pkg_names.specs.declared.root.Root.{Root}
use Rattle.repo_source.specs.declared.file.RepoFile.{RepoFile}
use Rattle.store_model.specs.Holding.{Held}
use Rattle.store_model.specs.HeldAfter.{without_claim}
use Rattle.store_model.specs.Desk.{Kept}
use Rattle.resolver.specs.Serving.Point.{Roomy}
use Rattle.resolver.specs.Steps.{Goes, Fills, after_fetch}
use Rattle.repo_source.proofs.Faults.{failed_same}
use Rattle.resolver.proofs.Goes.{goes_none, goes_on}
use Rattle.resolver.proofs.Handles.{images_then, iff_then, claim_with}
use Rattle.resolver.proofs.pieces.take.Goals as goal

pub pass-requires : goal.pass-requires
pass-requires g c =
    let i = c.loop-back.invariant in
    let kept : Kept = g.K.Desk.kept c.loop-back.desk in
    let place = g.R.Repo.reading c.loop-back.repo in record {
      room = ap (λ (h : Held). h.claim) i.held ∙ c.requires.room ∙ ap (λ (r : Root). claim_with r c.args.len) (sym i.root);
      «open» = i.open_;
      fills = subst (λ (f : Option (List RepoFile)). Fills kept f c.loop-back.claim.root place c.args.len c.loop-back.left) (sym i.files)
          (subst (λ (r : Root). Fills kept (g.R.Repo.files c.args.repo.now) r place c.args.len c.loop-back.left) (sym i.root) i.fills);
      some = omega (arith, c.loop-back.auto.buffer, c.requires.some);
      few = omega (arith, c.loop-back.auto.buffer, c.requires.few);
    }

pub loop-back-init : goal.loop-back-init
loop-back-init g c = record {
  root = refl;
  fills = c.requires.fills;
  goes = λ t. goes_none (Roomy t c.args.claim.root c.args.len) (g.K.Desk.view c.args.desk.now) (g.R.Repo.listing c.args.repo.now) (g.R.Repo.files c.args.repo.now) (g.R.Repo.faults c.args.repo.now) (g.R.Repo.faults c.args.repo.now) (failed_same (g.R.Repo.faults c.args.repo.now));
  held = refl;
  images = λ image bytes is. is;
  firm = (λ is. is, λ is. is);
  listing = refl;
  files = refl;
  fetches = refl;
  open_ = c.requires.open;
}

pub loop-back-preserved : goal.loop-back-preserved
loop-back-preserved g c =
    let i = c.loop-back.invariant in
    let e = c.in-More.ensures in
    let old = g.K.Desk.view c.args.desk.now in
    let mid = g.K.Desk.view c.loop-back.desk in
    let new = g.K.Desk.view c.pass.new.desk in
    let kept : Kept = g.K.Desk.kept c.pass.new.desk in
    let place = g.R.Repo.reading c.pass.new.repo in
    let root = c.args.claim.root in record {
      root = e.fills.0 ∙ i.root;
      fills = subst (λ (f : Option (List RepoFile)). Fills kept f root place c.args.len c.in-More.rest) i.files
          (subst (λ (r : Root). Fills kept (g.R.Repo.files c.loop-back.repo) r place c.args.len c.in-More.rest) i.root e.fills.2);
      goes = λ t.
          goes_on 0 0 (Roomy t root c.args.len) (Roomy t root c.args.len) (Roomy t root c.args.len) old mid new _ _ _ _ _ _ _ (i.goes t) i.listing i.files
          (subst (λ (r : Root). Goes 0 (Roomy t r c.args.len) (Roomy t r c.args.len) mid new (g.R.Repo.listing c.loop-back.repo) (g.R.Repo.files c.loop-back.repo) (g.R.Repo.faults c.loop-back.repo) (g.R.Repo.faults c.pass.new.repo)) i.root (e.goes t));
      held = e.held ∙ i.held;
      images = images_then (g.K.Desk.kept c.args.desk.now) (g.K.Desk.kept c.loop-back.desk) (g.K.Desk.kept c.pass.new.desk) i.images e.images;
      firm = iff_then _ _ _ i.firm e.firm;
      listing = e.listing ∙ i.listing;
      files = e.files ∙ i.files;
      fetches = e.fetches ∙ i.fetches;
      open_ = e.open;
    }

pub returns-in-Last-clause-goes : goal.returns-in-Last-clause-goes
returns-in-Last-clause-goes g c = λ t.
    let i = c.loop-back.invariant in
    let e = c.in-Last.ensures in
    let old = g.K.Desk.view c.args.desk.now in
    let mid = g.K.Desk.view c.loop-back.desk in
    let new = g.K.Desk.view c.pass.new.desk in
    let root = c.args.claim.root in
    let to = after_fetch t c.in-Last.result in
    goes_on 0 0 (Roomy t root c.args.len) (Roomy t root c.args.len) to old mid new _ _ _ _ _ _ _ (i.goes t) i.listing i.files
    (subst (λ (r : Root). Goes 0 (Roomy t r c.args.len) to mid new (g.R.Repo.listing c.loop-back.repo) (g.R.Repo.files c.loop-back.repo) (g.R.Repo.faults c.loop-back.repo) (g.R.Repo.faults c.pass.new.repo)) i.root (e.goes t))

pub returns-in-Last-clause-images : goal.returns-in-Last-clause-images
returns-in-Last-clause-images g c = images_then (g.K.Desk.kept c.args.desk.now) (g.K.Desk.kept c.loop-back.desk) (g.K.Desk.kept c.pass.new.desk) c.loop-back.invariant.images c.in-Last.ensures.images

pub returns-in-Last-clause-firm : goal.returns-in-Last-clause-firm
returns-in-Last-clause-firm g c = iff_then _ _ _ c.loop-back.invariant.firm c.in-Last.ensures.firm

pub returns-in-Last-clause-held : goal.returns-in-Last-clause-held
returns-in-Last-clause-held g c = c.in-Last.ensures.held ∙ ap without_claim c.loop-back.invariant.held
