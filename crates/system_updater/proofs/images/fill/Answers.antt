use Rattle.std.proofs.Common.{[], ◌∷◌, refl, sym, ap, subst, ◌∙◌}
use Rattle.store_model.specs.declared.replies.Dir.{Dir}
use Rattle.resolver.specs.declared.reply.ResolveReply.TheVariants as resolved
use Rattle.system_updater.specs.Plan.{Task}
use Rattle.system_updater.specs.Serving.{left}
use Rattle.system_updater.specs.Serving.Point.{Filling, Copying}
use Rattle.system_updater.specs.Viewing.{told}
use Rattle.system_updater.specs.Steps.{or_left, or_image_left}
use Rattle.system_updater.proofs.Goes.{goes_then, goes_to}
use Rattle.system_updater.proofs.Wholes.{image_goes, holds_then, refused_at, image_closed}
use Rattle.system_updater.proofs.Grown.{grew_none, grew_goes, did_here, did_wider, bytes_wider, or_early, early_refusal, opened_by}
use Rattle.system_updater.specs.Filled.{IsEarly}
use Rattle.system_updater.specs.declared.reply.UpdateReply.{UpdateReply}
use Rattle.system_updater.proofs.images.fill.Goals as goal

pub returns-in-Resolved-clause-goes : goal.returns-in-Resolved-clause-goes
returns-in-Resolved-clause-goes g c = λ dir plan later at.
    let e = c.in-Resolved.ensures in
    let v = g.K.Desk.view c.args.desk.now in
    let w = g.K.Desk.view c.resolve.new.desk in
    let u = g.K.Desk.view c.copy-result.new.desk in
    let z = g.K.Desk.view c.close.new.desk in
    let F = g.K.Desk.firm c.args.desk.now in
    let G = g.K.Desk.firm c.resolve.new.desk in
    let H = g.K.Desk.firm c.copy-result.new.desk in
    let I = g.K.Desk.firm c.close.new.desk in
    let task : Task = record { kind = c.args.kind; image = c.args.image } in
    let from = c.in-Resolved.from in
    let next = Filling dir plan later in
    let a = Filling dir plan (task ∷ later) in
    let b = Copying dir plan task from later in
    let result = c.copy-result.result in
    let r = told (g.R.Repo.listing c.args.repo.now) (g.R.Repo.files c.args.repo.now) (g.R.Repo.faults c.args.repo.now) (g.R.Repo.fetches c.args.repo.now) in
    let s = told (g.R.Repo.listing c.resolve.new.repo) (g.R.Repo.files c.resolve.new.repo) (g.R.Repo.faults c.resolve.new.repo) (g.R.Repo.fetches c.resolve.new.repo) in
    let first = image_goes _ _ (resolved.Resolved from) v w _ _ _ _ _ _ _ _ F G e.run e.listing e.files e.firm dir plan task later refl refl in
    let second = goes_then a b (or_image_left next dir from result) v w u r s s F G H first (c.copy-result.ensures.goes dir plan task later s refl refl) in
    goes_then a (or_image_left next dir from result) (or_left (λ done. next) dir result) v u z r s s F H I second
    (image_closed next dir from result u z s H I (λ after. c.close.ensures.goes after s) (holds_then a (or_image_left next dir from result) v u r s F H second at))

pub returns-in_default-clause-goes : goal.returns-in_default-clause-goes
returns-in_default-clause-goes g c = λ dir plan later at.
    let e = c.resolve.ensures in
    let v = g.K.Desk.view c.args.desk.now in
    let w = g.K.Desk.view c.resolve.new.desk in
    let F = g.K.Desk.firm c.args.desk.now in
    let G = g.K.Desk.firm c.resolve.new.desk in
    let task : Task = record { kind = c.args.kind; image = c.args.image } in
    let a = Filling dir plan (task ∷ later) in
    let r = told (g.R.Repo.listing c.args.repo.now) (g.R.Repo.files c.args.repo.now) (g.R.Repo.faults c.args.repo.now) (g.R.Repo.fetches c.args.repo.now) in
    let s = told (g.R.Repo.listing c.resolve.new.repo) (g.R.Repo.files c.resolve.new.repo) (g.R.Repo.faults c.resolve.new.repo) (g.R.Repo.fetches c.resolve.new.repo) in
    let opened = λ (from : Dir). Copying dir plan task from later in
    let refused = refused_at opened (left dir) c.resolve.result c.in_default.not-Resolved in
    goes_to a _ (left dir c.refusal_of.result) v w r s F G (refused ∙ ap (left dir) (sym c.refusal_of.ensures))
    (image_goes _ _ c.resolve.result v w _ _ _ _ _ _ _ _ F G e.run e.listing e.files e.firm dir plan task later refl refl)

pub returns-in-Resolved-clause-images : goal.returns-in-Resolved-clause-images
returns-in-Resolved-clause-images g c = λ dir plan later at empty.
    let e = c.in-Resolved.ensures in
    let v = g.K.Desk.view c.args.desk.now in
    let w = g.K.Desk.view c.resolve.new.desk in
    let u = g.K.Desk.view c.copy-result.new.desk in
    let z = g.K.Desk.view c.close.new.desk in
    let F = g.K.Desk.firm c.args.desk.now in
    let G = g.K.Desk.firm c.resolve.new.desk in
    let H = g.K.Desk.firm c.copy-result.new.desk in
    let I = g.K.Desk.firm c.close.new.desk in
    let task : Task = record { kind = c.args.kind; image = c.args.image } in
    let from = c.in-Resolved.from in
    let next = Filling dir plan later in
    let a = Filling dir plan (task ∷ later) in
    let b = Copying dir plan task from later in
    let result = c.copy-result.result in
    let r = told (g.R.Repo.listing c.args.repo.now) (g.R.Repo.files c.args.repo.now) (g.R.Repo.faults c.args.repo.now) (g.R.Repo.fetches c.args.repo.now) in
    let s = told (g.R.Repo.listing c.resolve.new.repo) (g.R.Repo.files c.resolve.new.repo) (g.R.Repo.faults c.resolve.new.repo) (g.R.Repo.fetches c.resolve.new.repo) in
    let first = image_goes _ _ (resolved.Resolved from) v w _ _ _ _ _ _ _ _ F G e.run e.listing e.files e.firm dir plan task later refl refl in
    let copying = c.copy-result.ensures.goes dir plan task later s refl refl in
    let second = goes_then a b (or_image_left next dir from result) v w u r s s F G H first copying in
    let closing = image_closed next dir from result u z s H I (λ after. c.close.ensures.goes after s) (holds_then a (or_image_left next dir from result) v u r s F H second at) in
    let to_end = grew_goes b (or_left (λ done. next) dir result) w z s s G I (goes_then b (or_image_left next dir from result) (or_left (λ done. next) dir result) w u z s s s G H I copying closing) in
    let opened = opened_by from v w e.run.held e.run.stays.lane in
    or_early _ _ result
    (λ done is. (
      record {
        file = is.0;
        named = is.1;
        from = from;
        resolved = did_wider v v w z _ (grew_none v) to_end (did_here v w _ e.run.run e.run.grows e.run.serves);
        is = bytes_wider u z F G _ _ c.args.kind from.number is.0 (grew_goes _ _ u z s s H I closing) e.firm.0 (c.close.ensures.images c.args.kind) is.2;
      },
      λ other bytes isnt there. c.close.ensures.images other bytes (is.3 other bytes isnt (e.images other bytes there)),
    )) (c.copy-result.ensures.images opened.0 opened.1 (e.images c.args.kind [] empty))

pub returns-in_default-clause-images : goal.returns-in_default-clause-images
returns-in_default-clause-images g c = λ dir plan later at empty. subst (λ (r : UpdateReply). IsEarly r) (sym c.refusal_of.ensures) (early_refusal c.resolve.result)
