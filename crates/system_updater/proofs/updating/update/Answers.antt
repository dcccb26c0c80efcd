use Rattle.std.proofs.Common.{sym, ap, subst, ◌∙◌}
use Rattle.store_model.specs.declared.replies.Dir.{Dir}
use Rattle.resolver.specs.declared.reply.ResolveReply.TheVariants as resolved
use Rattle.system_updater.specs.Serving.{closed}
use Rattle.system_updater.specs.Serving.Point.{Asking, Reading, Ended}
use Rattle.system_updater.specs.Serving.Prior.{NothingRead}
use Rattle.system_updater.specs.Viewing.{told}
use Rattle.system_updater.proofs.Goes.{goes_then, goes_to}
use Rattle.system_updater.proofs.Wholes.{asking_at, first_goes, holds_then, refused_at, whole}
use Rattle.system_updater.proofs.Grown.{grew_goes, grew_resolve, filled_wider, filled_early, early_refusal}
use Rattle.system_updater.specs.Filled.{IsEarly}
use Rattle.system_updater.specs.declared.reply.UpdateReply.{UpdateReply}
use Rattle.system_updater.proofs.updating.update.Goals as goal

pub update_from-reply-requires : goal.update_from-reply-requires
update_from-reply-requires g c =
    let e = c.in-Resolved.ensures in
    let v = g.K.Desk.view c.args.desk.now in
    holds_then _ _ _ _ _ _ _ _ (first_goes _ _ (resolved.Resolved c.in-Resolved.dir) v (g.K.Desk.view c.resolve.new.desk) _ _ _ _ _ _ _ _ (g.K.Desk.firm c.args.desk.now) (g.K.Desk.firm c.resolve.new.desk) e.run e.listing e.files e.firm)
    (asking_at _ _ v c.requires.free)

pub returns-in-Resolved : goal.returns-in-Resolved
returns-in-Resolved g c =
    let e = c.in-Resolved.ensures in
    let v = g.K.Desk.view c.args.desk.now in
    let w = g.K.Desk.view c.resolve.new.desk in
    let u = g.K.Desk.view c.update_from-reply.new.desk in
    let z = g.K.Desk.view c.close.new.desk in
    let F = g.K.Desk.firm c.args.desk.now in
    let G = g.K.Desk.firm c.resolve.new.desk in
    let H = g.K.Desk.firm c.update_from-reply.new.desk in
    let I = g.K.Desk.firm c.close.new.desk in
    let path = c.args.url.now.path in
    let pin = c.args.url.now.pin in
    let reply = c.update_from-reply.result in
    let dir = c.in-Resolved.dir in
    let a = Asking path pin in
    let b = Reading dir NothingRead in
    let r = told (g.R.Repo.listing c.args.repo.now) (g.R.Repo.files c.args.repo.now) (g.R.Repo.faults c.args.repo.now) (g.R.Repo.fetches c.args.repo.now) in
    let s = told (g.R.Repo.listing c.resolve.new.repo) (g.R.Repo.files c.resolve.new.repo) (g.R.Repo.faults c.resolve.new.repo) (g.R.Repo.fetches c.resolve.new.repo) in
    let t = told (g.R.Repo.listing c.update_from-reply.new.repo) (g.R.Repo.files c.update_from-reply.new.repo) (g.R.Repo.faults c.update_from-reply.new.repo) (g.R.Repo.fetches c.update_from-reply.new.repo) in
    let first = first_goes path pin (resolved.Resolved dir) v w _ _ _ _ _ _ _ _ F G e.run e.listing e.files e.firm in
    let second = goes_then a b (closed dir reply) v w u r s t F G H first c.update_from-reply.ensures.goes in
    let at = holds_then a (closed dir reply) v u r t F H second (asking_at path pin v c.requires.free) in
    let all = goes_then a (closed dir reply) (Ended reply) v u z r t t F H I second (c.close.ensures.goes (Ended reply) t at) in
    record {
      run = whole path pin reply v z r t F I all;
      images = filled_wider v w u z F G reply (grew_resolve path pin (resolved.Resolved dir) v w _ _ _ _ _ _ e.run) (grew_goes _ _ u z _ _ H I (c.close.ensures.goes (Ended reply) t at)) e.firm.0 c.update_from-reply.ensures.images;
      firm = all.does.firm;
    }

pub returns-in_default : goal.returns-in_default
returns-in_default g c =
    let e = c.resolve.ensures in
    let v = g.K.Desk.view c.args.desk.now in
    let w = g.K.Desk.view c.resolve.new.desk in
    let F = g.K.Desk.firm c.args.desk.now in
    let G = g.K.Desk.firm c.resolve.new.desk in
    let path = c.args.url.now.path in
    let pin = c.args.url.now.pin in
    let reply = c.refusal_of.result in
    let r = told (g.R.Repo.listing c.args.repo.now) (g.R.Repo.files c.args.repo.now) (g.R.Repo.faults c.args.repo.now) (g.R.Repo.fetches c.args.repo.now) in
    let s = told (g.R.Repo.listing c.resolve.new.repo) (g.R.Repo.files c.resolve.new.repo) (g.R.Repo.faults c.resolve.new.repo) (g.R.Repo.fetches c.resolve.new.repo) in
    let refused = refused_at (λ (dir : Dir). Reading dir NothingRead) Ended c.resolve.result c.in_default.not-Resolved in
    let all = goes_to (Asking path pin) _ (Ended reply) v w r s F G (refused ∙ ap Ended (sym c.refusal_of.ensures)) (first_goes path pin c.resolve.result v w _ _ _ _ _ _ _ _ F G e.run e.listing e.files e.firm) in
    record {
      run = whole path pin reply v w r s F G all;
      images = filled_early F v w reply (subst (λ (x : UpdateReply). IsEarly x) (sym c.refusal_of.ensures) (early_refusal c.resolve.result));
      firm = all.does.firm;
    }
